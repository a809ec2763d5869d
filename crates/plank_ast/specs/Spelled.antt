-- Tokens as the printer holds them, on their way from the tree to bytes.
use Rattle.std.specs.Prelude.{◌≡◌, List, ◌++◌, map}
use Rattle.plank_lex.specs.declared.tokens.TokenKind.{TokenKind}
use Rattle.plank_lex.specs.declared.tokens.TokenKind.TheVariants as kind
use Rattle.plank_ast.specs.declared.spelling.Spelled.{Spelled}
use Rattle.plank_ast.specs.Spelling.{Spelling}

abbrev pub kind_of : Spelled → TokenKind
kind_of (Spelled.Symbol s) = kind.Symbol s
kind_of (Spelled.Reserved r) = kind.Reserved r
kind_of (Spelled.Name bytes) = kind.Name bytes.now

abbrev pub kinds : List Spelled → Spelling
kinds tokens = map kind_of tokens

-- these tokens were added at the end
abbrev pub Adds : List Spelled → List Spelled → Spelling → Type 0
Adds old new tokens = kinds new ≡ kinds old ++ tokens
