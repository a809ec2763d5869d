-- Tests of a token's kind.
use Rattle.std.specs.Prelude.{ℕ, Bool, false, List, Option, Some, None}
use denote.Enum.Bare.{sameb}
use Rattle.plank_lex.specs.contracts.symbols.Symbol as symbols
use Rattle.plank_lex.specs.contracts.words.Reserved as words
use Rattle.plank_lex.specs.declared.symbols.Symbol.{Symbol}
use Rattle.plank_lex.specs.declared.words.Reserved.{Reserved}
use Rattle.plank_lex.specs.declared.tokens.TokenKind.{TokenKind}
use Rattle.plank_lex.specs.declared.tokens.TokenKind.TheVariants as kind

-- `==` on symbols
unfoldable pub same_symbol : Symbol → Symbol → Bool
same_symbol = sameb symbols.the_type

-- `==` on reserved words
unfoldable pub same_word : Reserved → Reserved → Bool
same_word = sameb words.the_type

-- whether a kind is that symbol
abbrev pub is_symbol : TokenKind → Symbol → Bool
is_symbol (kind.Symbol own) symbol = same_symbol own symbol
is_symbol (kind.Reserved own) symbol = false
is_symbol (kind.Name label) symbol = false
is_symbol kind.End symbol = false

-- whether a kind is that reserved word
abbrev pub is_reserved : TokenKind → Reserved → Bool
is_reserved (kind.Symbol own) word = false
is_reserved (kind.Reserved own) word = same_word own word
is_reserved (kind.Name label) word = false
is_reserved kind.End word = false

-- the bytes of a name
abbrev pub name_of : TokenKind → Option (List ℕ)
name_of (kind.Symbol own) = None
name_of (kind.Reserved own) = None
name_of (kind.Name label) = Some label
name_of kind.End = None
