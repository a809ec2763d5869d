-- What a reader finds in a print: the tokens of the text.
use Rattle.std.specs.Prelude.{◌≡◌, ℕ, List, [], ◌∷◌, ◌++◌, Ok}
use Rattle.plank_lex.specs.Tokens.{tokens_of, kinds_of}
use Rattle.plank_lex.specs.declared.tokens.Token.{Token}
use Rattle.plank_lex.specs.declared.tokens.TokenKind.TheVariants as kind
use Rattle.plank_ast.specs.declared.texts.Text.{Text}
use Rattle.plank_ast.specs.Spelling.{Spelling}
use Rattle.plank_ast.specs.Layout.{layout}
use Rattle.plank_ast.specs.Texts.{text_tokens}

-- the bytes are read as tokens of these kinds and the end
pub record ReadsAs (bytes : List ℕ) (ks : Spelling) : Type 0 where
  pub tokens : List Token
  pub read : tokens_of bytes ≡ Ok tokens
  pub kinds : kinds_of tokens ≡ ks ++ kind.End ∷ []

-- the canonical form of every text is read as the tokens of the text
abbrev pub PrintKeepsTokens : Type 0
PrintKeepsTokens = (t : Text) → ReadsAs (layout (text_tokens t)) (text_tokens t)
