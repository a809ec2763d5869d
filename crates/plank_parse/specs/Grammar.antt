-- What it is for tokens to begin a text of the grammar, and which is the first that does not go on.
use Rattle.std.specs.Prelude.{◌≡◌, true, false, List, [], ◌∷◌, ◌++◌, Result, Ok, Err}
use Rattle.plank_base.specs.declared.places.Place.{Place}
use Rattle.plank_base.specs.declared.limits.TheConstants.{NESTING_LIMIT}
use Rattle.plank_lex.specs.Tokens.{kinds_of}
use Rattle.plank_lex.specs.declared.tokens.Token.{Token}
use Rattle.plank_lex.specs.declared.tokens.TokenKind.TheVariants as kind
use Rattle.plank_ast.specs.Spelling.{Spelling, nests_within}
use Rattle.plank_ast.specs.Texts.{text_tokens}
use Rattle.plank_ast.specs.declared.texts.Text.{Text}
use Rattle.plank_parse.specs.declared.faults.ParseFault.{ParseFault}
use Rattle.plank_parse.specs.declared.faults.ParseFault.TheVariants as fault
use Rattle.plank_parse.specs.Texts.{Parts, parts_spelling}

-- the tokens begin a text of the grammar: others may follow so that they spell one, with its end
abbrev pub BeginsText : Spelling → Type 0
BeginsText ks = (p : Parts) × (rest : Spelling) × (ks ++ rest ≡ parts_spelling p ++ kind.End ∷ [])

-- the first token with which the tokens so far begin no text stands at this place
pub record IsUnexpected (tokens : List Token) (p : Place) : Type 0 where
  pub front : List Token
  pub token : Token
  pub rest : List Token
  pub split : tokens ≡ front ++ token ∷ rest
  pub at : p ≡ token.place
  pub begins : BeginsText (kinds_of front)
  pub fails : BeginsText (kinds_of front ++ token.kind ∷ []) → ⊥
  -- no bracket before it is too many
  pub within : nests_within NESTING_LIMIT 0 (kinds_of front) ≡ true

-- the first bracket that is one more than may be open at once stands at this place, and the tokens up to it begin a text
pub record IsTooDeep (tokens : List Token) (p : Place) : Type 0 where
  pub front : List Token
  pub token : Token
  pub rest : List Token
  pub split : tokens ≡ front ++ token ∷ rest
  pub at : p ≡ token.place
  pub begins : BeginsText (kinds_of front ++ token.kind ∷ [])
  pub within : nests_within NESTING_LIMIT 0 (kinds_of front) ≡ true
  pub deeper : nests_within NESTING_LIMIT 0 (kinds_of front ++ token.kind ∷ []) ≡ false

-- these are the tokens of the text, with the end
abbrev pub Spells : List Token → Text → Type 0
Spells tokens t = kinds_of tokens ≡ text_tokens t ++ kind.End ∷ []

-- a fault has its cause in the grammar
abbrev pub IsRefusal : List Token → ParseFault → Type 0
IsRefusal tokens (fault.Unexpected p) = IsUnexpected tokens p
IsRefusal tokens (fault.TooDeep p) = IsTooDeep tokens p
IsRefusal tokens fault.OutOfMemory = Unit {0}

-- a text is read, unless memory is refused
abbrev pub IsReadUnlessMemory : Result Text ParseFault → Type 0
IsReadUnlessMemory (Ok t) = Unit {0}
IsReadUnlessMemory (Err (fault.Unexpected p)) = ⊥
IsReadUnlessMemory (Err (fault.TooDeep p)) = ⊥
IsReadUnlessMemory (Err fault.OutOfMemory) = Unit {0}
