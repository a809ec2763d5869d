-- A text as parts that stand one after another: its tokens, and between them separators and comments.
-- This is what the reading of a text means, apart from how it is read.
use Rattle.std.specs.Prelude.{◌≡◌, ℕ, ◌<◌, ◌≤◌, Bool, true, false, not, ◌==◌, List, [], ◌∷◌, ◌++◌, length, nat_eq, codes, ◌⊎◌, ◌↔◌, Ok, Err}
use Rattle.std.specs.List.{flat_map, list_all, starts_with}
use Rattle.plank_base.specs.declared.places.Place.{Place}
use Rattle.plank_lex.specs.Bytes.{line_feed, is_separator, is_run_byte}
use Rattle.plank_lex.specs.Spelling.{spelling_of, word_of, is_name}
use Rattle.plank_lex.specs.Places.{start, place_after}
use Rattle.plank_lex.specs.Tokens.{tokens_of, end_at}
use Rattle.plank_lex.specs.declared.symbols.Symbol.{Symbol}
use Rattle.plank_lex.specs.declared.tokens.Token.{Token}
use Rattle.plank_lex.specs.declared.tokens.TokenKind.{TokenKind}
use Rattle.plank_lex.specs.declared.tokens.TokenKind.TheVariants as kind

-- bytes that no token takes, or the bytes of a token
pub data Part : Type 0 where
  gap : List ℕ → Part
  token : TokenKind → List ℕ → Part

abbrev pub bytes_of : Part → List ℕ
bytes_of (gap bytes) = bytes
bytes_of (token k bytes) = bytes

abbrev pub text_of : List Part → List ℕ
text_of parts = flat_map bytes_of parts

-- the bytes don't go on with one that passes the test
abbrev pub EndsBefore : (ℕ → Bool) → List ℕ → Type 0
EndsBefore test [] = Unit {0}
EndsBefore test (b ∷ bs) = test b ≡ false

abbrev pub is_in_line : ℕ → Bool
is_in_line b = not (b == line_feed)

pub record IsSeparator (bytes : List ℕ) : Type 0 where
  pub byte : ℕ
  pub alone : bytes ≡ byte ∷ []
  pub separates : is_separator byte ≡ true

-- from `//` to the end of the line
pub record IsComment (bytes rest : List ℕ) : Type 0 where
  pub remark : List ℕ
  pub begins : bytes ≡ codes "//" ++ remark
  pub in_line : list_all is_in_line remark ≡ true
  pub ends : EndsBefore is_in_line rest

-- the bytes spell a symbol, and no longer symbol stands there
pub record SpellsSymbol (s : Symbol) (bytes rest : List ℕ) : Type 0 where
  pub spelled : bytes ≡ spelling_of s
  pub longest : (t : Symbol) → starts_with nat_eq (bytes ++ rest) (spelling_of t) ≡ true → length (spelling_of t) ≤ length bytes

-- the bytes spell a token of this kind, and what follows does not go on with it
abbrev pub Spells : TokenKind → List ℕ → List ℕ → Type 0
Spells (kind.Symbol s) bytes rest = SpellsSymbol s bytes rest
Spells (kind.Reserved r) bytes rest = (bytes ≡ word_of r) × EndsBefore is_run_byte rest
Spells (kind.Name label) bytes rest = (bytes ≡ label) × (is_name label ≡ true) × EndsBefore is_run_byte rest
Spells kind.End bytes rest = ⊥

-- the part is what it says, where this follows
abbrev pub IsPart : Part → List ℕ → Type 0
IsPart (gap bytes) rest = IsSeparator bytes ⊎ IsComment bytes rest
IsPart (token k bytes) rest = Spells k bytes rest

-- each part is what it says, where the parts after it and then this follow
abbrev pub AreParts : List Part → List ℕ → Type 0
AreParts [] rest = Unit {0}
AreParts (part ∷ parts) rest = IsPart part (text_of parts ++ rest) × AreParts parts rest

-- the tokens among the parts, the first of which is at p
abbrev pub tokens_at : Place → List Part → List Token
tokens_at p [] = []
tokens_at p (gap bytes ∷ parts) = tokens_at (place_after p bytes) parts
tokens_at p (token k bytes ∷ parts) = (record { kind = k; place = p; length = length bytes }) ∷ tokens_at (place_after p bytes) parts

-- the text from p on is parts, and these are their tokens and one End
pub record IsCut (p : Place) (text : List ℕ) (tokens : List Token) : Type 0 where
  pub parts : List Part
  pub whole : text_of parts ≡ text
  pub each : AreParts parts []
  pub listed : tokens ≡ tokens_at p parts ++ end_at (place_after p text) ∷ []

-- no part is the front of these bytes
abbrev pub BeginsNothing : List ℕ → Type 0
BeginsNothing bytes = (part : Part) (rest : List ℕ) → bytes_of part ++ rest ≡ bytes → IsPart part rest → ⊥

-- the text from p on is parts up to q, and the bytes that are left begin nothing
pub record IsCutUpTo (p : Place) (text : List ℕ) (q : Place) : Type 0 where
  pub parts : List Part
  pub rest : List ℕ
  pub whole : text_of parts ++ rest ≡ text
  pub each : AreParts parts rest
  pub left : 0 < length rest
  pub stops : BeginsNothing rest
  pub place : q ≡ place_after p (text_of parts)

-- the tokens of a text are those of its parts
abbrev pub TokensAreThoseOfParts : Type 0
TokensAreThoseOfParts = (text : List ℕ) (tokens : List Token) → (tokens_of text ≡ Ok tokens) ↔ IsCut start text tokens

-- a text has no tokens where its parts stop before its end, and the place is where they do
abbrev pub FaultsAreWherePartsStop : Type 0
FaultsAreWherePartsStop = (text : List ℕ) (p : Place) → (tokens_of text ≡ Err p) ↔ IsCutUpTo start text p
