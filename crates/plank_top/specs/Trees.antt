-- The tree of a text, and why a text has none.
use Rattle.std.specs.Prelude.{◌≡◌, ℕ, ◌+◌, List, Ok, Err}
use Rattle.plank_base.specs.declared.places.Place.{Place}
use Rattle.plank_base.specs.declared.limits.Thing.TheVariants as thing
use Rattle.plank_base.specs.declared.limits.TheConstants.{NESTING_LIMIT}
use Rattle.plank_lex.specs.declared.tokens.Token.{Token}
use Rattle.plank_lex.specs.Tokens.{tokens_of}
use Rattle.plank_ast.specs.declared.texts.Text.{Text}
use Rattle.plank_parse.specs.Texts.{parts_of, reading_of}
use Rattle.plank_parse.specs.Placing.{StandAt, text_places}
use Rattle.plank_parse.specs.Outcomes.{IsReadingOf}
use Rattle.plank_parse.specs.Grammar.{Spells, IsUnexpected, IsTooDeep}
use Rattle.plank_prog.specs.declared.programs.Program.{Program}
use Rattle.plank_type.specs.Checks.{IsProgramOf}
use Rattle.plank_top.specs.declared.status.Status.{Status}
use Rattle.plank_top.specs.declared.status.Status.TheVariants as status
use Rattle.plank_top.specs.declared.trees.Tree.{Tree}

-- The text is read as this tree: the tree's tokens are those of the text, its parts stand where their tokens do, and the
-- reading of the tokens, which is one, gives it.
pub record IsTextOf (bytes : List ℕ) (t : Text) : Type 0 where
  pub tokens : List Token
  pub lexed : tokens_of bytes ≡ Ok tokens
  pub spelled : Spells tokens t
  pub placed : StandAt (text_places (parts_of t)) tokens
  pub read : IsReadingOf (reading_of tokens) t

-- the text is of the grammar
pub record IsOfGrammar (bytes : List ℕ) : Type 0 where
  pub text : Text
  pub read : IsTextOf bytes text

-- the text is of the grammar, well typed and within the limits
pub record IsInOrder (bytes : List ℕ) : Type 0 where
  pub text : Text
  pub read : IsTextOf bytes text
  pub program : Program
  pub typed : IsProgramOf text program

-- The text is none of the grammar: this is the place of the first byte that begins no token, or else of
-- the first token with which the tokens so far begin no text.
pub data IsMalformed (bytes : List ℕ) (p : Place) : Type 0 where
  bad_byte : tokens_of bytes ≡ Err p → IsMalformed bytes p
  bad_token : (tokens : List Token) → tokens_of bytes ≡ Ok tokens → IsUnexpected tokens p → IsMalformed bytes p

-- the tokens begin a text up to a bracket that is one too many to be open at once
pub record NestsTooDeep (bytes : List ℕ) : Type 0 where
  pub tokens : List Token
  pub lexed : tokens_of bytes ≡ Ok tokens
  pub place : Place
  pub deep : IsTooDeep tokens place

-- the text has no tree, and this status says why
pub data IsUnreadable (bytes : List ℕ) (refused : Status) : Type 0 where
  malformed : (p : Place) → IsMalformed bytes p → refused ≡ status.Malformed p → IsUnreadable bytes refused
  too_deep : NestsTooDeep bytes → refused ≡ status.TooLarge thing.Nesting (NESTING_LIMIT + 1) NESTING_LIMIT → IsUnreadable bytes refused

-- what reading a text gives
abbrev pub IsTreeOf : List ℕ → Tree → Type 0
IsTreeOf bytes (Tree.Text t) = IsTextOf bytes t
IsTreeOf bytes (Tree.Refused refused) = IsUnreadable bytes refused
