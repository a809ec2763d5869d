-- The parts of a line, and the first line of a schedule, as they are found.
use Rattle.std.specs.Prelude.{◌≡◌, ◌≢◌, ℕ, ℤ, true, List, ◌∷◌, ◌++◌, codes, slice_get, Option, Some, None}
use Rattle.std.specs.Fmt.{signed_decimal}
use Rattle.std.specs.Int.RustNames.{FitsSigned}
use mir.Syntax.{w64}
use Rattle.plank_base.specs.declared.keys.ThreadId.{ThreadId}
use Rattle.plank_lex.specs.Spelling.{is_name}
use Rattle.plank_lex.specs.declared.tokens.Token.{Token}
use Rattle.plank_lex.specs.declared.tokens.TokenKind.TheVariants as kind
use Rattle.plank_trace.specs.declared.lines.Line.{Line}
use Rattle.plank_trace.specs.declared.parts.Parts.{Parts}
use Rattle.plank_trace.specs.declared.schedules.Front.{Front}
use Rattle.plank_trace.specs.Schedules.{line_feed, blank, lacks, thread_text, line_text, IsThread, IsLine, BeginsNoLine}

-- behind the first part stand the word `call` and two more parts, the last of which may have blanks
pub record IsCallOf (bytes method key : List ℕ) : Type 0 where
  pub whole : bytes ≡ codes "call" ++ blank ∷ (method ++ blank ∷ key)
  pub apart : lacks blank method ≡ true

-- what stands behind the first part
abbrev pub AreBehind : List ℕ → List ℕ → Parts → Type 0
AreBehind first bytes (Parts.Go thread) = (thread.now ≡ first) × (bytes ≡ codes "go")
AreBehind first bytes (Parts.Call thread method key) = (thread.now ≡ first) × IsCallOf bytes method.now key.now
AreBehind first bytes Parts.Other = (bytes ≢ codes "go") × ((method key : List ℕ) → IsCallOf bytes method key → ⊥)

-- the bytes are a first part without a blank, a blank, and this behind it
pub record IsCutAtBlank (bytes first behind : List ℕ) : Type 0 where
  pub whole : bytes ≡ first ++ blank ∷ behind
  pub alone : lacks blank first ≡ true

abbrev pub AreParts : List ℕ → Parts → Type 0
AreParts bytes (Parts.Go thread) = IsCutAtBlank bytes thread.now (codes "go")
AreParts bytes (Parts.Call thread method key) =
    (behind : List ℕ) × IsCutAtBlank bytes thread.now behind × IsCallOf behind method.now key.now
AreParts bytes Parts.Other =
    (first behind : List ℕ) → IsCutAtBlank bytes first behind
    → (behind ≢ codes "go") × ((method key : List ℕ) → IsCallOf behind method key → ⊥)

-- the first token is a name of these bytes
abbrev pub BeginsNamed : List Token → List ℕ → Type 0
BeginsNamed tokens bytes = (t : Token) × (slice_get tokens 0 ≡ Some t) × (t.kind ≡ kind.Name bytes)

-- the step of a thread that is written so
abbrev pub IsGoRead : List ℕ → Option Line → Type 0
IsGoRead thread None = (t : ThreadId) → IsThread t → thread ≢ thread_text t
IsGoRead thread (Some line) = (t : ThreadId) × IsThread t × (thread ≡ thread_text t) × (line ≡ Line.Go t)

-- the parts of a call are written as these
pub record AreOfCall (thread method key : List ℕ) (t : ThreadId) (k : ℤ) : Type 0 where
  pub is_thread : IsThread t
  pub thread_is : thread ≡ thread_text t
  pub named : is_name method ≡ true
  pub fits : FitsSigned w64 k
  pub key_is : key ≡ signed_decimal k

-- the call whose parts are written so
abbrev pub IsCallRead : List ℕ → List ℕ → List ℕ → Option Line → Type 0
IsCallRead thread method key None = (t : ThreadId) (k : ℤ) → AreOfCall thread method key t k → ⊥
IsCallRead thread method key (Some line) = (t : ThreadId) × (k : ℤ) × AreOfCall thread method key t k × (line ≡ Line.Call t method k)

-- what a whole line is, with more behind it
abbrev pub IsFrontOf : List ℕ → List ℕ → Front → Type 0
IsFrontOf bytes more (Front.Line line rest) = IsLine line × (bytes ≡ line_text line) × (rest.now ≡ more)
IsFrontOf bytes more (Front.Text text) = (bytes ≡ codes "text") × (text.now ≡ more)
IsFrontOf bytes more Front.Bad = (bytes ≢ codes "text") × ((l : Line) → IsLine l → bytes ≢ line_text l)

-- what bytes begin with
abbrev pub IsFront : List ℕ → Front → Type 0
IsFront bytes (Front.Line line more) = IsLine line × (bytes ≡ line_text line ++ line_feed ∷ more.now)
IsFront bytes (Front.Text text) = bytes ≡ codes "text" ++ line_feed ∷ text.now
IsFront bytes Front.Bad = BeginsNoLine bytes
