-- What a schedule is: lines, each written as it says, the line `text`, and then a text.
use Rattle.std.specs.Prelude.{◌≡◌, ◌≢◌, ℕ, suc, ◌<◌, Bool, true, not, ◌==◌, List, ◌∷◌, ◌++◌, [], codes, length, Option, Some, None}
use Rattle.std.specs.List.{list_all, AllByRecursion}
use Rattle.std.specs.Fmt.{decimal, signed_decimal}
use Rattle.std.specs.Int.RustNames.{FitsSigned}
use mir.Syntax.{w64}
use Rattle.plank_base.specs.declared.keys.ThreadId.{ThreadId}
use Rattle.plank_lex.specs.Spelling.{is_name}
use Rattle.plank_trace.specs.declared.lines.Line.{Line}
use Rattle.plank_trace.specs.declared.lines.TheConstants.{THREADS}

abbrev pub line_feed : ℕ
line_feed = 10

abbrev pub blank : ℕ
blank = 32

-- no byte is this one
abbrev pub lacks : ℕ → List ℕ → Bool
lacks byte bytes = list_all (λ b. not (b == byte)) bytes

-- how a thread is written
abbrev pub thread_text : ThreadId → List ℕ
thread_text thread = decimal thread.0

-- how a line is written: in decimal without a zero in front, and with one blank between its parts
abbrev pub line_text : Line → List ℕ
line_text (Line.Call thread method key) =
    thread_text thread ++ blank ∷ (codes "call" ++ blank ∷ (method ++ blank ∷ signed_decimal key))
line_text (Line.Go thread) = thread_text thread ++ blank ∷ codes "go"

abbrev pub IsThread : ThreadId → Type 0
IsThread thread = thread.0 < THREADS

-- threads have numbers, methods have names that are not reserved, keys are of 64 bits
abbrev pub IsLine : Line → Type 0
IsLine (Line.Call thread method key) = IsThread thread × (is_name method ≡ true) × FitsSigned w64 key
IsLine (Line.Go thread) = IsThread thread

-- each line with the line feed after it
abbrev pub lines_text : List Line → List ℕ
lines_text [] = []
lines_text (line ∷ lines) = line_text line ++ line_feed ∷ lines_text lines

-- the bytes are these lines, the line `text`, and this text
pub record IsSchedule (bytes : List ℕ) (lines : List Line) (text : List ℕ) : Type 0 where
  pub each : AllByRecursion IsLine lines
  pub whole : bytes ≡ lines_text lines ++ (codes "text" ++ line_feed ∷ text)

-- the bytes begin with no line of a schedule, and not with the line `text`
pub data BeginsNoLine (bytes : List ℕ) : Type 0 where
  -- they end before a line feed
  ended : lacks line_feed bytes ≡ true → BeginsNoLine bytes
  -- their first line is written as none is
  unknown : (line more : List ℕ) → bytes ≡ line ++ line_feed ∷ more → lacks line_feed line ≡ true → line ≢ codes "text" → ((l : Line) → IsLine l → line ≢ line_text l) → BeginsNoLine bytes

-- line i, from 1, is the first that is no line of a schedule, with no line `text` before it
pub record IsBadSchedule (bytes : List ℕ) (i : ℕ) : Type 0 where
  pub lines : List Line
  pub rest : List ℕ
  pub each : AllByRecursion IsLine lines
  pub so_far : bytes ≡ lines_text lines ++ rest
  pub stops : BeginsNoLine rest
  pub number : i ≡ suc (length lines)

-- what bytes are read as: the one thing that is lawful and written so, or nothing where none is
abbrev pub IsRead : {X : Type 0} → (X → Type 0) → (X → List ℕ) → List ℕ → Option X → Type 0
IsRead {X} lawful text bytes None = (x : X) → lawful x → bytes ≢ text x
IsRead lawful text bytes (Some x) = lawful x × (bytes ≡ text x)
