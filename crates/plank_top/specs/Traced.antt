-- What `trace` answers to a schedule with a text, and which of these it runs.
use Rattle.std.specs.Prelude.{◌≡◌, ℕ, List, Some, None}
use Rattle.plank_ast.specs.declared.texts.Text.{Text}
use Rattle.plank_rules.specs.declared.broken.Broken.{Broken}
use Rattle.plank_rules.specs.BrokenRules.{broken_rules}
use Rattle.plank_rules.specs.FirstOf.{first_of}
use Rattle.plank_type.specs.declared.limits.Excess.{Excess}
use Rattle.plank_type.specs.Limits.{first_excess}
use Rattle.plank_type.specs.Checks.{IsProgramOf}
use Rattle.plank_prog.specs.declared.programs.Program.{Program}
use Rattle.plank_trace.specs.declared.lines.Line.{Line}
use Rattle.plank_trace.specs.declared.limits.Overrun.{Overrun}
use Rattle.plank_trace.specs.Limits.{first_overrun}
use Rattle.plank_trace.specs.Schedules.{IsSchedule, IsBadSchedule}
use Rattle.plank_trace.specs.Traces.{IsTrace, IsBadStep}
use Rattle.plank_top.specs.declared.status.Status.{Status}
use Rattle.plank_top.specs.declared.status.Status.TheVariants as status
use Rattle.plank_top.specs.Answers.{Answer, refusal}
use Rattle.plank_top.specs.Trees.{IsTextOf, IsUnreadable, IsInOrder}

-- a run is shown
abbrev pub shown : List ℕ → Answer
shown trace = record { status = status.Done; output = trace }

-- A text of the grammar is refused as by `verify`; else the lines are run on its program: the trace of the run, or the
-- first step that cannot be made.
pub data IsRunOf (lines : List Line) (t : Text) (answer : Answer) : Type 0 where
  ill_typed : (b : Broken) → first_of (broken_rules t) ≡ Some b → answer ≡ refusal (status.IllTyped b.kind b.place) → IsRunOf lines t answer
  too_large : (e : Excess) → first_of (broken_rules t) ≡ None → first_excess t ≡ Some e → answer ≡ refusal (status.TooLarge e.thing e.count e.limit) → IsRunOf lines t answer
  traced : (p : Program) → IsProgramOf t p → (trace : List ℕ) → IsTrace p.header p.methods lines trace → answer ≡ shown trace → IsRunOf lines t answer
  bad_step : (p : Program) → IsProgramOf t p → (i : ℕ) → IsBadStep p.header p.methods lines i → answer ≡ refusal (status.BadStep i) → IsRunOf lines t answer

-- the answer to the lines of a schedule with a text behind it
pub data IsScheduledAnswer (lines : List Line) (text : List ℕ) (answer : Answer) : Type 0 where
  too_long : (over : Overrun) → first_overrun lines ≡ Some over → answer ≡ refusal (status.TooLong over.measure over.count over.limit) → IsScheduledAnswer lines text answer
  unreadable : first_overrun lines ≡ None → (refused : Status) → IsUnreadable text refused → answer ≡ refusal refused → IsScheduledAnswer lines text answer
  readable : first_overrun lines ≡ None → (t : Text) → IsTextOf text t → IsRunOf lines t answer → IsScheduledAnswer lines text answer

-- the answer of `trace`
pub data IsTraceAnswer (bytes : List ℕ) (answer : Answer) : Type 0 where
  bad_schedule : (i : ℕ) → IsBadSchedule bytes i → answer ≡ refusal (status.BadSchedule i) → IsTraceAnswer bytes answer
  scheduled : (lines : List Line) (text : List ℕ) → IsSchedule bytes lines text → IsScheduledAnswer lines text answer → IsTraceAnswer bytes answer

-- a schedule within its limits, and behind it a text that is in order
pub record IsRunnable (bytes : List ℕ) : Type 0 where
  pub lines : List Line
  pub text : List ℕ
  pub schedule : IsSchedule bytes lines text
  pub within : first_overrun lines ≡ None
  pub in_order : IsInOrder text

-- the call has shown the run, or told the step that cannot be made, or memory was refused
pub data EndsTracing (ended : Status) : Type 0 where
  done : ended ≡ status.Done → EndsTracing ended
  bad_step : (i : ℕ) → ended ≡ status.BadStep i → EndsTracing ended
  no_memory : ended ≡ status.OutOfMemory → EndsTracing ended
