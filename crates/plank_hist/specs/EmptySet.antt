-- Histories that a set which stays empty explains.
use Rattle.std.specs.Prelude.{◌≡◌, ℕ, Bool, false, ℤ, List, Some, slice_get}
use Rattle.plank_base.specs.declared.operations.Op.TheVariants.{Insert}
use Rattle.plank_base.specs.declared.keys.ThreadId.{ThreadId}
use Rattle.plank_hist.specs.declared.events.Event.{Event}
use Rattle.plank_hist.specs.declared.events.Event.TheVariants.{Respond}
use Rattle.plank_hist.specs.Histories.{IsInvoked, Responds, history_of}

-- every answer is false
abbrev pub AnswersFalse : List Event → Type 0
AnswersFalse events = (j : ℕ) (thread : ThreadId) (answer : Bool) → slice_get events j ≡ Some (Respond thread answer) → answer ≡ false

-- no insert is answered
abbrev pub AnswersNoInsert : List Event → Type 0
AnswersNoInsert events = (i j : ℕ) (key : ℤ) (answer : Bool) → IsInvoked (history_of events) i (Insert, key) → Responds (history_of events) i j answer → ⊥
