-- What it means that goals say how a write goes wrong. The obligations of writes are decided by it.
use Rattle.std.specs.Prelude.{◌≡◌, ◌↔◌, ℕ, true, List, Some, Contains}
use Rattle.plank_prog.specs.declared.headers.Header.{Header}
use Rattle.plank_pic.specs.Frames.{Frame}
use Rattle.plank_pic.specs.Pictures.{Picture}
use Rattle.plank_pic.specs.Lawful.{IsPossible, IsLawful}
use Rattle.plank_pic.specs.Steps.{Change}
use Rattle.plank_query.specs.declared.situations.Situation.{Situation}
use Rattle.plank_query.specs.declared.goals.Goal.{Goal}
use Rattle.plank_query.specs.Situations.{change, names, frame}
use Rattle.plank_query.specs.Goals.{goal_holds}

-- the two pictures of a step have what one of the goals looks for
pub record HoldsOne (h : Header) (S : Situation) (before after : Picture) (goals : List Goal) : Type 0 where
  pub goal : Goal
  pub asked : Contains goals goal
  pub holds : goal_holds h S before after goal ≡ true

-- for each write by pictures with n names they do just where it goes wrong so
abbrev pub SayOfWrites : Header → ℕ → List Goal → (Frame → Change → Picture → Picture → Type 0) → Type 0
SayOfWrites h n goals IsWrong =
    (S : Situation) (c : Change) (before after : Picture) → change S ≡ Some c → names S ≡ n → IsLawful (frame h S) before → IsPossible (frame h S) after
    → HoldsOne h S before after goals ↔ IsWrong (frame h S) c before after
