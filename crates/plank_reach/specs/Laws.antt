-- The laws: the step of a situation is its tests, and what it keeps is after it as before.
use Rattle.std.specs.Prelude.{◌≡◌, ◌↔◌, Some, None}
use Rattle.plank_prog.specs.declared.headers.Header.{Header}
use Rattle.plank_pic.specs.Pictures.{Picture}
use Rattle.plank_query.specs.declared.situations.Situation.{Situation}
use Rattle.plank_query.specs.Situations.{frame, IsStep}
use Rattle.plank_reach.specs.declared.stepping.Stepping.{Stepping}
use Rattle.plank_reach.specs.Steps.{step_of, MeetsStep}

-- where there is no step the pictures are one
pub record StepIsTests (h : Header) (S : Situation) (before after : Picture) : Type 0 where
  pub tests : (s : Stepping) → step_of S ≡ Some s → IsStep h S before after ↔ MeetsStep (frame h S) s before after
  pub none : step_of S ≡ None → IsStep h S before after ↔ (after ≡ before)
