-- The law, from its two directions.
use Rattle.std.proofs.Common.{ℕ, Option}
use Rattle.plank_pic.specs.Frames.{Frame}
use Rattle.plank_pic.specs.Pictures.{Picture}
use Rattle.plank_pic.specs.Steps.{Change, Source, IsPictureStep}
use Rattle.plank_pic.specs.TestedSteps.{ComesFromNames, IsTestedStep}
use Rattle.plank_pic.proofs.TestedSteps.{step_tested, step_there}
use Rattle.plank_pic.proofs.laws.steps_law.Goals as goal

tested : (F : Frame) (o : Option Change) (from : ℕ → Source) (B A : Picture) → ComesFromNames F from → IsPictureStep F o from B A → IsTestedStep F o from B A
tested F o from B A inside step = step_tested F o from inside B step.between A step.writes step.names step.possible

pub returns : goal.returns
returns c = λ F o from B A inside. (tested F o from B A inside, step_there F o from inside B A)
