-- All is decided, so that the answer is that of each assignment.
use Rattle.std.proofs.Common.{sym}
use Rattle.plank_solve.proofs.Rounds.{known_agrees}
use Rattle.plank_solve.proofs.views.Views.has_goal.Goals as goal

pub returns-in-Ok : goal.returns-in-Ok
returns-in-Ok c = λ full agrees. sym (c.in-Ok.ensures full (known_agrees _ full agrees))

pub returns-in-Err : goal.returns-in-Err
returns-in-Err c = λ full agrees. absurd (c.requires.whole.none_open _ c.in-Err.ensures)
