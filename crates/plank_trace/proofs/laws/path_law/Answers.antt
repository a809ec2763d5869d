-- A path has what is visited.
use Rattle.plank_trace.proofs.Visiting.{path_visits}
use Rattle.plank_trace.proofs.laws.path_law.Goals as goal

pub returns : goal.returns
returns c = path_visits
