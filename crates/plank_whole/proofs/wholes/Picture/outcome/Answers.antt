-- The walk is that of the one assignment.
use Rattle.std.proofs.Common.{sym}
use Rattle.plank_whole.proofs.Sure.{nothing, agrees_whole}
use Rattle.plank_whole.proofs.wholes.Picture.outcome.Goals as goal

pub returns-in-Ok : goal.returns-in-Ok
returns-in-Ok c = sym (c.in-Ok.ensures nothing agrees_whole).end
