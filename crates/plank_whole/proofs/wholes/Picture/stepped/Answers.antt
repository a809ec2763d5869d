-- A whole picture has nothing open.
use Rattle.std.proofs.Common.{sym}
use Rattle.plank_whole.proofs.Sure.{nothing, agrees_whole}
use Rattle.plank_whole.proofs.wholes.Picture.stepped.Goals as goal

pub returns-in-Ok : goal.returns-in-Ok
returns-in-Ok g c = sym (c.in-Ok.ensures nothing agrees_whole)
