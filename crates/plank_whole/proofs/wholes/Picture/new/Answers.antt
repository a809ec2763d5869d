-- No part is said yet.
use Rattle.plank_parts.specs.Shapes as shapes
use Rattle.plank_whole.proofs.Putting.{unsaid}
use Rattle.plank_whole.proofs.wholes.Picture.new.Goals as goal

pub returns-clause-nothing : goal.returns-clause-nothing
returns-clause-nothing c = λ part. unsaid (shapes.frame_of c.args.shape) 8704 part
