-- Where names come from, as code and as definitions have it.
use Rattle.std.specs.Prelude.{◌≡◌}
use Rattle.std.proofs.Common.{refl, ap}
use Rattle.plank_pic.specs.Steps.{Source, Of}
use Rattle.plank_pic.specs.Steps as steps
use Rattle.plank_step.specs.declared.turns.Origin.{Origin}
use Rattle.plank_step.specs.Turns.{source_from}
use Rattle.plank_trans.specs.Carried.{origin_of}

pub origin_so : (o : Origin) (s : Source) → source_from o ≡ s → o ≡ origin_of s
origin_so (Origin.Name n) s e = ap origin_of e
origin_so Origin.Null s e = ap origin_of e
origin_so Origin.Fresh s e = ap origin_of e

pub source_again : (s : Source) → source_from (origin_of s) ≡ s
source_again (Of n) = refl
source_again steps.Null = refl
source_again steps.Fresh = refl
