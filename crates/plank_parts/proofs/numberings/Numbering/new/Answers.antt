-- The table covers all codes, and so is a numbering.
use Rattle.plank_parts.specs.Shapes.{frame_of}
use Rattle.plank_parts.proofs.Covering.{is_numbering, moved_is}
use Rattle.plank_parts.proofs.numberings.Numbering.new.Goals as goal

pub invariant_of-result : goal.invariant_of-result
invariant_of-result g c =
    is_numbering (frame_of c.args.shape) c.args.shape.few_names c.args.shape.few_pointers c.args.shape.few_flags (g.K.Keeps.keeps c.args.keeps.now) c.in_ok-table.table c.in_ok-table.ensures

pub returns-clause-moved : goal.returns-clause-moved
returns-clause-moved g c = λ part fits.
    moved_is (frame_of c.args.shape) c.args.shape.few_names c.args.shape.few_pointers c.args.shape.few_flags (g.K.Keeps.keeps c.args.keeps.now) c.in_ok-table.table c.in_ok-table.ensures part fits
