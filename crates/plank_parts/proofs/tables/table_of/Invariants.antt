-- The codes so far are covered.
use Rattle.plank_parts.specs.Numbers.{Covers}
use Rattle.plank_parts.specs.Shapes.{frame_of}
use Rattle.plank_parts.proofs.tables.table_of.Given as goal

abbrev pub invariant-loop-code : goal.invariant-loop-code
invariant-loop-code g l = Covers (frame_of l.shape) (g.K.Keeps.keeps l.keeps) l.code l.table
