-- The laws of flags, each from its lemma.
use Rattle.plank_heap.proofs.Flags.{of_byte, written_flag, other_flag}
use Rattle.plank_heap.proofs.laws.flag_laws.Goals as goal

pub returns-clause-written : goal.returns-clause-written
returns-clause-written c = λ flags f to within. written_flag flags f to (of_byte f within)

pub returns-clause-others : goal.returns-clause-others
returns-clause-others c = λ flags f g to within inside other. other_flag flags f g to (of_byte f within) (of_byte g inside) other
