use Rattle.std.specs.Prelude.{◌≡◌, slice_get, Some}
use Rattle.plank_bits.specs.Words.{has}
use Rattle.plank_prog.specs.declared.methods.Method.{Method}
use Rattle.plank_follow.specs.Together.{AreTogether}
use Rattle.plank_follow.proofs.together.together.Given as goal

abbrev pub invariant-loop-number : goal.invariant-loop-number
invariant-loop-number l = (m : Method) → slice_get l.program.methods l.method ≡ Some m → AreTogether l.program.header m l.lasting l.presents (has l.known) l.number l.all.items
