use Rattle.std.specs.Prelude.{◌≡◌, slice_get, Some}
use Rattle.plank_bits.specs.Words.{has}
use Rattle.plank_prog.specs.declared.methods.Method.{Method}
use Rattle.plank_method.specs.Deciding.{outline_of}
use Rattle.plank_follow.specs.Following.{IsGivenBelow, AddsPast}
use Rattle.plank_follow.proofs.rules.Rules.more_from.Given as goal

-- what the present literals so far give is added
abbrev pub invariant-loop-i : goal.invariant-loop-i
invariant-loop-i g l = (m : Method) → slice_get l.self.program.now.methods l.self.method ≡ Some m →
    AddsPast l.self.program.now.header m (IsGivenBelow (outline_of l.self.program.now l.self.marks.now) m l.self.lasting.now l.self.presents.now l.past l.i) (has l.known) (has l.more)
