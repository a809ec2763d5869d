use Rattle.std.proofs.Common.{◌≡◌}
use Rattle.std.specs.Prelude.{slice_get, Some}
use Rattle.plank_bits.specs.Words.{has}
use Rattle.plank_prog.specs.declared.methods.Method.{Method}
use Rattle.plank_fact.specs.Forced.{outline}
use Rattle.plank_past.specs.Refuting.{IsRefutedWithin, Grows}
use Rattle.plank_past.proofs.Growth.{before}
use Rattle.plank_past.proofs.past.Asked.more_of_method.Given as goal

-- the sites of the locations so far are asked
abbrev pub invariant-loop-location : goal.invariant-loop-location
invariant-loop-location g l = (m : Method) → slice_get l.self.program.now.methods l.self.hinds.now.method ≡ Some m →
    Grows l.self.hinds.now.conclusions.now (IsRefutedWithin (outline l.self.program.now.header l.self.program.now.methods (has l.self.marks.now)) m l.self.hinds.now l.present (before l.method l.location))
    (has l.refuted) (has l.found)
