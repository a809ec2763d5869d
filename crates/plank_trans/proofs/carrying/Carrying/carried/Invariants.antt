use Rattle.plank_bits.specs.Words.{has}
use Rattle.plank_fact.specs.Outlines.{Point}
use Rattle.plank_method.specs.Deciding.{outline_of}
use Rattle.plank_trans.specs.Turns.{IsTurnOf}
use Rattle.plank_trans.proofs.Carries.{AreCarriedWithin}
use Rattle.plank_trans.proofs.carrying.Carrying.carried.Given as goal

abbrev pub invariant-loop-number : goal.invariant-loop-number
invariant-loop-number l = (x : Point l.self.program.now.methods) → IsTurnOf x l.self.at.method l.self.at.location l.self.turn →
    AreCarriedWithin (outline_of l.self.program.now l.self.marks.now) x l.self.turn.exit l.number (has l.set)
