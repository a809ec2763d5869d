-- None of the names so far carries it.
use Rattle.plank_fact.specs.Outlines.{Point}
use Rattle.plank_method.specs.Deciding.{outline_of}
use Rattle.plank_trans.specs.Turns.{IsTurnOf}
use Rattle.plank_trans.specs.Carried.{IsCarriedBelow}
use Rattle.plank_trans.proofs.carrying.Carrying.is_carried_to.Given as goal

abbrev pub invariant-loop-from : goal.invariant-loop-from
invariant-loop-from l = (x : Point l.self.program.now.methods) → IsTurnOf x l.self.at.method l.self.at.location l.self.turn →
    IsCarriedBelow (outline_of l.self.program.now l.self.marks.now) x l.self.turn.exit l.literal l.to l.from → ⊥
