use Rattle.std.specs.Prelude.{◌≡◌, ℕ, true}
use Rattle.plank_bits.specs.Words.{has}
use Rattle.plank_pic.specs.declared.literals.Literal.{Literal}
use Rattle.plank_fact.specs.declared.facts.Fact.{Fact}
use Rattle.plank_fact.specs.Tables.{IsNumbered}
use Rattle.plank_fact.specs.Outlines.{Point}
use Rattle.plank_fact.specs.After.{IsCarried}
use Rattle.plank_method.specs.Deciding.{outline_of}
use Rattle.plank_trans.specs.Turns.{IsTurnOf}
use Rattle.plank_trans.proofs.keeping.Keeping.kept.Given as goal

abbrev pub invariant-loop-number : goal.invariant-loop-number
invariant-loop-number l = (x : Point l.self.program.now.methods) → IsTurnOf x l.self.at.method l.self.at.location l.self.turn →
    (n : ℕ) (L : Literal) → IsNumbered l.self.program.now.header x.method n (Fact.Past L) → has l.set n ≡ true → IsCarried (outline_of l.self.program.now l.self.marks.now) x l.self.turn.exit L
