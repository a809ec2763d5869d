-- What the sites of the methods so far break is found.
use Rattle.std.specs.Prelude.{◌≡◌}
use Rattle.plank_bits.specs.Words.{has}
use Rattle.plank_fact.specs.Outlines.{Point}
use Rattle.plank_method.specs.Deciding.{outline_of, IsExact}
use Rattle.plank_rely.specs.Breaking.{IsBrokenBefore}
use Rattle.plank_rely.proofs.asking.Claimed.broken.Given as goal

abbrev pub invariant-loop-method : goal.invariant-loop-method
invariant-loop-method g l =
    (x : Point l.self.program.now.methods) → x.m ≡ l.self.at.method → x.l ≡ l.self.at.location
    → IsExact l.self.program.now.header x.method (has l.wanted) (has l.found) (IsBrokenBefore (outline_of l.self.program.now l.self.marks.now) x l.method)
