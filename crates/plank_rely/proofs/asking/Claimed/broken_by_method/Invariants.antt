-- What the sites of the locations so far break is found.
use Rattle.std.specs.Prelude.{◌≡◌}
use Rattle.plank_bits.specs.Words.{has}
use Rattle.plank_fact.specs.Outlines.{Point}
use Rattle.plank_method.specs.Deciding.{outline_of, IsExact}
use Rattle.plank_rely.specs.Breaking.{IsBrokenWithin}
use Rattle.plank_rely.proofs.asking.Claimed.broken_by_method.Given as goal

abbrev pub invariant-loop-location : goal.invariant-loop-location
invariant-loop-location g l =
    (x : Point l.self.program.now.methods) → x.m ≡ l.self.at.method → x.l ≡ l.self.at.location
    → IsExact l.self.program.now.header x.method (has l.wanted) (has l.found) (IsBrokenWithin (outline_of l.self.program.now l.self.marks.now) x l.method l.location)
