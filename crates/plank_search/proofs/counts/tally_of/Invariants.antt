-- The tally of the parts so far.
use Rattle.std.proofs.Common.{take}
use Rattle.plank_search.specs.Counting.{TallyOf}
use Rattle.plank_search.proofs.counts.tally_of.Given as goal

abbrev pub invariant-loop-part : goal.invariant-loop-part
invariant-loop-part l = TallyOf l.values (take l.part-index l.parts) l.tally
