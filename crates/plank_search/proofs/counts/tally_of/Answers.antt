use Rattle.plank_search.proofs.Tallies.{TallyOf-more}
use Rattle.plank_search.proofs.counts.tally_of.Goals as goal

pub loop-part-preserved : goal.loop-part-preserved
loop-part-preserved c =
    rw c.with_part-tally.ensures
    (TallyOf-more c.args.values.now c.args.parts.now c.loop-part.part-index c.loop-part.tally c.read-value.result c.loop-part-test.true
    c.read-value.ensures c.loop-part.invariant)
