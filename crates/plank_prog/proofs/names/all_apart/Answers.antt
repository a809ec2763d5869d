use Rattle.std.proofs.Common.{sym, ◌∙◌}
use Rattle.plank_prog.proofs.Rests.{pairs_go_on}
use Rattle.plank_prog.proofs.names.all_apart.Goals as goal

pub loop-i-preserved : goal.loop-i-preserved
loop-i-preserved g c =
    pairs_go_on g.T.Apart.is_apart c.args.items.now c.loop-i.i c.index-items-i.result c.loop-i-test.true c.index-items-i.is
    (sym c.is_apart_from_all.ensures ∙ c.if-not-is_apart_from_all.false) c.loop-i.invariant
