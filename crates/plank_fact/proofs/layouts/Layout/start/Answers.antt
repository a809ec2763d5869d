use Rattle.std.proofs.Common.{sym, arith}
use Rattle.plank_fact.proofs.Rows.{start-zero, start-next}
use Rattle.plank_fact.proofs.layouts.Layout.start.Goals as goal

pub loop-before-init : goal.loop-before-init
loop-before-init c = record { counted = sym (start-zero c.args.self.now); few = omega arith }

pub loop-before-preserved : goal.loop-before-preserved
loop-before-preserved c =
    let next = start-next c.args.self.now c.loop-before.before in
    let wide = c.width-count.ensures.width in
    let so = c.loop-before.invariant.counted in
    let few = c.loop-before.invariant.few in
    let more = c.width-count.ensures.few in
    record { counted = omega arith; few = omega arith }
