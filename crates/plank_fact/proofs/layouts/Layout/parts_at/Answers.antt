use Rattle.std.proofs.Common.{arith}
use Rattle.plank_fact.proofs.Rows.{start-zero, start-next}
use Rattle.plank_fact.proofs.layouts.Layout.parts_at.Goals as goal

pub loop-first-init : goal.loop-first-init
loop-first-init c = omega (arith, start-zero c.args.self.now)

pub loop-first-preserved : goal.loop-first-preserved
loop-first-preserved c =
    let next = start-next c.args.self.now c.loop-first.first in
    let wide = c.width-width.ensures.width in
    let so = c.loop-first.invariant in
    let below = c.if-rest-width.false in
    omega arith
