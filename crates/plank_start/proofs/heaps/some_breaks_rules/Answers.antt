use Rattle.std.proofs.Common.{◌<◌, pos, length, sym, ◌∙◌, arith}
use Rattle.plank_fact.specs.Start.{breaks_rules}
use Rattle.plank_pic.proofs.Below.{none_below, some_more, some_there}
use Rattle.plank_start.proofs.heaps.some_breaks_rules.Goals as goal

pub loop-x-init : goal.loop-x-init
loop-x-init c = none_below (breaks_rules c.args.program.now.header c.args.heap.now (pos 0))

pub loop-x-preserved : goal.loop-x-preserved
loop-x-preserved c =
    some_more (breaks_rules c.args.program.now.header c.args.heap.now (pos 0)) c.loop-x.x (sym c.breaks_rules.ensures ∙ c.if-breaks_rules.false) c.loop-x.invariant

pub returns-then-breaks_rules : goal.returns-then-breaks_rules
returns-then-breaks_rules c =
    let heap = c.args.heap.now in
    let within : c.loop-x.x < length heap.nodes = omega arith in
    sym (some_there (breaks_rules c.args.program.now.header heap (pos 0)) (length heap.nodes) c.loop-x.x within
    (sym c.breaks_rules.ensures ∙ c.if-breaks_rules.true))
