use Rattle.std.proofs.Common.{◌≡◌, length, rules, ◌∙◌}
use Rattle.plank_start.proofs.StartTests.{keeps_shown}
use Rattle.plank_start.proofs.heaps.meets_keeps.Goals as goal

pub returns : goal.returns
returns c =
    let two : length c.args.node.now.pointers ≡ 2 = search rules in
    c.meets_each_keep.ensures
    ∙ keeps_shown c.args.program.now.header c.args.heap.now c.args.x.0 c.args.node.now c.visits.result c.is_none.result c.is_none-2.result
    c.visits.ensures.test two c.is_none.ensures c.is_none-2.ensures
