use Rattle.std.proofs.Common.{◌<◌, length, arith}
use Rattle.plank_marks.proofs.Rooms.{before_more, few_before}
use Rattle.plank_marks.proofs.marking.locations_before.Goals as goal

pub loop-before-preserved : goal.loop-before-preserved
loop-before-preserved c =
    let here = c.loop-before-test.true in
    let within = c.requires in
    let below : c.loop-before.before < length c.args.program.now.methods = omega arith in
    let more = before_more c.args.program.now.methods c.loop-before.before below in
    let count = c.location_count-count.ensures.count in
    let so = c.loop-before.invariant in
    omega arith

pub overflow_add-count : goal.overflow_add-count
overflow_add-count c =
    let few = few_before c.args.program.now.header c.args.program.now.methods c.args.program.now.methods_are_lawful c.loop-before.before in
    let more = c.location_count-count.ensures.few in
    let so = c.loop-before.invariant in
    omega arith

pub returns-clause-few : goal.returns-clause-few
returns-clause-few c =
    let few = few_before c.args.program.now.header c.args.program.now.methods c.args.program.now.methods_are_lawful c.loop-before.before in
    let so = c.loop-before.invariant in
    omega arith
