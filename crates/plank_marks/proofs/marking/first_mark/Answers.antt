use Rattle.std.proofs.Common.{◌≤◌, ◌<◌, arith}
use Rattle.plank_marks.proofs.Rooms.{room_at, few_at, few_before}
use Rattle.plank_marks.proofs.marking.first_mark.Goals as goal

pub overflow_add-result : goal.overflow_add-result
overflow_add-result c =
    let at = few_at c.args.program.now.header c.args.program.now.methods c.args.program.now.methods_are_lawful c.args.at.method c.args.at.location c.requires.location in
    let before = c.locations_before.ensures.few in
    omega arith

pub overflow_mul-result-2 : goal.overflow_mul-result-2
overflow_mul-result-2 c =
    let at = few_at c.args.program.now.header c.args.program.now.methods c.args.program.now.methods_are_lawful c.args.at.method c.args.at.location c.requires.location in
    let before = c.locations_before.ensures.few in
    omega arith

pub returns-clause-few : goal.returns-clause-few
returns-clause-few c =
    let at = few_at c.args.program.now.header c.args.program.now.methods c.args.program.now.methods_are_lawful c.args.at.method c.args.at.location c.requires.location in
    let before = c.locations_before.ensures.few in
    omega arith

pub returns-clause-room : goal.returns-clause-room
returns-clause-room c =
    let room = room_at c.args.program.now.methods c.args.at.method c.args.at.location c.requires.method c.requires.location in
    let before = c.locations_before.ensures.count in
    omega arith
