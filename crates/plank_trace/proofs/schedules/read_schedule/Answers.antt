-- Line by line.
use Rattle.std.proofs.Common.{◌≡◌, ◌+◌, arith}
use Rattle.plank_trace.proofs.Scheduling.{read_none, read_more, read_stops, lines_and_rest}
use Rattle.plank_trace.proofs.schedules.read_schedule.Goals as goal

pub loop-line-init : goal.loop-line-init
loop-line-init c = read_none c.args.bytes.now c.new-lines.result.items c.new-lines.ensures.items

pub overflow_cast-result : goal.overflow_cast-result
overflow_cast-result c =
    let few = lines_and_rest c.args.bytes.now c.loop-line.lines.items c.loop-line.rest.now c.loop-line.invariant in
    let all = c.len.ensures in
    let most = c.requires in
    omega (arith, few, all, most)

pub overflow_add-result : goal.overflow_add-result
overflow_add-result c =
    let few = lines_and_rest c.args.bytes.now c.loop-line.lines.items c.loop-line.rest.now c.loop-line.invariant in
    let all = c.len.ensures in
    let most = c.requires in
    omega (arith, few, all, most)

pub loop-line-preserved : goal.loop-line-preserved
loop-line-preserved c =
    let front = rw c.in-Ok-Line.field-0-is at c.in-Ok-Line.ensures in
    read_more c.args.bytes.now c.loop-line.lines.items c.push.new.lines.items c.in-Ok-Line.line c.loop-line.rest.now c.in-Ok-Line.more.now c.loop-line.invariant front.0 front.1 c.in-Ok.ensures

pub returns-in-Ok-Text-clause-few : goal.returns-in-Ok-Text-clause-few
returns-in-Ok-Text-clause-few c =
    let few = lines_and_rest c.args.bytes.now c.loop-line.lines.items c.loop-line.rest.now c.loop-line.invariant in
    omega (arith, few)

pub returns-in-Ok-Bad-clause-bad : goal.returns-in-Ok-Bad-clause-bad
returns-in-Ok-Bad-clause-bad c = λ i e.
    let stops = rw c.in-Ok-Bad.field-0-is at c.in-Ok-Bad.ensures in
    let all = c.len.ensures in
    let same : c.len.result + 1 ≡ i = cc in
    read_stops c.args.bytes.now c.loop-line.lines.items c.loop-line.rest.now i c.loop-line.invariant stops (omega (arith, same, all))
