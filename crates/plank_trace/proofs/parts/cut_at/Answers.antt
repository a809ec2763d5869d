-- The cut is at the first such byte.
use Rattle.std.proofs.Common.{arith}
use Rattle.plank_trace.proofs.Cutting.{nothing_found, cut_parts}
use Rattle.plank_trace.proofs.parts.cut_at.Goals as goal

pub returns-then-end-bytes : goal.returns-then-end-bytes
returns-then-end-bytes c =
    let place = c.before-end.ensures.place in
    let all = c.if-end-bytes.true in
    nothing_found c.args.byte c.args.bytes.now (omega (arith, place, all))

pub returns : goal.returns
returns c =
    let within = c.before-end.ensures.within in
    let more = c.if-end-bytes.false in
    cut_parts c.args.byte c.args.bytes.now c.before-end.result c.before-end.ensures.place (omega (arith, within, more))
