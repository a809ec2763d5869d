-- A line of either form, or of none.
use Rattle.std.proofs.lemmas.Result.{IfOk-weaker}
use Rattle.plank_trace.proofs.ReadLines.{go_read, call_read, other_read}
use Rattle.plank_trace.proofs.reading.line_of.Goals as goal

pub returns-in-Go : goal.returns-in-Go
returns-in-Go c =
    IfOk-weaker c.go_of.result _ _ (λ found read. go_read c.args.bytes.now c.in-Go.thread.now c.in-Go.ensures found read) c.go_of.ensures

pub returns-in-Call : goal.returns-in-Call
returns-in-Call c =
    let are = c.in-Call.ensures in
    IfOk-weaker c.call_of.result _ _ (λ found read. call_read c.args.bytes.now c.in-Call.thread.now are.0 c.in-Call.method.now c.in-Call.key.now are.1 are.2 found read) c.call_of.ensures

pub returns-in-Other : goal.returns-in-Other
returns-in-Other c = other_read c.args.bytes.now c.in-Other.ensures
