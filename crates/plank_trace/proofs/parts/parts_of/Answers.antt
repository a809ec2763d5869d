-- The first part and those behind it.
use Rattle.plank_trace.specs.Cuts.{IsCutAtBlank}
use Rattle.plank_trace.proofs.ReadLines.{parts_from}
use Rattle.plank_trace.proofs.parts.parts_of.Goals as goal

pub returns-in-Some : goal.returns-in-Some
returns-in-Some c =
    let cut : IsCutAtBlank c.args.bytes.now c.in-Some.thread.now c.in-Some.rest.now = record { whole = c.in-Some.ensures.0; alone = c.in-Some.ensures.1 } in
    parts_from c.args.bytes.now c.in-Some.thread.now c.in-Some.rest.now c.parts_behind.result cut c.parts_behind.ensures
