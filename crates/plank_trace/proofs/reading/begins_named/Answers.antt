-- The first token, and its label.
use Rattle.std.proofs.Common.{◌≡◌, length, slice_get, Some, refl, arith}
use Rattle.std.proofs.lemmas.Option.{slice_get_read}
use Rattle.plank_trace.proofs.SameBytes.{are_same, tell_same}
use Rattle.plank_trace.proofs.ReadLines.{begins}
use Rattle.plank_trace.proofs.reading.begins_named.Goals as goal

pub returns-in-Some : goal.returns-in-Some
returns-in-Some c =
    let some = c.in-len1-up.len_at_least in
    let first = c.first-item.result in
    let at : slice_get c.args.tokens.now 0 ≡ Some first = slice_get_read c.args.tokens.now (length c.args.tokens.now) 0 first refl (omega (arith, some)) c.first-item.is in
    begins c.args.tokens.now first c.in-Some.label.now c.args.bytes.now c.eq.result at c.in-Some.ensures
    (are_same c.as_bytes.result.now c.args.bytes.now c.in-Some.label.now c.eq.result c.eq.ensures c.as_bytes.ensures)
    (tell_same c.as_bytes.result.now c.args.bytes.now c.in-Some.label.now c.eq.result c.eq.ensures c.as_bytes.ensures)
