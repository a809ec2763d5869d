-- The key that is written so is parsed.
use Rattle.std.proofs.Common.{ℤ, Some, ap, ◌∙◌, to_z, of_z, w64}
use Rattle.std.proofs.lemmas.Fmt.{parse-signed_decimal}
use Rattle.std.proofs.lemmas.Int.{to_z-of_z}
use Rattle.plank_trace.proofs.SameBytes.{one_value}
use Rattle.plank_trace.proofs.reading.key_in.Goals as goal

pub returns-in-Ok : goal.returns-in-Ok
returns-in-Ok c = λ k fits is.
    let parsed = parse-signed_decimal w64 k c.args.text.now c.parse.result fits fits.sfits is c.parse.ensures.value.0 in
    let same = one_value c.parse.result c.in-Ok.key k c.in-Ok.is parsed in
    ap (λ (z : ℤ). Some (to_z w64 (of_z w64 z))) same ∙ ap (λ (z : ℤ). Some z) (to_z-of_z w64 k fits)

pub returns-in-Err : goal.returns-in-Err
returns-in-Err c = λ k fits is.
    let parsed = parse-signed_decimal w64 k c.args.text.now c.parse.result fits fits.sfits is c.parse.ensures.value.0 in
    let was = c.in-Err.is in
    absurd (cc)
