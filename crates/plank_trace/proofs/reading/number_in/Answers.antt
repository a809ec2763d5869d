-- The number that is written so is parsed.
use Rattle.std.proofs.Common.{arith}
use Rattle.std.proofs.lemmas.Fmt.{parse-decimal}
use Rattle.plank_trace.proofs.reading.number_in.Goals as goal

pub returns-in-Ok : goal.returns-in-Ok
returns-in-Ok c = λ n small is.
    let parsed = parse-decimal 8 n c.args.text.now c.parse.result (omega (arith, small)) (omega (arith, small)) is c.parse.ensures.value.0 in
    let was = c.in-Ok.is in
    cc

pub returns-in-Err : goal.returns-in-Err
returns-in-Err c = λ n small is.
    let parsed = parse-decimal 8 n c.args.text.now c.parse.result (omega (arith, small)) (omega (arith, small)) is c.parse.ensures.value.0 in
    let was = c.in-Err.is in
    absurd (cc)
