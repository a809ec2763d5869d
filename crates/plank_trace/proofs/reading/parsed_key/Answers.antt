-- Digits and a sign are text.
use Rattle.std.proofs.Common.{sym, ◌∙◌, subst, IsUtf8}
use Rattle.std.specs.Fmt.{signed_decimal}
use Rattle.std.proofs.lemmas.Fmt.{IsAscii-signed}
use Rattle.std.proofs.lemmas.Str.{IsUtf8-from_ascii}
use Rattle.plank_trace.proofs.reading.parsed_key.Goals as goal

pub returns-in-Ok : goal.returns-in-Ok
returns-in-Ok c = λ k fits is. c.key_in.ensures k fits (c.in-Ok.ensures.cases.0 ∙ is)

pub returns-in-Err : goal.returns-in-Err
returns-in-Err c = λ k fits is.
    absurd (c.in-Err.ensures.cases.0 (subst IsUtf8 (sym is) (IsUtf8-from_ascii (signed_decimal k) (IsAscii-signed k fits.sfits))))
