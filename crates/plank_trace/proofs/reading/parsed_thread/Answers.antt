-- Digits are text.
use Rattle.std.proofs.Common.{sym, ◌∙◌, subst, arith, IsUtf8}
use Rattle.std.specs.Fmt.{decimal}
use Rattle.std.proofs.lemmas.Fmt.{IsAscii-decimal}
use Rattle.std.proofs.lemmas.Str.{IsUtf8-from_ascii}
use Rattle.plank_trace.proofs.reading.parsed_thread.Goals as goal

pub returns-in-Ok : goal.returns-in-Ok
returns-in-Ok c = λ n small is. c.number_in.ensures n small (c.in-Ok.ensures.cases.0 ∙ is)

pub returns-in-Err : goal.returns-in-Err
returns-in-Err c = λ n small is.
    absurd (c.in-Err.ensures.cases.0 (subst IsUtf8 (sym is) (IsUtf8-from_ascii (decimal n) (IsAscii-decimal n (omega (arith, small))))))
