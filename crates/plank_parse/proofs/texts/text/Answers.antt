use Rattle.std.proofs.lemmas.Result.{err_from_is_err_and}
use Rattle.plank_parse.specs.Texts.{text}
use Rattle.plank_parse.proofs.Turns.{stops_first}
use Rattle.plank_parse.proofs.texts.text.Goals as goal

pub returns-in_err-rest : goal.returns-in_err-rest
unfolding text
returns-in_err-rest c =
    let p = err_from_is_err_and c.from_residual-in_err-rest.result c.from_residual-in_err-rest.ensures.1 in
    rw (p.1, p.2, c.in_ok-declarations.ensures, c.in_ok-conditions.ensures, c.in_ok-methods.ensures)
    (stops_first c.in_err-rest.field-0.0 _ _ c.in_err-rest.ensures)
