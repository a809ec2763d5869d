use Rattle.std.proofs.Common.{arith}
use Rattle.std.proofs.lemmas.Result.{err_from_is_err_and}
use Rattle.plank_parse.specs.Statements.{body}
use Rattle.plank_parse.proofs.Turns.{begun, one_more, no_more, no_turn, stops, deeper, at_zero}
use Rattle.plank_parse.proofs.statements.+statements.Goals as goal

pub body-returns-then-levels-eq0 : goal.body-returns-then-levels-eq0
unfolding body
body-returns-then-levels-eq0 t c = rw (at_zero (λ n. body n c.args.tokens.now) c.args.levels (omega arith)) c.blocked.ensures

pub body-returns : goal.body-returns
unfolding body
body-returns t c = rw (deeper (λ n. body n c.args.tokens.now) c.args.levels (omega arith)) c.braced.ensures

pub statements-loop-turn-init : goal.statements-loop-turn-init
statements-loop-turn-init t c = rw c.new-parts.ensures (begun _ _ c.args.tokens.now _ (omega arith))

pub statements-returns-then-not-goes_on_before : goal.statements-returns-then-not-goes_on_before
statements-returns-then-not-goes_on_before t c = no_more c.loop-turn.invariant cc

pub statements-returns-in_err-part : goal.statements-returns-in_err-part
statements-returns-in_err-part t c =
    let why = stops _ _ c.in_err-part.field-0.0 c.loop-turn.invariant (omega arith) (cc) c.in_err-part.ensures in
    let p = err_from_is_err_and c.from_residual.result c.from_residual.ensures.1 in
    rw (p.1, p.2) why

pub statements-loop-turn-preserved : goal.statements-loop-turn-preserved
statements-loop-turn-preserved t c =
    rw c.in_ok-push.ensures.ok (one_more _ _ c.loop-turn.invariant (omega arith) (cc) c.in_ok-part.ensures)

pub statements-returns : goal.statements-returns
statements-returns t c = no_turn _ _ c.loop-turn.invariant (omega arith)
