use Rattle.std.proofs.Common.{arith}
use Rattle.std.proofs.lemmas.Result.{err_from_is_err_and}
use Rattle.plank_parse.proofs.Turns.{begun, one_more, no_more, no_turn, stops}
use Rattle.plank_parse.proofs.lists.many_named.Goals as goal

pub loop-turn-init : goal.loop-turn-init
loop-turn-init g c = rw c.new-parts.ensures (begun _ _ c.args.tokens.now _ (omega arith))

pub returns-then-not-begins_with_name : goal.returns-then-not-begins_with_name
returns-then-not-begins_with_name g c = no_more c.loop-turn.invariant cc

pub returns-in_err-part : goal.returns-in_err-part
returns-in_err-part g c =
    let why = stops _ _ c.in_err-part.field-0.0 c.loop-turn.invariant (omega arith) (cc) c.in_err-part.ensures in
    let p = err_from_is_err_and c.from_residual.result c.from_residual.ensures.1 in
    rw (p.1, p.2) why

pub loop-turn-preserved : goal.loop-turn-preserved
loop-turn-preserved g c =
    rw c.in_ok-push.ensures.ok (one_more _ _ c.loop-turn.invariant (omega arith) (cc) c.in_ok-part.ensures)

pub returns : goal.returns
returns g c = no_turn _ _ c.loop-turn.invariant (omega arith)
