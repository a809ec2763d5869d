use Rattle.std.proofs.Common.{arith}
use Rattle.std.proofs.lemmas.Result.{err_from_is_err_and}
use Rattle.plank_parse.specs.Conditions.{group}
use Rattle.plank_parse.proofs.Turns.{begun, one_more, no_more, no_turn, stops, deeper, at_zero}
use Rattle.plank_parse.proofs.conditions.+conditions.Goals as goal

pub group-returns-then-levels-eq0 : goal.group-returns-then-levels-eq0
unfolding group
group-returns-then-levels-eq0 t c = rw (at_zero (λ n. group n c.args.tokens.now) c.args.levels (omega arith)) c.blocked.ensures

pub group-returns : goal.group-returns
unfolding group
group-returns t c = rw (deeper (λ n. group n c.args.tokens.now) c.args.levels (omega arith)) c.grouped.ensures

pub more_conjunctions-loop-turn-init : goal.more_conjunctions-loop-turn-init
more_conjunctions-loop-turn-init t c = rw c.new-parts.ensures (begun _ _ c.args.tokens.now _ (omega arith))

pub more_conjunctions-returns-then-not-begins_with_symbol : goal.more_conjunctions-returns-then-not-begins_with_symbol
more_conjunctions-returns-then-not-begins_with_symbol t c = no_more c.loop-turn.invariant cc

pub more_conjunctions-returns-in_err-part : goal.more_conjunctions-returns-in_err-part
more_conjunctions-returns-in_err-part t c =
    let why = stops _ _ c.in_err-part.field-0.0 c.loop-turn.invariant (omega arith) (cc) c.in_err-part.ensures in
    let p = err_from_is_err_and c.from_residual.result c.from_residual.ensures.1 in
    rw (p.1, p.2) why

pub more_conjunctions-loop-turn-preserved : goal.more_conjunctions-loop-turn-preserved
more_conjunctions-loop-turn-preserved t c =
    rw c.in_ok-push.ensures.ok (one_more _ _ c.loop-turn.invariant (omega arith) (cc) c.in_ok-part.ensures)

pub more_conjunctions-returns : goal.more_conjunctions-returns
more_conjunctions-returns t c = no_turn _ _ c.loop-turn.invariant (omega arith)

pub more_literals-loop-turn-init : goal.more_literals-loop-turn-init
more_literals-loop-turn-init t c = rw c.new-parts.ensures (begun _ _ c.args.tokens.now _ (omega arith))

pub more_literals-returns-then-not-begins_with_symbol : goal.more_literals-returns-then-not-begins_with_symbol
more_literals-returns-then-not-begins_with_symbol t c = no_more c.loop-turn.invariant cc

pub more_literals-returns-in_err-part : goal.more_literals-returns-in_err-part
more_literals-returns-in_err-part t c =
    let why = stops _ _ c.in_err-part.field-0.0 c.loop-turn.invariant (omega arith) (cc) c.in_err-part.ensures in
    let p = err_from_is_err_and c.from_residual.result c.from_residual.ensures.1 in
    rw (p.1, p.2) why

pub more_literals-loop-turn-preserved : goal.more_literals-loop-turn-preserved
more_literals-loop-turn-preserved t c =
    rw c.in_ok-push.ensures.ok (one_more _ _ c.loop-turn.invariant (omega arith) (cc) c.in_ok-part.ensures)

pub more_literals-returns : goal.more_literals-returns
more_literals-returns t c = no_turn _ _ c.loop-turn.invariant (omega arith)
