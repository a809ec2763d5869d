-- One more turn: the post tells something new, and the next method is behind.
use Rattle.std.proofs.Common.{◌+◌, ◌<◌, arith}
use Rattle.plank_crew.proofs.Known.{most_runs, run_in_bound, next_turn}
use Rattle.plank_crew.proofs.workers.work.Goals as goal

pub returns-in_err-found-clause-steps : goal.returns-in_err-found-clause-steps
returns-in_err-found-clause-steps g c =
    let N = g.N.Named in
    omega (arith, run_in_bound N.methods N.words N.forces _ _ _ _ _ _ _ c.loop-turns.invariant, c.force.ensures.step)

pub returns-in-None-clause-kept : goal.returns-in-None-clause-kept
returns-in-None-clause-kept g c = λ k e.
    c.next_method.ensures.more.marks k (c.post.ensures.kept k (c.loop-turns.invariant.kept k e))

pub returns-in-None-clause-steps : goal.returns-in-None-clause-steps
returns-in-None-clause-steps g c =
    let N = g.N.Named in
    omega (arith, run_in_bound N.methods N.words N.forces _ _ _ _ _ _ _ c.loop-turns.invariant, c.force.ensures.step)

pub loop-turns-smaller : goal.loop-turns-smaller
loop-turns-smaller g c =
    let N = g.N.Named in
    let bound : c.loop-turns.steps < c.args.steps.now + most_runs N.methods N.words = run_in_bound N.methods N.words N.forces _ _ _ _ _ _ _ c.loop-turns.invariant in
    omega (arith, bound, c.loop-turns.invariant.since, c.force.ensures.step)

pub loop-turns-preserved : goal.loop-turns-preserved
loop-turns-preserved g c =
    let N = g.N.Named in
    next_turn N.methods N.words N.forces _ c.loop-turns.seat c.post.new.seat _ c.in_ok-found.found c.loop-turns.look _ c.post.result _ _ _ _ _ _ c.loop-turns.invariant c.force.ensures.step c.post.ensures.seat (record { marks = c.post.ensures.kept; noted = c.post.ensures.noted }) c.post.ensures.settled c.post.ensures.told c.post.ensures.seen c.next_method.ensures.seat c.next_method.ensures.more c.choose-m.ensures c.in-Some.ensures.looked
