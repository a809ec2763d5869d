-- The law, by induction over the events.
use Rattle.plank_board.proofs.Keeps.{run_keeps}
use Rattle.plank_board.proofs.laws.rule_law.Goals as goal

pub returns : goal.returns
returns g c = λ seats words views few run.
    let N = g.N.Named in
    run_keeps N.methods N.words N.forces N.still N.monotone seats words views few run
