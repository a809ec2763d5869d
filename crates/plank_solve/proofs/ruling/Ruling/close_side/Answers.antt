-- What is met has both pictures.
use Rattle.plank_close.proofs.Stronger.{stronger}
use Rattle.plank_solve.proofs.Rounds.{both_shown}
use Rattle.plank_solve.proofs.ruling.Ruling.close_side.Goals as goal

pub returns : goal.returns
returns c = stronger c.args.values.now c.close.new.values c.close.result (λ full rules. both_shown c.args.self.now full rules c.args.side) c.close.ensures
