use Rattle.plank_sem.proofs.FitsKept.{start_fits}
use Rattle.plank_sem.proofs.worlds.World.start.Goals as goal

pub returns-clause-fits : goal.returns-clause-fits
returns-clause-fits c =
    start_fits c.args.program.now.methods c.in_ok-start.field-0 c.new.result c.in_ok-start.ensures.closed c.new.ensures
