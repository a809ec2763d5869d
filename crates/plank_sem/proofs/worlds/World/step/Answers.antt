use Rattle.plank_sem.proofs.FitsKept.{fits_after}
use Rattle.plank_sem.proofs.worlds.World.step.Goals as goal

pub returns-clause-fits : goal.returns-clause-fits
returns-clause-fits c =
    let program = c.args.program.now in
    fits_after program.header program.methods program.methods_are_lawful c.args.self.now c.args.choice c.act.result c.act.new.self c.requires.fitting c.act.ensures.made c.act.ensures.err
