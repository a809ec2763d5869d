use Rattle.std.proofs.Common.{arith, suc}
use Rattle.plank_past.proofs.Refuted.{few_names}
use Rattle.plank_past.proofs.past.effect_of.Goals as goal

pub returns-clause-few : goal.returns-clause-few
returns-clause-few c = few_names c.args.turn.action.now (suc c.args.turn.variables) c.args.turn.others c.args.turn.few (let fits = c.fits_a_byte.ensures in omega arith)
