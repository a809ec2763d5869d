-- The laws of units.
use Rattle.plank_unit.proofs.More.{units_monotone}
use Rattle.plank_unit.proofs.UnitLaws.{units_closing, units_least, units_valid}
use Rattle.plank_unit.proofs.laws.units_law.Goals as goal

pub returns-clause-monotone : goal.returns-clause-monotone
returns-clause-monotone c = units_monotone

pub returns-clause-closing : goal.returns-clause-closing
returns-clause-closing c = units_closing

pub returns-clause-least : goal.returns-clause-least
returns-clause-least c = units_least

pub returns-clause-valid : goal.returns-clause-valid
returns-clause-valid c = units_valid
