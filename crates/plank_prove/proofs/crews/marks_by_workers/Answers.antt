-- By the laws of units.
use Rattle.plank_bits.specs.Words.{has}
use Rattle.plank_prove.proofs.crews.marks_by_workers.Goals as goal

pub returns-clause-least : goal.returns-clause-least
returns-clause-least g c =
    let p = g.D.Deciding.program c.args.deciding.now in
    c.units_law.ensures.least p.header p.methods (has c.in_ok-marks.marks) c.in_ok-marks.ensures.least

pub returns-clause-valid : goal.returns-clause-valid
returns-clause-valid g c =
    let p = g.D.Deciding.program c.args.deciding.now in
    c.units_law.ensures.valid p.header p.methods (has c.in_ok-marks.marks) c.in_ok-marks.ensures.still
