-- The row has the place.
use Rattle.plank_fact.proofs.Rows.{place_in_row}
use Rattle.plank_fact.proofs.layouts.Layout.parts_of_row.Goals as goal

pub returns : goal.returns
returns c = λ place is.
    place_in_row c.args.self.now c.args.first c.second_count-count.result c.args.rest c.second_at.result place c.requires.first c.second_count-count.ensures.count c.requires.rest c.second_at.ensures is
