-- The writes are there, and of the node that is named.
use Rattle.std.proofs.Common.{ℕ, Bool, sym, ◌∙◌, ap, arith}
use Rattle.plank_parts.specs.declared.sides.Side.{Side}
use Rattle.plank_parts.specs.Numbers.{picture_of}
use Rattle.plank_search.specs.Assignments.{value_at}
use Rattle.plank_query.specs.Situations.{turn_of_actor}
use Rattle.plank_step.specs.Turns.{change_over}
use Rattle.plank_reach.proofs.Moving.{settles_as}
use Rattle.plank_stay.specs.Stays.{stays_at}
use Rattle.plank_solve.specs.Asks.{stays_over}
use Rattle.plank_solve.proofs.Written.{some_stays}
use Rattle.plank_solve.proofs.views.Views.stays_over.Goals as goal

pub returns-in-len1-up : goal.returns-in-len1-up
returns-in-len1-up c =
    let F = c.args.self.numbering.now.frame in
    let turn = turn_of_actor c.args.turn.now in
    let writes = c.args.writes.now in
    let before = picture_of c.args.self.numbering.now Side.Before in
    let after = picture_of c.args.self.numbering.now Side.After in
    settles_as (λ full. stays_at F (before full) (after full) (change_over turn writes) c.written_name.result c.args.way)
    (λ full. stays_over F turn writes (before full) (after full) c.args.way)
    (value_at c.args.self.values.now) c.stays_at.result
    (λ full agrees.
    some_stays F turn writes (before full) (after full) c.args.way (omega (arith, c.in-len1-up.len_at_least))
    ∙ ap (λ at. stays_at F (before full) (after full) (change_over turn writes) at c.args.way) (sym c.written_name.ensures))
    c.stays_at.ensures
