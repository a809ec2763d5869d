-- What the search is told of the answer.
use Rattle.std.proofs.Common.{subst}
use Rattle.plank_walk.specs.Settles.{Settles}
use Rattle.plank_search.specs.Assignments.{value_at}
use Rattle.plank_solve.specs.Pictured.{holds_under}
use Rattle.plank_solve.specs.Rulings.{ruled}
use Rattle.plank_solve.proofs.ruling.RulingRules.look.Goals as goal

pub returns : goal.returns
returns c =
    c.look_of.ensures.told (ruled c.args.self.now c.args.constraint) c.args.values.now
    (subst (λ a. Settles (λ full. holds_under c.args.self.now.numbering.now c.args.self.now.situation full a) (value_at c.args.values.now) c.answer.result) c.ask.ensures c.answer.ensures)
