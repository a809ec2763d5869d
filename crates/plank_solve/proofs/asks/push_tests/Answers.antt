-- The lists, one behind the other.
use Rattle.std.proofs.Common.{◌++◌, ◌∷◌, [], map, length, ◌∙◌, ap}
use Rattle.plank_lawful.specs.Lists.{joined, rules_of_possible}
use Rattle.plank_solve.specs.declared.asks.Ask.{Ask}
use Rattle.plank_solve.specs.Lists.{left_at}
use Rattle.plank_solve.proofs.Joins.{three_lists}
use Rattle.plank_solve.proofs.asks.push_tests.Goals as goal

pub returns : goal.returns
returns c =
    let F = c.args.source.now.numbering.now.frame in
    let parts = c.args.source.now.numbering.now.table.parts in
    three_lists c.args.asks.now.items _ _ _ (Ask.Runs ∷ Ask.Writes ∷ []) (map Ask.Possible (rules_of_possible F)) (joined (left_at F parts) (length parts))
    c.in_ok-push_runs.ensures
    (c.in_ok-push_possible.ensures ∙ ap (λ rs. c.push_runs.new.asks.items ++ map Ask.Possible rs) (c.as_slice.ensures.value ∙ c.in_ok-possible_rules.ensures))
    c.in_ok-push_left.ensures
