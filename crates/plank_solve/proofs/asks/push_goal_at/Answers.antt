-- Where there is no goal, nothing is asked.
use Rattle.std.proofs.Common.{◌+◌, [], ◌∷◌, ◌++◌, sym, ◌∙◌, ap}
use Rattle.std.specs.Option.{option_map_or}
use Rattle.std.proofs.lemmas.Bool.{ltb-false}
use Rattle.std.proofs.lemmas.List.{append-nil}
use Rattle.std.proofs.lemmas.Option.{slice_get_past}
use Rattle.plank_solve.specs.declared.asks.Ask.{Ask}
use Rattle.plank_solve.proofs.asks.push_goal_at.Goals as goal

pub returns-in-None : goal.returns-in-None
returns-in-None c =
    let none = slice_get_past c.args.goals.now c.args.number (ltb-false _ _ (sym c.in-None.ensures.lookup.0)) in
    sym (ap (λ o. c.args.asks.now.items ++ option_map_or (λ g. Ask.Reaches (c.args.first + c.args.number) g ∷ []) o []) none ∙ append-nil c.args.asks.now.items)
