-- The goals so far are added.
use Rattle.std.specs.Prelude.{◌≡◌, ◌++◌, ◌∷◌, []}
use Rattle.plank_goals.specs.Lists.{gathered}
use Rattle.plank_goals.specs.Named.{order_goal}
use Rattle.plank_goals.proofs.orders.push_orders_to.Given as goal

abbrev pub invariant-loop-to : goal.invariant-loop-to
invariant-loop-to l = l.goals.items ≡ l.initial.goals.items ++ gathered (λ j. order_goal l.name l.pointer j ∷ []) l.to
