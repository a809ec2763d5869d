-- The goals so far are added.
use Rattle.std.specs.Prelude.{◌≡◌, ◌++◌}
use Rattle.plank_goals.specs.Lists.{gathered}
use Rattle.plank_goals.specs.Named.{orders_to}
use Rattle.plank_goals.proofs.orders.push_orders_of.Given as goal

abbrev pub invariant-loop-pointer : goal.invariant-loop-pointer
invariant-loop-pointer l = l.goals.items ≡ l.initial.goals.items ++ gathered (orders_to l.names l.name) l.pointer
