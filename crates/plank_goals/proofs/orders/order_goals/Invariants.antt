-- The goals of the names so far are listed.
use Rattle.std.specs.Prelude.{◌≡◌}
use Rattle.plank_goals.specs.Lists.{gathered}
use Rattle.plank_goals.specs.Named.{orders_of}
use Rattle.plank_goals.proofs.orders.order_goals.Given as goal

abbrev pub invariant-loop-name : goal.invariant-loop-name
invariant-loop-name l = l.goals.items ≡ gathered (orders_of l.names l.pointers) l.name
