use Rattle.std.specs.Prelude.{◌∷◌, []}
use Rattle.std.proofs.Common.{ap}
use Rattle.plank_goals.specs.Named.{order_goal}
use Rattle.plank_goals.proofs.Gathered.{none_gathered, one_gathered}
use Rattle.plank_goals.proofs.orders.push_orders_to.Goals as goal

pub loop-to-init : goal.loop-to-init
loop-to-init c = none_gathered (λ j. order_goal c.args.name c.args.pointer j ∷ []) c.args.goals.now.items

pub loop-to-preserved : goal.loop-to-preserved
loop-to-preserved c =
    one_gathered (λ j. order_goal c.args.name c.args.pointer j ∷ []) c.loop-to.to c.args.goals.now.items c.loop-to.goals.items c.push.new.goals.items (c.order_goal.result ∷ []) c.loop-to.invariant (ap (λ g. g ∷ []) c.order_goal.ensures) c.in_ok-push.ensures
