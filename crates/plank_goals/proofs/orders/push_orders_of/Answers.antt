use Rattle.std.proofs.Common.{refl}
use Rattle.plank_goals.specs.Named.{orders_to}
use Rattle.plank_goals.proofs.Gathered.{none_gathered, one_gathered}
use Rattle.plank_goals.proofs.orders.push_orders_of.Goals as goal

pub loop-pointer-init : goal.loop-pointer-init
loop-pointer-init c = none_gathered (orders_to c.args.names c.args.name) c.args.goals.now.items

pub loop-pointer-preserved : goal.loop-pointer-preserved
loop-pointer-preserved c =
    one_gathered (orders_to c.args.names c.args.name) c.loop-pointer.pointer c.args.goals.now.items c.loop-pointer.goals.items c.push_orders_to.new.goals.items (orders_to c.args.names c.args.name c.loop-pointer.pointer) c.loop-pointer.invariant refl c.in_ok-push_orders_to.ensures
