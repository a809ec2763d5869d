use Rattle.std.proofs.Common.{ap}
use Rattle.plank_goals.specs.Spots.{spot_at}
use Rattle.plank_goals.specs.Hidden.{spot_goals}
use Rattle.plank_goals.proofs.Gathered.{none_gathered, one_gathered}
use Rattle.plank_goals.proofs.chains.push_spots.Goals as goal

pub loop-number-init : goal.loop-number-init
loop-number-init c = none_gathered (λ n. spot_goals c.args.program.now.header c.first_order-order.result c.args.names (spot_at n)) c.args.goals.now.items

pub loop-number-preserved : goal.loop-number-preserved
loop-number-preserved c =
    one_gathered (λ n. spot_goals c.args.program.now.header c.first_order-order.result c.args.names (spot_at n)) c.loop-number.number c.args.goals.now.items c.loop-number.goals.items c.push_spot.new.goals.items
    (spot_goals c.args.program.now.header c.first_order-order.result c.args.names c.spot_at.result) c.loop-number.invariant
    (ap (λ s. spot_goals c.args.program.now.header c.first_order-order.result c.args.names s) c.spot_at.ensures) c.in_ok-push_spot.ensures
