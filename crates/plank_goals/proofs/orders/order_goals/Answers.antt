use Rattle.std.proofs.Common.{◌≡◌, [], refl, ap, ◌∙◌, arith}
use Rattle.plank_goals.specs.Lists.{gathered}
use Rattle.plank_goals.specs.Named.{orders_of}
use Rattle.plank_goals.proofs.Gathered.{none_gathered, one_gathered}
use Rattle.plank_goals.proofs.Said.{orders_said}
use Rattle.plank_goals.proofs.orders.order_goals.Goals as goal

pub loop-name-init : goal.loop-name-init
loop-name-init c = c.new-goals.ensures.items ∙ none_gathered (orders_of c.args.names c.len-pointers.result) []

pub loop-name-preserved : goal.loop-name-preserved
loop-name-preserved c =
    one_gathered (orders_of c.args.names c.len-pointers.result) c.loop-name.name [] c.loop-name.goals.items c.push_orders_of.new.goals.items (orders_of c.args.names c.len-pointers.result c.loop-name.name) c.loop-name.invariant refl c.in_ok-push_orders_of.ensures

pub returns : goal.returns
returns c =
    let near = c.loop-name.auto.name-end in
    let far = c.loop-name-test.false in
    let all : c.loop-name.name ≡ c.args.names = omega arith in
    orders_said c.args.program.now.header c.args.program.now.header_is_lawful c.args.names c.loop-name.goals.items
    (c.loop-name.invariant ∙ ap (gathered (orders_of c.args.names c.len-pointers.result)) all ∙ ap (λ f. gathered (orders_of c.args.names f) c.args.names) c.len-pointers.ensures)
