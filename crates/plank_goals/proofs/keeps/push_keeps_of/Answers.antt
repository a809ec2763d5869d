use Rattle.std.specs.Prelude.{◌∷◌, []}
use Rattle.std.proofs.Common.{ap}
use Rattle.plank_goals.specs.Named.{keep_goal}
use Rattle.plank_goals.proofs.Gathered.{none_gathered, one_gathered}
use Rattle.plank_goals.proofs.keeps.push_keeps_of.Goals as goal

pub loop-keep-init : goal.loop-keep-init
loop-keep-init c = none_gathered (λ n. keep_goal c.args.name n ∷ []) c.args.goals.now.items

pub loop-keep-preserved : goal.loop-keep-preserved
loop-keep-preserved c =
    one_gathered (λ n. keep_goal c.args.name n ∷ []) c.loop-keep.keep c.args.goals.now.items c.loop-keep.goals.items c.push.new.goals.items (c.keep_goal.result ∷ []) c.loop-keep.invariant (ap (λ g. g ∷ []) c.keep_goal.ensures) c.in_ok-push.ensures
