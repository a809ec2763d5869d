use Rattle.std.proofs.Common.{refl}
use Rattle.plank_goals.specs.Named.{keeps_of}
use Rattle.plank_goals.proofs.Gathered.{none_gathered, one_gathered}
use Rattle.plank_goals.proofs.keeps.push_keeps.Goals as goal

pub loop-name-init : goal.loop-name-init
loop-name-init c = none_gathered (keeps_of c.args.keeps) c.args.goals.now.items

pub loop-name-preserved : goal.loop-name-preserved
loop-name-preserved c =
    one_gathered (keeps_of c.args.keeps) c.loop-name.name c.args.goals.now.items c.loop-name.goals.items c.push_keeps_of.new.goals.items (keeps_of c.args.keeps c.loop-name.name) c.loop-name.invariant refl c.in_ok-push_keeps_of.ensures
