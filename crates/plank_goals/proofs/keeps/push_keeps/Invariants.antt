-- The goals so far are added.
use Rattle.std.specs.Prelude.{◌≡◌, ◌++◌}
use Rattle.plank_goals.specs.Lists.{gathered}
use Rattle.plank_goals.specs.Named.{keeps_of}
use Rattle.plank_goals.proofs.keeps.push_keeps.Given as goal

abbrev pub invariant-loop-name : goal.invariant-loop-name
invariant-loop-name l = l.goals.items ≡ l.initial.goals.items ++ gathered (keeps_of l.keeps) l.name
