-- The goals so far are added.
use Rattle.std.specs.Prelude.{◌≡◌, ◌++◌, ◌∷◌, []}
use Rattle.plank_goals.specs.Lists.{gathered}
use Rattle.plank_goals.specs.Named.{keep_goal}
use Rattle.plank_goals.proofs.keeps.push_keeps_of.Given as goal

abbrev pub invariant-loop-keep : goal.invariant-loop-keep
invariant-loop-keep l = l.goals.items ≡ l.initial.goals.items ++ gathered (λ n. keep_goal l.name n ∷ []) l.keep
