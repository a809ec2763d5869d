use Rattle.std.proofs.Common.{◌≡◌, ◌++◌, map, drop}
use Rattle.plank_past.specs.Refuting.{refuting}
use Rattle.plank_past.proofs.past.goals_of.Given as goal

-- the goals so far and those of what is left make all
abbrev pub invariant-loop-conclusion : goal.invariant-loop-conclusion
invariant-loop-conclusion l = l.goals.items ++ map refuting (drop l.conclusion-index l.conclusions) ≡ map refuting l.conclusions
