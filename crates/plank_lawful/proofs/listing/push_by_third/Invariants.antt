use Rattle.std.proofs.Common.{◌≡◌, ◌++◌}
use Rattle.plank_lawful.specs.Lists.{joined, rule_alone}
use Rattle.plank_lawful.proofs.listing.push_by_third.Given as goal

-- so far the rules of the third indexes below
abbrev pub invariant-loop-third : goal.invariant-loop-third
invariant-loop-third g l = l.rules.items ≡ l.fn.rules.items ++ joined (rule_alone l.family l.first l.second) l.third
