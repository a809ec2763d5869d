use Rattle.std.proofs.Common.{◌≡◌, ◌++◌}
use Rattle.plank_lawful.specs.Lists.{joined, rules_by_third}
use Rattle.plank_lawful.proofs.listing.push_by_second.Given as goal

-- so far the rules of the second indexes below
abbrev pub invariant-loop-second : goal.invariant-loop-second
invariant-loop-second g l = l.rules.items ≡ l.fn.rules.items ++ joined (rules_by_third (g.S.Reader.frame l.source) l.family l.first) l.second
