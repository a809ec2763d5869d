use Rattle.std.proofs.Common.{◌≡◌, ◌++◌}
use Rattle.plank_lawful.specs.Lists.{joined, rules_by_second}
use Rattle.plank_lawful.proofs.listing.push_rules.Given as goal

-- so far the rules of the first indexes below
abbrev pub invariant-loop-first : goal.invariant-loop-first
invariant-loop-first g l = l.rules.items ≡ l.fn.rules.items ++ joined (rules_by_second (g.S.Reader.frame l.source) l.family) l.first
