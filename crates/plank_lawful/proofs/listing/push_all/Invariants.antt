use Rattle.std.proofs.Common.{◌≡◌, ◌++◌, drop}
use Rattle.plank_lawful.specs.Lists.{rules_of_all}
use Rattle.plank_lawful.proofs.listing.push_all.Given as goal

-- the rules so far, with those of the families that are left, are those of all
abbrev pub invariant-loop-family : goal.invariant-loop-family
invariant-loop-family g l = l.rules.items ++ rules_of_all (g.S.Reader.frame l.source) (drop l.family-index l.families) ≡ l.fn.rules.items ++ rules_of_all (g.S.Reader.frame l.source) l.families
