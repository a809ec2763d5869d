use Rattle.std.proofs.Common.{◌≡◌, ◌++◌, drop, map}
use Rattle.plank_rules.specs.Headers.{named_occurrence}
use Rattle.plank_rules.proofs.headers.named_conditions.Given as goal

-- the names so far, with those of the parts that are left, are those of all parts
abbrev pub invariant-loop-line : goal.invariant-loop-line
invariant-loop-line l =
    l.names.items ++ map named_occurrence (drop l.line-index l.lines) ≡ map named_occurrence l.lines
