use Rattle.std.proofs.Common.{◌≡◌, ◌++◌, drop, map}
use Rattle.plank_rules.specs.Headers.{start_occurrence}
use Rattle.plank_rules.proofs.text_rules.start_names.Given as goal

-- the names so far, with those of the parts that are left, are those of all parts
abbrev pub invariant-loop-start : goal.invariant-loop-start
invariant-loop-start l =
    l.names.items ++ map start_occurrence (drop l.start-index l.starts) ≡ map start_occurrence l.starts
