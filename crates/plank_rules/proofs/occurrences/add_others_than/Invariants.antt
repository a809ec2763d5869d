use Rattle.std.proofs.Common.{◌≡◌, drop}
use Rattle.plank_rules.specs.Occurrences.{others_than}
use Rattle.plank_rules.specs.Faults.{after}
use Rattle.plank_rules.proofs.occurrences.add_others_than.Given as goal

-- the names so far, with those that are left, are those of the whole list
abbrev pub invariant-loop-occurrence : goal.invariant-loop-occurrence
invariant-loop-occurrence l =
    after l.found.first (others_than l.label (drop l.occurrence-index l.occurrences))
    ≡ after l.fn.found.first (others_than l.label l.occurrences)
