use Rattle.std.proofs.Common.{◌≡◌, drop}
use Rattle.plank_rules.specs.Occurrences.{repeats, repeats_after}
use Rattle.plank_rules.specs.Faults.{after}
use Rattle.plank_rules.proofs.occurrences.add_repeats.Given as goal

-- the repetitions so far, with those that are left, are those of the whole list
abbrev pub invariant-loop-occurrence : goal.invariant-loop-occurrence
invariant-loop-occurrence l =
    after l.found.first (repeats_after l.names (drop l.occurrence-index l.occurrences))
    ≡ after l.fn.found.first (repeats l.occurrences)
