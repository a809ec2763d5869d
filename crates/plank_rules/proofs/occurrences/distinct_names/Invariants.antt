use Rattle.std.proofs.Common.{◌≡◌, drop}
use Rattle.std.specs.Prelude.{fold}
use Rattle.plank_rules.specs.Declarations.{with_name, distinct}
use Rattle.plank_rules.specs.Occurrences.{labels_of}
use Rattle.plank_rules.proofs.occurrences.distinct_names.Given as goal

-- the names so far, with those that are left, are those of the whole list
abbrev pub invariant-loop-occurrence : goal.invariant-loop-occurrence
invariant-loop-occurrence l =
    fold with_name l.names (labels_of (drop l.occurrence-index l.occurrences)) ≡ distinct (labels_of l.occurrences)
