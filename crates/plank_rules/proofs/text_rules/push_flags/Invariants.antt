use Rattle.std.proofs.Common.{◌≡◌, ◌++◌, drop, map}
use Rattle.plank_rules.specs.Headers.{flag_occurrence}
use Rattle.plank_rules.proofs.text_rules.push_flags.Given as goal

-- the names so far, with those of the parts that are left, are those of all parts
abbrev pub invariant-loop-flag : goal.invariant-loop-flag
invariant-loop-flag l =
    l.names.items ++ map flag_occurrence (drop l.flag-index l.flags) ≡ l.fn.names.items ++ map flag_occurrence l.flags
