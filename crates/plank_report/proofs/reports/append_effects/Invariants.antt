-- What is written and what is to come.
use Rattle.std.proofs.Common.{◌≡◌, ◌+◌, ◌++◌, drop}
use Rattle.plank_report.specs.Reports.{effects_from}
use Rattle.plank_report.proofs.reports.append_effects.Given as goal

abbrev pub invariant-loop-i : goal.invariant-loop-i
invariant-loop-i l =
    l.out.items ++ effects_from l.program (l.i + 1) (drop l.i l.effects) ≡ l.initial.out.items ++ effects_from l.program 1 l.effects
