use Rattle.std.proofs.Common.{◌≡◌, false, pos}
use Rattle.plank_pic.specs.Below.{some_below}
use Rattle.plank_fact.specs.Start.{breaks_rules}
use Rattle.plank_start.proofs.heaps.some_breaks_rules.Given as goal

abbrev pub invariant-loop-x : goal.invariant-loop-x
invariant-loop-x l = some_below (breaks_rules l.program.header l.heap (pos 0)) l.x ≡ false
