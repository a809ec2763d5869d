use Rattle.std.specs.Prelude.{◌≡◌}
use Rattle.plank_fact.specs.Outlines.{locations_before}
use Rattle.plank_marks.proofs.marking.locations_before.Given as goal

abbrev pub invariant-loop-before : goal.invariant-loop-before
invariant-loop-before l = l.count ≡ locations_before l.program.methods l.before
