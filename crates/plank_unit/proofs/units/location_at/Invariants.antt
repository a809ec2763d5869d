-- The locations of the methods so far come before.
use Rattle.std.specs.Prelude.{◌≡◌, ◌-◌, ◌<◌, ◌≤◌, length}
use Rattle.plank_fact.specs.Outlines.{locations_before}
use Rattle.plank_unit.proofs.units.location_at.Given as goal

abbrev pub invariant-loop-before : goal.invariant-loop-before
invariant-loop-before l = record {
  before : l.before ≡ locations_before l.program.methods l.method;
  within : l.before ≤ l.number;
  there : l.method < length l.program.methods;
}

abbrev pub decreases-loop-before : goal.decreases-loop-before
decreases-loop-before l = length l.program.methods - l.method
