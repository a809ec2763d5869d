-- What is counted so far, and that it is little.
use Rattle.std.specs.Prelude.{◌≡◌, ◌*◌, ◌≤◌}
use Rattle.plank_fact.specs.Places.{start}
use Rattle.plank_fact.proofs.layouts.Layout.start.Given as goal

abbrev pub invariant-loop-before : goal.invariant-loop-before
invariant-loop-before l = record { counted : l.count ≡ start l.self l.before; few : l.count ≤ l.before * 65536 }
