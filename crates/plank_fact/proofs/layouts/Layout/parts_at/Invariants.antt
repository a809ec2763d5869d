-- The place is so far past the facts with the first names that are done.
use Rattle.std.specs.Prelude.{◌≡◌, ◌+◌}
use Rattle.plank_fact.specs.Places.{start}
use Rattle.plank_fact.proofs.layouts.Layout.parts_at.Given as goal

abbrev pub invariant-loop-first : goal.invariant-loop-first
invariant-loop-first l = l.place ≡ start l.self l.first + l.rest
