-- The number is so far past the facts of the kinds that are done.
use Rattle.std.specs.Prelude.{◌≡◌, ◌+◌}
use Rattle.plank_fact.specs.Places.{facts_within}
use Rattle.plank_fact.proofs.tables.fact.Given as goal

abbrev pub invariant-loop-kind : goal.invariant-loop-kind
invariant-loop-kind l = l.number ≡ facts_within l.sizes l.kind-index + l.rest
