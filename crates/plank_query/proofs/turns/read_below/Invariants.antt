use Rattle.std.proofs.Common.{◌≡◌, ◌≤◌}
use Rattle.plank_fact.specs.Effects.{read_below}
use Rattle.plank_query.proofs.turns.read_below.Given as goal

abbrev pub invariant-loop-earlier : goal.invariant-loop-earlier
invariant-loop-earlier l = (l.count ≤ l.earlier) × (l.count ≡ read_below l.block l.earlier)
