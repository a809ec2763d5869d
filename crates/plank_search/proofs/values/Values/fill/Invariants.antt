-- What is filled so far, and what is left, make the whole.
use Rattle.std.proofs.Common.{◌≡◌, map, take, false, unwrap_or}
use Rattle.plank_search.proofs.values.Values.fill.Given as goal

abbrev pub invariant-loop-value : goal.invariant-loop-value
invariant-loop-value l = l.full.items ≡ map (λ value. unwrap_or value false) (take l.value-index l.value-items)
