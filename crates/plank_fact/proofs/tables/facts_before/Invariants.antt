-- What is counted so far, and that it is little.
use Rattle.std.specs.Prelude.{◌≡◌, ◌*◌, ◌^◌, ◌≤◌, take, sum_by}
use Rattle.plank_fact.specs.Places.{layout_of, size_of}
use Rattle.plank_fact.proofs.tables.facts_before.Given as goal

abbrev pub invariant-loop-earlier : goal.invariant-loop-earlier
invariant-loop-earlier l = record {
  counted : l.count ≡ sum_by (λ k. size_of (layout_of l.sizes k)) (take l.earlier-index l.earlier-items);
  few : l.count ≤ l.earlier-index * 2 ^ 24;
}
