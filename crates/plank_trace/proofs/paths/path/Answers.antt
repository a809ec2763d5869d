-- The path goes on, or is whole.
use Rattle.std.proofs.Common.{◌≡◌, ◌∙◌, ◌+◌, ◌-◌, ◌==◌, ℤ, ℕ, true, false, List, length, Option, sym, ap, subst, arith, rules, to_z, of_z, w64, SFits}
use Rattle.std.specs.Option.{option_map}
use Rattle.std.specs.List.{list_any}
use Rattle.std.proofs.lemmas.Int.{to_z-of_z}
use Rattle.plank_base.specs.declared.keys.NodeId.{NodeId}
use Rattle.plank_heap.specs.Walks.{next}
use Rattle.plank_heap.proofs.Walking.{walk_stays}
use Rattle.plank_trace.specs.Paths.{path_from, path_of}
use Rattle.plank_trace.proofs.Pathing.{path_met, path_ends, path_goes_on}
use Rattle.plank_trace.proofs.paths.path.Goals as goal

pub returns-then-is_among : goal.returns-then-is_among
returns-then-is_among c =
    let h = c.args.program.now.header in
    let heap = c.args.heap.now in
    let fits : SFits w64 c.args.j = search rules in
    let met : list_any (λ (y : NodeId). y.0 == c.loop-turn.at.0) c.loop-turn.nodes.items ≡ true = ap (λ (ns : List NodeId). list_any (λ (y : NodeId). y.0 == c.loop-turn.at.0) ns) (sym c.as_slice.ensures.value) ∙ sym c.is_among.ensures ∙ c.if-is_among.true in
    subst (λ (k : ℤ). c.loop-turn.nodes.items ≡ path_of h heap k) (to_z-of_z w64 c.args.j fits)
    (sym (path_met (next h heap (to_z w64 (of_z w64 c.args.j))) c.loop-turn.nodes.items (length heap.nodes - c.loop-turn._turn) c.loop-turn.at (omega arith) met)
    ∙ c.loop-turn.invariant.path)

pub returns-in-None : goal.returns-in-None
returns-in-None c =
    let h = c.args.program.now.header in
    let heap = c.args.heap.now in
    let j = to_z w64 (of_z w64 c.args.j) in
    let number : Option NodeId → Option ℕ = option_map (λ (x : NodeId). x.0) in
    let fits : SFits w64 c.args.j = search rules in
    let new : list_any (λ (y : NodeId). y.0 == c.loop-turn.at.0) c.loop-turn.nodes.items ≡ false = ap (λ (ns : List NodeId). list_any (λ (y : NodeId). y.0 == c.loop-turn.at.0) ns) (sym c.as_slice.ensures.value) ∙ sym c.is_among.ensures ∙ c.if-is_among.false in
    subst (λ (k : ℤ). c.push.new.self.items ≡ path_of h heap k) (to_z-of_z w64 c.args.j fits)
    (c.in_ok-push.ensures.items
    ∙ sym (path_ends (next h heap j) c.loop-turn.nodes.items (length heap.nodes - c.loop-turn._turn) c.loop-turn.at (omega arith) new (sym c.next.ensures ∙ ap number c.in-None.is))
    ∙ c.loop-turn.invariant.path)

pub loop-turn-preserved : goal.loop-turn-preserved
loop-turn-preserved c =
    let h = c.args.program.now.header in
    let heap = c.args.heap.now in
    let j = to_z w64 (of_z w64 c.args.j) in
    let number : Option NodeId → Option ℕ = option_map (λ (x : NodeId). x.0) in
    let new : list_any (λ (y : NodeId). y.0 == c.loop-turn.at.0) c.loop-turn.nodes.items ≡ false = ap (λ (ns : List NodeId). list_any (λ (y : NodeId). y.0 == c.loop-turn.at.0) ns) (sym c.as_slice.ensures.value) ∙ sym c.is_among.ensures ∙ c.if-is_among.false in
    let step : next h heap j c.loop-turn.at.0 ≡ _ = sym c.next.ensures ∙ ap number c.in-Some.is in
    record {
      within = walk_stays h heap j c.requires c.loop-turn.at.0 c.in-Some.to.0 c.loop-turn.invariant.within step;
      path =
          ap (λ ms. path_from (next h heap j) ms (length heap.nodes - (c.loop-turn._turn + 1)) c.in-Some.to) c.in_ok-push.ensures.items
          ∙ sym (path_goes_on (next h heap j) c.loop-turn.nodes.items (length heap.nodes) c.loop-turn._turn c.loop-turn.at c.in-Some.to (omega arith) new step)
          ∙ c.loop-turn.invariant.path;
    }

pub returns : goal.returns
returns c =
    let h = c.args.program.now.header in
    let heap = c.args.heap.now in
    let j = to_z w64 (of_z w64 c.args.j) in
    let fits : SFits w64 c.args.j = search rules in
    let none_left : length heap.nodes - c.loop-turn._turn ≡ 0 = omega arith in
    subst (λ (k : ℤ). c.loop-turn.nodes.items ≡ path_of h heap k) (to_z-of_z w64 c.args.j fits)
    (sym (ap (λ n. path_from (next h heap j) c.loop-turn.nodes.items n c.loop-turn.at) none_left) ∙ c.loop-turn.invariant.path)
