use Rattle.std.proofs.Common.{◌≡◌, ◌∙◌, ◌-◌, ◌==◌, ℤ, ℕ, Bool, true, false, length, Option, None, IsTrue, ◌↔◌, sym, ap, subst, arith, rules, to_z, of_z, w64, SFits}
use Rattle.std.specs.Option.{option_map}
use Rattle.std.proofs.lemmas.Int.{to_z-of_z}
use Rattle.plank_base.specs.Paths.{meets_within}
use Rattle.plank_base.specs.declared.keys.NodeId.{NodeId}
use Rattle.plank_base.proofs.PathCounts.{meets_decides}
use Rattle.plank_heap.specs.Walks.{next, walk_visits, WalkVisits}
use Rattle.plank_prog.specs.declared.headers.Header.{Header}
use Rattle.plank_heap.specs.declared.heaps.Heap.{Heap}
use Rattle.plank_heap.proofs.Walking.{walk_undefined, walk_stays, met_on, met_never, met_here}
use Rattle.plank_heap.proofs.heaps.Heap.visits.Goals as goal
use Rattle.plank_heap.proofs.heaps.Heap.visits.Goals.{In-None}

-- what is answered is the test, and so is exactly whether the node is visited
exactly : (h : Header) (heap : Heap) (j : ℤ) (x : ℕ) (b : Bool) → b ≡ walk_visits h heap j x → IsTrue b ↔ WalkVisits h heap j x
exactly h heap j x b same =
    let decides = meets_decides heap.root.0 x (walk_undefined h heap j) in
    (λ e. decides.0 (sym same ∙ e), λ v. same ∙ decides.1 v)

pub returns-then-at-x-clause-test : goal.returns-then-at-x-clause-test
returns-then-at-x-clause-test c =
    let h = c.args.program.now.header in
    let heap = c.args.self.now in
    let fits : SFits w64 c.args.j = search rules in
    subst (λ (k : ℤ). true ≡ walk_visits h heap k c.args.x.0) (to_z-of_z w64 c.args.j fits)
    (sym (met_here (next h heap (to_z w64 (of_z w64 c.args.j))) (length heap.nodes - c.loop-move._move) c.loop-move.at.0 c.args.x.0 c.if-at-x.true)
    ∙ c.loop-move.invariant.rest)

pub returns-then-at-x-clause-exact : goal.returns-then-at-x-clause-exact
returns-then-at-x-clause-exact c =
    exactly c.args.program.now.header c.args.self.now c.args.j c.args.x.0 true (returns-then-at-x-clause-test c)

-- the walk ends before the node
not_met : (c : In-None) → false ≡ walk_visits c.args.program.now.header c.args.self.now c.args.j c.args.x.0
not_met c =
    let h = c.args.program.now.header in
    let heap = c.args.self.now in
    let j = to_z w64 (of_z w64 c.args.j) in
    let number : Option NodeId → Option ℕ = option_map (λ (x : NodeId). x.0) in
    let fits : SFits w64 c.args.j = search rules in
    subst (λ (k : ℤ). false ≡ walk_visits h heap k c.args.x.0) (to_z-of_z w64 c.args.j fits)
    (sym (met_never (next h heap j) (length heap.nodes) c.loop-move._move (omega arith) c.loop-move.at.0 c.args.x.0 c.if-at-x.false
    (sym c.next.ensures ∙ ap number c.in-None.is))
    ∙ c.loop-move.invariant.rest)

pub returns-in-None-clause-exact : goal.returns-in-None-clause-exact
returns-in-None-clause-exact c = exactly c.args.program.now.header c.args.self.now c.args.j c.args.x.0 false (not_met c)

pub returns-in-None-clause-test : goal.returns-in-None-clause-test
returns-in-None-clause-test c = not_met c

pub loop-move-preserved : goal.loop-move-preserved
loop-move-preserved c =
    let h = c.args.program.now.header in
    let heap = c.args.self.now in
    let j = to_z w64 (of_z w64 c.args.j) in
    let number : Option NodeId → Option ℕ = option_map (λ (x : NodeId). x.0) in
    let step : next h heap j c.loop-move.at.0 ≡ _ = sym c.next.ensures ∙ ap number c.in-Some.is in
    record {
      inside = walk_stays h heap j c.requires c.loop-move.at.0 c.in-Some.to.0 c.loop-move.invariant.inside step;
      rest =
          sym (met_on (next h heap j) (length heap.nodes) c.loop-move._move (omega arith) c.loop-move.at.0 c.args.x.0 c.in-Some.to.0 c.if-at-x.false step)
          ∙ c.loop-move.invariant.rest;
    }

pub returns-clause-test : goal.returns-clause-test
returns-clause-test c =
    let h = c.args.program.now.header in
    let heap = c.args.self.now in
    let j = to_z w64 (of_z w64 c.args.j) in
    let fits : SFits w64 c.args.j = search rules in
    let none_left : length heap.nodes - c.loop-move._move ≡ 0 = omega arith in
    subst (λ (k : ℤ). (c.loop-move.at.0 == c.args.x.0) ≡ walk_visits h heap k c.args.x.0) (to_z-of_z w64 c.args.j fits)
    (sym (ap (λ n. meets_within (next h heap j) n c.loop-move.at.0 c.args.x.0) none_left) ∙ c.loop-move.invariant.rest)

pub returns-clause-exact : goal.returns-clause-exact
returns-clause-exact c = exactly c.args.program.now.header c.args.self.now c.args.j c.args.x.0 (c.loop-move.at.0 == c.args.x.0) (returns-clause-test c)
