use Rattle.std.proofs.Common.{◌≡◌, ◌∙◌, ℤ, ℕ, length, Option, Some, sym, ap, subst, arith, add-one, rules, to_z, of_z, w64, SFits}
use Rattle.std.specs.Option.{option_map}
use Rattle.std.proofs.lemmas.Int.{to_z-of_z}
use Rattle.plank_base.specs.declared.keys.NodeId.{NodeId}
use Rattle.plank_base.specs.Paths.{EndsAt, NeverEnds, after}
use Rattle.plank_base.proofs.PathCounts.{path_from_after, endless_below}
use Rattle.plank_heap.specs.Walks.{next}
use Rattle.plank_heap.proofs.Walking.{after-one_more, walk_stays, at_exactly, at_is_no_cycle, cycle_is_no_end, cycle_exactly}
use Rattle.plank_heap.proofs.heaps.Heap.walk.Goals as goal
use Rattle.plank_heap.proofs.heaps.Heap.walk.Goals.{In-None, After-loop-turn}

-- the walk ends at a node from which no field leads on
ends_here : (c : In-None) → EndsAt (next c.args.program.now.header c.args.self.now c.args.j) c.args.self.now.root.0 c.loop-turn.at.0
ends_here c =
    let header = c.args.program.now.header in
    let heap = c.args.self.now in
    let fits : SFits w64 c.args.j = search rules in
    let number : Option NodeId → Option ℕ = option_map (λ (x : NodeId). x.0) in
    subst (λ (k : ℤ). EndsAt (next header heap k) heap.root.0 c.loop-turn.at.0) (to_z-of_z w64 c.args.j fits)
    (path_from_after c.loop-turn._turn c.loop-turn.invariant.moves, sym c.next.ensures ∙ ap number c.in-None.is)

-- a walk of as many moves as there are nodes never ends
never_ends : (c : After-loop-turn) → NeverEnds (next c.args.program.now.header c.args.self.now c.args.j) c.args.self.now.root.0
never_ends c =
    let header = c.args.program.now.header in
    let heap = c.args.self.now in
    let fits : SFits w64 c.args.j = search rules in
    let all : c.loop-turn._turn ≡ length heap.nodes = omega arith in
    subst (λ (k : ℤ). NeverEnds (next header heap k) heap.root.0) (to_z-of_z w64 c.args.j fits)
    (endless_below (walk_stays header heap (to_z w64 (of_z w64 c.args.j)) c.requires) c.requires.root
    (subst (λ n. after (next header heap (to_z w64 (of_z w64 c.args.j))) n heap.root.0 ≡ Some c.loop-turn.at.0) all c.loop-turn.invariant.moves))

pub returns-in-None-clause-at : goal.returns-in-None-clause-at
returns-in-None-clause-at c =
    at_exactly (next c.args.program.now.header c.args.self.now c.args.j) c.args.self.now.root.0 c.loop-turn.at (ends_here c)

pub returns-in-None-clause-cycles : goal.returns-in-None-clause-cycles
returns-in-None-clause-cycles c =
    at_is_no_cycle (next c.args.program.now.header c.args.self.now c.args.j) c.args.self.now.root.0 c.loop-turn.at (ends_here c)

pub loop-turn-preserved : goal.loop-turn-preserved
loop-turn-preserved c =
    let header = c.args.program.now.header in
    let heap = c.args.self.now in
    let j = to_z w64 (of_z w64 c.args.j) in
    let number : Option NodeId → Option ℕ = option_map (λ (x : NodeId). x.0) in
    let step : next header heap j c.loop-turn.at.0 ≡ Some c.in-Some.to.0 = sym c.next.ensures ∙ ap number c.in-Some.is in
    record {
      inside = walk_stays header heap j c.requires c.loop-turn.at.0 c.in-Some.to.0 c.loop-turn.invariant.inside step;
      moves = rw add-one (after-one_more (next header heap j) c.loop-turn._turn heap.root.0 c.loop-turn.at.0 c.loop-turn.invariant.moves ∙ step);
    }

pub returns-clause-at : goal.returns-clause-at
returns-clause-at c =
    cycle_is_no_end (next c.args.program.now.header c.args.self.now c.args.j) c.args.self.now.root.0 (never_ends c)

pub returns-clause-cycles : goal.returns-clause-cycles
returns-clause-cycles c =
    cycle_exactly (next c.args.program.now.header c.args.self.now c.args.j) c.args.self.now.root.0 (never_ends c)
