use Rattle.std.proofs.Common.{◌≡◌, ◌∙◌, ℤ, refl, sym, ap, subst, rules, false, to_z, of_z, w64, SFits}
use Rattle.std.specs.Option.{option_map_or}
use Rattle.std.proofs.lemmas.Int.{to_z-of_z}
use Rattle.plank_base.proofs.PathCounts.{path_stays}
use Rattle.plank_prog.specs.Views.{holds_at}
use Rattle.plank_heap.specs.Walks.{contains}
use Rattle.plank_heap.proofs.Walking.{walk_stays, contains-at, contains-cycle, contains_decides}
use Rattle.plank_heap.proofs.heaps.Heap.in_set.Goals as goal
use Rattle.plank_heap.proofs.heaps.Heap.in_set.Goals.{After-holds}

pub node-node-requires : goal.node-node-requires
node-node-requires c =
    let ends = (c.in-At.ensures.at c.in-At.end).0 refl in
    path_stays (walk_stays c.args.program.now.header c.args.self.now (to_z w64 (of_z w64 c.args.j)) c.requires) c.requires.root ends.0

-- what holds answers at the end of the walk is whether the key is in the set
answers : (c : After-holds) → c.holds.result ≡ contains c.args.program.now.header c.args.self.now c.args.j
answers c =
    let header = c.args.program.now.header in
    let heap = c.args.self.now in
    let j = to_z w64 (of_z w64 c.args.j) in
    let fits : SFits w64 c.args.j = search rules in
    let ends = (c.in-At.ensures.at c.in-At.end).0 refl in
    subst (λ (k : ℤ). c.holds.result ≡ contains header heap k) (to_z-of_z w64 c.args.j fits)
    (c.holds.ensures ∙ sym (ap (λ o. option_map_or (λ x. holds_at header x.key x.flags j) o false) c.node-node.ensures)
    ∙ sym (contains-at header heap j c.in-At.end.0 ends))

pub returns-in-At-clause-exact : goal.returns-in-At-clause-exact
returns-in-At-clause-exact c =
    let decides = contains_decides c.args.program.now.header c.args.self.now c.args.j in
    (λ held. decides.0 (sym (answers c) ∙ held), λ member. answers c ∙ decides.1 member)

pub returns-in-At-clause-test : goal.returns-in-At-clause-test
returns-in-At-clause-test c = answers c

pub returns-in-Cycles-clause-test : goal.returns-in-Cycles-clause-test
returns-in-Cycles-clause-test c =
    let header = c.args.program.now.header in
    let heap = c.args.self.now in
    let fits : SFits w64 c.args.j = search rules in
    subst (λ (k : ℤ). false ≡ contains header heap k) (to_z-of_z w64 c.args.j fits)
    (sym (contains-cycle header heap (to_z w64 (of_z w64 c.args.j)) (c.in-Cycles.ensures.cycles.0 refl)))
