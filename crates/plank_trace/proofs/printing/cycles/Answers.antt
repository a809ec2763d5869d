-- The walk ends where its test says so.
use Rattle.std.proofs.Common.{◌≡◌, ap, is_none, sym, subst, w64, SFits, ℤ, true, false, rules}
use Rattle.std.proofs.lemmas.Int.{to_z-of_z}
use Rattle.plank_heap.specs.Walks.{walk_end}
use Rattle.plank_trace.proofs.printing.cycles.Goals as goal

pub returns-in-At : goal.returns-in-At
returns-in-At c =
    let h = c.args.program.now.header in
    let fits : SFits w64 c.args.key = search rules in
    subst (λ (j : ℤ). false ≡ is_none (walk_end h c.args.heap.now j)) (to_z-of_z w64 c.args.key fits)
    (sym (ap is_none ((c.walk_laws.ensures.ends h c.args.heap.now _ c.in-At.field-0.0).1 ((c.walk.ensures.at c.in-At.field-0).0 c.in-At.is))))

pub returns-in-Cycles : goal.returns-in-Cycles
returns-in-Cycles c =
    let h = c.args.program.now.header in
    let fits : SFits w64 c.args.key = search rules in
    subst (λ (j : ℤ). true ≡ is_none (walk_end h c.args.heap.now j)) (to_z-of_z w64 c.args.key fits)
    (sym (ap is_none ((c.walk_laws.ensures.never h c.args.heap.now _).1 (c.walk.ensures.cycles.0 c.in-Cycles.is))))
