use Rattle.std.proofs.Common.{◌∙◌, ℕ, Option, sym, ap, rules, to_z, of_z, w64, SFits}
use Rattle.std.specs.Option.{option_map}
use Rattle.std.proofs.lemmas.Int.{to_z-of_z}
use Rattle.plank_base.specs.declared.keys.NodeId.{NodeId}
use Rattle.plank_prog.specs.Views.{admits}
use Rattle.plank_heap.specs.Walks.{first_admitted}
use Rattle.plank_heap.proofs.Fields.{fields_stop, fields_go_on, fields_end}
use Rattle.plank_trace.proofs.paths.next_from.Goals as goal

pub returns-in-Some : goal.returns-in-Some
returns-in-Some c =
    let node = c.args.node.now in
    let number : Option NodeId → Option ℕ = option_map (λ (x : NodeId). x.0) in
    let fits : SFits w64 c.args.j = search rules in
    fields_stop (λ p. admits p node.key node.flags (to_z w64 (of_z w64 c.args.j))) c.args.pointers.now node.pointers c.loop-i.i c.index-pointers-i.result c.pointer-to.result c.in-Some.target.0
    c.loop-i-test.true c.index-pointers-i.is c.pointer-to.ensures (sym c.through.ensures ∙ ap number c.in-Some.is) c.loop-i.invariant
    ∙ ap (λ k. first_admitted (λ p. admits p node.key node.flags k) c.args.pointers.now node.pointers) (to_z-of_z w64 c.args.j fits)

pub loop-i-preserved : goal.loop-i-preserved
loop-i-preserved c =
    let node = c.args.node.now in
    let number : Option NodeId → Option ℕ = option_map (λ (x : NodeId). x.0) in
    fields_go_on (λ p. admits p node.key node.flags (to_z w64 (of_z w64 c.args.j))) c.args.pointers.now node.pointers c.loop-i.i c.index-pointers-i.result c.pointer-to.result
    c.loop-i-test.true c.index-pointers-i.is c.pointer-to.ensures (sym c.through.ensures ∙ ap number c.in_default.is) c.loop-i.invariant

pub returns : goal.returns
returns c =
    let node = c.args.node.now in
    let fits : SFits w64 c.args.j = search rules in
    fields_end (λ p. admits p node.key node.flags (to_z w64 (of_z w64 c.args.j))) c.args.pointers.now node.pointers c.loop-i.i c.loop-i-test.false c.loop-i.invariant
    ∙ ap (λ k. first_admitted (λ p. admits p node.key node.flags k) c.args.pointers.now node.pointers) (to_z-of_z w64 c.args.j fits)
