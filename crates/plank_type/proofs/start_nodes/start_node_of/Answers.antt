use Rattle.std.proofs.Common.{ℕ, List, Option, map, sym, ◌∙◌, ap}
use Rattle.plank_base.specs.declared.keys.Key.{Key}
use Rattle.plank_ast.specs.declared.header.StartItem.{StartItem}
use Rattle.plank_prog.specs.declared.headers.StartNode.{StartNode}
use Rattle.plank_type.specs.Headers.{start_key, start_flags, start_pointer}
use Rattle.plank_type.proofs.Tests.{map_map}
use Rattle.plank_type.proofs.start_nodes.start_node_of.Goals as goal

pub returns : goal.returns
returns c =
    let names = c.args.names.now in
    let made : List ℕ → Key → ℕ → List (Option ℕ) → StartNode =
    λ name key flags pointers. record { name = name; key = key; flags = flags; pointers = pointers } in
    let flags = c.start_flags-flags.ensures.value ∙ ap (start_flags c.as_slice-items.result.now) c.flags.ensures.names
    ∙ ap (λ (items : List StartItem). start_flags items names.flags) c.as_slice-items.ensures in
    let pointers = c.in_ok-pointers.ensures
    ∙ sym (map_map (start_pointer names.nodes c.as_slice-items.result.now) (λ line. line.name.label) c.pointers.result.now)
    ∙ ap (map (start_pointer names.nodes c.as_slice-items.result.now)) c.pointers.ensures
    ∙ ap (λ (items : List StartItem). map (start_pointer names.nodes items) names.pointers) c.as_slice-items.ensures in
    ap (λ name. made name c.start_key.result c.start_flags-flags.result c.in_ok-pointers.pointers) c.in_ok-name.ensures
    ∙ ap (λ key. made c.args.line.now.name.label key c.start_flags-flags.result c.in_ok-pointers.pointers) c.start_key.ensures
    ∙ ap (λ fs. made c.args.line.now.name.label (start_key c.args.line.now.key) fs c.in_ok-pointers.pointers) flags
    ∙ ap (λ ps. made c.args.line.now.name.label (start_key c.args.line.now.key) (start_flags c.args.line.now.items names.flags) ps) pointers
