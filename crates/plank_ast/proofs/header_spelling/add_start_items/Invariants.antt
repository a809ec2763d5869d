use Rattle.std.proofs.Common.{◌≡◌, ◌++◌, drop}
use Rattle.std.specs.List.{flat_map}
use Rattle.plank_ast.specs.Spelled.{kinds}
use Rattle.plank_ast.specs.Spelling.{start_item_tokens}
use Rattle.plank_ast.proofs.header_spelling.add_start_items.Given as goal

-- the tokens so far, with those of the parts that are left, are those of all parts
abbrev pub invariant-loop-item : goal.invariant-loop-item
invariant-loop-item l =
    kinds l.out.items ++ flat_map start_item_tokens (drop l.item-index l.items) ≡ kinds l.fn.out.items ++ flat_map start_item_tokens l.items
