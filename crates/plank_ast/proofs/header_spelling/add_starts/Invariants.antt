use Rattle.std.proofs.Common.{◌≡◌, ◌++◌, drop}
use Rattle.std.specs.List.{flat_map}
use Rattle.plank_ast.specs.Spelled.{kinds}
use Rattle.plank_ast.specs.Spelling.{start_tokens}
use Rattle.plank_ast.proofs.header_spelling.add_starts.Given as goal

-- the tokens so far, with those of the parts that are left, are those of all parts
abbrev pub invariant-loop-start : goal.invariant-loop-start
invariant-loop-start l =
    kinds l.out.items ++ flat_map start_tokens (drop l.start-index l.starts) ≡ kinds l.fn.out.items ++ flat_map start_tokens l.starts
