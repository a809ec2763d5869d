use Rattle.std.proofs.Common.{◌≡◌, ◌++◌, drop}
use Rattle.std.specs.List.{flat_map}
use Rattle.plank_ast.specs.Spelled.{kinds}
use Rattle.plank_ast.specs.Spelling.{bind_tokens}
use Rattle.plank_ast.proofs.statement_spelling.add_binds.Given as goal

-- the tokens so far, with those of the parts that are left, are those of all parts
abbrev pub invariant-loop-bind : goal.invariant-loop-bind
invariant-loop-bind l =
    kinds l.out.items ++ flat_map bind_tokens (drop l.bind-index l.binds) ≡ kinds l.fn.out.items ++ flat_map bind_tokens l.binds
