use Rattle.std.proofs.Common.{◌≡◌, ◌++◌, drop}
use Rattle.std.specs.List.{flat_map}
use Rattle.plank_ast.specs.Spelled.{kinds}
use Rattle.plank_ast.specs.Spelling.{write_tokens}
use Rattle.plank_ast.proofs.statement_spelling.add_writes.Given as goal

-- the tokens so far, with those of the parts that are left, are those of all parts
abbrev pub invariant-loop-write : goal.invariant-loop-write
invariant-loop-write l =
    kinds l.out.items ++ flat_map write_tokens (drop l.write-index l.writes) ≡ kinds l.fn.out.items ++ flat_map write_tokens l.writes
