use Rattle.std.proofs.Common.{◌≡◌, ◌++◌, drop}
use Rattle.std.specs.List.{flat_map}
use Rattle.plank_ast.specs.Spelled.{kinds}
use Rattle.plank_ast.specs.Spelling.{named_condition_tokens}
use Rattle.plank_ast.proofs.header_spelling.add_named_conditions.Given as goal

-- the tokens so far, with those of the parts that are left, are those of all parts
abbrev pub invariant-loop-line : goal.invariant-loop-line
invariant-loop-line l =
    kinds l.out.items ++ flat_map (named_condition_tokens l.word) (drop l.line-index l.lines) ≡ kinds l.fn.out.items ++ flat_map (named_condition_tokens l.word) l.lines
