use Rattle.std.proofs.Common.{◌≡◌, ◌++◌, drop}
use Rattle.plank_ast.specs.Spelled.{kinds}
use Rattle.plank_ast.specs.Spelling.{more_name_tokens}
use Rattle.plank_ast.proofs.text_spelling.add_more_names.Given as goal

-- the tokens so far, with those of the parts that are left, are those of all parts
abbrev pub invariant-loop-name : goal.invariant-loop-name
invariant-loop-name l =
    kinds l.out.items ++ more_name_tokens (drop l.name-index l.names) ≡ kinds l.fn.out.items ++ more_name_tokens l.names
