use Rattle.std.proofs.Common.{◌≡◌, ◌++◌, drop}
use Rattle.std.specs.List.{flat_map}
use Rattle.plank_ast.specs.Spelled.{kinds}
use Rattle.plank_ast.specs.Spelling.{flag_tokens}
use Rattle.plank_ast.proofs.header_spelling.add_flags.Given as goal

-- the tokens so far, with those of the parts that are left, are those of all parts
abbrev pub invariant-loop-flag : goal.invariant-loop-flag
invariant-loop-flag l =
    kinds l.out.items ++ flat_map flag_tokens (drop l.flag-index l.flags) ≡ kinds l.fn.out.items ++ flat_map flag_tokens l.flags
