use Rattle.std.proofs.Common.{◌≡◌, ◌++◌, map, drop}
use Rattle.plank_rules.specs.Declarations.{variable_line}
use Rattle.plank_type.proofs.methods.line_labels.Given as goal

-- the labels so far and those of the names that are left are all labels
abbrev pub invariant-loop-name : goal.invariant-loop-name
invariant-loop-name l =
    l.labels.items ++ map (λ n. n.label) (drop l.name-index l.name-items) ≡ map (λ n. n.label) (variable_line l.line)
