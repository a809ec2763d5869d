-- The names that the rules look up are those that the text declares.
use Rattle.std.proofs.Common.{List, [], Option, None, Some, map, refl, ap, ◌∙◌}
use Rattle.plank_ast.specs.declared.methods.Variables.{Variables}
use Rattle.plank_ast.specs.declared.texts.Text.{Text}
use Rattle.plank_rules.specs.Declarations.{is_among, distinct, labels, variable_line}
use Rattle.std.specs.Option.{option_map_or}
use Rattle.plank_rules.specs.Occurrences.{Occurrence, occurrence, labels_of}
use Rattle.plank_rules.specs.Headers.{flag_occurrence, pointer_occurrence, start_occurrence}
use Rattle.plank_rules.specs.MethodRules.{method_scope, line_occurrences}
use Rattle.plank_rules.specs.BrokenRules.{declared_by}
use Rattle.plank_rules.specs.DeclaredNames.{SameNames, LooksUpWhatIsDeclared}
use Rattle.plank_rules.proofs.DistinctNames.{among-distinct, labels-map}

same_of_parts : {X : Type 0} (occurs : X → Occurrence) (xs : List X) → SameNames (distinct (labels_of (map occurs xs))) (map (λ x. (occurs x).label) xs)
same_of_parts occurs xs = record {
  same = λ n. among-distinct (labels_of (map occurs xs)) n ∙ ap (λ names. is_among names n) (labels-map occurs xs);
}

same_of_line : (line : Option Variables) → SameNames (distinct (labels_of (line_occurrences line))) (labels (option_map_or variable_line line []))
same_of_line None = record { same = λ n. refl }
same_of_line (Some line) = same_of_parts occurrence (variable_line line)

pub looks_up_what_is_declared : (t : Text) → LooksUpWhatIsDeclared t
unfolding declared_by method_scope
looks_up_what_is_declared t = record {
  flags = same_of_parts flag_occurrence t.flags;
  pointers = same_of_parts pointer_occurrence t.pointers;
  starts = same_of_parts start_occurrence t.starts;
  variables = λ m. same_of_line m.variables;
}
