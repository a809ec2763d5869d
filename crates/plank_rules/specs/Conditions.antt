-- The rules on conditions of the header.
use Rattle.std.specs.Prelude.{List, [], ◌++◌}
use Rattle.std.specs.List.{flat_map}
use Rattle.plank_ast.specs.declared.names.Name.{Name}
use Rattle.plank_ast.specs.declared.conditions.Condition.{Condition}
use Rattle.plank_ast.specs.declared.conditions.Conjunction.{Conjunction}
use Rattle.plank_ast.specs.declared.conditions.Literal.{Literal}
use Rattle.plank_ast.specs.declared.conditions.Literal.TheOpen.{Literal-F, Condition-F, Conjunction-F}
use Rattle.plank_ast.specs.declared.conditions.Literal.TheFolds.{fold-Condition, fold-Conjunction, fold-Literal}
use Rattle.plank_rules.specs.declared.broken.Broken.{Broken}
use Rattle.plank_rules.specs.declared.names.Declared.{Declared}
use Rattle.plank_rules.specs.declared.scopes.Scope.{Scope}
use Rattle.plank_rules.specs.Meanings.{name_meaning, label_meaning, dotted, unknown_name, unknown_field_name, no_flag}
use Rattle.plank_rules.specs.Atoms.{atom_rules}

-- `!` before what is no flag of the node
abbrev pub negation_rules : Declared → Scope → Name → Name → List Broken
negation_rules header scope node field =
    unknown_name scope node ++ unknown_field_name header field
    ++ no_flag (dotted scope.setting (name_meaning scope node.label) (label_meaning header field.label)) node.place

-- one layer of a condition, the rules of its parts known already
abbrev pub literal_layer : Declared → Scope → Literal-F (List Broken) (List Broken) (List Broken) → List Broken
literal_layer header scope (Literal-F.True place) = []
literal_layer header scope (Literal-F.False place) = []
literal_layer header scope (Literal-F.Group place inner) = inner
literal_layer header scope (Literal-F.Not place node field) = negation_rules header scope node field
literal_layer header scope (Literal-F.Atom atom) = atom_rules header scope atom

abbrev pub condition_layer : Condition-F (List Broken) (List Broken) (List Broken) → List Broken
condition_layer c = c.first ++ flat_map (λ rules. rules) c.others

abbrev pub conjunction_layer : Conjunction-F (List Broken) (List Broken) (List Broken) → List Broken
conjunction_layer c = c.first ++ flat_map (λ rules. rules) c.others

abbrev pub condition_rules : Declared → Scope → Condition → List Broken
condition_rules header scope =
    fold-Condition (List Broken) (List Broken) (List Broken) (literal_layer header scope) condition_layer conjunction_layer

abbrev pub conjunction_rules : Declared → Scope → Conjunction → List Broken
conjunction_rules header scope =
    fold-Conjunction (List Broken) (List Broken) (List Broken) (literal_layer header scope) condition_layer conjunction_layer

abbrev pub literal_rules : Declared → Scope → Literal → List Broken
literal_rules header scope =
    fold-Literal (List Broken) (List Broken) (List Broken) (literal_layer header scope) condition_layer conjunction_layer
