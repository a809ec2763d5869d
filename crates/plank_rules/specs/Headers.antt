-- The rules on the lines of a header.
use Rattle.std.specs.Prelude.{ℕ, not, if◌then◌else◌, List, [], ◌∷◌, ◌++◌, Option, map}
use Rattle.std.specs.List.{flat_map}
use Rattle.std.specs.Option.{option_map_or}
use lib.Chars.{codes}
use Rattle.plank_base.specs.declared.places.Place.{Place}
use Rattle.plank_ast.specs.declared.names.Name.{Name}
use Rattle.plank_ast.specs.declared.header.FlagLine.{FlagLine}
use Rattle.plank_ast.specs.declared.header.PointerLine.{PointerLine}
use Rattle.plank_ast.specs.declared.header.RootLine.{RootLine}
use Rattle.plank_ast.specs.declared.header.StartValue.{StartValue}
use Rattle.plank_ast.specs.declared.header.StartItem.{StartItem}
use Rattle.plank_ast.specs.declared.header.StartLine.{StartLine}
use Rattle.plank_ast.specs.declared.header.NamedCondition.{NamedCondition}
use Rattle.plank_ast.specs.declared.header.ConditionLine.{ConditionLine}
use Rattle.plank_rules.specs.declared.broken.Broken.{Broken}
use Rattle.plank_rules.specs.declared.scopes.Setting.{Setting}
use Rattle.plank_rules.specs.declared.names.Declared.{Declared}
use Rattle.plank_rules.specs.declared.scopes.Scope.{Scope}
use Rattle.plank_rules.specs.declared.meanings.FieldMeaning.{FieldMeaning}
use Rattle.plank_rules.specs.Declarations.{is_among}
use Rattle.plank_rules.specs.Faults.{when, unknown, wrong_kind, not_one_root}
use Rattle.plank_rules.specs.Occurrences.{Occurrence, occurrence, repeats}
use Rattle.plank_rules.specs.Meanings.{label_meaning, unknown_field_name}
use Rattle.plank_rules.specs.Conditions.{condition_rules}

-- what names mean in a condition of the header: `x` is the node and `j` the walked key
abbrev pub header_scope : Setting → Scope
header_scope setting = record { setting = setting; nodes = codes "x" ∷ []; keys = codes "j" ∷ [] }

-- ---- the names that lines declare

abbrev pub flag_occurrence : FlagLine → Occurrence
flag_occurrence line = occurrence line.name

abbrev pub pointer_occurrence : PointerLine → Occurrence
pointer_occurrence line = occurrence line.name

abbrev pub start_occurrence : StartLine → Occurrence
start_occurrence line = occurrence line.name

abbrev pub item_occurrence : StartItem → Occurrence
item_occurrence item = occurrence item.field

abbrev pub named_occurrence : NamedCondition → Occurrence
named_occurrence line = occurrence line.name

-- ---- the root

-- a name that is no start node
abbrev pub unknown_start : List (List ℕ) → Name → List Broken
unknown_start starts name = when (not (is_among starts name.label)) (unknown name.place)

abbrev pub root_rules : List (List ℕ) → RootLine → List Broken
root_rules starts line = unknown_start starts line.name

-- a root line after the first
abbrev pub second_root : RootLine → List Broken
second_root line = not_one_root line.name.place ∷ []

-- no root, at `structure`, or more than one
abbrev pub one_root : Place → List RootLine → List Broken
one_root structure [] = not_one_root structure ∷ []
one_root structure (r ∷ rs) = flat_map second_root rs

abbrev pub roots_rules : List (List ℕ) → Place → List RootLine → List Broken
roots_rules starts structure roots = one_root structure roots ++ flat_map (root_rules starts) roots

-- ---- start nodes

-- a start node where a flag's value is needed
abbrev pub no_start : List (List ℕ) → Name → List Broken
no_start starts name = if is_among starts name.label then wrong_kind name.place ∷ [] else unknown name.place ∷ []

abbrev pub flag_item_rules : List (List ℕ) → StartValue → List Broken
flag_item_rules starts (StartValue.Flag truth) = []
flag_item_rules starts (StartValue.Null place) = wrong_kind place ∷ []
flag_item_rules starts (StartValue.Node name) = no_start starts name

abbrev pub pointer_item_rules : List (List ℕ) → StartValue → List Broken
pointer_item_rules starts (StartValue.Flag truth) = wrong_kind truth.place ∷ []
pointer_item_rules starts (StartValue.Null place) = []
pointer_item_rules starts (StartValue.Node name) = unknown_start starts name

-- the value of a field that is unknown
abbrev pub any_item_rules : List (List ℕ) → StartValue → List Broken
any_item_rules starts (StartValue.Flag truth) = []
any_item_rules starts (StartValue.Null place) = []
any_item_rules starts (StartValue.Node name) = unknown_start starts name

abbrev pub value_rules : List (List ℕ) → FieldMeaning → StartValue → List Broken
value_rules starts FieldMeaning.Flag value = flag_item_rules starts value
value_rules starts FieldMeaning.Pointer value = pointer_item_rules starts value
value_rules starts FieldMeaning.Unknown value = any_item_rules starts value
value_rules starts FieldMeaning.Key value = any_item_rules starts value

abbrev pub item_rules : Declared → List (List ℕ) → StartItem → List Broken
item_rules header starts item =
    unknown_field_name header item.field ++ value_rules starts (label_meaning header item.field.label) item.value

abbrev pub start_rules : Declared → List (List ℕ) → StartLine → List Broken
start_rules header starts line = flat_map (item_rules header starts) line.items ++ repeats (map item_occurrence line.items)

-- ---- the lines of conditions

-- a name where a pointer is needed
abbrev pub pointer_rules : FieldMeaning → Place → List Broken
pointer_rules FieldMeaning.Unknown place = unknown place ∷ []
pointer_rules FieldMeaning.Flag place = wrong_kind place ∷ []
pointer_rules FieldMeaning.Key place = wrong_kind place ∷ []
pointer_rules FieldMeaning.Pointer place = []

abbrev pub edge_rules : Declared → Scope → NamedCondition → List Broken
edge_rules header scope line =
    pointer_rules (label_meaning header line.name.label) line.name.place ++ condition_rules header scope line.condition

abbrev pub edges_rules : Declared → List NamedCondition → List Broken
edges_rules header edges = flat_map (edge_rules header (header_scope Setting.Edge)) edges ++ repeats (map named_occurrence edges)

abbrev pub holds_rules : Declared → ConditionLine → List Broken
holds_rules header line = condition_rules header (header_scope Setting.Holds) line.condition

abbrev pub keep_rules : Declared → Scope → NamedCondition → List Broken
keep_rules header scope line = condition_rules header scope line.condition

abbrev pub keeps_rules : Declared → List NamedCondition → List Broken
keeps_rules header keeps = flat_map (keep_rules header (header_scope Setting.Keep)) keeps ++ repeats (map named_occurrence keeps)

abbrev pub freeze_rules : Declared → ConditionLine → List Broken
freeze_rules header line = condition_rules header (header_scope Setting.Freeze) line.condition

abbrev pub optional_freeze_rules : Declared → Option ConditionLine → List Broken
optional_freeze_rules header freeze = option_map_or (freeze_rules header) freeze []
