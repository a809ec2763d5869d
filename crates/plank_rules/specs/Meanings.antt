-- What names and operands mean where they stand.
use Rattle.std.specs.Prelude.{ℕ, Bool, true, false, if◌then◌else◌, List, [], ◌∷◌, ◌++◌, None, Some}
use Rattle.plank_base.specs.declared.places.Place.{Place}
use Rattle.plank_ast.specs.declared.names.Name.{Name}
use Rattle.plank_ast.specs.declared.names.Reference.{Reference}
use Rattle.plank_ast.specs.declared.names.Field.{Field}
use Rattle.plank_ast.specs.declared.conditions.Operand.{Operand}
use Rattle.plank_rules.specs.declared.broken.Broken.{Broken}
use Rattle.plank_rules.specs.declared.scopes.Setting.{Setting}
use Rattle.plank_rules.specs.declared.names.Declared.{Declared}
use Rattle.plank_rules.specs.declared.scopes.Scope.{Scope}
use Rattle.plank_rules.specs.declared.meanings.NodeMeaning.{NodeMeaning}
use Rattle.plank_rules.specs.declared.meanings.FieldMeaning.{FieldMeaning}
use Rattle.plank_rules.specs.declared.meanings.Meaning.{Meaning}
use Rattle.plank_rules.specs.Declarations.{is_among}
use Rattle.plank_rules.specs.Faults.{unknown, wrong_kind}
use Rattle.plank_rules.specs.Occurrences.{reference_place}

-- ---- where an operand stands

-- in a condition of the header, and not in a method
abbrev pub is_header : Setting → Bool
is_header Setting.Method = false
is_header Setting.Edge = true
is_header Setting.Holds = true
is_header Setting.Keep = true
is_header Setting.Freeze = true

abbrev pub is_keep : Setting → Bool
is_keep Setting.Keep = true
is_keep Setting.Edge = false
is_keep Setting.Holds = false
is_keep Setting.Freeze = false
is_keep Setting.Method = false

abbrev pub is_freeze : Setting → Bool
is_freeze Setting.Freeze = true
is_freeze Setting.Edge = false
is_freeze Setting.Holds = false
is_freeze Setting.Keep = false
is_freeze Setting.Method = false

-- a pointer field may stand in a keep or in a method
abbrev pub reads_pointers : Setting → Bool
reads_pointers Setting.Keep = true
reads_pointers Setting.Method = true
reads_pointers Setting.Edge = false
reads_pointers Setting.Holds = false
reads_pointers Setting.Freeze = false

-- ---- names

abbrev pub name_meaning : Scope → List ℕ → NodeMeaning
name_meaning scope label =
    if is_among scope.nodes label then NodeMeaning.Node
    else if is_among scope.keys label then NodeMeaning.Key else NodeMeaning.Unknown

abbrev pub reference_meaning : Scope → Reference → NodeMeaning
reference_meaning scope (Reference.Root place) = NodeMeaning.Root
reference_meaning scope (Reference.Name name) = name_meaning scope name.label

abbrev pub label_meaning : Declared → List ℕ → FieldMeaning
label_meaning header label =
    if is_among header.flags label then FieldMeaning.Flag
    else if is_among header.pointers label then FieldMeaning.Pointer else FieldMeaning.Unknown

abbrev pub field_meaning : Declared → Field → FieldMeaning
field_meaning header (Field.Name name) = label_meaning header name.label
field_meaning header (Field.Key place) = FieldMeaning.Key

-- ---- operands

-- what a name without a field means: `x` and `root` are no operands of the header, and `j` none of a freeze
abbrev pub alone : Setting → NodeMeaning → Meaning
alone setting NodeMeaning.Unknown = Meaning.Unknown
alone setting NodeMeaning.Key = if is_freeze setting then Meaning.Wrong else Meaning.Key
alone setting NodeMeaning.Node = if is_header setting then Meaning.Wrong else Meaning.Node
alone setting NodeMeaning.Root = if is_header setting then Meaning.Wrong else Meaning.Node

-- what a field means after a node
abbrev pub read : Setting → FieldMeaning → Meaning
read setting FieldMeaning.Unknown = Meaning.Unknown
read setting FieldMeaning.Key = Meaning.Key
read setting FieldMeaning.Flag = Meaning.Flag
read setting FieldMeaning.Pointer = if reads_pointers setting then Meaning.Pointer else Meaning.Wrong

-- what a field means after a name that has no fields
abbrev pub misread : FieldMeaning → Meaning
misread FieldMeaning.Unknown = Meaning.Unknown
misread FieldMeaning.Key = Meaning.Wrong
misread FieldMeaning.Flag = Meaning.Wrong
misread FieldMeaning.Pointer = Meaning.Wrong

-- what a name with a field means: a key name has no field, and in the header `root` has none
abbrev pub dotted : Setting → NodeMeaning → FieldMeaning → Meaning
dotted setting NodeMeaning.Unknown field = Meaning.Unknown
dotted setting NodeMeaning.Key field = misread field
dotted setting NodeMeaning.Node field = read setting field
dotted setting NodeMeaning.Root field = if is_header setting then misread field else read setting field

abbrev pub operand_meaning : Declared → Scope → Operand → Meaning
operand_meaning header scope (Operand.Node node None) = alone scope.setting (reference_meaning scope node)
operand_meaning header scope (Operand.Node node (Some field)) =
    dotted scope.setting (reference_meaning scope node) (field_meaning header field)
operand_meaning header scope (Operand.Min place) = Meaning.Key
operand_meaning header scope (Operand.Max place) = Meaning.Key
operand_meaning header scope (Operand.Null place) = Meaning.Null

-- where an operand begins
abbrev pub operand_place : Operand → Place
operand_place (Operand.Node node field) = reference_place node
operand_place (Operand.Min place) = place
operand_place (Operand.Max place) = place
operand_place (Operand.Null place) = place

-- ---- Unknown

abbrev pub unknown_node : NodeMeaning → Place → List Broken
unknown_node NodeMeaning.Unknown place = unknown place ∷ []
unknown_node NodeMeaning.Key place = []
unknown_node NodeMeaning.Node place = []
unknown_node NodeMeaning.Root place = []

abbrev pub unknown_label : FieldMeaning → Place → List Broken
unknown_label FieldMeaning.Unknown place = unknown place ∷ []
unknown_label FieldMeaning.Key place = []
unknown_label FieldMeaning.Flag place = []
unknown_label FieldMeaning.Pointer place = []

-- a name that the scope does not declare
abbrev pub unknown_name : Scope → Name → List Broken
unknown_name scope name = unknown_node (name_meaning scope name.label) name.place

abbrev pub unknown_reference : Scope → Reference → List Broken
unknown_reference scope reference = unknown_node (reference_meaning scope reference) (reference_place reference)

-- a name that is no field
abbrev pub unknown_field_name : Declared → Name → List Broken
unknown_field_name header name = unknown_label (label_meaning header name.label) name.place

abbrev pub unknown_field : Declared → Field → List Broken
unknown_field header (Field.Name name) = unknown_field_name header name
unknown_field header (Field.Key place) = []

abbrev pub unknown_operand : Declared → Scope → Operand → List Broken
unknown_operand header scope (Operand.Node node None) = unknown_reference scope node
unknown_operand header scope (Operand.Node node (Some field)) = unknown_reference scope node ++ unknown_field header field
unknown_operand header scope (Operand.Min place) = []
unknown_operand header scope (Operand.Max place) = []
unknown_operand header scope (Operand.Null place) = []

-- ---- WrongKind

-- an operand that is wrong wherever it is compared
abbrev pub misplaced : Meaning → Place → List Broken
misplaced Meaning.Wrong place = wrong_kind place ∷ []
misplaced Meaning.Unknown place = []
misplaced Meaning.Key place = []
misplaced Meaning.Flag place = []
misplaced Meaning.Node place = []
misplaced Meaning.Pointer place = []
misplaced Meaning.Null place = []

-- something else than a flag of a node, where that is needed
abbrev pub no_flag : Meaning → Place → List Broken
no_flag Meaning.Unknown place = []
no_flag Meaning.Flag place = []
no_flag Meaning.Wrong place = wrong_kind place ∷ []
no_flag Meaning.Key place = wrong_kind place ∷ []
no_flag Meaning.Node place = wrong_kind place ∷ []
no_flag Meaning.Pointer place = wrong_kind place ∷ []
no_flag Meaning.Null place = wrong_kind place ∷ []

-- something else than a pointer of a node, where that is needed
abbrev pub no_pointer : Meaning → Place → List Broken
no_pointer Meaning.Unknown place = []
no_pointer Meaning.Pointer place = []
no_pointer Meaning.Wrong place = wrong_kind place ∷ []
no_pointer Meaning.Key place = wrong_kind place ∷ []
no_pointer Meaning.Flag place = wrong_kind place ∷ []
no_pointer Meaning.Node place = wrong_kind place ∷ []
no_pointer Meaning.Null place = wrong_kind place ∷ []

-- something else than a node, where one is needed
abbrev pub no_node : NodeMeaning → Place → List Broken
no_node NodeMeaning.Unknown place = unknown place ∷ []
no_node NodeMeaning.Key place = wrong_kind place ∷ []
no_node NodeMeaning.Node place = []
no_node NodeMeaning.Root place = []
