-- The rules on atoms: operands alone, comparisons, and `in`.
use Rattle.std.specs.Prelude.{Bool, true, false, not, ◌&&◌, ◌||◌, if◌then◌else◌, List, [], ◌++◌, None, Some}
use Rattle.plank_base.specs.declared.places.Place.{Place}
use Rattle.plank_ast.specs.declared.names.Name.{Name}
use Rattle.plank_ast.specs.declared.conditions.Comparison.{Comparison}
use Rattle.plank_ast.specs.declared.conditions.Operand.{Operand}
use Rattle.plank_ast.specs.declared.conditions.AtomEnd.{AtomEnd}
use Rattle.plank_ast.specs.declared.conditions.Atom.{Atom}
use Rattle.plank_rules.specs.declared.broken.Broken.{Broken}
use Rattle.plank_rules.specs.declared.scopes.Setting.{Setting}
use Rattle.plank_rules.specs.declared.names.Declared.{Declared}
use Rattle.plank_rules.specs.declared.scopes.Scope.{Scope}
use Rattle.plank_rules.specs.declared.meanings.NodeMeaning.{NodeMeaning}
use Rattle.plank_rules.specs.declared.meanings.Meaning.{Meaning}
use Rattle.plank_rules.specs.Faults.{when, wrong_kind}
use Rattle.plank_rules.specs.Meanings.{is_header, is_keep, name_meaning, reference_meaning, operand_meaning, operand_place, unknown_operand, unknown_name, misplaced, no_flag}

-- ---- what a comparison sees of an operand

abbrev pub is_unknown : Meaning → Bool
is_unknown Meaning.Unknown = true
is_unknown Meaning.Wrong = false
is_unknown Meaning.Key = false
is_unknown Meaning.Flag = false
is_unknown Meaning.Node = false
is_unknown Meaning.Pointer = false
is_unknown Meaning.Null = false

-- an operand that breaks no rule by itself
abbrev pub is_sound : Meaning → Bool
is_sound Meaning.Unknown = false
is_sound Meaning.Wrong = false
is_sound Meaning.Key = true
is_sound Meaning.Flag = true
is_sound Meaning.Node = true
is_sound Meaning.Pointer = true
is_sound Meaning.Null = true

abbrev pub is_key : Meaning → Bool
is_key Meaning.Key = true
is_key Meaning.Unknown = false
is_key Meaning.Wrong = false
is_key Meaning.Flag = false
is_key Meaning.Node = false
is_key Meaning.Pointer = false
is_key Meaning.Null = false

abbrev pub is_flag : Meaning → Bool
is_flag Meaning.Flag = true
is_flag Meaning.Unknown = false
is_flag Meaning.Wrong = false
is_flag Meaning.Key = false
is_flag Meaning.Node = false
is_flag Meaning.Pointer = false
is_flag Meaning.Null = false

abbrev pub is_pointer_field : Meaning → Bool
is_pointer_field Meaning.Pointer = true
is_pointer_field Meaning.Unknown = false
is_pointer_field Meaning.Wrong = false
is_pointer_field Meaning.Key = false
is_pointer_field Meaning.Flag = false
is_pointer_field Meaning.Node = false
is_pointer_field Meaning.Null = false

abbrev pub is_null : Meaning → Bool
is_null Meaning.Null = true
is_null Meaning.Unknown = false
is_null Meaning.Wrong = false
is_null Meaning.Key = false
is_null Meaning.Flag = false
is_null Meaning.Node = false
is_null Meaning.Pointer = false

-- a node, a pointer field or null
abbrev pub is_pointer : Meaning → Bool
is_pointer Meaning.Node = true
is_pointer Meaning.Pointer = true
is_pointer Meaning.Null = true
is_pointer Meaning.Unknown = false
is_pointer Meaning.Wrong = false
is_pointer Meaning.Key = false
is_pointer Meaning.Flag = false

abbrev pub is_order : Comparison → Bool
is_order Comparison.Less = true
is_order Comparison.AtMost = true
is_order Comparison.Equal = false
is_order Comparison.NotEqual = false

-- ---- comparisons

-- the first operand says which kind the second needs
abbrev pub same_kind : Meaning → Meaning → Bool
same_kind first second =
    if is_key first then is_key second else if is_flag first then is_flag second else is_pointer second

-- a second operand of another kind than the first
abbrev pub other_kind : Meaning → Meaning → Place → List Broken
other_kind first second place = when (not (same_kind first second)) (wrong_kind place)

-- `<` or `<=` between pointers or between flags, at the second operand
abbrev pub no_order : Comparison → Meaning → Place → List Broken
no_order comparison first place = when (is_order comparison && not (is_key first)) (wrong_kind place)

-- in the header, a pointer field that is compared with anything but `null`
abbrev pub no_null : Setting → Meaning → Place → Meaning → List Broken
no_null setting field place other = when (is_header setting && is_pointer_field field && not (is_null other)) (wrong_kind place)

-- in a method, a test that compares two pointer fields, at the second
abbrev pub two_fields : Setting → Meaning → Meaning → Place → List Broken
two_fields setting first second place =
    when (not (is_header setting) && is_pointer_field first && is_pointer_field second) (wrong_kind place)

-- what two operands break together, where neither breaks a rule by itself
abbrev pub compared : Setting → Comparison → Meaning → Place → Meaning → Place → List Broken
compared setting comparison first first_place second second_place =
    if is_sound first && is_sound second
    then other_kind first second second_place ++ no_order comparison first second_place
    ++ no_null setting first first_place second ++ no_null setting second second_place first
    ++ two_fields setting first second second_place
    else []

-- what an operand breaks by itself
abbrev pub operand_rules : Declared → Scope → Operand → List Broken
operand_rules header scope operand =
    unknown_operand header scope operand ++ misplaced (operand_meaning header scope operand) (operand_place operand)

abbrev pub comparison_rules : Declared → Scope → Operand → Comparison → Operand → List Broken
comparison_rules header scope first comparison second =
    operand_rules header scope first ++ operand_rules header scope second
    ++ compared scope.setting comparison (operand_meaning header scope first) (operand_place first)
    (operand_meaning header scope second) (operand_place second)

-- ---- an operand alone

abbrev pub alone_rules : Declared → Scope → Operand → List Broken
alone_rules header scope operand =
    unknown_operand header scope operand ++ no_flag (operand_meaning header scope operand) (operand_place operand)

-- ---- `in`

abbrev pub is_key_name : NodeMeaning → Bool
is_key_name NodeMeaning.Key = true
is_key_name NodeMeaning.Unknown = false
is_key_name NodeMeaning.Node = false
is_key_name NodeMeaning.Root = false

abbrev pub is_node_name : NodeMeaning → Bool
is_node_name NodeMeaning.Node = true
is_node_name NodeMeaning.Unknown = false
is_node_name NodeMeaning.Key = false
is_node_name NodeMeaning.Root = false

abbrev pub is_unknown_name : NodeMeaning → Bool
is_unknown_name NodeMeaning.Unknown = true
is_unknown_name NodeMeaning.Key = false
is_unknown_name NodeMeaning.Node = false
is_unknown_name NodeMeaning.Root = false

-- the key name and nothing else
abbrev pub is_key_alone : Scope → Operand → Bool
is_key_alone scope (Operand.Node node None) = is_key_name (reference_meaning scope node)
is_key_alone scope (Operand.Node node (Some field)) = false
is_key_alone scope (Operand.Min place) = false
is_key_alone scope (Operand.Max place) = false
is_key_alone scope (Operand.Null place) = false

-- `j in x` in a keep
abbrev pub is_visit : Scope → Operand → NodeMeaning → Bool
is_visit scope operand node = is_keep scope.setting && is_key_alone scope operand && is_node_name node

-- `in` anywhere but as `j in x` in a keep
abbrev pub no_visit : Declared → Scope → Operand → Place → NodeMeaning → List Broken
no_visit header scope operand place node =
    misplaced (operand_meaning header scope operand) (operand_place operand)
    ++ when (not (is_visit scope operand node)) (wrong_kind place)

abbrev pub in_rules : Declared → Scope → Operand → Place → Name → List Broken
in_rules header scope operand place node =
    unknown_operand header scope operand ++ unknown_name scope node
    ++ (if is_unknown (operand_meaning header scope operand) || is_unknown_name (name_meaning scope node.label) then []
    else no_visit header scope operand place (name_meaning scope node.label))

-- ---- atoms

abbrev pub atom_end_rules : Declared → Scope → Operand → AtomEnd → List Broken
atom_end_rules header scope operand AtomEnd.Nothing = alone_rules header scope operand
atom_end_rules header scope operand (AtomEnd.Compared comparison place second) =
    comparison_rules header scope operand comparison second
atom_end_rules header scope operand (AtomEnd.In place node) = in_rules header scope operand place node

abbrev pub atom_rules : Declared → Scope → Atom → List Broken
atom_rules header scope atom = atom_end_rules header scope atom.operand atom.end
