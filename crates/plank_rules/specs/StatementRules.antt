-- The rules on statements: names, kinds, and what a block binds and writes.
use Rattle.std.specs.Prelude.{ℕ, not, if◌then◌else◌, List, [], ◌∷◌, ◌++◌, Option, None, Some, map}
use Rattle.std.specs.List.{flat_map}
use Rattle.std.specs.Option.{option_map_or}
use Rattle.plank_base.specs.declared.places.Place.{Place}
use Rattle.plank_ast.specs.declared.names.Name.{Name}
use Rattle.plank_ast.specs.declared.names.Reference.{Reference}
use Rattle.plank_ast.specs.declared.conditions.Operand.{Operand}
use Rattle.plank_ast.specs.declared.conditions.AtomEnd.{AtomEnd}
use Rattle.plank_ast.specs.declared.statements.Assigned.{Assigned}
use Rattle.plank_ast.specs.declared.statements.With.{With}
use Rattle.plank_ast.specs.declared.statements.Test.{Test}
use Rattle.plank_ast.specs.declared.statements.TestLine.{TestLine}
use Rattle.plank_ast.specs.declared.statements.Tests.{Tests}
use Rattle.plank_ast.specs.declared.statements.Bind.{Bind}
use Rattle.plank_ast.specs.declared.statements.Block.{Block}
use Rattle.plank_ast.specs.declared.statements.Written.{Written}
use Rattle.plank_ast.specs.declared.statements.Write.{Write}
use Rattle.plank_ast.specs.declared.statements.Statement.{Statement}
use Rattle.plank_ast.specs.declared.statements.Body.{Body}
use Rattle.plank_ast.specs.declared.statements.Else.{Else}
use Rattle.plank_ast.specs.declared.statements.Else.TheOpen.{Else-F, Statement-F, Body-F}
use Rattle.plank_ast.specs.declared.statements.Else.TheFolds.{fold-Statement, fold-Body, fold-Else}
use Rattle.plank_rules.specs.declared.broken.Broken.{Broken}
use Rattle.plank_rules.specs.declared.names.Declared.{Declared}
use Rattle.plank_rules.specs.declared.scopes.Scope.{Scope}
use Rattle.plank_rules.specs.declared.meanings.NodeMeaning.{NodeMeaning}
use Rattle.plank_rules.specs.declared.meanings.FieldMeaning.{FieldMeaning}
use Rattle.plank_rules.specs.declared.meanings.Meaning.{Meaning}
use Rattle.plank_rules.specs.Declarations.{is_among, with_name}
use Rattle.plank_rules.specs.Faults.{when, unknown, wrong_kind}
use Rattle.plank_rules.specs.Occurrences.{Occurrence, occurrence, reference_occurrence, reference_place, repeats, reuses, others_than_first}
use Rattle.plank_rules.specs.Meanings.{name_meaning, reference_meaning, label_meaning, field_meaning, dotted, unknown_reference, unknown_field_name, misplaced, no_flag, no_pointer, no_node}
use Rattle.plank_rules.specs.Atoms.{is_unknown, atom_rules}

-- ---- nodes and their pointers

-- what a reference with a field means
abbrev pub access_meaning : Declared → Scope → Reference → Name → Meaning
access_meaning header scope node field =
    dotted scope.setting (reference_meaning scope node) (label_meaning header field.label)

-- a name where a node is needed
abbrev pub name_rules : Scope → Name → List Broken
name_rules scope name = no_node (name_meaning scope name.label) name.place

abbrev pub node_rules : Scope → Reference → List Broken
node_rules scope node = no_node (reference_meaning scope node) (reference_place node)

-- a read of a pointer
abbrev pub read_rules : Declared → Scope → Reference → Name → List Broken
read_rules header scope node field =
    unknown_reference scope node ++ unknown_field_name header field
    ++ no_pointer (access_meaning header scope node field) (reference_place node)

-- ---- tests

-- `!` before what is no flag of the node
abbrev pub refusal_rules : Declared → Scope → Reference → Name → List Broken
refusal_rules header scope node field =
    unknown_reference scope node ++ unknown_field_name header field
    ++ no_flag (access_meaning header scope node field) (reference_place node)

abbrev pub test_rules : Declared → Scope → Test → List Broken
test_rules header scope (Test.Not place node field) = refusal_rules header scope node field
test_rules header scope (Test.Atom atom) = atom_rules header scope atom

-- the names before `.`, but for those that are unknown or whose field is
abbrev pub head_of : Meaning → Reference → List Occurrence
head_of meaning node = if is_unknown meaning then [] else reference_occurrence node ∷ []

abbrev pub operand_heads : Declared → Scope → Operand → List Occurrence
operand_heads header scope (Operand.Node node None) = []
operand_heads header scope (Operand.Node node (Some field)) =
    head_of (dotted scope.setting (reference_meaning scope node) (field_meaning header field)) node
operand_heads header scope (Operand.Min place) = []
operand_heads header scope (Operand.Max place) = []
operand_heads header scope (Operand.Null place) = []

abbrev pub atom_end_heads : Declared → Scope → AtomEnd → List Occurrence
atom_end_heads header scope AtomEnd.Nothing = []
atom_end_heads header scope (AtomEnd.Compared comparison place operand) = operand_heads header scope operand
atom_end_heads header scope (AtomEnd.In place node) = []

abbrev pub test_heads : Declared → Scope → Test → List Occurrence
test_heads header scope (Test.Not place node field) = head_of (access_meaning header scope node field) node
test_heads header scope (Test.Atom atom) = operand_heads header scope atom.operand ++ atom_end_heads header scope atom.end

abbrev pub test_list : Tests → List Test
test_list tests = tests.first ∷ tests.others

-- the tests of an `if` or a `while`, with a second node variable before `.`
abbrev pub tests_rules : Declared → Scope → Tests → List Broken
tests_rules header scope tests =
    flat_map (test_rules header scope) (test_list tests) ++ others_than_first (flat_map (test_heads header scope) (test_list tests))

-- ---- the names that occur in a block

abbrev pub operand_names : Operand → List Occurrence
operand_names (Operand.Node node field) = reference_occurrence node ∷ []
operand_names (Operand.Min place) = []
operand_names (Operand.Max place) = []
operand_names (Operand.Null place) = []

abbrev pub atom_end_names : AtomEnd → List Occurrence
atom_end_names AtomEnd.Nothing = []
atom_end_names (AtomEnd.Compared comparison place operand) = operand_names operand
atom_end_names (AtomEnd.In place node) = occurrence node ∷ []

abbrev pub test_names : Test → List Occurrence
test_names (Test.Not place node field) = reference_occurrence node ∷ []
test_names (Test.Atom atom) = operand_names atom.operand ++ atom_end_names atom.end

abbrev pub test_line_names : TestLine → List Occurrence
test_line_names line = test_names line.test

abbrev pub bind_names : Bind → List Occurrence
bind_names bind = occurrence bind.variable ∷ reference_occurrence bind.node ∷ []

abbrev pub written_names : Written → List Occurrence
written_names (Written.Flag truth) = []
written_names (Written.Null place) = []
written_names (Written.Node node) = reference_occurrence node ∷ []

abbrev pub write_names : Write → List Occurrence
write_names write = reference_occurrence write.node ∷ written_names write.value

abbrev pub with_list : With → List Reference
with_list names = names.first ∷ names.others

abbrev pub with_names : Option With → List Occurrence
with_names names = option_map_or (λ w. map reference_occurrence (with_list w)) names []

abbrev pub block_names : Block → List Occurrence
block_names b =
    with_names b.with ++ flat_map test_line_names b.tests ++ flat_map bind_names b.binds ++ flat_map write_names b.writes

-- ---- what a block binds

-- these names and a bound name, if it is a variable
abbrev pub with_bound : Scope → List (List ℕ) → List ℕ → List (List ℕ)
with_bound scope bound label = if is_among scope.nodes label then with_name bound label else bound

-- the variables that binds bind, beside these
abbrev pub bound_after : Scope → List (List ℕ) → List Bind → List (List ℕ)
bound_after scope bound [] = bound
bound_after scope bound (b ∷ bs) = bound_after scope (with_bound scope bound b.variable.label) bs

abbrev pub bound_by : Scope → List Bind → List (List ℕ)
bound_by scope binds = bound_after scope [] binds

-- ---- the parts of a block

abbrev pub with_rules : Scope → With → List Broken
with_rules scope names =
    flat_map (node_rules scope) (with_list names) ++ repeats (map reference_occurrence (with_list names))

abbrev pub test_line_rules : Declared → Scope → TestLine → List Broken
test_line_rules header scope line = test_rules header scope line.test

abbrev pub bind_rules : Declared → Scope → Bind → List Broken
bind_rules header scope bind = name_rules scope bind.variable ++ read_rules header scope bind.node bind.field

-- a node where a flag is needed
abbrev pub no_truth : NodeMeaning → Place → List Broken
no_truth NodeMeaning.Unknown place = unknown place ∷ []
no_truth NodeMeaning.Key place = wrong_kind place ∷ []
no_truth NodeMeaning.Node place = wrong_kind place ∷ []
no_truth NodeMeaning.Root place = wrong_kind place ∷ []

-- what is written to a flag
abbrev pub flag_value_rules : Scope → Written → List Broken
flag_value_rules scope (Written.Flag truth) = []
flag_value_rules scope (Written.Null place) = wrong_kind place ∷ []
flag_value_rules scope (Written.Node node) = no_truth (reference_meaning scope node) (reference_place node)

-- what is written to a pointer
abbrev pub pointer_value_rules : Scope → Written → List Broken
pointer_value_rules scope (Written.Flag truth) = wrong_kind truth.place ∷ []
pointer_value_rules scope (Written.Null place) = []
pointer_value_rules scope (Written.Node node) = node_rules scope node

-- what is written to a field that is unknown
abbrev pub any_value_rules : Scope → Written → List Broken
any_value_rules scope (Written.Flag truth) = []
any_value_rules scope (Written.Null place) = []
any_value_rules scope (Written.Node node) = unknown_reference scope node

abbrev pub written_rules : Scope → FieldMeaning → Written → List Broken
written_rules scope FieldMeaning.Flag value = flag_value_rules scope value
written_rules scope FieldMeaning.Pointer value = pointer_value_rules scope value
written_rules scope FieldMeaning.Unknown value = any_value_rules scope value
written_rules scope FieldMeaning.Key value = any_value_rules scope value

abbrev pub write_rules : Declared → Scope → Write → List Broken
write_rules header scope write =
    unknown_reference scope write.node ++ unknown_field_name header write.field
    ++ misplaced (access_meaning header scope write.node write.field) (reference_place write.node)
    ++ written_rules scope (label_meaning header write.field.label) write.value

abbrev pub write_heads : Declared → Scope → Write → List Occurrence
write_heads header scope write = head_of (access_meaning header scope write.node write.field) write.node

abbrev pub written_field : Write → Occurrence
written_field write = occurrence write.field

-- the writes of a block: each by itself, to one name, and to a field once
abbrev pub writes_rules : Declared → Scope → List Write → List Broken
writes_rules header scope writes =
    flat_map (write_rules header scope) writes ++ others_than_first (flat_map (write_heads header scope) writes)
    ++ repeats (map written_field writes)

abbrev pub optional_with_rules : Scope → Option With → List Broken
optional_with_rules scope names = option_map_or (with_rules scope) names []

-- a variable that a block binds and that occurs in it once more
abbrev pub block_reuses : Scope → Block → List Broken
block_reuses scope b = reuses (bound_by scope b.binds) (block_names b)

abbrev pub block_rules : Declared → Scope → Block → List Broken
block_rules header scope b =
    optional_with_rules scope b.with ++ flat_map (test_line_rules header scope) b.tests
    ++ flat_map (bind_rules header scope) b.binds ++ writes_rules header scope b.writes ++ block_reuses scope b

-- ---- statements

-- `p = q.f;`, a block of one bind, where p is to be another than q
abbrev pub read_reuses : Scope → Name → Reference → List Broken
read_reuses scope variable node =
    reuses (with_bound scope [] variable.label) (occurrence variable ∷ reference_occurrence node ∷ [])

abbrev pub read_statement_rules : Declared → Scope → Name → Reference → Name → List Broken
read_statement_rules header scope variable node field =
    name_rules scope variable ++ read_rules header scope node field ++ read_reuses scope variable node

abbrev pub assign_rules : Declared → Scope → Name → Assigned → List Broken
assign_rules header scope variable (Assigned.New place) = name_rules scope variable
assign_rules header scope variable (Assigned.Null place) = name_rules scope variable
assign_rules header scope variable (Assigned.Node node None) = name_rules scope variable ++ node_rules scope node
assign_rules header scope variable (Assigned.Node node (Some field)) = read_statement_rules header scope variable node field

-- `lock` and `unlock`, unknown where the header has no lock
abbrev pub lock_rules : Declared → Scope → Place → Reference → List Broken
lock_rules header scope place node = when (not header.has_lock) (unknown place) ++ node_rules scope node

-- one layer of a statement, the rules of its parts known already
abbrev pub body_layer : Body-F (List Broken) (List Broken) (List Broken) → List Broken
body_layer b = flat_map (λ rules. rules) b.statements

abbrev pub else_layer : Else-F (List Broken) (List Broken) (List Broken) → List Broken
else_layer Else-F.Nothing = []
else_layer (Else-F.Body place body) = body

abbrev pub statement_layer : Declared → Scope → Statement-F (List Broken) (List Broken) (List Broken) → List Broken
statement_layer header scope (Statement-F.Assign variable value) = assign_rules header scope variable value
statement_layer header scope (Statement-F.Atomic place block otherwise) = block_rules header scope block ++ otherwise
statement_layer header scope (Statement-F.Lock place node) = lock_rules header scope place node
statement_layer header scope (Statement-F.Unlock place node) = lock_rules header scope place node
statement_layer header scope (Statement-F.If place tests body otherwise) = tests_rules header scope tests ++ body ++ otherwise
statement_layer header scope (Statement-F.While place tests body) = tests_rules header scope tests ++ body
statement_layer header scope (Statement-F.Loop place body) = body
statement_layer header scope (Statement-F.Break place) = []
statement_layer header scope (Statement-F.Continue place) = []
statement_layer header scope (Statement-F.Return place answer) = []

abbrev pub statement_rules : Declared → Scope → Statement → List Broken
statement_rules header scope =
    fold-Statement (List Broken) (List Broken) (List Broken) else_layer (statement_layer header scope) body_layer

abbrev pub body_rules : Declared → Scope → Body → List Broken
body_rules header scope =
    fold-Body (List Broken) (List Broken) (List Broken) else_layer (statement_layer header scope) body_layer

abbrev pub else_rules : Declared → Scope → Else → List Broken
else_rules header scope =
    fold-Else (List Broken) (List Broken) (List Broken) else_layer (statement_layer header scope) body_layer
