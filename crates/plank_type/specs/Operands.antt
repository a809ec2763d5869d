-- What the parts of blocks mean, with numbers in the place of names. A part that breaks a typing rule does nothing.
use Rattle.std.specs.Prelude.{ℕ, Bool, true, false, ◌&&◌, List, [], ◌∷◌, map, filter_map, Option, Some, None, if◌then◌else◌}
use Rattle.std.specs.Option.{option_map_or, option_map}
use Rattle.plank_ast.specs.declared.names.Reference.{Reference as ReferenceTree}
use Rattle.plank_ast.specs.declared.names.Field.{Field}
use Rattle.plank_ast.specs.declared.conditions.Comparison.{Comparison}
use Rattle.plank_ast.specs.declared.conditions.Operand.{Operand}
use Rattle.plank_ast.specs.declared.conditions.AtomEnd.{AtomEnd}
use Rattle.plank_ast.specs.declared.statements.With.{With}
use Rattle.plank_ast.specs.declared.statements.Test.{Test as TestTree}
use Rattle.plank_ast.specs.declared.statements.Bind.{Bind as BindTree}
use Rattle.plank_ast.specs.declared.statements.Written.{Written}
use Rattle.plank_ast.specs.declared.statements.Write.{Write as WriteTree}
use Rattle.plank_prog.specs.declared.blocks.Reference.{Reference}
use Rattle.plank_prog.specs.declared.blocks.Value.{Value}
use Rattle.plank_prog.specs.declared.blocks.KeyOperand.{KeyOperand}
use Rattle.plank_prog.specs.declared.blocks.PointerOperand.{PointerOperand}
use Rattle.plank_prog.specs.declared.blocks.Test.{Test}
use Rattle.plank_prog.specs.declared.blocks.Bind.{Bind}
use Rattle.plank_prog.specs.declared.blocks.Write.{Write}
use Rattle.plank_prog.specs.Blocks.{is_field}
use Rattle.plank_rules.specs.declared.names.Declared.{Declared}
use Rattle.plank_type.specs.declared.operands.Meaning.{Meaning}
use Rattle.plank_rules.specs.Declarations.{number_of}
use Rattle.plank_type.specs.Conditions.{relation_of, is_equality}

-- ---- names of nodes, by the variables of the method

abbrev pub reference_of : List (List ℕ) → ReferenceTree → Reference
reference_of variables (ReferenceTree.Root place) = Reference.Root
reference_of variables (ReferenceTree.Name name) = option_map_or Reference.Variable (number_of name.label variables) Reference.Root

abbrev pub with_of : List (List ℕ) → Option With → List Reference
with_of variables None = []
with_of variables (Some w) = reference_of variables w.first ∷ map (reference_of variables) w.others

-- ---- operands of tests

-- a field of a node
abbrev pub field_meaning : Declared → Reference → List ℕ → Meaning
field_meaning names node field =
    option_map_or (λ f. Meaning.Flag (record { node = node; flag = f })) (number_of field names.flags)
    (option_map_or (λ p. Meaning.Pointer (PointerOperand.Field node p)) (number_of field names.pointers) Meaning.Nothing)

-- a name alone is a node's, or that of the argument
abbrev pub alone_meaning : List (List ℕ) → ReferenceTree → Meaning
alone_meaning variables (ReferenceTree.Root place) = Meaning.Pointer (PointerOperand.Node Reference.Root)
alone_meaning variables (ReferenceTree.Name name) =
    option_map_or (λ v. Meaning.Pointer (PointerOperand.Node (Reference.Variable v))) (number_of name.label variables)
    (Meaning.Key KeyOperand.Argument)

abbrev pub node_meaning : Declared → List (List ℕ) → ReferenceTree → Option Field → Meaning
node_meaning names variables node None = alone_meaning variables node
node_meaning names variables node (Some (Field.Key place)) = Meaning.Key (KeyOperand.Node (reference_of variables node))
node_meaning names variables node (Some (Field.Name f)) = field_meaning names (reference_of variables node) f.label

abbrev pub meaning_of : Declared → List (List ℕ) → Operand → Meaning
meaning_of names variables (Operand.Node node field) = node_meaning names variables node field
meaning_of names variables (Operand.Min place) = Meaning.Key KeyOperand.Min
meaning_of names variables (Operand.Max place) = Meaning.Key KeyOperand.Max
meaning_of names variables (Operand.Null place) = Meaning.Pointer PointerOperand.Null

-- ---- tests

-- a test that says nothing
abbrev pub no_test : Test
no_test = Test.Pointers PointerOperand.Null PointerOperand.Null true

-- two pointer fields are not compared
abbrev pub pointers_compared : PointerOperand → Bool → PointerOperand → Test
pointers_compared a equal b = if is_field a && is_field b then no_test else Test.Pointers a b equal

abbrev pub test_compared : Meaning → Comparison → Meaning → Test
test_compared (Meaning.Flag a) c (Meaning.Flag b) = Test.Flags a b (is_equality c)
test_compared (Meaning.Key a) c (Meaning.Key b) = Test.Keys a (relation_of c) b
test_compared (Meaning.Pointer a) c (Meaning.Pointer b) = pointers_compared a (is_equality c) b
test_compared a c b = no_test

-- a flag alone, which the node is to have or not to have
abbrev pub test_alone : Bool → Meaning → Test
test_alone set (Meaning.Flag f) = Test.Flag f set
test_alone set (Meaning.Key a) = no_test
test_alone set (Meaning.Pointer a) = no_test
test_alone set Meaning.Nothing = no_test

abbrev pub test_ended : Declared → List (List ℕ) → Meaning → AtomEnd → Test
test_ended names variables first AtomEnd.Nothing = test_alone true first
test_ended names variables first (AtomEnd.Compared comparison place second) =
    test_compared first comparison (meaning_of names variables second)
test_ended names variables first (AtomEnd.In place node) = no_test

abbrev pub test_of : Declared → List (List ℕ) → TestTree → Test
test_of names variables (TestTree.Not place node field) =
    test_alone false (field_meaning names (reference_of variables node) field.label)
test_of names variables (TestTree.Atom atom) = test_ended names variables (meaning_of names variables atom.operand) atom.end

-- ---- binds and writes

abbrev pub bind_to : Option ℕ → Reference → Option ℕ → Option Bind
bind_to (Some to) from (Some pointer) = Some (record { to = to; from = from; pointer = pointer })
bind_to to from pointer = None

-- a variable that takes the value of a pointer field
abbrev pub read_of : Declared → List (List ℕ) → List ℕ → ReferenceTree → List ℕ → Option Bind
read_of names variables variable node field =
    bind_to (number_of variable variables) (reference_of variables node) (number_of field names.pointers)

abbrev pub bind_of : Declared → List (List ℕ) → BindTree → Option Bind
bind_of names variables b = read_of names variables b.variable.label b.node b.field.label

abbrev pub binds_of : Declared → List (List ℕ) → List BindTree → List Bind
binds_of names variables binds = filter_map (bind_of names variables) binds

abbrev pub written_of : Declared → List (List ℕ) → Reference → List ℕ → Written → Option Write
written_of names variables node field (Written.Flag truth) =
    option_map (λ f. Write.Flag node f truth.value) (number_of field names.flags)
written_of names variables node field (Written.Null place) =
    option_map (λ p. Write.Pointer node p Value.Null) (number_of field names.pointers)
written_of names variables node field (Written.Node to) =
    option_map (λ p. Write.Pointer node p (Value.Node (reference_of variables to))) (number_of field names.pointers)

abbrev pub write_of : Declared → List (List ℕ) → WriteTree → Option Write
write_of names variables w = written_of names variables (reference_of variables w.node) w.field.label w.value

abbrev pub writes_of : Declared → List (List ℕ) → List WriteTree → List Write
writes_of names variables writes = filter_map (write_of names variables) writes
