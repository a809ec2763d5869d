-- Whether a text is told whole in its program. The definitions of the program are total, and where a text breaks a rule
-- of typing they say something all the same: a part that is told falls under none of these.
use Rattle.std.specs.Prelude.{◌≡◌, ℕ, Bool, true, false, not, ◌&&◌, ◌||◌, List, [], ◌∷◌, is_some, Option, Some, None}
use Rattle.std.specs.List.{list_all}
use Rattle.std.specs.Option.{option_map_or}
use Rattle.plank_ast.specs.declared.names.Reference.{Reference as ReferenceTree}
use Rattle.plank_ast.specs.declared.conditions.Operand.{Operand}
use Rattle.plank_ast.specs.declared.conditions.AtomEnd.{AtomEnd}
use Rattle.plank_ast.specs.declared.conditions.Condition.{Condition as ConditionTree}
use Rattle.plank_ast.specs.declared.conditions.Conjunction.{Conjunction}
use Rattle.plank_ast.specs.declared.conditions.Literal.{Literal}
use Rattle.plank_ast.specs.declared.conditions.Literal.TheOpen.{Literal-F, Condition-F, Conjunction-F}
use Rattle.plank_ast.specs.declared.conditions.Literal.TheFolds.{fold-Condition, fold-Conjunction, fold-Literal}
use Rattle.plank_ast.specs.declared.header.RootLine.{RootLine}
use Rattle.plank_ast.specs.declared.statements.Assigned.{Assigned}
use Rattle.plank_ast.specs.declared.statements.With.{With}
use Rattle.plank_ast.specs.declared.statements.Test.{Test as TestTree}
use Rattle.plank_ast.specs.declared.statements.Tests.{Tests}
use Rattle.plank_ast.specs.declared.statements.Bind.{Bind as BindTree}
use Rattle.plank_ast.specs.declared.statements.Block.{Block as BlockTree}
use Rattle.plank_ast.specs.declared.statements.Written.{Written}
use Rattle.plank_ast.specs.declared.statements.Write.{Write as WriteTree}
use Rattle.plank_ast.specs.declared.statements.Statement.{Statement}
use Rattle.plank_ast.specs.declared.statements.Body.{Body}
use Rattle.plank_ast.specs.declared.statements.Else.{Else}
use Rattle.plank_ast.specs.declared.statements.Else.TheOpen.{Else-F, Statement-F, Body-F}
use Rattle.plank_ast.specs.declared.statements.Else.TheFolds.{fold-Statement, fold-Body, fold-Else}
use Rattle.plank_ast.specs.declared.methods.Method.{Method as MethodTree}
use Rattle.plank_ast.specs.declared.texts.Text.{Text}
use Rattle.plank_prog.specs.Conditions.{all_true}
use Rattle.plank_prog.specs.Blocks.{is_field}
use Rattle.plank_rules.specs.declared.names.Declared.{Declared}
use Rattle.plank_rules.specs.Declarations.{same_name, number_of, variables_of, methods_of as method_trees}
use Rattle.plank_rules.specs.MethodRules.{is_kind}
use Rattle.plank_type.specs.declared.conditions.Asked.{Asked}
use Rattle.plank_type.specs.declared.operands.Meaning.{Meaning}
use Rattle.plank_type.specs.Numbers.{names_of}
use Rattle.plank_type.specs.Conditions.{asked_field, asked_of}
use Rattle.plank_type.specs.Operands.{reference_of, field_meaning, meaning_of, read_of, write_of}
use Rattle.plank_type.specs.Methods.{kind_word}

-- ---- conditions of the header

abbrev pub is_flag_asked : Asked → Bool
is_flag_asked (Asked.Flag f) = true
is_flag_asked (Asked.Pointer p) = false
is_flag_asked Asked.Null = false
is_flag_asked (Asked.Key a) = false
is_flag_asked Asked.Nothing = false

-- two that a condition compares
abbrev pub asked_together : Asked → Asked → Bool
asked_together (Asked.Flag f) (Asked.Flag g) = true
asked_together (Asked.Pointer p) Asked.Null = true
asked_together Asked.Null (Asked.Pointer p) = true
asked_together Asked.Null Asked.Null = true
asked_together (Asked.Key a) (Asked.Key b) = true
asked_together a b = false

abbrev pub end_is_told : Declared → Asked → AtomEnd → Bool
end_is_told names first AtomEnd.Nothing = is_flag_asked first
end_is_told names first (AtomEnd.Compared comparison place second) = asked_together first (asked_of names second)
end_is_told names first (AtomEnd.In place node) = true

-- one layer of a condition, of whose parts it is known whether they are told
abbrev pub literal_told : Declared → Literal-F Bool Bool Bool → Bool
literal_told names (Literal-F.True place) = true
literal_told names (Literal-F.False place) = true
literal_told names (Literal-F.Group place inner) = inner
literal_told names (Literal-F.Not place node field) = is_flag_asked (asked_field names field)
literal_told names (Literal-F.Atom atom) = end_is_told names (asked_of names atom.operand) atom.end

abbrev pub condition_told : Condition-F Bool Bool Bool → Bool
condition_told c = c.first && all_true c.others

abbrev pub conjunction_told : Conjunction-F Bool Bool Bool → Bool
conjunction_told c = c.first && all_true c.others

abbrev pub condition_is_told : Declared → ConditionTree → Bool
condition_is_told names = fold-Condition Bool Bool Bool (literal_told names) condition_told conjunction_told

abbrev pub conjunction_is_told : Declared → Conjunction → Bool
conjunction_is_told names = fold-Conjunction Bool Bool Bool (literal_told names) condition_told conjunction_told

abbrev pub literal_is_told : Declared → Literal → Bool
literal_is_told names = fold-Literal Bool Bool Bool (literal_told names) condition_told conjunction_told

-- ---- names in methods

-- a node's name that the method declares
abbrev pub node_is_told : List (List ℕ) → ReferenceTree → Bool
node_is_told variables (ReferenceTree.Root place) = true
node_is_told variables (ReferenceTree.Name name) = is_some (number_of name.label variables)

-- what a method is read in: its argument and its variables
pub record Locals : Type 0 where
  pub argument : List ℕ
  pub variables : List (List ℕ)

abbrev pub locals_of : MethodTree → Locals
locals_of m = record { argument = m.argument.label; variables = variables_of m }

-- a name alone is a node's, or the argument
abbrev pub alone_is_told : Locals → ReferenceTree → Bool
alone_is_told locals (ReferenceTree.Root place) = true
alone_is_told locals (ReferenceTree.Name name) = is_some (number_of name.label locals.variables) || same_name name.label locals.argument

abbrev pub operand_is_told : Locals → Operand → Bool
operand_is_told locals (Operand.Node node None) = alone_is_told locals node
operand_is_told locals (Operand.Node node (Some field)) = node_is_told locals.variables node
operand_is_told locals (Operand.Min place) = true
operand_is_told locals (Operand.Max place) = true
operand_is_told locals (Operand.Null place) = true

-- ---- tests

abbrev pub is_flag_meant : Meaning → Bool
is_flag_meant (Meaning.Flag f) = true
is_flag_meant (Meaning.Key k) = false
is_flag_meant (Meaning.Pointer p) = false
is_flag_meant Meaning.Nothing = false

-- two that a test compares
abbrev pub meant_together : Meaning → Meaning → Bool
meant_together (Meaning.Flag a) (Meaning.Flag b) = true
meant_together (Meaning.Key a) (Meaning.Key b) = true
meant_together (Meaning.Pointer a) (Meaning.Pointer b) = not (is_field a && is_field b)
meant_together a b = false

abbrev pub test_end_is_told : Declared → Locals → Meaning → AtomEnd → Bool
test_end_is_told names locals first AtomEnd.Nothing = is_flag_meant first
test_end_is_told names locals first (AtomEnd.Compared comparison place second) =
    operand_is_told locals second && meant_together first (meaning_of names locals.variables second)
test_end_is_told names locals first (AtomEnd.In place node) = false

abbrev pub test_is_told : Declared → Locals → TestTree → Bool
test_is_told names locals (TestTree.Not place node field) =
    node_is_told locals.variables node && is_flag_meant (field_meaning names (reference_of locals.variables node) field.label)
test_is_told names locals (TestTree.Atom atom) =
    operand_is_told locals atom.operand && test_end_is_told names locals (meaning_of names locals.variables atom.operand) atom.end

-- ---- binds, writes and further names

abbrev pub read_is_told : Declared → List (List ℕ) → List ℕ → ReferenceTree → List ℕ → Bool
read_is_told names variables variable node field = node_is_told variables node && is_some (read_of names variables variable node field)

abbrev pub bind_is_told : Declared → List (List ℕ) → BindTree → Bool
bind_is_told names variables b = read_is_told names variables b.variable.label b.node b.field.label

abbrev pub value_is_told : List (List ℕ) → Written → Bool
value_is_told variables (Written.Flag truth) = true
value_is_told variables (Written.Null place) = true
value_is_told variables (Written.Node node) = node_is_told variables node

abbrev pub write_is_told : Declared → List (List ℕ) → WriteTree → Bool
write_is_told names variables w = node_is_told variables w.node && value_is_told variables w.value && is_some (write_of names variables w)

abbrev pub with_is_told : List (List ℕ) → Option With → Bool
with_is_told variables None = true
with_is_told variables (Some w) = list_all (node_is_told variables) (w.first ∷ w.others)

-- ---- statements

abbrev pub assignment_is_told : Declared → List (List ℕ) → List ℕ → Assigned → Bool
assignment_is_told names variables variable (Assigned.New place) = is_some (number_of variable variables)
assignment_is_told names variables variable (Assigned.Null place) = is_some (number_of variable variables)
assignment_is_told names variables variable (Assigned.Node node None) = is_some (number_of variable variables) && node_is_told variables node
assignment_is_told names variables variable (Assigned.Node node (Some field)) = read_is_told names variables variable node field.label

abbrev pub block_is_told : Declared → Locals → BlockTree → Bool
block_is_told names locals tree =
    with_is_told locals.variables tree.with && list_all (λ line. test_is_told names locals line.test) tree.tests
    && list_all (bind_is_told names locals.variables) tree.binds && list_all (write_is_told names locals.variables) tree.writes

abbrev pub tests_are_told : Declared → Locals → Tests → Bool
tests_are_told names locals tests = list_all (test_is_told names locals) (tests.first ∷ tests.others)

abbrev pub lock_is_told : Declared → List (List ℕ) → ReferenceTree → Bool
lock_is_told names variables node = names.has_lock && node_is_told variables node

-- one layer of a statement, of whose parts it is known whether they are told
abbrev pub body_told : Body-F Bool Bool Bool → Bool
body_told b = all_true b.statements

abbrev pub else_told : Else-F Bool Bool Bool → Bool
else_told Else-F.Nothing = true
else_told (Else-F.Body place body) = body

abbrev pub statement_told : Declared → Locals → Statement-F Bool Bool Bool → Bool
statement_told names locals (Statement-F.Assign variable value) = assignment_is_told names locals.variables variable.label value
statement_told names locals (Statement-F.Atomic place tree otherwise) = block_is_told names locals tree && otherwise
statement_told names locals (Statement-F.Lock place node) = lock_is_told names locals.variables node
statement_told names locals (Statement-F.Unlock place node) = lock_is_told names locals.variables node
statement_told names locals (Statement-F.If place tests body otherwise) = tests_are_told names locals tests && body && otherwise
statement_told names locals (Statement-F.While place tests body) = tests_are_told names locals tests && body
statement_told names locals (Statement-F.Loop place body) = body
statement_told names locals (Statement-F.Break place) = true
statement_told names locals (Statement-F.Continue place) = true
statement_told names locals (Statement-F.Return place answer) = true

abbrev pub statement_is_told : Declared → Locals → Statement → Bool
statement_is_told names locals = fold-Statement Bool Bool Bool else_told (statement_told names locals) body_told

abbrev pub body_is_told : Declared → Locals → Body → Bool
body_is_told names locals = fold-Body Bool Bool Bool else_told (statement_told names locals) body_told

abbrev pub else_is_told : Declared → Locals → Else → Bool
else_is_told names locals = fold-Else Bool Bool Bool else_told (statement_told names locals) body_told

-- ---- texts

-- the first root line names a start node
abbrev pub root_is_told : List (List ℕ) → List RootLine → Bool
root_is_told nodes [] = false
root_is_told nodes (line ∷ lines) = is_some (number_of line.name.label nodes)

abbrev pub conditions_are_told : Declared → Text → Bool
conditions_are_told names t =
    list_all (λ line. condition_is_told names line.condition) t.edges && condition_is_told names t.holds.condition
    && list_all (λ line. condition_is_told names line.condition) t.keeps
    && option_map_or (λ line. condition_is_told names line.condition) t.freeze true

abbrev pub method_is_told : Declared → MethodTree → Bool
method_is_told names m = is_kind (kind_word m) && list_all (statement_is_told names (locals_of m)) m.statements

-- the root, the conditions of the header and the methods of a text
pub record IsToldWhole (t : Text) : Type 0 where
  pub root : root_is_told (names_of t).nodes t.roots ≡ true
  pub conditions : conditions_are_told (names_of t) t ≡ true
  pub methods : list_all (method_is_told (names_of t)) (method_trees t) ≡ true
