-- The places that a tree keeps: for each token that spells it, the token's place, or none.
use Rattle.std.specs.Prelude.{◌≡◌, List, [], ◌∷◌, ◌++◌, Option, Some, None}
use Rattle.std.specs.List.{flat_map}
use Rattle.std.specs.Option.{option_map_or}
use Rattle.plank_base.specs.declared.places.Place.{Place}
use Rattle.plank_lex.specs.declared.tokens.Token.{Token}
use Rattle.plank_ast.specs.declared.names.Name.{Name}
use Rattle.plank_ast.specs.declared.names.Reference.{Reference}
use Rattle.plank_ast.specs.declared.names.Field.{Field}
use Rattle.plank_ast.specs.declared.names.Truth.{Truth}
use Rattle.plank_ast.specs.declared.conditions.Operand.{Operand}
use Rattle.plank_ast.specs.declared.conditions.AtomEnd.{AtomEnd}
use Rattle.plank_ast.specs.declared.conditions.Atom.{Atom}
use Rattle.plank_ast.specs.declared.conditions.Condition.{Condition}
use Rattle.plank_ast.specs.declared.conditions.Conjunction.{Conjunction}
use Rattle.plank_ast.specs.declared.conditions.Literal.{Literal}
use Rattle.plank_ast.specs.declared.conditions.Literal.TheOpen.{Literal-F, Condition-F, Conjunction-F}
use Rattle.plank_ast.specs.declared.conditions.Literal.TheFolds.{fold-Condition, fold-Conjunction, fold-Literal}
use Rattle.plank_ast.specs.declared.header.FlagLine.{FlagLine}
use Rattle.plank_ast.specs.declared.header.PointerLine.{PointerLine}
use Rattle.plank_ast.specs.declared.header.RootLine.{RootLine}
use Rattle.plank_ast.specs.declared.header.StartValue.{StartValue}
use Rattle.plank_ast.specs.declared.header.StartItem.{StartItem}
use Rattle.plank_ast.specs.declared.header.StartLine.{StartLine}
use Rattle.plank_ast.specs.declared.header.ConditionLine.{ConditionLine}
use Rattle.plank_ast.specs.declared.header.NamedCondition.{NamedCondition}
use Rattle.plank_ast.specs.declared.statements.Assigned.{Assigned}
use Rattle.plank_ast.specs.declared.statements.With.{With}
use Rattle.plank_ast.specs.declared.statements.Test.{Test}
use Rattle.plank_ast.specs.declared.statements.TestLine.{TestLine}
use Rattle.plank_ast.specs.declared.statements.Tests.{Tests}
use Rattle.plank_ast.specs.declared.statements.Bind.{Bind}
use Rattle.plank_ast.specs.declared.statements.Block.{Block}
use Rattle.plank_ast.specs.declared.statements.Written.{Written}
use Rattle.plank_ast.specs.declared.statements.Write.{Write}
use Rattle.plank_ast.specs.declared.statements.Statement.{Statement}
use Rattle.plank_ast.specs.declared.statements.Body.{Body}
use Rattle.plank_ast.specs.declared.statements.Else.{Else}
use Rattle.plank_ast.specs.declared.statements.Else.TheOpen.{Else-F, Statement-F, Body-F}
use Rattle.plank_ast.specs.declared.statements.Else.TheFolds.{fold-Statement, fold-Body, fold-Else}
use Rattle.plank_ast.specs.declared.methods.Variables.{Variables}
use Rattle.plank_ast.specs.declared.methods.Method.{Method}
use Rattle.plank_ast.specs.declared.methods.Methods.{Methods}
use Rattle.plank_parse.specs.Texts.{Parts}

abbrev pub Places : Type 0
Places = List (Option Place)

-- places one after another
infixr 12 ◌⊕◌
abbrev pub ◌⊕◌ : Places → Places → Places
ps ⊕ qs = ps ++ qs

-- a token whose place is kept
abbrev pub at : Place → Places
at p = Some p ∷ []

-- a token whose place is not kept
abbrev pub bare : Places
bare = None ∷ []

-- the tokens stand at these places, as far as those are kept
abbrev pub StandAt : Places → List Token → Type 0
StandAt [] [] = Unit {0}
StandAt (None ∷ ps) (t ∷ ts) = StandAt ps ts
StandAt (Some p ∷ ps) (t ∷ ts) = (p ≡ t.place) × StandAt ps ts
StandAt [] (t ∷ ts) = ⊥
StandAt (p ∷ ps) [] = ⊥

-- each part behind a token
abbrev pub each_behind : {A : Type 0} → (A → Places) → List A → Places
each_behind places parts = flat_map (λ part. bare ⊕ places part) parts

-- a part, where there is one
abbrev pub if_any : {A : Type 0} → (A → Places) → Option A → Places
if_any places part = option_map_or places part []

-- ---- names

abbrev pub name_places : Name → Places
name_places n = at n.place

abbrev pub reference_places : Reference → Places
reference_places (Reference.Root place) = at place
reference_places (Reference.Name name) = name_places name

abbrev pub field_places : Field → Places
field_places (Field.Name name) = name_places name
field_places (Field.Key place) = at place

abbrev pub truth_places : Truth → Places
truth_places t = at t.place

-- ---- conditions

-- a dot and a field, where there is one
abbrev pub dotted_places : {A : Type 0} → (A → Places) → Option A → Places
dotted_places places field = if_any (λ f. bare ⊕ places f) field

abbrev pub operand_places : Operand → Places
operand_places (Operand.Node node field) = reference_places node ⊕ dotted_places field_places field
operand_places (Operand.Min place) = at place
operand_places (Operand.Max place) = at place
operand_places (Operand.Null place) = at place

abbrev pub atom_end_places : AtomEnd → Places
atom_end_places AtomEnd.Nothing = []
atom_end_places (AtomEnd.Compared comparison place operand) = at place ⊕ operand_places operand
atom_end_places (AtomEnd.In place node) = at place ⊕ name_places node

abbrev pub atom_places : Atom → Places
atom_places a = operand_places a.operand ⊕ atom_end_places a.end

-- one layer of a condition, the places of its parts known already
abbrev pub literal_layer : Literal-F Places Places Places → Places
literal_layer (Literal-F.True place) = at place
literal_layer (Literal-F.False place) = at place
literal_layer (Literal-F.Group place inner) = at place ⊕ inner ⊕ bare
literal_layer (Literal-F.Not place node field) = at place ⊕ name_places node ⊕ bare ⊕ name_places field
literal_layer (Literal-F.Atom atom) = atom_places atom

abbrev pub condition_layer : Condition-F Places Places Places → Places
condition_layer c = c.first ⊕ each_behind (λ places. places) c.others

abbrev pub conjunction_layer : Conjunction-F Places Places Places → Places
conjunction_layer c = c.first ⊕ each_behind (λ places. places) c.others

abbrev pub condition_places : Condition → Places
condition_places = fold-Condition Places Places Places literal_layer condition_layer conjunction_layer

abbrev pub conjunction_places : Conjunction → Places
conjunction_places = fold-Conjunction Places Places Places literal_layer condition_layer conjunction_layer

abbrev pub literal_places : Literal → Places
literal_places = fold-Literal Places Places Places literal_layer condition_layer conjunction_layer

-- ---- the header

abbrev pub flag_places : FlagLine → Places
flag_places f = at f.place ⊕ name_places f.name ⊕ bare

abbrev pub pointer_places : PointerLine → Places
pointer_places p = at p.place ⊕ name_places p.name ⊕ at p.direction_place ⊕ bare

abbrev pub root_places : RootLine → Places
root_places r = at r.place ⊕ name_places r.name ⊕ bare

abbrev pub start_value_places : StartValue → Places
start_value_places (StartValue.Flag truth) = truth_places truth
start_value_places (StartValue.Null place) = at place
start_value_places (StartValue.Node name) = name_places name

abbrev pub start_item_places : StartItem → Places
start_item_places i = name_places i.field ⊕ bare ⊕ start_value_places i.value ⊕ bare

-- the line of a start node's key
abbrev pub start_key_places : Place → Places
start_key_places key = bare ⊕ bare ⊕ at key ⊕ bare

abbrev pub start_places : StartLine → Places
start_places s =
    at s.place ⊕ name_places s.name ⊕ bare ⊕ start_key_places s.key_place ⊕ flat_map start_item_places s.items ⊕ bare

abbrev pub condition_line_places : ConditionLine → Places
condition_line_places c = at c.place ⊕ condition_places c.condition ⊕ bare

abbrev pub named_condition_places : NamedCondition → Places
named_condition_places c = at c.place ⊕ name_places c.name ⊕ bare ⊕ condition_places c.condition ⊕ bare

-- ---- statements

abbrev pub assigned_places : Assigned → Places
assigned_places (Assigned.New place) = at place
assigned_places (Assigned.Null place) = at place
assigned_places (Assigned.Node node field) = reference_places node ⊕ dotted_places name_places field

abbrev pub with_places : With → Places
with_places w = at w.place ⊕ reference_places w.first ⊕ each_behind reference_places w.others ⊕ bare

abbrev pub test_places : Test → Places
test_places (Test.Not place node field) = at place ⊕ reference_places node ⊕ bare ⊕ name_places field
test_places (Test.Atom atom) = atom_places atom

abbrev pub test_line_places : TestLine → Places
test_line_places t = at t.place ⊕ test_places t.test ⊕ bare

-- the tests of an `if` or a `while`, with their parentheses
abbrev pub tests_places : Tests → Places
tests_places t = bare ⊕ test_places t.first ⊕ each_behind test_places t.others ⊕ bare

-- a node, a dot and a field
abbrev pub selection_places : Reference → Name → Places
selection_places node field = reference_places node ⊕ bare ⊕ name_places field

abbrev pub bind_places : Bind → Places
bind_places b = name_places b.variable ⊕ bare ⊕ selection_places b.node b.field ⊕ bare

abbrev pub written_places : Written → Places
written_places (Written.Flag truth) = truth_places truth
written_places (Written.Null place) = at place
written_places (Written.Node node) = reference_places node

abbrev pub write_places : Write → Places
write_places w = at w.place ⊕ selection_places w.node w.field ⊕ bare ⊕ written_places w.value ⊕ bare

-- what stands between the braces of an atomic block
abbrev pub block_places : Block → Places
block_places b =
    if_any with_places b.with ⊕ flat_map test_line_places b.tests ⊕ flat_map bind_places b.binds ⊕ flat_map write_places b.writes

-- one layer of a statement, the places of its parts known already
abbrev pub body_layer : Body-F Places Places Places → Places
body_layer b = at b.place ⊕ flat_map (λ places. places) b.statements ⊕ bare

abbrev pub else_layer : Else-F Places Places Places → Places
else_layer Else-F.Nothing = []
else_layer (Else-F.Body place body) = at place ⊕ body

abbrev pub statement_layer : Statement-F Places Places Places → Places
statement_layer (Statement-F.Assign variable value) = name_places variable ⊕ bare ⊕ assigned_places value ⊕ bare
statement_layer (Statement-F.Atomic place block otherwise) = at place ⊕ (bare ⊕ block_places block ⊕ bare) ⊕ otherwise
statement_layer (Statement-F.Lock place node) = at place ⊕ reference_places node ⊕ bare
statement_layer (Statement-F.Unlock place node) = at place ⊕ reference_places node ⊕ bare
statement_layer (Statement-F.If place tests body otherwise) = at place ⊕ tests_places tests ⊕ body ⊕ otherwise
statement_layer (Statement-F.While place tests body) = at place ⊕ tests_places tests ⊕ body
statement_layer (Statement-F.Loop place body) = at place ⊕ body
statement_layer (Statement-F.Break place) = at place ⊕ bare
statement_layer (Statement-F.Continue place) = at place ⊕ bare
statement_layer (Statement-F.Return place answer) = at place ⊕ truth_places answer ⊕ bare

abbrev pub statement_places : Statement → Places
statement_places = fold-Statement Places Places Places else_layer statement_layer body_layer

abbrev pub body_places : Body → Places
body_places = fold-Body Places Places Places else_layer statement_layer body_layer

abbrev pub else_places : Else → Places
else_places = fold-Else Places Places Places else_layer statement_layer body_layer

-- ---- methods and the text

abbrev pub variables_places : Variables → Places
variables_places v = at v.place ⊕ name_places v.first ⊕ each_behind name_places v.others ⊕ bare

-- the word, the name, the kind and the argument of a method
abbrev pub signature_places : Place → Name → Option Name → Name → Places
signature_places place name purpose argument =
    at place ⊕ name_places name ⊕ if_any (λ k. bare ⊕ name_places k) purpose ⊕ bare ⊕ name_places argument ⊕ bare

-- what a method has in its braces
abbrev pub contents_places : Option Variables → List Statement → Place → Places
contents_places variables statements end =
    bare ⊕ if_any variables_places variables ⊕ flat_map statement_places statements ⊕ at end

abbrev pub method_places : Method → Places
method_places m = signature_places m.place m.name m.kind m.argument ⊕ contents_places m.variables m.statements m.end

abbrev pub methods_places : Methods → Places
methods_places m = method_places m.first ⊕ flat_map method_places m.others

-- the lines that declare the fields, the root and the start nodes
abbrev pub declarations_places : Place → Name → List FlagLine → List PointerLine → Option Place → List RootLine → List StartLine → Places
declarations_places place structure flags pointers lock roots starts =
    (at place ⊕ name_places structure ⊕ bare) ⊕ flat_map flag_places flags ⊕ flat_map pointer_places pointers
    ⊕ if_any (λ line. at line ⊕ bare) lock ⊕ flat_map root_places roots ⊕ flat_map start_places starts

-- the lines of the conditions
abbrev pub conditions_places : List NamedCondition → ConditionLine → List NamedCondition → Option ConditionLine → Places
conditions_places edges holds keeps freeze =
    flat_map named_condition_places edges ⊕ condition_line_places holds ⊕ flat_map named_condition_places keeps
    ⊕ if_any condition_line_places freeze

-- a text with its end
abbrev pub text_places : Parts → Places
text_places p =
    declarations_places p.place p.structure p.flags p.pointers p.lock p.roots p.starts
    ⊕ conditions_places p.edges p.holds p.keeps p.freeze ⊕ methods_places p.methods ⊕ bare
