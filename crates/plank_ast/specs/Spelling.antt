-- How the parts of a text are spelled: the grammar, as the tokens of each part.
use Rattle.std.specs.Prelude.{ℕ, ◌+◌, ◌-◌, nat_le, ◌&&◌, List, [], ◌∷◌, ◌++◌, Option, true, false, Bool}
use Rattle.std.specs.List.{flat_map, list_all}
use Rattle.std.specs.Option.{option_map_or}
use Rattle.plank_base.specs.declared.places.Place.{Place}
use Rattle.plank_base.specs.declared.limits.TheConstants.{NESTING_LIMIT}
use Rattle.plank_lex.specs.Spelling.{is_name}
use Rattle.plank_lex.specs.declared.symbols.Symbol.{Symbol}
use Rattle.plank_lex.specs.declared.symbols.Symbol.TheVariants as symbol
use Rattle.plank_lex.specs.declared.words.Reserved.{Reserved}
use Rattle.plank_lex.specs.declared.words.Reserved.TheVariants as word
use Rattle.plank_lex.specs.declared.tokens.TokenKind.{TokenKind}
use Rattle.plank_lex.specs.declared.tokens.TokenKind.TheVariants as kind
use Rattle.plank_ast.specs.declared.names.Name.{Name}
use Rattle.plank_ast.specs.declared.names.Reference.{Reference}
use Rattle.plank_ast.specs.declared.names.Field.{Field}
use Rattle.plank_ast.specs.declared.names.Truth.{Truth}
use Rattle.plank_ast.specs.declared.conditions.Comparison.{Comparison}
use Rattle.plank_ast.specs.declared.conditions.Operand.{Operand}
use Rattle.plank_ast.specs.declared.conditions.AtomEnd.{AtomEnd}
use Rattle.plank_ast.specs.declared.conditions.Atom.{Atom}
use Rattle.plank_ast.specs.declared.conditions.Condition.{Condition}
use Rattle.plank_ast.specs.declared.conditions.Conjunction.{Conjunction}
use Rattle.plank_ast.specs.declared.conditions.Literal.{Literal}
use Rattle.plank_ast.specs.declared.conditions.Literal.TheOpen.{Literal-F, Condition-F, Conjunction-F}
use Rattle.plank_ast.specs.declared.conditions.Literal.TheFolds.{fold-Condition, fold-Conjunction, fold-Literal}
use Rattle.plank_ast.specs.declared.header.FlagLine.{FlagLine}
use Rattle.plank_ast.specs.declared.header.Direction.{Direction}
use Rattle.plank_ast.specs.declared.header.PointerLine.{PointerLine}
use Rattle.plank_ast.specs.declared.header.RootLine.{RootLine}
use Rattle.plank_ast.specs.declared.header.StartKey.{StartKey}
use Rattle.plank_ast.specs.declared.header.StartValue.{StartValue}
use Rattle.plank_ast.specs.declared.header.StartItem.{StartItem}
use Rattle.plank_ast.specs.declared.header.StartLine.{StartLine}
use Rattle.plank_ast.specs.declared.header.ConditionLine.{ConditionLine}
use Rattle.plank_ast.specs.declared.header.NamedCondition.{NamedCondition}
use Rattle.plank_ast.specs.declared.statements.Assigned.{Assigned}
use Rattle.plank_ast.specs.declared.statements.With.{With}
use Rattle.plank_ast.specs.declared.statements.Test.{Test}
use Rattle.plank_ast.specs.declared.statements.TestLine.{TestLine}
use Rattle.plank_ast.specs.declared.statements.Tests.{Tests}
use Rattle.plank_ast.specs.declared.statements.Bind.{Bind}
use Rattle.plank_ast.specs.declared.statements.Block.{Block}
use Rattle.plank_ast.specs.declared.statements.Written.{Written}
use Rattle.plank_ast.specs.declared.statements.Write.{Write}
use Rattle.plank_ast.specs.declared.statements.Statement.{Statement}
use Rattle.plank_ast.specs.declared.statements.Body.{Body}
use Rattle.plank_ast.specs.declared.statements.Else.{Else}
use Rattle.plank_ast.specs.declared.statements.Else.TheOpen.{Else-F, Statement-F, Body-F}
use Rattle.plank_ast.specs.declared.statements.Else.TheFolds.{fold-Statement, fold-Body, fold-Else}
use Rattle.plank_ast.specs.declared.methods.Variables.{Variables}
use Rattle.plank_ast.specs.declared.methods.Method.{Method}
use Rattle.plank_ast.specs.declared.methods.Methods.{Methods}

abbrev pub Spelling : Type 0
Spelling = List TokenKind

abbrev pub mark : Symbol → Spelling
mark s = kind.Symbol s ∷ []

abbrev pub keyword : Reserved → Spelling
keyword r = kind.Reserved r ∷ []

-- each part with a token before it
abbrev pub each_after : {A : Type 0} → TokenKind → (A → Spelling) → List A → Spelling
each_after before spelled parts = flat_map (λ part. before ∷ spelled part) parts

-- ---- names

abbrev pub name_tokens : Name → Spelling
name_tokens n = kind.Name n.label ∷ []

abbrev pub reference_tokens : Reference → Spelling
reference_tokens (Reference.Root place) = keyword word.Root
reference_tokens (Reference.Name name) = name_tokens name

abbrev pub field_tokens : Field → Spelling
field_tokens (Field.Name name) = name_tokens name
field_tokens (Field.Key place) = keyword word.Key

abbrev pub truth_word : Bool → Reserved
truth_word true = word.True
truth_word false = word.False

abbrev pub truth_tokens : Truth → Spelling
truth_tokens t = keyword (truth_word t.value)

-- ---- conditions

abbrev pub comparison_symbol : Comparison → Symbol
comparison_symbol Comparison.Equal = symbol.Equal
comparison_symbol Comparison.NotEqual = symbol.NotEqual
comparison_symbol Comparison.Less = symbol.Less
comparison_symbol Comparison.AtMost = symbol.AtMost

-- a dot and a field, where there is one
abbrev pub dotted_tokens : {A : Type 0} → (A → Spelling) → Option A → Spelling
dotted_tokens spelled field = option_map_or (λ f. mark symbol.Dot ++ spelled f) field []

abbrev pub operand_tokens : Operand → Spelling
operand_tokens (Operand.Node node field) = reference_tokens node ++ dotted_tokens field_tokens field
operand_tokens (Operand.Min place) = keyword word.Min
operand_tokens (Operand.Max place) = keyword word.Max
operand_tokens (Operand.Null place) = keyword word.Null

abbrev pub atom_end_tokens : AtomEnd → Spelling
atom_end_tokens AtomEnd.Nothing = []
atom_end_tokens (AtomEnd.Compared comparison place operand) = mark (comparison_symbol comparison) ++ operand_tokens operand
atom_end_tokens (AtomEnd.In place node) = keyword word.In ++ name_tokens node

abbrev pub atom_tokens : Atom → Spelling
atom_tokens a = operand_tokens a.operand ++ atom_end_tokens a.end

-- one layer of a condition, its parts spelled already
abbrev pub literal_step : Literal-F Spelling Spelling Spelling → Spelling
literal_step (Literal-F.True place) = keyword word.True
literal_step (Literal-F.False place) = keyword word.False
literal_step (Literal-F.Group place inner) = mark symbol.OpenParenthesis ++ inner ++ mark symbol.CloseParenthesis
literal_step (Literal-F.Not place node field) = mark symbol.Not ++ name_tokens node ++ mark symbol.Dot ++ name_tokens field
literal_step (Literal-F.Atom atom) = atom_tokens atom

abbrev pub condition_step : Condition-F Spelling Spelling Spelling → Spelling
condition_step c = c.first ++ each_after (kind.Symbol symbol.Or) (λ tokens. tokens) c.others

abbrev pub conjunction_step : Conjunction-F Spelling Spelling Spelling → Spelling
conjunction_step c = c.first ++ each_after (kind.Symbol symbol.And) (λ tokens. tokens) c.others

abbrev pub condition_tokens : Condition → Spelling
condition_tokens = fold-Condition Spelling Spelling Spelling literal_step condition_step conjunction_step

abbrev pub conjunction_tokens : Conjunction → Spelling
conjunction_tokens = fold-Conjunction Spelling Spelling Spelling literal_step condition_step conjunction_step

abbrev pub literal_tokens : Literal → Spelling
literal_tokens = fold-Literal Spelling Spelling Spelling literal_step condition_step conjunction_step

-- ---- the header

abbrev pub flag_tokens : FlagLine → Spelling
flag_tokens f = keyword word.Flag ++ name_tokens f.name ++ mark symbol.Semicolon

abbrev pub direction_word : Direction → Reserved
direction_word Direction.Ascending = word.Ascending
direction_word Direction.Descending = word.Descending
direction_word Direction.Free = word.Free

abbrev pub pointer_tokens : PointerLine → Spelling
pointer_tokens p = keyword word.Pointer ++ name_tokens p.name ++ keyword (direction_word p.direction) ++ mark symbol.Semicolon

abbrev pub root_tokens : RootLine → Spelling
root_tokens r = keyword word.Root ++ name_tokens r.name ++ mark symbol.Semicolon

abbrev pub start_key_word : StartKey → Reserved
start_key_word StartKey.Min = word.Min
start_key_word StartKey.Max = word.Max

abbrev pub start_value_tokens : StartValue → Spelling
start_value_tokens (StartValue.Flag truth) = truth_tokens truth
start_value_tokens (StartValue.Null place) = keyword word.Null
start_value_tokens (StartValue.Node name) = name_tokens name

abbrev pub start_item_tokens : StartItem → Spelling
start_item_tokens i = name_tokens i.field ++ mark symbol.Assign ++ start_value_tokens i.value ++ mark symbol.Semicolon

-- the line of a start node's key
abbrev pub start_key_tokens : StartKey → Spelling
start_key_tokens key = keyword word.Key ++ mark symbol.Assign ++ keyword (start_key_word key) ++ mark symbol.Semicolon

abbrev pub start_tokens : StartLine → Spelling
start_tokens s =
    keyword word.Start ++ name_tokens s.name ++ mark symbol.OpenBrace ++ start_key_tokens s.key
    ++ flat_map start_item_tokens s.items ++ mark symbol.CloseBrace

-- a line of a condition, after its word
abbrev pub condition_line_tokens : Reserved → ConditionLine → Spelling
condition_line_tokens r c = keyword r ++ condition_tokens c.condition ++ mark symbol.Semicolon

abbrev pub named_condition_tokens : Reserved → NamedCondition → Spelling
named_condition_tokens r c =
    keyword r ++ name_tokens c.name ++ mark symbol.Colon ++ condition_tokens c.condition ++ mark symbol.Semicolon

-- ---- statements

abbrev pub assigned_tokens : Assigned → Spelling
assigned_tokens (Assigned.New place) = keyword word.New
assigned_tokens (Assigned.Null place) = keyword word.Null
assigned_tokens (Assigned.Node node field) = reference_tokens node ++ dotted_tokens name_tokens field

-- references, each after a comma
abbrev pub more_reference_tokens : List Reference → Spelling
more_reference_tokens = each_after (kind.Symbol symbol.Comma) reference_tokens

abbrev pub with_tokens : With → Spelling
with_tokens w =
    keyword word.With ++ reference_tokens w.first ++ more_reference_tokens w.others ++ mark symbol.Semicolon

abbrev pub test_tokens : Test → Spelling
test_tokens (Test.Not place node field) = mark symbol.Not ++ reference_tokens node ++ mark symbol.Dot ++ name_tokens field
test_tokens (Test.Atom atom) = atom_tokens atom

abbrev pub test_line_tokens : TestLine → Spelling
test_line_tokens t = keyword word.Test ++ test_tokens t.test ++ mark symbol.Semicolon

-- tests, each after `&&`
abbrev pub more_test_tokens : List Test → Spelling
more_test_tokens = each_after (kind.Symbol symbol.And) test_tokens

-- the tests of an `if` or a `while`, with their parentheses
abbrev pub tests_tokens : Tests → Spelling
tests_tokens t =
    mark symbol.OpenParenthesis ++ test_tokens t.first ++ more_test_tokens t.others ++ mark symbol.CloseParenthesis

abbrev pub bind_tokens : Bind → Spelling
bind_tokens b =
    name_tokens b.variable ++ mark symbol.Assign ++ reference_tokens b.node ++ mark symbol.Dot ++ name_tokens b.field
    ++ mark symbol.Semicolon

abbrev pub written_tokens : Written → Spelling
written_tokens (Written.Flag truth) = truth_tokens truth
written_tokens (Written.Null place) = keyword word.Null
written_tokens (Written.Node node) = reference_tokens node

abbrev pub write_tokens : Write → Spelling
write_tokens w =
    keyword word.Write ++ reference_tokens w.node ++ mark symbol.Dot ++ name_tokens w.field ++ mark symbol.Assign
    ++ written_tokens w.value ++ mark symbol.Semicolon

-- what stands between the braces of an atomic block
abbrev pub block_tokens : Block → Spelling
block_tokens b =
    option_map_or with_tokens b.with [] ++ flat_map test_line_tokens b.tests ++ flat_map bind_tokens b.binds
    ++ flat_map write_tokens b.writes

-- a word, a node and a semicolon
abbrev pub node_line_tokens : Reserved → Reference → Spelling
node_line_tokens r node = keyword r ++ reference_tokens node ++ mark symbol.Semicolon

-- a word and a semicolon
abbrev pub word_line_tokens : Reserved → Spelling
word_line_tokens r = keyword r ++ mark symbol.Semicolon

-- one layer of a statement, its parts spelled already
abbrev pub body_step : Body-F Spelling Spelling Spelling → Spelling
body_step b = mark symbol.OpenBrace ++ flat_map (λ tokens. tokens) b.statements ++ mark symbol.CloseBrace

abbrev pub else_step : Else-F Spelling Spelling Spelling → Spelling
else_step Else-F.Nothing = []
else_step (Else-F.Body place body) = keyword word.Else ++ body

abbrev pub statement_step : Statement-F Spelling Spelling Spelling → Spelling
statement_step (Statement-F.Assign variable value) =
    name_tokens variable ++ mark symbol.Assign ++ assigned_tokens value ++ mark symbol.Semicolon
statement_step (Statement-F.Atomic place block otherwise) =
    keyword word.Atomic ++ mark symbol.OpenBrace ++ block_tokens block ++ mark symbol.CloseBrace ++ otherwise
statement_step (Statement-F.Lock place node) = node_line_tokens word.Lock node
statement_step (Statement-F.Unlock place node) = node_line_tokens word.Unlock node
statement_step (Statement-F.If place tests body otherwise) = keyword word.If ++ tests_tokens tests ++ body ++ otherwise
statement_step (Statement-F.While place tests body) = keyword word.While ++ tests_tokens tests ++ body
statement_step (Statement-F.Loop place body) = keyword word.Loop ++ body
statement_step (Statement-F.Break place) = word_line_tokens word.Break
statement_step (Statement-F.Continue place) = word_line_tokens word.Continue
statement_step (Statement-F.Return place answer) = keyword word.Return ++ truth_tokens answer ++ mark symbol.Semicolon

abbrev pub statement_tokens : Statement → Spelling
statement_tokens = fold-Statement Spelling Spelling Spelling else_step statement_step body_step

abbrev pub body_tokens : Body → Spelling
body_tokens = fold-Body Spelling Spelling Spelling else_step statement_step body_step

abbrev pub else_tokens : Else → Spelling
else_tokens = fold-Else Spelling Spelling Spelling else_step statement_step body_step

-- ---- methods and the text

-- names, each after a comma
abbrev pub more_name_tokens : List Name → Spelling
more_name_tokens = each_after (kind.Symbol symbol.Comma) name_tokens

abbrev pub variables_tokens : Variables → Spelling
variables_tokens v = keyword word.Variable ++ name_tokens v.first ++ more_name_tokens v.others ++ mark symbol.Semicolon

-- the word, the name, the kind and the argument of a method
abbrev pub signature_tokens : Name → Option Name → Name → Spelling
signature_tokens name purpose argument =
    keyword word.Method ++ name_tokens name ++ option_map_or (λ k. keyword word.As ++ name_tokens k) purpose []
    ++ mark symbol.OpenParenthesis ++ name_tokens argument ++ mark symbol.CloseParenthesis

abbrev pub method_tokens : Method → Spelling
method_tokens m =
    signature_tokens m.name m.kind m.argument ++ mark symbol.OpenBrace ++ option_map_or variables_tokens m.variables []
    ++ flat_map statement_tokens m.statements ++ mark symbol.CloseBrace

abbrev pub methods_tokens : Methods → Spelling
methods_tokens m = method_tokens m.first ++ flat_map method_tokens m.others

-- the lines that declare the fields, the root and the start nodes
abbrev pub declarations_tokens : Name → List FlagLine → List PointerLine → Option Place → List RootLine → List StartLine → Spelling
declarations_tokens structure flags pointers lock roots starts =
    keyword word.Structure ++ name_tokens structure ++ mark symbol.Semicolon
    ++ flat_map flag_tokens flags ++ flat_map pointer_tokens pointers
    ++ option_map_or (λ place. word_line_tokens word.Lock) lock []
    ++ flat_map root_tokens roots ++ flat_map start_tokens starts

-- the lines of the conditions
abbrev pub conditions_tokens : List NamedCondition → ConditionLine → List NamedCondition → Option ConditionLine → Spelling
conditions_tokens edges holds keeps freeze =
    flat_map (named_condition_tokens word.Edge) edges ++ condition_line_tokens word.Holds holds
    ++ flat_map (named_condition_tokens word.Keep) keeps
    ++ option_map_or (condition_line_tokens word.Freeze) freeze []

-- the tokens of a text, without the end, by the parts of its rule
abbrev pub parts_tokens : Name → List FlagLine → List PointerLine → Option Place → List RootLine → List StartLine → List NamedCondition → ConditionLine → List NamedCondition → Option ConditionLine → Methods → Spelling
parts_tokens structure flags pointers lock roots starts edges holds keeps freeze methods =
    declarations_tokens structure flags pointers lock roots starts ++ conditions_tokens edges holds keeps freeze
    ++ methods_tokens methods

-- ---- what every text keeps

-- whether a token may stand in a text: a name is one, and the end is no part of it
abbrev pub may_stand : TokenKind → Bool
may_stand (kind.Symbol s) = true
may_stand (kind.Reserved r) = true
may_stand (kind.Name label) = is_name label
may_stand kind.End = false

-- how many braces and parentheses are open after a token
abbrev pub open_after : ℕ → TokenKind → ℕ
open_after depth (kind.Symbol symbol.OpenBrace) = depth + 1
open_after depth (kind.Symbol symbol.OpenParenthesis) = depth + 1
open_after depth (kind.Symbol symbol.CloseBrace) = depth - 1
open_after depth (kind.Symbol symbol.CloseParenthesis) = depth - 1
open_after depth k = depth

-- whether no more than so many braces and parentheses are open at once
abbrev pub nests_within : ℕ → ℕ → Spelling → Bool
nests_within limit depth [] = true
nests_within limit depth (k ∷ ks) = nat_le (open_after depth k) limit && nests_within limit (open_after depth k) ks

-- whether the names are names, and the brackets are not too deep
abbrev pub is_lawful : Spelling → Bool
is_lawful ks = list_all may_stand ks && nests_within NESTING_LIMIT 0 ks
