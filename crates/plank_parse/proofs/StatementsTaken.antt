-- The grammar takes every statement.
use Rattle.std.proofs.Common.{◌≡◌, Bool, true, false, not, List, [], ◌∷◌, ◌++◌, map, refl, sym, subst, append_assoc}
use Rattle.std.specs.List.{flat_map}
use Rattle.plank_lex.specs.declared.symbols.Symbol.TheVariants as symbol
use Rattle.plank_lex.specs.declared.words.Reserved.{Reserved}
use Rattle.plank_lex.specs.declared.words.Reserved.TheVariants as word
use Rattle.plank_lex.specs.declared.tokens.TokenKind.TheVariants as kind
use Rattle.plank_ast.specs.declared.names.Name.{Name}
use Rattle.plank_ast.specs.declared.names.Reference.{Reference}
use Rattle.plank_ast.specs.declared.statements.Assigned.{Assigned}
use Rattle.plank_ast.specs.declared.statements.With.{With}
use Rattle.plank_ast.specs.declared.statements.Test.{Test}
use Rattle.plank_ast.specs.declared.statements.TestLine.{TestLine}
use Rattle.plank_ast.specs.declared.statements.Tests.{Tests}
use Rattle.plank_ast.specs.declared.statements.Bind.{Bind}
use Rattle.plank_ast.specs.declared.statements.Block.{Block}
use Rattle.plank_ast.specs.declared.statements.Written.{Written}
use Rattle.plank_ast.specs.declared.statements.Write.{Write}
use Rattle.plank_ast.specs.declared.statements.Statement.{Statement}
use Rattle.plank_ast.specs.declared.statements.Body.{Body}
use Rattle.plank_ast.specs.declared.statements.Else.{Else}
use Rattle.plank_ast.specs.declared.statements.Else.TheOpen.{Else-F, Statement-F, Body-F}
use Rattle.plank_ast.specs.declared.statements.Else.TheViews.{roll-Else, roll-Statement, roll-Body}
use Rattle.plank_ast.specs.declared.statements.Else.TheFolds.{map-Else, map-Statement, map-Body, fold-roll-Else, fold-roll-Statement, fold-roll-Body, ind-Statement}
use Rattle.plank_ast.specs.Spelling.{Spelling, mark, keyword, name_tokens, reference_tokens, truth_word, assigned_tokens, with_tokens, test_tokens, test_line_tokens, more_test_tokens, tests_tokens, bind_tokens, written_tokens, write_tokens, block_tokens, node_line_tokens, word_line_tokens, else_step, statement_step, body_step, statement_tokens, body_tokens, else_tokens}
use Rattle.plank_parse.proofs.Grammars.{both, tests, block, statements, nullable, firsts, goes_on, disjoint}
use Rattle.plank_parse.proofs.Taken.{taken_nothing, Repeated, no_repeat, repeat, taken_many}
use Rattle.plank_parse.proofs.TextGrammar.{rules, sign, a_name, reference_g, field_g, truth_g, node_operand_g, operand_g, atom_end_g, atom_g, assigned_node_g, assigned_g, assignment_g, negated_test_g, test_g, inner_tests_g, tests_g, with_line_g, test_line_g, selection_g, bind_g, written_g, write_g, block_g, braced_block_g, node_line_g, word_line_g, return_line_g, body_g, otherwise_g, atomic_g, if_g, while_g, loop_g, statement_g}
use Rattle.plank_parse.proofs.StatementRules.{negated_spelled, with_spelled, bind_spelled, write_spelled, block_spelled}
use Rattle.plank_parse.proofs.ConditionsTaken.{Takes, sign_taken, word_taken, name_taken, then_taken, first_taken, second_taken, perhaps_taken, every_taken, each_after_taken, group_taken, reference_taken, truth_taken, dotted_taken, atom_taken}

-- ---- assignments and tests

assigned_taken : (a : Assigned) → Takes assigned_g (assigned_tokens a)
unfolding assigned_g assigned_node_g reference_g
assigned_taken (Assigned.New p) = first_taken refl (word_taken word.New)
assigned_taken (Assigned.Null p) = second_taken refl (first_taken refl (word_taken word.Null))
assigned_taken (Assigned.Node node field) = second_taken refl (second_taken refl (then_taken refl (reference_taken node) (dotted_taken a_name name_tokens name_taken field)))

test_taken : (t : Test) → Takes test_g (test_tokens t)
unfolding reference_g field_g node_operand_g operand_g atom_end_g atom_g negated_test_g test_g
test_taken (Test.Not place node field) = first_taken refl (subst (λ (ks : Spelling). Takes negated_test_g ks) (negated_spelled place node field)
    (then_taken refl (sign_taken symbol.Not) (then_taken refl (reference_taken node) (then_taken refl (sign_taken symbol.Dot) (name_taken field)))))
test_taken (Test.Atom atom) = second_taken refl (atom_taken atom)

more_tests_apart : disjoint (goes_on (both (sign symbol.And) test_g)) (firsts (both (sign symbol.And) test_g)) ≡ true
unfolding reference_g field_g node_operand_g operand_g atom_end_g atom_g negated_test_g test_g
more_tests_apart = refl

tests_taken : (t : Tests) → Takes tests_g (tests_tokens t)
unfolding reference_g field_g node_operand_g operand_g atom_end_g atom_g negated_test_g test_g inner_tests_g tests_g rules
tests_taken t = group_taken (kind.Symbol symbol.OpenParenthesis) tests (kind.Symbol symbol.CloseParenthesis) (test_tokens t.first ++ more_test_tokens t.others) refl
    (then_taken refl (test_taken t.first) (each_after_taken symbol.And test_g test_tokens more_tests_apart test_taken t.others))

-- ---- atomic blocks

more_references_apart : disjoint (goes_on (both (sign symbol.Comma) reference_g)) (firsts (both (sign symbol.Comma) reference_g)) ≡ true
unfolding reference_g
more_references_apart = refl

with_taken : (w : With) → Takes with_line_g (with_tokens w)
unfolding with_line_g reference_g
with_taken w = subst (λ (ks : Spelling). Takes with_line_g ks) (with_spelled w.place w.first w.others)
    (then_taken refl (word_taken word.With) (then_taken refl (reference_taken w.first) (then_taken refl (each_after_taken symbol.Comma reference_g reference_tokens more_references_apart reference_taken w.others) (sign_taken symbol.Semicolon))))

test_line_taken : (t : TestLine) → Takes test_line_g (test_line_tokens t)
unfolding reference_g field_g node_operand_g operand_g atom_end_g atom_g negated_test_g test_g test_line_g
test_line_taken t = then_taken refl (word_taken word.Test) (then_taken refl (test_taken t.test) (sign_taken symbol.Semicolon))

selection_taken : (node : Reference) (field : Name) → Takes selection_g (reference_tokens node ++ (mark symbol.Dot ++ name_tokens field))
unfolding selection_g reference_g
selection_taken node field = then_taken refl (reference_taken node) (then_taken refl (sign_taken symbol.Dot) (name_taken field))

bind_taken : (b : Bind) → Takes bind_g (bind_tokens b)
unfolding bind_g selection_g reference_g
bind_taken b = subst (λ (ks : Spelling). Takes bind_g ks) (bind_spelled b.variable b.node b.field)
    (then_taken refl (name_taken b.variable) (then_taken refl (sign_taken symbol.Assign) (then_taken refl (selection_taken b.node b.field) (sign_taken symbol.Semicolon))))

flag_written : (b : Bool) → Takes written_g (keyword (truth_word b))
unfolding written_g reference_g
flag_written true = first_taken refl (word_taken word.True)
flag_written false = second_taken refl (first_taken refl (word_taken word.False))

node_written : (node : Reference) → Takes written_g (reference_tokens node)
unfolding written_g reference_g
node_written node = second_taken refl (second_taken refl (second_taken refl (reference_taken node)))

written_taken : (w : Written) → Takes written_g (written_tokens w)
unfolding written_g reference_g
written_taken (Written.Flag truth) = flag_written truth.value
written_taken (Written.Null p) = second_taken refl (second_taken refl (first_taken refl (word_taken word.Null)))
written_taken (Written.Node node) = node_written node

write_taken : (w : Write) → Takes write_g (write_tokens w)
unfolding write_g selection_g written_g reference_g
write_taken w = subst (λ (ks : Spelling). Takes write_g ks) (write_spelled w.place w.node w.field w.value)
    (then_taken refl (word_taken word.Write) (then_taken refl (selection_taken w.node w.field) (then_taken refl (sign_taken symbol.Assign) (then_taken refl (written_taken w.value) (sign_taken symbol.Semicolon)))))

block_taken : (b : Block) → Takes block_g (block_tokens b)
unfolding reference_g field_g node_operand_g operand_g atom_end_g atom_g negated_test_g test_g with_line_g test_line_g selection_g bind_g written_g write_g block_g
block_taken b = subst (λ (ks : Spelling). Takes block_g ks) (block_spelled b)
    (then_taken refl (perhaps_taken with_line_g with_tokens refl with_taken b.with) (then_taken refl (every_taken test_line_g test_line_tokens refl refl test_line_taken b.tests)
    (then_taken refl (every_taken bind_g bind_tokens refl refl bind_taken b.binds) (every_taken write_g write_tokens refl refl write_taken b.writes))))

braced_block_taken : (b : Block) → Takes braced_block_g (mark symbol.OpenBrace ++ (block_tokens b ++ mark symbol.CloseBrace))
unfolding reference_g field_g node_operand_g operand_g atom_end_g atom_g negated_test_g test_g with_line_g test_line_g selection_g bind_g written_g write_g block_g braced_block_g rules
braced_block_taken b = group_taken (kind.Symbol symbol.OpenBrace) block (kind.Symbol symbol.CloseBrace) (block_tokens b) refl (block_taken b)

-- ---- by induction over statements

abbrev StatementTaken : Statement → Type 0
StatementTaken s = Takes statement_g (statement_tokens s)

abbrev BodyTaken : Body → Type 0
BodyTaken b = Takes body_g (body_tokens b)

abbrev ElseTaken : Else → Type 0
ElseTaken e = Takes otherwise_g (else_tokens e)

-- a part with its proof
abbrev ProvedStatement : Type 0
ProvedStatement = (s : Statement) × StatementTaken s

abbrev ProvedBody : Type 0
ProvedBody = (b : Body) × BodyTaken b

abbrev ProvedElse : Type 0
ProvedElse = (e : Else) × ElseTaken e

pub statement_apart : disjoint (goes_on statement_g) (firsts statement_g) ≡ true
unfolding reference_g assigned_node_g assigned_g assignment_g atomic_g node_line_g if_g while_g loop_g word_line_g return_line_g truth_g tests_g body_g otherwise_g braced_block_g statement_g
statement_apart = refl

pub statement_some : not (nullable statement_g) ≡ true
unfolding reference_g assigned_node_g assigned_g assignment_g atomic_g node_line_g if_g while_g loop_g word_line_g return_line_g truth_g tests_g body_g otherwise_g braced_block_g statement_g
statement_some = refl

statements_taken : (ss : List ProvedStatement) → Repeated rules statement_g (flat_map (λ tokens. tokens) (map statement_tokens (map (λ e. e.0) ss)))
statements_taken [] = no_repeat rules statement_g
statements_taken (e ∷ ss) = repeat rules statement_g (statement_tokens e.0) (flat_map (λ tokens. tokens) (map statement_tokens (map (λ e. e.0) ss))) statement_some statement_apart e.1 (statements_taken ss)

abbrev plain_else : Else-F ProvedElse ProvedStatement ProvedBody → Else-F Else Statement Body
plain_else y = map-Else ProvedElse ProvedStatement ProvedBody Else Statement Body (λ e. e.0) (λ e. e.0) (λ e. e.0) y

abbrev plain_statement : Statement-F ProvedElse ProvedStatement ProvedBody → Statement-F Else Statement Body
plain_statement y = map-Statement ProvedElse ProvedStatement ProvedBody Else Statement Body (λ e. e.0) (λ e. e.0) (λ e. e.0) y

abbrev plain_body : Body-F ProvedElse ProvedStatement ProvedBody → Body-F Else Statement Body
plain_body y = map-Body ProvedElse ProvedStatement ProvedBody Else Statement Body (λ e. e.0) (λ e. e.0) (λ e. e.0) y

else_layer : (y : Else-F ProvedElse ProvedStatement ProvedBody) → Takes otherwise_g (else_step (map-Else Else Statement Body Spelling Spelling Spelling else_tokens statement_tokens body_tokens (plain_else y)))
unfolding otherwise_g body_g
else_layer Else-F.Nothing = second_taken refl (taken_nothing rules)
else_layer (Else-F.Body place body) = first_taken refl (then_taken refl (word_taken word.Else) body.1)

body_layer : (ss : List ProvedStatement) → Takes body_g (mark symbol.OpenBrace ++ (flat_map (λ tokens. tokens) (map statement_tokens (map (λ e. e.0) ss)) ++ mark symbol.CloseBrace))
unfolding rules reference_g assigned_node_g assigned_g assignment_g atomic_g node_line_g if_g while_g loop_g word_line_g return_line_g truth_g tests_g body_g otherwise_g braced_block_g statement_g
body_layer ss = group_taken (kind.Symbol symbol.OpenBrace) statements (kind.Symbol symbol.CloseBrace) (flat_map (λ tokens. tokens) (map statement_tokens (map (λ e. e.0) ss))) refl (taken_many rules _ _ (statements_taken ss))

node_line_taken : (r : Reserved) (node : Reference) → Takes (node_line_g r) (node_line_tokens r node)
unfolding node_line_g reference_g
node_line_taken r node = then_taken refl (word_taken r) (then_taken refl (reference_taken node) (sign_taken symbol.Semicolon))

pub word_line_taken : (r : Reserved) → Takes (word_line_g r) (word_line_tokens r)
unfolding word_line_g
word_line_taken r = then_taken refl (word_taken r) (sign_taken symbol.Semicolon)

if_taken : (ts : Tests) (body : ProvedBody) (otherwise : ProvedElse) → Takes if_g (keyword word.If ++ tests_tokens ts ++ body_tokens body.0 ++ else_tokens otherwise.0)
unfolding if_g tests_g body_g otherwise_g
if_taken ts body otherwise = subst (λ (ks : Spelling). Takes if_g ks) (sym (append_assoc (keyword word.If ++ tests_tokens ts) (body_tokens body.0) (else_tokens otherwise.0)))
    (then_taken refl (word_taken word.If) (then_taken refl (tests_taken ts) (then_taken refl body.1 otherwise.1)))

statement_layer : (y : Statement-F ProvedElse ProvedStatement ProvedBody) → Takes statement_g (statement_step (map-Statement Else Statement Body Spelling Spelling Spelling else_tokens statement_tokens body_tokens (plain_statement y)))
unfolding reference_g assigned_node_g assigned_g assignment_g atomic_g node_line_g if_g while_g loop_g word_line_g return_line_g truth_g tests_g body_g otherwise_g braced_block_g statement_g
statement_layer (Statement-F.Assign variable value) = first_taken refl (then_taken refl (name_taken variable) (then_taken refl (sign_taken symbol.Assign) (then_taken refl (assigned_taken value) (sign_taken symbol.Semicolon))))
statement_layer (Statement-F.Atomic place b otherwise) = second_taken refl (first_taken refl (then_taken refl (word_taken word.Atomic) (then_taken refl (braced_block_taken b) otherwise.1)))
statement_layer (Statement-F.Lock place node) = second_taken refl (second_taken refl (first_taken refl (node_line_taken word.Lock node)))
statement_layer (Statement-F.Unlock place node) = second_taken refl (second_taken refl (second_taken refl (first_taken refl (node_line_taken word.Unlock node))))
statement_layer (Statement-F.If place ts body otherwise) = second_taken refl (second_taken refl (second_taken refl (second_taken refl (first_taken refl (if_taken ts body otherwise)))))
statement_layer (Statement-F.While place ts body) = second_taken refl (second_taken refl (second_taken refl (second_taken refl (second_taken refl (first_taken refl
    (then_taken refl (word_taken word.While) (then_taken refl (tests_taken ts) body.1)))))))
statement_layer (Statement-F.Loop place body) = second_taken refl (second_taken refl (second_taken refl (second_taken refl (second_taken refl (second_taken refl (first_taken refl (then_taken refl (word_taken word.Loop) body.1)))))))
statement_layer (Statement-F.Break place) = second_taken refl (second_taken refl (second_taken refl (second_taken refl (second_taken refl (second_taken refl (second_taken refl (first_taken refl (word_line_taken word.Break))))))))
statement_layer (Statement-F.Continue place) = second_taken refl (second_taken refl (second_taken refl (second_taken refl (second_taken refl (second_taken refl (second_taken refl (second_taken refl (first_taken refl (word_line_taken word.Continue)))))))))
statement_layer (Statement-F.Return place answer) = second_taken refl (second_taken refl (second_taken refl (second_taken refl (second_taken refl (second_taken refl (second_taken refl (second_taken refl (second_taken refl
    (then_taken refl (word_taken word.Return) (then_taken refl (truth_taken answer) (sign_taken symbol.Semicolon)))))))))))

pub statement_taken : (s : Statement) → Takes statement_g (statement_tokens s)
statement_taken = ind-Statement ElseTaken StatementTaken BodyTaken
    (λ x y is. subst (λ (z : Else-F Else Statement Body). ElseTaken (roll-Else z)) is
    (subst (λ (ks : Spelling). Takes otherwise_g ks) (sym (fold-roll-Else Spelling Spelling Spelling else_step statement_step body_step (plain_else y))) (else_layer y)))
    (λ x y is. subst (λ (z : Statement-F Else Statement Body). StatementTaken (roll-Statement z)) is
    (subst (λ (ks : Spelling). Takes statement_g ks) (sym (fold-roll-Statement Spelling Spelling Spelling else_step statement_step body_step (plain_statement y))) (statement_layer y)))
    (λ x y is. subst (λ (z : Body-F Else Statement Body). BodyTaken (roll-Body z)) is
    (subst (λ (ks : Spelling). Takes body_g ks) (sym (fold-roll-Body Spelling Spelling Spelling else_step statement_step body_step (plain_body y))) (body_layer y.statements)))
