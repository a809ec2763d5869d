-- No statement has `!` before `=` or `==`: a name or `root` follows each `!`.
use Rattle.std.proofs.Common.{List, [], ◌∷◌, ◌++◌, map, refl, sym, subst}
use Rattle.plank_lex.specs.declared.symbols.Symbol.TheVariants as symbol
use Rattle.plank_lex.specs.declared.words.Reserved.{Reserved}
use Rattle.plank_lex.specs.declared.words.Reserved.TheVariants as word
use Rattle.plank_ast.specs.declared.names.Reference.{Reference}
use Rattle.plank_ast.specs.declared.names.Truth.{Truth}
use Rattle.plank_ast.specs.declared.statements.Assigned.{Assigned}
use Rattle.plank_ast.specs.declared.statements.With.{With}
use Rattle.plank_ast.specs.declared.statements.Test.{Test}
use Rattle.plank_ast.specs.declared.statements.TestLine.{TestLine}
use Rattle.plank_ast.specs.declared.statements.Tests.{Tests}
use Rattle.plank_ast.specs.declared.statements.Bind.{Bind}
use Rattle.plank_ast.specs.declared.statements.Block.{Block}
use Rattle.plank_ast.specs.declared.statements.Written.{Written}
use Rattle.plank_ast.specs.declared.statements.Write.{Write}
use Rattle.plank_ast.specs.declared.statements.Statement.{Statement}
use Rattle.plank_ast.specs.declared.statements.Body.{Body}
use Rattle.plank_ast.specs.declared.statements.Else.{Else}
use Rattle.plank_ast.specs.declared.statements.Else.TheOpen.{Else-F, Statement-F, Body-F}
use Rattle.plank_ast.specs.declared.statements.Else.TheViews.{roll-Else, roll-Statement, roll-Body}
use Rattle.plank_ast.specs.declared.statements.Else.TheFolds.{map-Else, map-Statement, map-Body, fold-roll-Else, fold-roll-Statement, fold-roll-Body, ind-Statement}
use Rattle.plank_ast.specs.Spelling.{Spelling, mark, name_tokens, reference_tokens, truth_word, truth_tokens, assigned_tokens, with_tokens, test_tokens, test_line_tokens, tests_tokens, bind_tokens, written_tokens, write_tokens, block_tokens, node_line_tokens, word_line_tokens, else_step, statement_step, body_step, statement_tokens, body_tokens, else_tokens}
use Rattle.std.specs.List.{flat_map}
use Rattle.plank_ast.proofs.Apart.{Apart, none, sign, reserved, both, perhaps, every, every_after}
use Rattle.plank_ast.proofs.ConditionsApart.{name_apart, reference_apart, atom_apart}

pub truth_apart : (t : Truth) → Apart (truth_tokens t)
truth_apart t = reserved (truth_word t.value)

assigned_apart : (a : Assigned) → Apart (assigned_tokens a)
assigned_apart (Assigned.New place) = reserved word.New
assigned_apart (Assigned.Null place) = reserved word.Null
assigned_apart (Assigned.Node node field) =
    both (reference_apart node) (perhaps (λ f. mark symbol.Dot ++ name_tokens f) (λ f. both (sign symbol.Dot refl) (name_apart f)) field)

with_apart : (w : With) → Apart (with_tokens w)
with_apart w =
    both (both (both (reserved word.With) (reference_apart w.first)) (every_after symbol.Comma refl reference_tokens reference_apart w.others))
    (sign symbol.Semicolon refl)

test_apart : (t : Test) → Apart (test_tokens t)
test_apart (Test.Not place (Reference.Root at) field) = record { before = λ rest h. h }
test_apart (Test.Not place (Reference.Name name) field) = record { before = λ rest h. h }
test_apart (Test.Atom atom) = atom_apart atom

test_line_apart : (t : TestLine) → Apart (test_line_tokens t)
test_line_apart t = both (both (reserved word.Test) (test_apart t.test)) (sign symbol.Semicolon refl)

tests_apart : (t : Tests) → Apart (tests_tokens t)
tests_apart t =
    both (both (both (sign symbol.OpenParenthesis refl) (test_apart t.first)) (every_after symbol.And refl test_tokens test_apart t.others))
    (sign symbol.CloseParenthesis refl)

bind_apart : (b : Bind) → Apart (bind_tokens b)
bind_apart b =
    both (both (both (both (both (name_apart b.variable) (sign symbol.Assign refl)) (reference_apart b.node)) (sign symbol.Dot refl)) (name_apart b.field))
    (sign symbol.Semicolon refl)

written_apart : (w : Written) → Apart (written_tokens w)
written_apart (Written.Flag truth) = truth_apart truth
written_apart (Written.Null place) = reserved word.Null
written_apart (Written.Node node) = reference_apart node

write_apart : (w : Write) → Apart (write_tokens w)
write_apart w =
    both (both (both (both (both (both (reserved word.Write) (reference_apart w.node)) (sign symbol.Dot refl)) (name_apart w.field)) (sign symbol.Assign refl)) (written_apart w.value))
    (sign symbol.Semicolon refl)

block_apart : (b : Block) → Apart (block_tokens b)
block_apart b =
    both (both (both (perhaps with_tokens with_apart b.with) (every test_line_tokens test_line_apart b.tests)) (every bind_tokens bind_apart b.binds))
    (every write_tokens write_apart b.writes)

node_line_apart : (r : Reserved) (node : Reference) → Apart (node_line_tokens r node)
node_line_apart r node = both (both (reserved r) (reference_apart node)) (sign symbol.Semicolon refl)

pub word_line_apart : (r : Reserved) → Apart (word_line_tokens r)
word_line_apart r = both (reserved r) (sign symbol.Semicolon refl)

-- ---- by induction over statements

abbrev StatementApart : Statement → Type 0
StatementApart s = Apart (statement_tokens s)

abbrev BodyApart : Body → Type 0
BodyApart b = Apart (body_tokens b)

abbrev ElseApart : Else → Type 0
ElseApart e = Apart (else_tokens e)

-- a part with its proof
abbrev ProvedStatement : Type 0
ProvedStatement = (s : Statement) × StatementApart s

abbrev ProvedBody : Type 0
ProvedBody = (b : Body) × BodyApart b

abbrev ProvedElse : Type 0
ProvedElse = (e : Else) × ElseApart e

statements_apart : (ss : List ProvedStatement) → Apart (flat_map (λ tokens. tokens) (map statement_tokens (map (λ e. e.0) ss)))
statements_apart [] = none
statements_apart (e ∷ ss) = both e.1 (statements_apart ss)

abbrev plain_else : Else-F ProvedElse ProvedStatement ProvedBody → Else-F Else Statement Body
plain_else y = map-Else ProvedElse ProvedStatement ProvedBody Else Statement Body (λ e. e.0) (λ e. e.0) (λ e. e.0) y

abbrev plain_statement : Statement-F ProvedElse ProvedStatement ProvedBody → Statement-F Else Statement Body
plain_statement y = map-Statement ProvedElse ProvedStatement ProvedBody Else Statement Body (λ e. e.0) (λ e. e.0) (λ e. e.0) y

abbrev plain_body : Body-F ProvedElse ProvedStatement ProvedBody → Body-F Else Statement Body
plain_body y = map-Body ProvedElse ProvedStatement ProvedBody Else Statement Body (λ e. e.0) (λ e. e.0) (λ e. e.0) y

else_layer : (y : Else-F ProvedElse ProvedStatement ProvedBody) → Apart (else_step (map-Else Else Statement Body Spelling Spelling Spelling else_tokens statement_tokens body_tokens (plain_else y)))
else_layer Else-F.Nothing = none
else_layer (Else-F.Body place body) = both (reserved word.Else) body.1

statement_layer : (y : Statement-F ProvedElse ProvedStatement ProvedBody) → Apart (statement_step (map-Statement Else Statement Body Spelling Spelling Spelling else_tokens statement_tokens body_tokens (plain_statement y)))
statement_layer (Statement-F.Assign variable value) = both (both (both (name_apart variable) (sign symbol.Assign refl)) (assigned_apart value)) (sign symbol.Semicolon refl)
statement_layer (Statement-F.Atomic place block otherwise) =
    both (both (both (both (reserved word.Atomic) (sign symbol.OpenBrace refl)) (block_apart block)) (sign symbol.CloseBrace refl)) otherwise.1
statement_layer (Statement-F.Lock place node) = node_line_apart word.Lock node
statement_layer (Statement-F.Unlock place node) = node_line_apart word.Unlock node
statement_layer (Statement-F.If place tests body otherwise) = both (both (both (reserved word.If) (tests_apart tests)) body.1) otherwise.1
statement_layer (Statement-F.While place tests body) = both (both (reserved word.While) (tests_apart tests)) body.1
statement_layer (Statement-F.Loop place body) = both (reserved word.Loop) body.1
statement_layer (Statement-F.Break place) = word_line_apart word.Break
statement_layer (Statement-F.Continue place) = word_line_apart word.Continue
statement_layer (Statement-F.Return place answer) = both (both (reserved word.Return) (truth_apart answer)) (sign symbol.Semicolon refl)

pub statement_apart : (s : Statement) → Apart (statement_tokens s)
statement_apart = ind-Statement ElseApart StatementApart BodyApart
    (λ x y is. subst (λ (z : Else-F Else Statement Body). ElseApart (roll-Else z)) is
    (subst (λ (ks : Spelling). Apart ks) (sym (fold-roll-Else Spelling Spelling Spelling else_step statement_step body_step (plain_else y))) (else_layer y)))
    (λ x y is. subst (λ (z : Statement-F Else Statement Body). StatementApart (roll-Statement z)) is
    (subst (λ (ks : Spelling). Apart ks) (sym (fold-roll-Statement Spelling Spelling Spelling else_step statement_step body_step (plain_statement y))) (statement_layer y)))
    (λ x y is. subst (λ (z : Body-F Else Statement Body). BodyApart (roll-Body z)) is
    (subst (λ (ks : Spelling). Apart ks) (sym (fold-roll-Body Spelling Spelling Spelling else_step statement_step body_step (plain_body y)))
    (both (both (sign symbol.OpenBrace refl) (statements_apart y.statements)) (sign symbol.CloseBrace refl))))
