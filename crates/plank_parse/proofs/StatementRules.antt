-- The readers of statements follow the grammar.
use Rattle.std.proofs.Common.{◌≡◌, ℕ, zero, suc, false, List, [], ◌∷◌, ◌++◌, Option, map, refl, ap, sym, ◌∙◌, append_assoc}
use Rattle.std.specs.List.{flat_map}
use Rattle.std.specs.Option.{option_map_or}
use Rattle.plank_base.specs.declared.places.Place.{Place}
use Rattle.plank_lex.specs.Tokens.{kinds_of}
use Rattle.plank_lex.specs.declared.symbols.Symbol.TheVariants as symbol
use Rattle.plank_lex.specs.declared.words.Reserved.{Reserved}
use Rattle.plank_lex.specs.declared.words.Reserved.TheVariants as word
use Rattle.plank_lex.specs.declared.tokens.Token.{Token}
use Rattle.plank_lex.specs.declared.tokens.TokenKind.{TokenKind}
use Rattle.plank_lex.specs.declared.tokens.TokenKind.TheVariants as kind
use Rattle.plank_ast.specs.declared.names.Name.{Name}
use Rattle.plank_ast.specs.declared.names.Reference.{Reference}
use Rattle.plank_ast.specs.declared.names.Truth.{Truth}
use Rattle.plank_ast.specs.declared.statements.Assigned.{Assigned}
use Rattle.plank_ast.specs.declared.statements.With.{With}
use Rattle.plank_ast.specs.declared.statements.Test.{Test}
use Rattle.plank_ast.specs.declared.statements.Tests.{Tests}
use Rattle.plank_ast.specs.declared.statements.Written.{Written}
use Rattle.plank_ast.specs.declared.statements.Statement.{Statement}
use Rattle.plank_ast.specs.declared.statements.Statement.TheVariants as statements
use Rattle.plank_ast.specs.declared.statements.Body.{Body}
use Rattle.plank_ast.specs.declared.statements.Else.{Else}
use Rattle.plank_ast.specs.declared.statements.Else.TheVariants as elses
use Rattle.plank_ast.specs.declared.statements.Else.TheOpen.{Else-F, Statement-F}
use Rattle.plank_ast.specs.declared.statements.Else.TheViews.{roll-Statement, roll-Body}
use Rattle.plank_ast.specs.declared.statements.Else.TheFolds.{map-Statement, fold-roll-Else, fold-roll-Statement, fold-roll-Body}
use Rattle.plank_ast.specs.Spelling.{Spelling, mark, keyword, name_tokens, reference_tokens, truth_tokens, assigned_tokens, with_tokens, more_reference_tokens, test_tokens, test_line_tokens, more_test_tokens, tests_tokens, bind_tokens, written_tokens, write_tokens, block_tokens, node_line_tokens, word_line_tokens, else_step, statement_step, body_step, statement_tokens, body_tokens, else_tokens}
use Rattle.plank_ast.specs.declared.statements.Block.{Block}
use Rattle.plank_parse.specs.Readers.{Reader, ◌>>=◌, ◌>>◌, ◌<$>◌, pure, name, is_name, is_kind, is_other, many, many_from, optional, expected, blocked}
use Rattle.plank_parse.specs.Conditions.{reference, truth, atom}
use Rattle.plank_parse.specs.Statements.{assigned_node, assigned_by, assigned, assignment, negated_test, test_by, plain_test, tests, with_line, test_line, selection, bind, written_by, written, write, block, braced_block, node_line, word_line, return_line, otherwise_over, atomic_over, if_over, while_over, loop_over, statement_by, statement_over, braced, body}
use Rattle.plank_parse.proofs.Grammars.{symbol_class, word_class, class_of, reads, both, firsts, member, many as many_of, then_on, read_one, halted}
use Rattle.plank_parse.proofs.TextGrammar.{rules, sign, perhaps, a_name, reference_g, atom_g, operand_g, node_operand_g, assigned_node_g, assigned_g, assignment_g, negated_test_g, test_g, inner_tests_g, tests_g, with_line_g, test_line_g, selection_g, bind_g, written_g, write_g, block_g, braced_block_g, node_line_g, word_line_g, return_line_g, body_g, otherwise_g, atomic_g, if_g, while_g, loop_g, statement_g}
use Rattle.plank_parse.proofs.Follows.{Follow, Follows, Says, step, step_in, finish, symbol_law, symbol_test, word_law, word_test, name_law, name_test, take_one, halt, many_law, behind_law, optional_law, blocked_law, blocked_then_law, choice_law, pure_law, bracket_law, dispatch}
use Rattle.plank_parse.proofs.GrammarLaws.{refuses}
use Rattle.plank_parse.proofs.TextDecides.{statement_grammar_law, statement_needs}
use Rattle.plank_parse.proofs.AtomRules.{token, reference_law, truth_law, atom_law, dotted_law}

-- ---- assignments

assigned_node_law : (l : ℕ) → Follows (reads rules l assigned_node_g) assigned_node (Says assigned_tokens)
unfolding assigned_node assigned_node_g
assigned_node_law l = step _ _ _ _ _ _ (reference_law l) (λ node. finish _ _ (Assigned.Node node) _ _ (dotted_law l a_name name name_tokens name_law) (λ f. refl))

assigned_arm : (l : ℕ) (k : TokenKind) (p : Place) (n : ℕ) (ts : List Token) → Follow (reads rules l assigned_g (k ∷ kinds_of ts)) (Says assigned_tokens) (token k p n ∷ ts) (assigned_by k (token k p n ∷ ts))
unfolding assigned_g
assigned_arm l (kind.Reserved word.New) p n ts = take_one _ _ _ _ _ refl refl
assigned_arm l (kind.Reserved word.Null) p n ts = take_one _ _ _ _ _ refl refl
assigned_arm l (kind.Symbol symbol.OpenBrace) p n ts = (assigned_node_law l).at (token (kind.Symbol symbol.OpenBrace) p n ∷ ts)
assigned_arm l k p n ts = (assigned_node_law l).at (token k p n ∷ ts)

assigned_none : (l : ℕ) → reads rules l assigned_g [] ≡ halted []
unfolding assigned_g assigned_node_g reference_g
assigned_none l = refl

assigned_law : (l : ℕ) → Follows (reads rules l assigned_g) assigned (Says assigned_tokens)
unfolding assigned
assigned_law l = dispatch _ assigned_by _ (assigned_none l) (assigned_arm l)

statement_spelled : (y : Statement-F Else Statement Body) → statement_tokens (roll-Statement y) ≡ statement_step (map-Statement Else Statement Body Spelling Spelling Spelling else_tokens statement_tokens body_tokens y)
statement_spelled y = fold-roll-Statement Spelling Spelling Spelling else_step statement_step body_step y

assignment_spelled : (variable : Name) (value : Assigned) → name_tokens variable ++ (mark symbol.Assign ++ (assigned_tokens value ++ mark symbol.Semicolon)) ≡ statement_tokens (statements.Assign variable value)
assignment_spelled variable value = sym (ap statement_tokens (sym (statements.rolls-Assign variable value)) ∙ statement_spelled (Statement-F.Assign variable value))

assignment_law : (l : ℕ) → Follows (reads rules l assignment_g) assignment (Says statement_tokens)
unfolding assignment assignment_g
assignment_law l =
    step _ _ _ _ _ _ name_law (λ variable. step _ _ _ _ _ _ (symbol_law symbol.Assign) (λ sign. step _ _ _ _ _ _ (assigned_law l) (λ value.
    finish _ _ (λ end. statements.Assign variable value) _ _ (symbol_law symbol.Semicolon) (λ end. assignment_spelled variable value))))

-- ---- tests

pub negated_spelled : (place : Place) (node : Reference) (field : Name) → mark symbol.Not ++ (reference_tokens node ++ (mark symbol.Dot ++ name_tokens field)) ≡ test_tokens (Test.Not place node field)
negated_spelled place (Reference.Root p) field = refl
negated_spelled place (Reference.Name n) field = refl

negated_test_law : (l : ℕ) → Follows (reads rules l negated_test_g) negated_test (Says test_tokens)
unfolding negated_test negated_test_g
negated_test_law l =
    step _ _ _ _ _ _ (symbol_law symbol.Not) (λ place. step _ _ _ _ _ _ (reference_law l) (λ node. step _ _ _ _ _ _ (symbol_law symbol.Dot) (λ dot.
    finish _ _ (Test.Not place node) _ _ name_law (λ field. negated_spelled place node field))))

atom_test : (l : ℕ) → Follows (reads rules l atom_g) (Test.Atom <$> atom) (Says test_tokens)
atom_test l = finish _ _ Test.Atom _ _ (atom_law l) (λ a. refl)

test_arm : (l : ℕ) (k : TokenKind) (p : Place) (n : ℕ) (ts : List Token) → Follow (reads rules l test_g (k ∷ kinds_of ts)) (Says test_tokens) (token k p n ∷ ts) (test_by k (token k p n ∷ ts))
unfolding test_g negated_test_g
test_arm l (kind.Symbol symbol.Not) p n ts = (negated_test_law l).at (token (kind.Symbol symbol.Not) p n ∷ ts)
test_arm l (kind.Reserved word.Root) p n ts = (atom_test l).at (token (kind.Reserved word.Root) p n ∷ ts)
test_arm l k p n ts = (atom_test l).at (token k p n ∷ ts)

test_none : (l : ℕ) → reads rules l test_g [] ≡ halted []
unfolding test_g negated_test_g atom_g operand_g node_operand_g reference_g
test_none l = refl

test_law : (l : ℕ) → Follows (reads rules l test_g) plain_test (Says test_tokens)
unfolding plain_test
test_law l = dispatch _ test_by _ (test_none l) (test_arm l)

pub tests_spelled : (first : Test) (others : List Test) → mark symbol.OpenParenthesis ++ (test_tokens first ++ (more_test_tokens others ++ mark symbol.CloseParenthesis)) ≡ tests_tokens (record { first = first; others = others })
tests_spelled first others = ap (λ (ks : Spelling). kind.Symbol symbol.OpenParenthesis ∷ ks) (sym (append_assoc (test_tokens first) (more_test_tokens others) (mark symbol.CloseParenthesis)))

more_tests_law : (l : ℕ) → Follows (reads rules l (many_of (both (sign symbol.And) test_g))) (many (is_kind (kind.Symbol symbol.And)) (expected (kind.Symbol symbol.And) >> plain_test)) (Says more_test_tokens)
more_tests_law l = many_law _ _ (symbol_class symbol.And ∷ []) _ _ (symbol_test symbol.And) (behind_law _ _ (kind.Symbol symbol.And) _ _ (symbol_law symbol.And) (test_law l))

tests_law : (l : ℕ) → Follows (reads rules l tests_g) (tests l) (Says tests_tokens)
unfolding tests tests_g rules inner_tests_g
tests_law zero = blocked_then_law symbol.OpenParenthesis _ _
tests_law (suc l) =
    step _ _ _ _ _ _ (symbol_law symbol.OpenParenthesis) (λ place. step_in _ _ _ _ _ _ _ (test_law l) (λ first. step _ _ _ _ _ _ (more_tests_law l) (λ others.
    finish _ _ (λ close. record { first = first; others = others }) _ _ (symbol_law symbol.CloseParenthesis) (λ close. tests_spelled first others))))

-- ---- atomic blocks

pub with_spelled : (place : Place) (first : Reference) (others : List Reference) → keyword word.With ++ (reference_tokens first ++ (more_reference_tokens others ++ mark symbol.Semicolon)) ≡ with_tokens (record { place = place; first = first; others = others })
with_spelled place (Reference.Root p) others = refl
with_spelled place (Reference.Name n) others = refl

more_references_law : (l : ℕ) → Follows (reads rules l (many_of (both (sign symbol.Comma) reference_g))) (many (is_kind (kind.Symbol symbol.Comma)) (expected (kind.Symbol symbol.Comma) >> reference)) (Says more_reference_tokens)
more_references_law l = many_law _ _ (symbol_class symbol.Comma ∷ []) _ _ (symbol_test symbol.Comma) (behind_law _ _ (kind.Symbol symbol.Comma) _ _ (symbol_law symbol.Comma) (reference_law l))

with_line_law : (l : ℕ) → Follows (reads rules l with_line_g) with_line (Says with_tokens)
unfolding with_line with_line_g
with_line_law l =
    step _ _ _ _ _ _ (word_law word.With) (λ place. step _ _ _ _ _ _ (reference_law l) (λ first. step _ _ _ _ _ _ (more_references_law l) (λ others.
    finish _ _ (λ end. record { place = place; first = first; others = others }) _ _ (symbol_law symbol.Semicolon) (λ end. with_spelled place first others))))

test_line_law : (l : ℕ) → Follows (reads rules l test_line_g) test_line (Says test_line_tokens)
unfolding test_line test_line_g
test_line_law l =
    step _ _ _ _ _ _ (word_law word.Test) (λ place. step _ _ _ _ _ _ (test_law l) (λ own.
    finish _ _ (λ end. record { place = place; test = own }) _ _ (symbol_law symbol.Semicolon) (λ end. refl)))

-- the tokens of a reference, a dot and a name
abbrev pub selection_tokens : Reference × Name → Spelling
selection_tokens s = reference_tokens s.0 ++ (mark symbol.Dot ++ name_tokens s.1)

selection_law : (l : ℕ) → Follows (reads rules l selection_g) selection (Says selection_tokens)
unfolding selection selection_g
selection_law l = step _ _ _ _ _ _ (reference_law l) (λ node. step _ _ _ _ _ _ (symbol_law symbol.Dot) (λ dot. finish _ _ (λ field. (node, field)) _ _ name_law (λ field. refl)))

pub bind_spelled : (variable : Name) (node : Reference) (field : Name) → name_tokens variable ++ (mark symbol.Assign ++ (selection_tokens (node, field) ++ mark symbol.Semicolon)) ≡ bind_tokens (record { variable = variable; node = node; field = field })
bind_spelled variable (Reference.Root p) field = refl
bind_spelled variable (Reference.Name n) field = refl

bind_law : (l : ℕ) → Follows (reads rules l bind_g) bind (Says bind_tokens)
unfolding bind bind_g
bind_law l =
    step _ _ _ _ _ _ name_law (λ variable. step _ _ _ _ _ _ (symbol_law symbol.Assign) (λ sign. step _ _ _ _ _ _ (selection_law l) (λ from.
    finish _ _ (λ end. record { variable = variable; node = from.0; field = from.1 }) _ _ (symbol_law symbol.Semicolon) (λ end. bind_spelled variable from.0 from.1))))

written_node : (l : ℕ) → Follows (reads rules l reference_g) (Written.Node <$> reference) (Says written_tokens)
written_node l = finish _ _ Written.Node _ _ (reference_law l) (λ n. refl)

written_arm : (l : ℕ) (k : TokenKind) (p : Place) (n : ℕ) (ts : List Token) → Follow (reads rules l written_g (k ∷ kinds_of ts)) (Says written_tokens) (token k p n ∷ ts) (written_by k (token k p n ∷ ts))
unfolding written_g truth
written_arm l (kind.Reserved word.True) p n ts = take_one _ _ _ _ _ refl refl
written_arm l (kind.Reserved word.False) p n ts = take_one _ _ _ _ _ refl refl
written_arm l (kind.Reserved word.Null) p n ts = take_one _ _ _ _ _ refl refl
written_arm l (kind.Symbol symbol.OpenBrace) p n ts = (written_node l).at (token (kind.Symbol symbol.OpenBrace) p n ∷ ts)
written_arm l k p n ts = (written_node l).at (token k p n ∷ ts)

written_none : (l : ℕ) → reads rules l written_g [] ≡ halted []
unfolding written_g reference_g
written_none l = refl

written_law : (l : ℕ) → Follows (reads rules l written_g) written (Says written_tokens)
unfolding written
written_law l = dispatch _ written_by _ (written_none l) (written_arm l)

pub write_spelled : (place : Place) (node : Reference) (field : Name) (value : Written) → keyword word.Write ++ (selection_tokens (node, field) ++ (mark symbol.Assign ++ (written_tokens value ++ mark symbol.Semicolon))) ≡ write_tokens (record { place = place; node = node; field = field; value = value })
write_spelled place (Reference.Root p) field value = refl
write_spelled place (Reference.Name n) field value = refl

write_law : (l : ℕ) → Follows (reads rules l write_g) write (Says write_tokens)
unfolding write write_g
write_law l =
    step _ _ _ _ _ _ (word_law word.Write) (λ place. step _ _ _ _ _ _ (selection_law l) (λ to. step _ _ _ _ _ _ (symbol_law symbol.Assign) (λ sign. step _ _ _ _ _ _ (written_law l) (λ value.
    finish _ _ (λ end. record { place = place; node = to.0; field = to.1; value = value }) _ _ (symbol_law symbol.Semicolon) (λ end. write_spelled place to.0 to.1 value)))))

-- the tokens of a block with its braces
abbrev braced_tokens : Block → Spelling
braced_tokens b = mark symbol.OpenBrace ++ (block_tokens b ++ mark symbol.CloseBrace)

pub block_spelled : (b : Block) → option_map_or with_tokens b.with [] ++ (flat_map test_line_tokens b.tests ++ (flat_map bind_tokens b.binds ++ flat_map write_tokens b.writes)) ≡ block_tokens b
block_spelled b = sym
    (append_assoc (option_map_or with_tokens b.with [] ++ flat_map test_line_tokens b.tests) (flat_map bind_tokens b.binds) (flat_map write_tokens b.writes)
    ∙ append_assoc (option_map_or with_tokens b.with []) (flat_map test_line_tokens b.tests) (flat_map bind_tokens b.binds ++ flat_map write_tokens b.writes))

perhaps_with : (l : ℕ) → Follows (reads rules l (perhaps with_line_g)) (optional (kind.Reserved word.With) with_line) (Says (λ (o : Option With). option_map_or with_tokens o []))
unfolding with_line_g
perhaps_with l = optional_law _ (kind.Reserved word.With) (word_class word.With ∷ []) _ _ (word_test word.With) (with_line_law l)

test_lines_law : (l : ℕ) → Follows (reads rules l (many_of test_line_g)) (many_from (kind.Reserved word.Test) test_line) (Says (flat_map test_line_tokens))
unfolding test_line_g
test_lines_law l = many_law _ _ (word_class word.Test ∷ []) _ _ (word_test word.Test) (test_line_law l)

binds_law : (l : ℕ) → Follows (reads rules l (many_of bind_g)) (many is_name bind) (Says (flat_map bind_tokens))
unfolding bind_g
binds_law l = many_law _ _ (60 ∷ []) _ _ name_test (bind_law l)

writes_law : (l : ℕ) → Follows (reads rules l (many_of write_g)) (many_from (kind.Reserved word.Write) write) (Says (flat_map write_tokens))
unfolding write_g
writes_law l = many_law _ _ (word_class word.Write ∷ []) _ _ (word_test word.Write) (write_law l)

block_law : (l : ℕ) → Follows (reads rules l block_g) block (Says block_tokens)
unfolding block block_g
block_law l =
    step _ _ _ _ _ _ (perhaps_with l) (λ names. step _ _ _ _ _ _ (test_lines_law l) (λ tests. step _ _ _ _ _ _ (binds_law l) (λ binds.
    finish _ _ (λ writes. record { with = names; tests = tests; binds = binds; writes = writes }) _ _ (writes_law l)
    (λ writes. block_spelled (record { with = names; tests = tests; binds = binds; writes = writes })))))

braced_block_law : (l : ℕ) → Follows (reads rules l braced_block_g) (braced_block l) (Says braced_tokens)
unfolding braced_block braced_block_g rules
braced_block_law zero = blocked_then_law symbol.OpenBrace _ _
braced_block_law (suc l) =
    step _ _ _ _ _ _ (symbol_law symbol.OpenBrace) (λ place. step _ _ _ _ _ _ (block_law l) (λ found.
    finish _ _ (λ close. found) _ _ (symbol_law symbol.CloseBrace) (λ close. refl)))

-- ---- statements that hold no others

node_line_law : (l : ℕ) (r : Reserved) (make : Place → Reference → Statement) → ((p : Place) (node : Reference) → node_line_tokens r node ≡ statement_tokens (make p node)) → Follows (reads rules l (node_line_g r)) (node_line r make) (Says statement_tokens)
unfolding node_line node_line_g
node_line_law l r make says =
    step _ _ _ _ _ _ (word_law r) (λ place. step _ _ _ _ _ _ (reference_law l) (λ node.
    finish _ _ (λ end. make place node) _ _ (symbol_law symbol.Semicolon) (λ end. says place node)))

word_line_law : (l : ℕ) (r : Reserved) (make : Place → Statement) → ((p : Place) → word_line_tokens r ≡ statement_tokens (make p)) → Follows (reads rules l (word_line_g r)) (word_line r make) (Says statement_tokens)
unfolding word_line word_line_g
word_line_law l r make says = step _ _ _ _ _ _ (word_law r) (λ place. finish _ _ (λ end. make place) _ _ (symbol_law symbol.Semicolon) (λ end. says place))

return_spelled : (place : Place) (answer : Truth) → keyword word.Return ++ (truth_tokens answer ++ mark symbol.Semicolon) ≡ statement_tokens (statements.Return place answer)
return_spelled place answer = sym (ap statement_tokens (sym (statements.rolls-Return place answer)) ∙ statement_spelled (Statement-F.Return place answer))

return_law : (l : ℕ) → Follows (reads rules l return_line_g) return_line (Says statement_tokens)
unfolding return_line return_line_g
return_law l =
    step _ _ _ _ _ _ (word_law word.Return) (λ place. step _ _ _ _ _ _ (truth_law l) (λ answer.
    finish _ _ (λ end. statements.Return place answer) _ _ (symbol_law symbol.Semicolon) (λ end. return_spelled place answer)))

-- ---- statements, by what reads their bodies

-- the reader of bodies follows the grammar
abbrev pub ReadsBodies : ℕ → Reader Body → Type 0
ReadsBodies l inner = Follows (reads rules l body_g) inner (Says body_tokens)

no_else_spelled : [] ≡ else_tokens elses.Nothing
no_else_spelled = sym (ap else_tokens (sym elses.rolls-Nothing) ∙ fold-roll-Else Spelling Spelling Spelling else_step statement_step body_step Else-F.Nothing)

else_spelled : (place : Place) (found : Body) → keyword word.Else ++ body_tokens found ≡ else_tokens (elses.Body place found)
else_spelled place found = sym (ap else_tokens (sym (elses.rolls-Body place found)) ∙ fold-roll-Else Spelling Spelling Spelling else_step statement_step body_step (Else-F.Body place found))

otherwise_law : (l : ℕ) (inner : Reader Body) → ReadsBodies l inner → Follows (reads rules l otherwise_g) (otherwise_over inner) (Says else_tokens)
unfolding otherwise_over otherwise_g
otherwise_law l inner f =
    choice_law _ _ (is_kind (kind.Reserved word.Else)) (word_class word.Else ∷ []) _ _ _ (word_test word.Else)
    (step _ _ _ _ _ _ (word_law word.Else) (λ place. finish _ _ (elses.Body place) _ _ f (λ found. else_spelled place found)))
    (pure_law elses.Nothing _ no_else_spelled)

atomic_spelled : (place : Place) (inner : Block) (otherwise : Else) → keyword word.Atomic ++ (braced_tokens inner ++ else_tokens otherwise) ≡ statement_tokens (statements.Atomic place inner otherwise)
atomic_spelled place inner otherwise = sym
    (ap statement_tokens (sym (statements.rolls-Atomic place inner otherwise))
    ∙ statement_spelled (Statement-F.Atomic place inner otherwise))

atomic_law : (l : ℕ) (inner : Reader Body) → ReadsBodies l inner → Follows (reads rules l atomic_g) (atomic_over l inner) (Says statement_tokens)
unfolding atomic_over atomic_g
atomic_law l inner f =
    step _ _ _ _ _ _ (word_law word.Atomic) (λ place. step _ _ _ _ _ _ (braced_block_law l) (λ b.
    finish _ _ (statements.Atomic place b) _ _ (otherwise_law l inner f) (λ otherwise. atomic_spelled place b otherwise)))

if_spelled : (place : Place) (own : Tests) (found : Body) (otherwise : Else) → keyword word.If ++ (tests_tokens own ++ (body_tokens found ++ else_tokens otherwise)) ≡ statement_tokens (statements.If place own found otherwise)
if_spelled place own found otherwise = sym
    (ap statement_tokens (sym (statements.rolls-If place own found otherwise)) ∙ (statement_spelled (Statement-F.If place own found otherwise)
    ∙ append_assoc (keyword word.If ++ tests_tokens own) (body_tokens found) (else_tokens otherwise)))

if_law : (l : ℕ) (inner : Reader Body) → ReadsBodies l inner → Follows (reads rules l if_g) (if_over l inner) (Says statement_tokens)
unfolding if_over if_g
if_law l inner f =
    step _ _ _ _ _ _ (word_law word.If) (λ place. step _ _ _ _ _ _ (tests_law l) (λ own. step _ _ _ _ _ _ f (λ found.
    finish _ _ (statements.If place own found) _ _ (otherwise_law l inner f) (λ otherwise. if_spelled place own found otherwise))))

while_spelled : (place : Place) (own : Tests) (found : Body) → keyword word.While ++ (tests_tokens own ++ body_tokens found) ≡ statement_tokens (statements.While place own found)
while_spelled place own found = sym (ap statement_tokens (sym (statements.rolls-While place own found)) ∙ statement_spelled (Statement-F.While place own found))

while_law : (l : ℕ) (inner : Reader Body) → ReadsBodies l inner → Follows (reads rules l while_g) (while_over l inner) (Says statement_tokens)
unfolding while_over while_g
while_law l inner f =
    step _ _ _ _ _ _ (word_law word.While) (λ place. step _ _ _ _ _ _ (tests_law l) (λ own.
    finish _ _ (statements.While place own) _ _ f (λ found. while_spelled place own found)))

loop_spelled : (place : Place) (found : Body) → keyword word.Loop ++ body_tokens found ≡ statement_tokens (statements.Loop place found)
loop_spelled place found = sym (ap statement_tokens (sym (statements.rolls-Loop place found)) ∙ statement_spelled (Statement-F.Loop place found))

loop_law : (l : ℕ) (inner : Reader Body) → ReadsBodies l inner → Follows (reads rules l loop_g) (loop_over inner) (Says statement_tokens)
unfolding loop_over loop_g
loop_law l inner f = step _ _ _ _ _ _ (word_law word.Loop) (λ place. finish _ _ (statements.Loop place) _ _ f (λ found. loop_spelled place found))

lock_spelled : (place : Place) (node : Reference) → node_line_tokens word.Lock node ≡ statement_tokens (statements.Lock place node)
lock_spelled place node = sym (ap statement_tokens (sym (statements.rolls-Lock place node)) ∙ statement_spelled (Statement-F.Lock place node))

unlock_spelled : (place : Place) (node : Reference) → node_line_tokens word.Unlock node ≡ statement_tokens (statements.Unlock place node)
unlock_spelled place node = sym (ap statement_tokens (sym (statements.rolls-Unlock place node)) ∙ statement_spelled (Statement-F.Unlock place node))

break_spelled : (place : Place) → word_line_tokens word.Break ≡ statement_tokens (statements.Break place)
break_spelled place = sym (ap statement_tokens (sym (statements.rolls-Break place)) ∙ statement_spelled (Statement-F.Break place))

continue_spelled : (place : Place) → word_line_tokens word.Continue ≡ statement_tokens (statements.Continue place)
continue_spelled place = sym (ap statement_tokens (sym (statements.rolls-Continue place)) ∙ statement_spelled (Statement-F.Continue place))

statement_arm : (l : ℕ) (inner : Reader Body) → ReadsBodies l inner → (k : TokenKind) (p : Place) (n : ℕ) (ts : List Token) → Follow (reads rules l statement_g (k ∷ kinds_of ts)) (Says statement_tokens) (token k p n ∷ ts) (statement_by l inner k (token k p n ∷ ts))
unfolding statement_g assignment_g atomic_g node_line_g if_g while_g loop_g word_line_g return_line_g
statement_arm l inner f (kind.Name label) p n ts = (assignment_law l).at (token (kind.Name label) p n ∷ ts)
statement_arm l inner f (kind.Reserved word.Atomic) p n ts = (atomic_law l inner f).at (token (kind.Reserved word.Atomic) p n ∷ ts)
statement_arm l inner f (kind.Reserved word.Lock) p n ts = (node_line_law l word.Lock statements.Lock lock_spelled).at (token (kind.Reserved word.Lock) p n ∷ ts)
statement_arm l inner f (kind.Reserved word.Unlock) p n ts = (node_line_law l word.Unlock statements.Unlock unlock_spelled).at (token (kind.Reserved word.Unlock) p n ∷ ts)
statement_arm l inner f (kind.Reserved word.If) p n ts = (if_law l inner f).at (token (kind.Reserved word.If) p n ∷ ts)
statement_arm l inner f (kind.Reserved word.While) p n ts = (while_law l inner f).at (token (kind.Reserved word.While) p n ∷ ts)
statement_arm l inner f (kind.Reserved word.Loop) p n ts = (loop_law l inner f).at (token (kind.Reserved word.Loop) p n ∷ ts)
statement_arm l inner f (kind.Reserved word.Break) p n ts = (word_line_law l word.Break statements.Break break_spelled).at (token (kind.Reserved word.Break) p n ∷ ts)
statement_arm l inner f (kind.Reserved word.Continue) p n ts = (word_line_law l word.Continue statements.Continue continue_spelled).at (token (kind.Reserved word.Continue) p n ∷ ts)
statement_arm l inner f (kind.Reserved word.Return) p n ts = (return_law l).at (token (kind.Reserved word.Return) p n ∷ ts)
statement_arm l inner f (kind.Symbol symbol.OpenBrace) p n ts = halt _ _ refl
statement_arm l inner f k p n ts = halt _ _ refl

statement_none : (l : ℕ) → reads rules l statement_g [] ≡ halted []
unfolding statement_g assignment_g atomic_g node_line_g if_g while_g loop_g word_line_g return_line_g
statement_none l = refl

statement_over_law : (l : ℕ) (inner : Reader Body) → ReadsBodies l inner → Follows (reads rules l statement_g) (statement_over l inner) (Says statement_tokens)
unfolding statement_over
statement_over_law l inner f = dispatch _ (statement_by l inner) _ (statement_none l) (statement_arm l inner f)

-- ---- bodies

brace_ends : member (symbol_class symbol.CloseBrace) (firsts statement_g) ≡ false
unfolding statement_g assignment_g atomic_g node_line_g if_g while_g loop_g word_line_g return_line_g
brace_ends = refl

statement_refuses : (l : ℕ) (k : TokenKind) (ks : Spelling) → member (class_of k) (firsts statement_g) ≡ false → reads rules l statement_g (k ∷ ks) ≡ halted (k ∷ ks)
statement_refuses l = refuses rules l statement_g (statement_grammar_law l) statement_needs

-- statements up to a closing brace, the brace, and what is made of them
pub statements_law : {B : Type 0} (l : ℕ) (inner : Reader Body) → ReadsBodies l inner → (make : List Statement → Place → B) (Q : B → Spelling → Type 0) → ((parts : List Statement) (p : Place) → Q (make parts p) (flat_map statement_tokens parts ++ mark symbol.CloseBrace)) → Follows (λ ks. then_on (reads rules l (many_of statement_g) ks) (read_one (symbol_class symbol.CloseBrace))) (many (is_other (kind.Symbol symbol.CloseBrace)) (statement_over l inner) >>= (λ parts. expected (kind.Symbol symbol.CloseBrace) >>= (λ p. pure (make parts p)))) Q
statements_law l inner f make Q says = bracket_law _ (firsts statement_g) symbol.CloseBrace _ statement_tokens make Q brace_ends (λ k ks out. statement_refuses l k ks out) (statement_over_law l inner f) says

flat_tokens : (ss : List Statement) → flat_map (λ tokens. tokens) (map statement_tokens ss) ≡ flat_map statement_tokens ss
flat_tokens [] = refl
flat_tokens (s ∷ ss) = ap (λ (ks : Spelling). statement_tokens s ++ ks) (flat_tokens ss)

body_spelled : (place : Place) (ss : List Statement) → mark symbol.OpenBrace ++ (flat_map statement_tokens ss ++ mark symbol.CloseBrace) ≡ body_tokens (roll-Body (record { place = place; statements = ss }))
body_spelled place ss = sym
    (fold-roll-Body Spelling Spelling Spelling else_step statement_step body_step (record { place = place; statements = ss })
    ∙ ap (λ (ks : Spelling). mark symbol.OpenBrace ++ (ks ++ mark symbol.CloseBrace)) (flat_tokens ss))

blocked_body : ReadsBodies zero (blocked symbol.OpenBrace)
unfolding body_g
blocked_body = blocked_law symbol.OpenBrace _

opened_body : (l : ℕ) → ReadsBodies l (body l) → ReadsBodies (suc l) (braced (statement_over l (body l)))
unfolding body_g braced rules
opened_body l f =
    step _ _ _ _ _ _ (symbol_law symbol.OpenBrace) (λ place.
    statements_law l (body l) f (λ parts p. roll-Body (record { place = place; statements = parts })) (λ (b : Body) (ks : Spelling). mark symbol.OpenBrace ++ ks ≡ body_tokens b) (λ parts p. body_spelled place parts))

pub body_law : (l : ℕ) → ReadsBodies l (body l)
unfolding body
body_law zero = blocked_body
body_law (suc l) = opened_body l (body_law l)
