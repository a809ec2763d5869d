-- The readers of statements keep the places of their tokens.
use Rattle.std.proofs.Common.{◌≡◌, ℕ, zero, suc, List, [], ◌∷◌, Option, map, refl, sym, ap, ◌∙◌}
use Rattle.std.specs.List.{flat_map}
use Rattle.plank_base.specs.declared.places.Place.{Place}
use Rattle.plank_lex.specs.declared.symbols.Symbol.TheVariants as symbols
use Rattle.plank_lex.specs.declared.words.Reserved.TheVariants as words
use Rattle.plank_lex.specs.declared.tokens.Token.{Token}
use Rattle.plank_lex.specs.declared.tokens.TokenKind.{TokenKind}
use Rattle.plank_lex.specs.declared.tokens.TokenKind.TheVariants as kind
use Rattle.plank_ast.specs.declared.names.Name.{Name}
use Rattle.plank_ast.specs.declared.names.Reference.{Reference}
use Rattle.plank_ast.specs.declared.names.Truth.{Truth}
use Rattle.plank_ast.specs.declared.statements.Assigned.{Assigned}
use Rattle.plank_ast.specs.declared.statements.With.{With}
use Rattle.plank_ast.specs.declared.statements.Test.{Test}
use Rattle.plank_ast.specs.declared.statements.TestLine.{TestLine}
use Rattle.plank_ast.specs.declared.statements.Tests.{Tests}
use Rattle.plank_ast.specs.declared.statements.Bind.{Bind}
use Rattle.plank_ast.specs.declared.statements.Written.{Written}
use Rattle.plank_ast.specs.declared.statements.Write.{Write}
use Rattle.plank_ast.specs.declared.statements.Statement.{Statement}
use Rattle.plank_ast.specs.declared.statements.Statement.TheVariants as statements
use Rattle.plank_ast.specs.declared.statements.Body.{Body}
use Rattle.plank_ast.specs.declared.statements.Else.{Else}
use Rattle.plank_ast.specs.declared.statements.Else.TheVariants as elses
use Rattle.plank_ast.specs.declared.statements.Else.TheOpen.{Else-F, Statement-F}
use Rattle.plank_ast.specs.declared.statements.Else.TheViews.{roll-Statement, roll-Body}
use Rattle.plank_ast.specs.declared.statements.Else.TheFolds.{map-Statement, fold-roll-Else, fold-roll-Statement, fold-roll-Body}
use Rattle.plank_ast.specs.declared.statements.Block.{Block}
use Rattle.plank_parse.specs.Readers.{Reader, ◌<$>◌, pure, is_kind, is_name, is_other}
use Rattle.plank_parse.specs.Conditions.{reference, truth, atom}
use Rattle.plank_parse.specs.Statements.{assigned_node, assigned_by, assigned, assignment, negated_test, test_by, plain_test, tests, with_line, test_line, selection, bind, written_by, written, write, block, braced_block, node_line, word_line, return_line, otherwise_over, atomic_over, if_over, while_over, loop_over, statement_by, statement_over, braced, body, statement}
use Rattle.plank_parse.specs.Placing.{Places, ◌⊕◌, at, bare, name_places, reference_places, truth_places, assigned_places, with_places, test_places, test_line_places, tests_places, selection_places, bind_places, written_places, write_places, block_places, body_layer, else_layer, statement_layer, statement_places, body_places, else_places}
use Rattle.plank_parse.proofs.Standing.{join, moved, Finds, Keeps, At, step, finish, word_at, symbol_at, bare_symbol, name_at, token, dispatch, take_one, pure_at, none, chosen, optional_at, many_at, behind_at, blocked_at, opening_bare}
use Rattle.plank_parse.proofs.PlacedConditions.{reference_at, truth_at, atom_at, dotted_at}

-- ---- assignments

assigned_node_at : Keeps assigned_node (At assigned_places)
unfolding assigned_node
assigned_node_at = step reference_at (λ node a h. finish (Assigned.Node node) (dotted_at name_at) (λ f b k. join h k))

assigned_arm : (k : TokenKind) (p : Place) (n : ℕ) (ts : List Token) → Finds (At assigned_places) (token k p n ∷ ts) (assigned_by k (token k p n ∷ ts))
assigned_arm (kind.Reserved words.New) p n ts = take_one Assigned.New assigned_places (token (kind.Reserved words.New) p n) ts refl
assigned_arm (kind.Reserved words.Null) p n ts = take_one Assigned.Null assigned_places (token (kind.Reserved words.Null) p n) ts refl
assigned_arm (kind.Symbol symbols.OpenBrace) p n ts = assigned_node_at.of (token (kind.Symbol symbols.OpenBrace) p n ∷ ts)
assigned_arm k p n ts = assigned_node_at.of (token k p n ∷ ts)

assigned_at : Keeps assigned (At assigned_places)
unfolding assigned
assigned_at = dispatch assigned_by (At assigned_places) assigned_arm

-- ---- the places of one layer

statement_kept : (y : Statement-F Else Statement Body) → statement_places (roll-Statement y) ≡ statement_layer (map-Statement Else Statement Body Places Places Places else_places statement_places body_places y)
statement_kept y = fold-roll-Statement Places Places Places else_layer statement_layer body_layer y

assign_kept : (variable : Name) (value : Assigned) → statement_places (statements.Assign variable value) ≡ name_places variable ⊕ bare ⊕ assigned_places value ⊕ bare
assign_kept variable value = ap statement_places (sym (statements.rolls-Assign variable value)) ∙ statement_kept (Statement-F.Assign variable value)

atomic_kept : (place : Place) (b : Block) (otherwise : Else) → statement_places (statements.Atomic place b otherwise) ≡ at place ⊕ (bare ⊕ block_places b ⊕ bare) ⊕ else_places otherwise
atomic_kept place b otherwise =
    ap statement_places (sym (statements.rolls-Atomic place b otherwise))
    ∙ statement_kept (Statement-F.Atomic place b otherwise)

if_kept : (place : Place) (tests : Tests) (found : Body) (otherwise : Else) → statement_places (statements.If place tests found otherwise) ≡ at place ⊕ tests_places tests ⊕ body_places found ⊕ else_places otherwise
if_kept place tests found otherwise = ap statement_places (sym (statements.rolls-If place tests found otherwise)) ∙ statement_kept (Statement-F.If place tests found otherwise)

while_kept : (place : Place) (tests : Tests) (found : Body) → statement_places (statements.While place tests found) ≡ at place ⊕ tests_places tests ⊕ body_places found
while_kept place tests found = ap statement_places (sym (statements.rolls-While place tests found)) ∙ statement_kept (Statement-F.While place tests found)

loop_kept : (place : Place) (found : Body) → statement_places (statements.Loop place found) ≡ at place ⊕ body_places found
loop_kept place found = ap statement_places (sym (statements.rolls-Loop place found)) ∙ statement_kept (Statement-F.Loop place found)

lock_kept : (place : Place) (node : Reference) → statement_places (statements.Lock place node) ≡ at place ⊕ reference_places node ⊕ bare
lock_kept place node = ap statement_places (sym (statements.rolls-Lock place node)) ∙ statement_kept (Statement-F.Lock place node)

unlock_kept : (place : Place) (node : Reference) → statement_places (statements.Unlock place node) ≡ at place ⊕ reference_places node ⊕ bare
unlock_kept place node = ap statement_places (sym (statements.rolls-Unlock place node)) ∙ statement_kept (Statement-F.Unlock place node)

break_kept : (place : Place) → statement_places (statements.Break place) ≡ at place ⊕ bare
break_kept place = ap statement_places (sym (statements.rolls-Break place)) ∙ statement_kept (Statement-F.Break place)

continue_kept : (place : Place) → statement_places (statements.Continue place) ≡ at place ⊕ bare
continue_kept place = ap statement_places (sym (statements.rolls-Continue place)) ∙ statement_kept (Statement-F.Continue place)

return_kept : (place : Place) (answer : Truth) → statement_places (statements.Return place answer) ≡ at place ⊕ truth_places answer ⊕ bare
return_kept place answer = ap statement_places (sym (statements.rolls-Return place answer)) ∙ statement_kept (Statement-F.Return place answer)

no_else_kept : else_places elses.Nothing ≡ []
no_else_kept = ap else_places (sym elses.rolls-Nothing) ∙ fold-roll-Else Places Places Places else_layer statement_layer body_layer Else-F.Nothing

else_kept : (place : Place) (found : Body) → else_places (elses.Body place found) ≡ at place ⊕ body_places found
else_kept place found = ap else_places (sym (elses.rolls-Body place found)) ∙ fold-roll-Else Places Places Places else_layer statement_layer body_layer (Else-F.Body place found)

all_mapped : {A : Type 0} (places : A → Places) (parts : List A) → flat_map (λ ps. ps) (map places parts) ≡ flat_map places parts
all_mapped places [] = refl
all_mapped places (part ∷ parts) = ap (λ (ps : Places). places part ⊕ ps) (all_mapped places parts)

body_kept : (place : Place) (inner : List Statement) → body_places (roll-Body (record { place = place; statements = inner })) ≡ at place ⊕ flat_map statement_places inner ⊕ bare
body_kept place inner =
    fold-roll-Body Places Places Places else_layer statement_layer body_layer (record { place = place; statements = inner })
    ∙ ap (λ (ps : Places). at place ⊕ ps ⊕ bare) (all_mapped statement_places inner)

-- ---- tests and blocks

assignment_at : Keeps assignment (At statement_places)
unfolding assignment
assignment_at = step name_at (λ variable a h. step (bare_symbol symbols.Assign) (λ p b k. step assigned_at (λ value d m.
    finish (λ end. statements.Assign variable value) (bare_symbol symbols.Semicolon) (λ end e n. moved (sym (assign_kept variable value)) (join h (join k (join m n)))))))

negated_test_at : Keeps negated_test (At test_places)
unfolding negated_test
negated_test_at = step (symbol_at symbols.Not) (λ place a h. step reference_at (λ node b k. step (bare_symbol symbols.Dot) (λ p d m.
    finish (Test.Not place node) name_at (λ field e n. join h (join k (join m n))))))

atom_test : Keeps (Test.Atom <$> atom) (At test_places)
atom_test = finish Test.Atom atom_at (λ x a h. h)

test_arm : (k : TokenKind) (p : Place) (n : ℕ) (ts : List Token) → Finds (At test_places) (token k p n ∷ ts) (test_by k (token k p n ∷ ts))
test_arm (kind.Symbol symbols.Not) p n ts = negated_test_at.of (token (kind.Symbol symbols.Not) p n ∷ ts)
test_arm k p n ts = atom_test.of (token k p n ∷ ts)

test_at : Keeps plain_test (At test_places)
unfolding plain_test
test_at = dispatch test_by (At test_places) test_arm

abbrev tests_of : Test → List Test → Tests
tests_of first others = record { first = first; others = others }

tests_at : (levels : ℕ) → Keeps (tests levels) (At tests_places)
unfolding tests
tests_at levels = step (opening_bare levels symbols.OpenParenthesis) (λ p a h. step test_at (λ first b k.
    step (many_at (is_kind (kind.Symbol symbols.And)) (behind_at (kind.Symbol symbols.And) test_at)) (λ others d m.
    finish (λ end. tests_of first others) (bare_symbol symbols.CloseParenthesis) (λ end e n. join h (join k (join m n))))))

abbrev with_of : Place → Reference → List Reference → With
with_of place first others = record { place = place; first = first; others = others }

with_at : Keeps with_line (At with_places)
unfolding with_line
with_at = step (word_at words.With) (λ place a h. step reference_at (λ first b k.
    step (many_at (is_kind (kind.Symbol symbols.Comma)) (behind_at (kind.Symbol symbols.Comma) reference_at)) (λ others d m.
    finish (λ end. with_of place first others) (bare_symbol symbols.Semicolon) (λ end e n. join h (join k (join m n))))))

abbrev test_line_of : Place → Test → TestLine
test_line_of place test = record { place = place; test = test }

test_line_at : Keeps test_line (At test_line_places)
unfolding test_line
test_line_at = step (word_at words.Test) (λ place a h. step test_at (λ found b k.
    finish (λ end. test_line_of place found) (bare_symbol symbols.Semicolon) (λ end d m. join h (join k m))))

abbrev pair_places : Reference × Name → Places
pair_places x = selection_places x.0 x.1

abbrev pair_of : Reference → Name → Reference × Name
pair_of node field = (node, field)

selection_at : Keeps selection (At pair_places)
unfolding selection
selection_at = step reference_at (λ node a h. step (bare_symbol symbols.Dot) (λ p b k. finish (pair_of node) name_at (λ field d m. join h (join k m))))

abbrev bind_of : Name → Reference × Name → Bind
bind_of variable from = record { variable = variable; node = from.0; field = from.1 }

bind_at : Keeps bind (At bind_places)
unfolding bind
bind_at = step name_at (λ variable a h. step (bare_symbol symbols.Assign) (λ p b k. step selection_at (λ from d m.
    finish (λ end. bind_of variable from) (bare_symbol symbols.Semicolon) (λ end e n. join h (join k (join m n))))))

flag_written : Keeps (Written.Flag <$> truth) (At written_places)
flag_written = finish Written.Flag truth_at (λ t a h. h)

node_written : Keeps (Written.Node <$> reference) (At written_places)
node_written = finish Written.Node reference_at (λ t a h. h)

written_arm : (k : TokenKind) (p : Place) (n : ℕ) (ts : List Token) → Finds (At written_places) (token k p n ∷ ts) (written_by k (token k p n ∷ ts))
written_arm (kind.Reserved words.True) p n ts = flag_written.of (token (kind.Reserved words.True) p n ∷ ts)
written_arm (kind.Reserved words.False) p n ts = flag_written.of (token (kind.Reserved words.False) p n ∷ ts)
written_arm (kind.Reserved words.Null) p n ts = take_one Written.Null written_places (token (kind.Reserved words.Null) p n) ts refl
written_arm (kind.Symbol symbols.OpenBrace) p n ts = node_written.of (token (kind.Symbol symbols.OpenBrace) p n ∷ ts)
written_arm k p n ts = node_written.of (token k p n ∷ ts)

written_at : Keeps written (At written_places)
unfolding written
written_at = dispatch written_by (At written_places) written_arm

abbrev write_of : Place → Reference × Name → Written → Write
write_of place to value = record { place = place; node = to.0; field = to.1; value = value }

write_at : Keeps write (At write_places)
unfolding write
write_at = step (word_at words.Write) (λ place a h. step selection_at (λ to b k. step (bare_symbol symbols.Assign) (λ p d m. step written_at (λ value e n.
    finish (λ end. write_of place to value) (bare_symbol symbols.Semicolon) (λ end f o. join h (join k (join m (join n o))))))))

abbrev block_of : Option With → List TestLine → List Bind → List Write → Block
block_of names tests binds writes = record { with = names; tests = tests; binds = binds; writes = writes }

block_at : Keeps block (At block_places)
unfolding block
block_at = step (optional_at (kind.Reserved words.With) with_at) (λ names a h. step (many_at (is_kind (kind.Reserved words.Test)) test_line_at) (λ tests b k.
    step (many_at is_name bind_at) (λ binds d m.
    finish (block_of names tests binds) (many_at (is_kind (kind.Reserved words.Write)) write_at) (λ writes e n. join h (join k (join m n))))))

abbrev braced_places : Block → Places
braced_places b = bare ⊕ block_places b ⊕ bare

braced_block_at : (levels : ℕ) → Keeps (braced_block levels) (At braced_places)
unfolding braced_block
braced_block_at levels = step (opening_bare levels symbols.OpenBrace) (λ p a h. step block_at (λ found b k.
    finish (λ end. found) (bare_symbol symbols.CloseBrace) (λ end d m. join h (join k m))))

-- ---- statements

lock_at : Keeps (node_line words.Lock statements.Lock) (At statement_places)
unfolding node_line
lock_at = step (word_at words.Lock) (λ place a h. step reference_at (λ node b k.
    finish (λ end. statements.Lock place node) (bare_symbol symbols.Semicolon) (λ end d m. moved (sym (lock_kept place node)) (join h (join k m)))))

unlock_at : Keeps (node_line words.Unlock statements.Unlock) (At statement_places)
unfolding node_line
unlock_at = step (word_at words.Unlock) (λ place a h. step reference_at (λ node b k.
    finish (λ end. statements.Unlock place node) (bare_symbol symbols.Semicolon) (λ end d m. moved (sym (unlock_kept place node)) (join h (join k m)))))

break_at : Keeps (word_line words.Break statements.Break) (At statement_places)
unfolding word_line
break_at = step (word_at words.Break) (λ place a h.
    finish (λ end. statements.Break place) (bare_symbol symbols.Semicolon) (λ end b k. moved (sym (break_kept place)) (join h k)))

continue_at : Keeps (word_line words.Continue statements.Continue) (At statement_places)
unfolding word_line
continue_at = step (word_at words.Continue) (λ place a h.
    finish (λ end. statements.Continue place) (bare_symbol symbols.Semicolon) (λ end b k. moved (sym (continue_kept place)) (join h k)))

return_at : Keeps return_line (At statement_places)
unfolding return_line
return_at = step (word_at words.Return) (λ place a h. step truth_at (λ answer b k.
    finish (λ end. statements.Return place answer) (bare_symbol symbols.Semicolon) (λ end d m. moved (sym (return_kept place answer)) (join h (join k m)))))

module _ (inner : Reader Body) (f : Keeps inner (At body_places)) where
  otherwise_at : Keeps (otherwise_over inner) (At else_places)
  unfolding otherwise_over
  otherwise_at =
      chosen (is_kind (kind.Reserved words.Else)) _ (pure elses.Nothing) (At else_places)
      (step (word_at words.Else) (λ place a h. finish (elses.Body place) f (λ found b k. moved (sym (else_kept place found)) (join h k))))
      (pure_at elses.Nothing (At else_places) (moved (sym no_else_kept) none))

  atomic_at : (levels : ℕ) → Keeps (atomic_over levels inner) (At statement_places)
  unfolding atomic_over
  atomic_at levels = step (word_at words.Atomic) (λ place a h. step (braced_block_at levels) (λ found b k.
      finish (statements.Atomic place found) otherwise_at (λ otherwise d m. moved (sym (atomic_kept place found otherwise)) (join h (join k m)))))

  if_at : (levels : ℕ) → Keeps (if_over levels inner) (At statement_places)
  unfolding if_over
  if_at levels = step (word_at words.If) (λ place a h. step (tests_at levels) (λ own b k. step f (λ found d m.
      finish (statements.If place own found) otherwise_at (λ otherwise e n. moved (sym (if_kept place own found otherwise)) (join h (join k (join m n)))))))

  while_at : (levels : ℕ) → Keeps (while_over levels inner) (At statement_places)
  unfolding while_over
  while_at levels = step (word_at words.While) (λ place a h. step (tests_at levels) (λ own b k.
      finish (statements.While place own) f (λ found d m. moved (sym (while_kept place own found)) (join h (join k m)))))

  loop_at : Keeps (loop_over inner) (At statement_places)
  unfolding loop_over
  loop_at = step (word_at words.Loop) (λ place a h. finish (statements.Loop place) f (λ found b k. moved (sym (loop_kept place found)) (join h k)))

  statement_arm : (levels : ℕ) (k : TokenKind) (p : Place) (n : ℕ) (ts : List Token) → Finds (At statement_places) (token k p n ∷ ts) (statement_by levels inner k (token k p n ∷ ts))
  statement_arm levels (kind.Name label) p n ts = assignment_at.of (token (kind.Name label) p n ∷ ts)
  statement_arm levels (kind.Reserved words.Atomic) p n ts = (atomic_at levels).of (token (kind.Reserved words.Atomic) p n ∷ ts)
  statement_arm levels (kind.Reserved words.Lock) p n ts = lock_at.of (token (kind.Reserved words.Lock) p n ∷ ts)
  statement_arm levels (kind.Reserved words.Unlock) p n ts = unlock_at.of (token (kind.Reserved words.Unlock) p n ∷ ts)
  statement_arm levels (kind.Reserved words.If) p n ts = (if_at levels).of (token (kind.Reserved words.If) p n ∷ ts)
  statement_arm levels (kind.Reserved words.While) p n ts = (while_at levels).of (token (kind.Reserved words.While) p n ∷ ts)
  statement_arm levels (kind.Reserved words.Loop) p n ts = loop_at.of (token (kind.Reserved words.Loop) p n ∷ ts)
  statement_arm levels (kind.Reserved words.Break) p n ts = break_at.of (token (kind.Reserved words.Break) p n ∷ ts)
  statement_arm levels (kind.Reserved words.Continue) p n ts = continue_at.of (token (kind.Reserved words.Continue) p n ∷ ts)
  statement_arm levels (kind.Reserved words.Return) p n ts = return_at.of (token (kind.Reserved words.Return) p n ∷ ts)
  statement_arm levels (kind.Symbol symbols.OpenBrace) p n ts = tt
  statement_arm levels k p n ts = tt

  statement_over_at : (levels : ℕ) → Keeps (statement_over levels inner) (At statement_places)
  unfolding statement_over
  statement_over_at levels = dispatch (statement_by levels inner) (At statement_places) (statement_arm levels)

abbrev body_of : Place → List Statement → Body
body_of place inner = roll-Body (record { place = place; statements = inner })

braced_at : (inner : Reader Statement) → Keeps inner (At statement_places) → Keeps (braced inner) (At body_places)
unfolding braced
braced_at inner f = step (symbol_at symbols.OpenBrace) (λ place a h. step (many_at (is_other (kind.Symbol symbols.CloseBrace)) f) (λ found b k.
    finish (λ end. body_of place found) (bare_symbol symbols.CloseBrace) (λ end d m. moved (sym (body_kept place found)) (join h (join k m)))))

body_at : (levels : ℕ) → Keeps (body levels) (At body_places)
unfolding body
body_at zero = blocked_at symbols.OpenBrace (At body_places)
body_at (suc levels) = braced_at (statement_over levels (body levels)) (statement_over_at (body levels) (body_at levels) levels)

pub statement_at : (levels : ℕ) → Keeps (statement levels) (At statement_places)
statement_at levels = statement_over_at (body levels) (body_at levels) levels
