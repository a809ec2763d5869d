-- A part of a block in which a name does not occur reads no variable with the number of that name.
use Rattle.std.proofs.Common.{◌≡◌, ℕ, ◌+◌, Bool, true, false, ◌&&◌, ◌||◌, List, [], ◌∷◌, ◌++◌, map, Option, Some, None, refl, sym, ◌∙◌, ap, arith, if◌then◌else◌}
use Rattle.std.specs.Prelude.{◌==◌}
use Rattle.std.specs.List.{list_any, flat_map, cons_option}
use Rattle.std.specs.Option.{option_map_or, option_map}
use Rattle.std.proofs.lemmas.Bool.{eqb-true}
use Rattle.plank_ast.specs.declared.names.Reference.{Reference as ReferenceTree}
use Rattle.plank_ast.specs.declared.names.Field.{Field}
use Rattle.plank_ast.specs.declared.conditions.Comparison.{Comparison}
use Rattle.plank_ast.specs.declared.conditions.Operand.{Operand}
use Rattle.plank_ast.specs.declared.conditions.AtomEnd.{AtomEnd}
use Rattle.plank_ast.specs.declared.statements.With.{With}
use Rattle.plank_ast.specs.declared.statements.Test.{Test as TestTree}
use Rattle.plank_ast.specs.declared.statements.TestLine.{TestLine}
use Rattle.plank_ast.specs.declared.statements.Bind.{Bind as BindTree}
use Rattle.plank_ast.specs.declared.statements.Block.{Block as BlockTree}
use Rattle.plank_ast.specs.declared.statements.Written.{Written}
use Rattle.plank_ast.specs.declared.statements.Write.{Write as WriteTree}
use Rattle.plank_prog.specs.declared.blocks.Reference.{Reference}
use Rattle.plank_prog.specs.declared.blocks.Value.{Value}
use Rattle.plank_prog.specs.declared.blocks.PointerOperand.{PointerOperand}
use Rattle.plank_prog.specs.declared.blocks.KeyOperand.{KeyOperand}
use Rattle.plank_prog.specs.declared.blocks.Test.{Test}
use Rattle.plank_prog.specs.declared.blocks.Write.{Write}
use Rattle.plank_prog.specs.Blocks.{same_reference, key_reads, pointer_reads, test_reads, write_reads, block_reads, is_field}
use Rattle.plank_rules.specs.Declarations.{same_name, number_of}
use Rattle.plank_rules.specs.Occurrences.{Occurrence, reference_occurrence}
use Rattle.plank_rules.specs.StatementRules.{operand_names, atom_end_names, test_names, test_line_names, written_names, write_names, with_list, with_names}
use Rattle.plank_rules.specs.declared.names.Declared.{Declared}
use Rattle.plank_type.specs.declared.operands.Meaning.{Meaning}
use Rattle.plank_type.specs.Conditions.{is_equality}
use Rattle.plank_type.specs.Operands.{reference_of, with_of, field_meaning, node_meaning, meaning_of, no_test, test_compared, test_alone, test_ended, test_of, bind_to, bind_of, binds_of, written_of, write_of, writes_of}
use Rattle.plank_type.specs.Statements.{atomic_block}
use Rattle.plank_type.proofs.Tests.{or_neither}
use Rattle.plank_type.proofs.Tests.{false_if}
use Rattle.plank_type.proofs.NamesOnce.{times, times_append, none_first, nodes_read, numbered_same}

pub neither : {a b : Bool} → a ≡ false → b ≡ false → (a || b) ≡ false
neither {a = a} {b = b} h k = or_neither a b h k

first_none : (m n : ℕ) → m + n ≡ 0 → m ≡ 0
first_none m n h = omega arith

second_none : (m n : ℕ) → m + n ≡ 0 → n ≡ 0
second_none m n h = omega arith

left_free : (a : List ℕ) (xs ys : List Occurrence) → times a (xs ++ ys) ≡ 0 → times a xs ≡ 0
left_free a xs ys h = first_none (times a xs) (times a ys) (sym (times_append a xs ys) ∙ h)

right_free : (a : List ℕ) (xs ys : List Occurrence) → times a (xs ++ ys) ≡ 0 → times a ys ≡ 0
right_free a xs ys h = second_none (times a xs) (times a ys) (sym (times_append a xs ys) ∙ h)

pub kept_any : {Y : Type 0} (test : Y → Bool) (o : Option Y) (rest : List Y) → option_map_or test o false ≡ false → list_any test rest ≡ false → list_any test (cons_option o rest) ≡ false
kept_any test None rest h k = k
kept_any test (Some y) rest h k = or_neither (test y) (list_any test rest) h k

mapped_false : {A : Type 0} (test : A → Bool) (f : ℕ → A) (o : Option ℕ) → ((i : ℕ) → test (f i) ≡ false) → option_map_or test (option_map f o) false ≡ false
mapped_false test f None h = refl
mapped_false test f (Some i) h = h i

module _ (names : Declared) (variables : List (List ℕ)) (a : List ℕ) (v : ℕ) (numbered : number_of a variables ≡ Some v) where
  abbrev r : Reference
  r = Reference.Variable v

  other_number : (n : List ℕ) (w : ℕ) → number_of n variables ≡ Some w → same_name a n ≡ false → (v == w) ≡ false
  other_number n w e apart =
      false_if (v == w)
      (λ same. same ∙ sym (numbered_same a n variables v numbered (e ∙ ap Some (sym (eqb-true v w same)))) ∙ apart)

  -- ---- references

  named_apart : (n : List ℕ) (o : Option ℕ) → number_of n variables ≡ o → same_name a n ≡ false → same_reference r (option_map_or Reference.Variable o Reference.Root) ≡ false
  named_apart n None e apart = refl
  named_apart n (Some w) e apart = other_number n w e apart

  reference_unread : (q : ReferenceTree) → times a (reference_occurrence q ∷ []) ≡ 0 → same_reference r (reference_of variables q) ≡ false
  reference_unread (ReferenceTree.Root place) h = refl
  reference_unread (ReferenceTree.Name name) h = named_apart name.label (number_of name.label variables) refl (none_first (same_name a name.label) 0 h)

  references_unread : (qs : List ReferenceTree) → times a (map reference_occurrence qs) ≡ 0 → list_any (λ q. same_reference r q) (map (reference_of variables) qs) ≡ false
  references_unread [] h = refl
  references_unread (q ∷ qs) h =
      or_neither (same_reference r (reference_of variables q)) (list_any (λ p. same_reference r p) (map (reference_of variables) qs))
      (reference_unread q (left_free a (reference_occurrence q ∷ []) (map reference_occurrence qs) h))
      (references_unread qs (right_free a (reference_occurrence q ∷ []) (map reference_occurrence qs) h))

  with_unread : (w : Option With) → times a (with_names w) ≡ 0 → list_any (λ q. same_reference r q) (with_of variables w) ≡ false
  with_unread None h = refl
  with_unread (Some w) h = references_unread (with_list w) h

  -- ---- operands

  abbrev meaning_reads : Meaning → Bool
  meaning_reads (Meaning.Flag f) = same_reference r f.node
  meaning_reads (Meaning.Key k) = key_reads r k
  meaning_reads (Meaning.Pointer p) = pointer_reads r p
  meaning_reads Meaning.Nothing = false

  each_unread : (f : ℕ → Meaning) (d : Meaning) (o : Option ℕ) → ((i : ℕ) → meaning_reads (f i) ≡ false) → meaning_reads d ≡ false → meaning_reads (option_map_or f o d) ≡ false
  each_unread f d None h k = k
  each_unread f d (Some i) h k = h i

  field_unread : (node : Reference) (field : List ℕ) → same_reference r node ≡ false → meaning_reads (field_meaning names node field) ≡ false
  field_unread node field h =
      each_unread (λ f. Meaning.Flag (record { node = node; flag = f }))
      (option_map_or (λ p. Meaning.Pointer (PointerOperand.Field node p)) (number_of field names.pointers) Meaning.Nothing)
      (number_of field names.flags) (λ i. h)
      (each_unread (λ p. Meaning.Pointer (PointerOperand.Field node p)) Meaning.Nothing (number_of field names.pointers) (λ i. h) refl)

  alone_apart : (n : List ℕ) (o : Option ℕ) → number_of n variables ≡ o → same_name a n ≡ false → meaning_reads (option_map_or (λ w. Meaning.Pointer (PointerOperand.Node (Reference.Variable w))) o (Meaning.Key KeyOperand.Argument)) ≡ false
  alone_apart n None e apart = refl
  alone_apart n (Some w) e apart = other_number n w e apart

  node_unread : (q : ReferenceTree) (field : Option Field) → times a (reference_occurrence q ∷ []) ≡ 0 → meaning_reads (node_meaning names variables q field) ≡ false
  node_unread (ReferenceTree.Root place) None h = refl
  node_unread (ReferenceTree.Name name) None h = alone_apart name.label (number_of name.label variables) refl (none_first (same_name a name.label) 0 h)
  node_unread q (Some (Field.Key place)) h = reference_unread q h
  node_unread q (Some (Field.Name f)) h = field_unread (reference_of variables q) f.label (reference_unread q h)

  operand_unread : (o : Operand) → times a (operand_names o) ≡ 0 → meaning_reads (meaning_of names variables o) ≡ false
  operand_unread (Operand.Node node field) h = node_unread node field h
  operand_unread (Operand.Min place) h = refl
  operand_unread (Operand.Max place) h = refl
  operand_unread (Operand.Null place) h = refl

  -- ---- tests

  pointers_unread : (both : Bool) (x y : PointerOperand) (equal : Bool) → pointer_reads r x ≡ false → pointer_reads r y ≡ false → test_reads r (if both then no_test else Test.Pointers x y equal) ≡ false
  pointers_unread true x y equal h k = refl
  pointers_unread false x y equal h k = or_neither (pointer_reads r x) (pointer_reads r y) h k

  compared_unread : (x : Meaning) (c : Comparison) (y : Meaning) → meaning_reads x ≡ false → meaning_reads y ≡ false → test_reads r (test_compared x c y) ≡ false
  compared_unread (Meaning.Flag x) c (Meaning.Flag y) h k = neither h k
  compared_unread (Meaning.Key x) c (Meaning.Key y) h k = neither h k
  compared_unread (Meaning.Pointer x) c (Meaning.Pointer y) h k = pointers_unread (is_field x && is_field y) x y (is_equality c) h k
  compared_unread (Meaning.Flag x) c (Meaning.Key y) h k = refl
  compared_unread (Meaning.Flag x) c (Meaning.Pointer y) h k = refl
  compared_unread (Meaning.Flag x) c Meaning.Nothing h k = refl
  compared_unread (Meaning.Key x) c (Meaning.Flag y) h k = refl
  compared_unread (Meaning.Key x) c (Meaning.Pointer y) h k = refl
  compared_unread (Meaning.Key x) c Meaning.Nothing h k = refl
  compared_unread (Meaning.Pointer x) c (Meaning.Flag y) h k = refl
  compared_unread (Meaning.Pointer x) c (Meaning.Key y) h k = refl
  compared_unread (Meaning.Pointer x) c Meaning.Nothing h k = refl
  compared_unread Meaning.Nothing c y h k = refl

  alone_unread : (set : Bool) (m : Meaning) → meaning_reads m ≡ false → test_reads r (test_alone set m) ≡ false
  alone_unread set (Meaning.Flag f) h = h
  alone_unread set (Meaning.Key k) h = refl
  alone_unread set (Meaning.Pointer p) h = refl
  alone_unread set Meaning.Nothing h = refl

  ended_unread : (m : Meaning) (end : AtomEnd) → meaning_reads m ≡ false → times a (atom_end_names end) ≡ 0 → test_reads r (test_ended names variables m end) ≡ false
  ended_unread m AtomEnd.Nothing h k = alone_unread true m h
  ended_unread m (AtomEnd.Compared comparison place second) h k = compared_unread m comparison (meaning_of names variables second) h (operand_unread second k)
  ended_unread m (AtomEnd.In place node) h k = refl

  test_unread : (t : TestTree) → times a (test_names t) ≡ 0 → test_reads r (test_of names variables t) ≡ false
  test_unread (TestTree.Not place node field) h =
      alone_unread false (field_meaning names (reference_of variables node) field.label)
      (field_unread (reference_of variables node) field.label (reference_unread node h))
  test_unread (TestTree.Atom atom) h =
      ended_unread (meaning_of names variables atom.operand) atom.end
      (operand_unread atom.operand (left_free a (operand_names atom.operand) (atom_end_names atom.end) h))
      (right_free a (operand_names atom.operand) (atom_end_names atom.end) h)

  tests_unread : (lines : List TestLine) → times a (flat_map test_line_names lines) ≡ 0 → list_any (λ t. test_reads r t) (map (λ line. test_of names variables line.test) lines) ≡ false
  tests_unread [] h = refl
  tests_unread (l ∷ ls) h =
      or_neither (test_reads r (test_of names variables l.test)) (list_any (λ t. test_reads r t) (map (λ line. test_of names variables line.test) ls))
      (test_unread l.test (left_free a (test_line_names l) (flat_map test_line_names ls) h))
      (tests_unread ls (right_free a (test_line_names l) (flat_map test_line_names ls) h))

  -- ---- binds and writes

  bound_unread : (to : Option ℕ) (from : Reference) (pointer : Option ℕ) → same_reference r from ≡ false → option_map_or (λ d. same_reference r d.from) (bind_to to from pointer) false ≡ false
  bound_unread None from pointer h = refl
  bound_unread (Some to) from None h = refl
  bound_unread (Some to) from (Some pointer) h = h

  binds_unread : (binds : List BindTree) → times a (nodes_read binds) ≡ 0 → list_any (λ d. same_reference r d.from) (binds_of names variables binds) ≡ false
  binds_unread [] h = refl
  binds_unread (b ∷ bs) h =
      kept_any (λ d. same_reference r d.from) (bind_of names variables b) (binds_of names variables bs)
      (bound_unread (number_of b.variable.label variables) (reference_of variables b.node) (number_of b.field.label names.pointers)
      (reference_unread b.node (left_free a (reference_occurrence b.node ∷ []) (nodes_read bs) h)))
      (binds_unread bs (right_free a (reference_occurrence b.node ∷ []) (nodes_read bs) h))

  written_unread : (node : Reference) (field : List ℕ) (value : Written) → same_reference r node ≡ false → times a (written_names value) ≡ 0 → option_map_or (write_reads r) (written_of names variables node field value) false ≡ false
  written_unread node field (Written.Flag truth) h k = mapped_false (write_reads r) (λ f. Write.Flag node f truth.value) (number_of field names.flags) (λ i. h)
  written_unread node field (Written.Null place) h k =
      mapped_false (write_reads r) (λ p. Write.Pointer node p Value.Null) (number_of field names.pointers) (λ i. neither h refl)
  written_unread node field (Written.Node to) h k =
      mapped_false (write_reads r) (λ p. Write.Pointer node p (Value.Node (reference_of variables to))) (number_of field names.pointers)
      (λ i. neither h (reference_unread to k))

  writes_unread : (writes : List WriteTree) → times a (flat_map write_names writes) ≡ 0 → list_any (λ w. write_reads r w) (writes_of names variables writes) ≡ false
  writes_unread [] h = refl
  writes_unread (w ∷ ws) h =
      let here : times a (write_names w) ≡ 0 = left_free a (write_names w) (flat_map write_names ws) h in
      kept_any (λ u. write_reads r u) (write_of names variables w) (writes_of names variables ws)
      (written_unread (reference_of variables w.node) w.field.label w.value
      (reference_unread w.node (left_free a (reference_occurrence w.node ∷ []) (written_names w.value) here))
      (right_free a (reference_occurrence w.node ∷ []) (written_names w.value) here))
      (writes_unread ws (right_free a (write_names w) (flat_map write_names ws) h))

  -- ---- blocks

  -- a block in which the name occurs as the variable of tree.binds at most
  pub block_unread : (tree : BlockTree) (met other : ℕ) → times a (with_names tree.with) ≡ 0 → times a (flat_map test_line_names tree.tests) ≡ 0 → times a (nodes_read tree.binds) ≡ 0 → times a (flat_map write_names tree.writes) ≡ 0 → block_reads (atomic_block names variables tree met other) r ≡ false
  block_unread tree met other in_with in_tests in_binds in_writes =
      neither (neither (neither (with_unread tree.with in_with) (tests_unread tree.tests in_tests)) (binds_unread tree.binds in_binds)) (writes_unread tree.writes in_writes)
