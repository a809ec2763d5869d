-- The tests, binds and writes of a method that break no rule of typing are told whole.
use Rattle.std.proofs.Common.{◌≡◌, ℕ, Bool, true, false, not, ◌&&◌, List, [], ◌∷◌, ◌++◌, map, Option, None, Some, refl, sym, ◌∙◌, ap, subst, if◌then◌else◌}
use Rattle.std.specs.Prelude.{is_some}
use Rattle.std.specs.List.{list_all, flat_map}
use Rattle.std.specs.Option.{option_map}
use Rattle.std.proofs.lemmas.Bool.{false≢true}
use Rattle.plank_base.specs.declared.places.Place.{Place}
use Rattle.plank_ast.specs.declared.names.Name.{Name}
use Rattle.plank_ast.specs.declared.names.Reference.{Reference as ReferenceTree}
use Rattle.plank_ast.specs.declared.conditions.Comparison.{Comparison}
use Rattle.plank_ast.specs.declared.conditions.Operand.{Operand}
use Rattle.plank_ast.specs.declared.conditions.AtomEnd.{AtomEnd}
use Rattle.plank_ast.specs.declared.statements.With.{With}
use Rattle.plank_ast.specs.declared.statements.Test.{Test as TestTree}
use Rattle.plank_ast.specs.declared.statements.Tests.{Tests}
use Rattle.plank_ast.specs.declared.statements.Bind.{Bind as BindTree}
use Rattle.plank_ast.specs.declared.statements.Block.{Block as BlockTree}
use Rattle.plank_ast.specs.declared.statements.Written.{Written}
use Rattle.plank_ast.specs.declared.statements.Write.{Write as WriteTree}
use Rattle.plank_ast.specs.declared.statements.Assigned.{Assigned}
use Rattle.plank_ast.specs.declared.methods.Method.{Method}
use Rattle.plank_prog.specs.declared.blocks.Reference.{Reference}
use Rattle.plank_prog.specs.declared.blocks.PointerOperand.{PointerOperand}
use Rattle.plank_prog.specs.declared.blocks.Value.{Value}
use Rattle.plank_prog.specs.declared.blocks.Write.{Write}
use Rattle.plank_rules.specs.declared.broken.Broken.{Broken}
use Rattle.plank_rules.specs.declared.scopes.Scope.{Scope}
use Rattle.plank_rules.specs.declared.names.Declared.{Declared}
use Rattle.plank_rules.specs.declared.meanings.NodeMeaning.{NodeMeaning}
use Rattle.plank_rules.specs.declared.meanings.FieldMeaning.{FieldMeaning}
use Rattle.plank_rules.specs.declared.meanings.Meaning.{Meaning as Kind}
use Rattle.plank_rules.specs.Declarations.{is_among, number_of, variables_of}
use Rattle.plank_rules.specs.Faults.{when, unknown, wrong_kind}
use Rattle.plank_rules.specs.Occurrences.{reference_place, reference_occurrence, repeats, others_than_first}
use Rattle.plank_rules.specs.Meanings.{is_header, reference_meaning, label_meaning, operand_meaning, operand_place, unknown_reference, unknown_field_name, unknown_label, misplaced, no_flag, no_pointer}
use Rattle.plank_rules.specs.Atoms.{is_unknown, is_sound, no_order, no_null, two_fields, compared, operand_rules, atom_end_rules}
use Rattle.plank_rules.specs.StatementRules.{access_meaning, name_rules, node_rules, read_rules, test_rules, test_heads, test_list, tests_rules, test_line_rules, bind_rules, written_rules, write_rules, writes_rules, with_list, optional_with_rules, block_reuses, block_rules, read_reuses, assign_rules, lock_rules, no_truth, write_heads, written_field}
use Rattle.plank_rules.specs.MethodRules.{method_scope}
use Rattle.plank_type.specs.declared.operands.Meaning.{Meaning}
use Rattle.plank_type.specs.Operands.{reference_of, field_meaning, meaning_of, bind_to, read_of, written_of, write_of}
use Rattle.plank_type.specs.Told.{locals_of, is_flag_meant, meant_together, test_is_told, node_is_told, read_is_told, bind_is_told, value_is_told, write_is_told, with_is_told, assignment_is_told, block_is_told, tests_are_told, lock_is_told}
use Rattle.plank_type.proofs.Tests.{and_so, left_none, right_none}
use Rattle.plank_type.proofs.KnownNames.{name_known}
use Rattle.plank_type.proofs.KnownMeanings.{dotted_known, visits_in_keeps}
use Rattle.plank_type.proofs.KnownKinds.{kind_of_field, dotted_field}
use Rattle.plank_type.proofs.ConditionsTold.{operand_sound, alone_flag, sound_by, flag_by}
use Rattle.plank_type.proofs.MethodNames.{kind_of, node_by_field, has_number, in_method, in_no_keep, node_told, node_known, nodes_are, numbered_kind, operand_kind, operand_told}

-- ---- what is compared

flag_meant_for : (a : Meaning) → kind_of a ≡ Kind.Flag → is_flag_meant a ≡ true
flag_meant_for (Meaning.Flag f) h = refl
flag_meant_for (Meaning.Key k) h = absurd (cc)
flag_meant_for (Meaning.Pointer PointerOperand.Null) h = absurd (cc)
flag_meant_for (Meaning.Pointer (PointerOperand.Node q)) h = absurd (cc)
flag_meant_for (Meaning.Pointer (PointerOperand.Field q i)) h = absurd (cc)
flag_meant_for Meaning.Nothing h = absurd (cc)

no_two_fields : {P : Type 0} (header : Bool) (p : Place) → header ≡ false → when (not header && true && true) (wrong_kind p) ≡ [] → P
no_two_fields true p h k = absurd (false≢true (sym h))
no_two_fields false p h k = absurd (cc)

pointer_by : (m : Kind) (p : Place) → is_unknown m ≡ false → no_pointer m p ≡ [] → m ≡ Kind.Pointer
pointer_by Kind.Unknown p h k = absurd (false≢true (sym h))
pointer_by Kind.Wrong p h k = absurd (cc)
pointer_by Kind.Key p h k = absurd (cc)
pointer_by Kind.Flag p h k = absurd (cc)
pointer_by Kind.Node p h k = absurd (cc)
pointer_by Kind.Pointer p h k = refl
pointer_by Kind.Null p h k = absurd (cc)

-- ---- fields

module _ (names : Declared) (label : List ℕ) where
  flag_if : (flag pointer : Bool) → is_among names.flags label ≡ flag → kind_of_field (if flag then FieldMeaning.Flag else if pointer then FieldMeaning.Pointer else FieldMeaning.Unknown) ≡ Kind.Flag → is_some (number_of label names.flags) ≡ true
  flag_if true pointer e h = has_number label names.flags e
  flag_if false true e h = absurd (cc)
  flag_if false false e h = absurd (cc)

  -- a flag has a number
  pub flag_number : kind_of_field (label_meaning names label) ≡ Kind.Flag → is_some (number_of label names.flags) ≡ true
  flag_number h = flag_if (is_among names.flags label) (is_among names.pointers label) refl h

  pointer_if : (flag pointer : Bool) → is_among names.pointers label ≡ pointer → kind_of_field (if flag then FieldMeaning.Flag else if pointer then FieldMeaning.Pointer else FieldMeaning.Unknown) ≡ Kind.Pointer → is_some (number_of label names.pointers) ≡ true
  pointer_if true pointer e h = absurd (cc)
  pointer_if false true e h = has_number label names.pointers e
  pointer_if false false e h = absurd (cc)

  -- a pointer has a number
  pub pointer_number : kind_of_field (label_meaning names label) ≡ Kind.Pointer → is_some (number_of label names.pointers) ≡ true
  pointer_number h = pointer_if (is_among names.flags label) (is_among names.pointers label) refl h

bound_some : (to : Option ℕ) (from : Reference) (pointer : Option ℕ) → is_some to ≡ true → is_some pointer ≡ true → is_some (bind_to to from pointer) ≡ true
bound_some None from pointer h k = absurd (false≢true h)
bound_some (Some to) from None h k = absurd (false≢true k)
bound_some (Some to) from (Some pointer) h k = refl

mapped_some : {A : Type 0} (f : ℕ → A) (o : Option ℕ) → is_some o ≡ true → is_some (option_map f o) ≡ true
mapped_some f None h = absurd (false≢true h)
mapped_some f (Some i) h = refl

no_truth_here : {P : Type 0} (node : NodeMeaning) (p : Place) → no_truth node p ≡ [] → P
no_truth_here NodeMeaning.Unknown p h = absurd (cc)
no_truth_here NodeMeaning.Key p h = absurd (cc)
no_truth_here NodeMeaning.Node p h = absurd (cc)
no_truth_here NodeMeaning.Root p h = absurd (cc)

-- each part of a list that breaks no rule passes a test
pub all_told : {X : Type 0} (rules : X → List Broken) (test : X → Bool) → ((x : X) → rules x ≡ [] → test x ≡ true) → (xs : List X) → flat_map rules xs ≡ [] → list_all test xs ≡ true
all_told rules test so [] h = refl
all_told rules test so (x ∷ xs) h =
    and_so (test x) (list_all test xs) (so x (left_none (rules x) (flat_map rules xs) h)) (all_told rules test so xs (right_none (rules x) (flat_map rules xs) h))

module _ (m : Method) (names : Declared) where
  abbrev scope : Scope
  scope = method_scope m

  abbrev vs : List (List ℕ)
  vs = variables_of m

  -- ---- tests

  meant_by_rules : (c : Comparison) (a b : Meaning) (p q : Place) → is_sound (kind_of a) ≡ true → is_sound (kind_of b) ≡ true → compared scope.setting c (kind_of a) p (kind_of b) q ≡ [] → meant_together a b ≡ true
  meant_by_rules c (Meaning.Flag a) (Meaning.Flag b) p q x y h = refl
  meant_by_rules c (Meaning.Flag a) (Meaning.Key b) p q x y h = absurd (cc)
  meant_by_rules c (Meaning.Flag a) (Meaning.Pointer PointerOperand.Null) p q x y h = absurd (cc)
  meant_by_rules c (Meaning.Flag a) (Meaning.Pointer (PointerOperand.Node r)) p q x y h = absurd (cc)
  meant_by_rules c (Meaning.Flag a) (Meaning.Pointer (PointerOperand.Field r i)) p q x y h = absurd (cc)
  meant_by_rules c (Meaning.Flag a) Meaning.Nothing p q x y h = absurd (false≢true y)
  meant_by_rules c (Meaning.Key a) (Meaning.Flag b) p q x y h = absurd (cc)
  meant_by_rules c (Meaning.Key a) (Meaning.Key b) p q x y h = refl
  meant_by_rules c (Meaning.Key a) (Meaning.Pointer PointerOperand.Null) p q x y h = absurd (cc)
  meant_by_rules c (Meaning.Key a) (Meaning.Pointer (PointerOperand.Node r)) p q x y h = absurd (cc)
  meant_by_rules c (Meaning.Key a) (Meaning.Pointer (PointerOperand.Field r i)) p q x y h = absurd (cc)
  meant_by_rules c (Meaning.Key a) Meaning.Nothing p q x y h = absurd (false≢true y)
  meant_by_rules c (Meaning.Pointer PointerOperand.Null) (Meaning.Flag b) p q x y h = absurd (cc)
  meant_by_rules c (Meaning.Pointer PointerOperand.Null) (Meaning.Key b) p q x y h = absurd (cc)
  meant_by_rules c (Meaning.Pointer PointerOperand.Null) (Meaning.Pointer b) p q x y h = refl
  meant_by_rules c (Meaning.Pointer PointerOperand.Null) Meaning.Nothing p q x y h = absurd (false≢true y)
  meant_by_rules c (Meaning.Pointer (PointerOperand.Node r)) (Meaning.Flag b) p q x y h = absurd (cc)
  meant_by_rules c (Meaning.Pointer (PointerOperand.Node r)) (Meaning.Key b) p q x y h = absurd (cc)
  meant_by_rules c (Meaning.Pointer (PointerOperand.Node r)) (Meaning.Pointer b) p q x y h = refl
  meant_by_rules c (Meaning.Pointer (PointerOperand.Node r)) Meaning.Nothing p q x y h = absurd (false≢true y)
  meant_by_rules c (Meaning.Pointer (PointerOperand.Field r i)) (Meaning.Flag b) p q x y h = absurd (cc)
  meant_by_rules c (Meaning.Pointer (PointerOperand.Field r i)) (Meaning.Key b) p q x y h = absurd (cc)
  meant_by_rules c (Meaning.Pointer (PointerOperand.Field r i)) (Meaning.Pointer PointerOperand.Null) p q x y h = refl
  meant_by_rules c (Meaning.Pointer (PointerOperand.Field r i)) (Meaning.Pointer (PointerOperand.Node s)) p q x y h = refl
  meant_by_rules c (Meaning.Pointer (PointerOperand.Field r i)) (Meaning.Pointer (PointerOperand.Field s j)) p q x y h =
      let unordered = no_order c Kind.Pointer q in
      let first = no_null scope.setting Kind.Pointer p Kind.Pointer in
      let second = no_null scope.setting Kind.Pointer q Kind.Pointer in
      no_two_fields (is_header scope.setting) q (in_method m) (right_none (unordered ++ first ++ second) (two_fields scope.setting Kind.Pointer Kind.Pointer q) h)
  meant_by_rules c (Meaning.Pointer (PointerOperand.Field r i)) Meaning.Nothing p q x y h = absurd (false≢true y)
  meant_by_rules c Meaning.Nothing b p q x y h = absurd (false≢true x)

  atom_told : (o : Operand) (end : AtomEnd) → atom_end_rules names scope o end ≡ [] → test_is_told names (locals_of m) (TestTree.Atom (record { operand = o; end = end })) ≡ true
  atom_told o AtomEnd.Nothing h =
      let flag = alone_flag names scope o h in
      and_so _ (is_flag_meant (meaning_of names vs o)) (operand_told m names o (ap is_sound flag))
      (flag_meant_for (meaning_of names vs o) (operand_kind m names o (ap is_sound flag) ∙ flag))
  atom_told o (AtomEnd.Compared c p second) h =
      let k = operand_meaning names scope o in
      let n = operand_meaning names scope second in
      let each = operand_rules names scope o ++ operand_rules names scope second in
      let together = compared scope.setting c k (operand_place o) n (operand_place second) in
      let x = operand_sound names scope o (left_none (operand_rules names scope o) (operand_rules names scope second) (left_none each together h)) in
      let y = operand_sound names scope second (right_none (operand_rules names scope o) (operand_rules names scope second) (left_none each together h)) in
      let e = operand_kind m names o x in
      let f = operand_kind m names second y in
      and_so _ _ (operand_told m names o x)
      (and_so _ (meant_together (meaning_of names vs o) (meaning_of names vs second)) (operand_told m names second y)
      (meant_by_rules c (meaning_of names vs o) (meaning_of names vs second) (operand_place o) (operand_place second) (ap is_sound e ∙ x) (ap is_sound f ∙ y)
      (subst (λ (z : Kind). compared scope.setting c z (operand_place o) (kind_of (meaning_of names vs second)) (operand_place second) ≡ []) (sym e)
      (subst (λ (z : Kind). compared scope.setting c k (operand_place o) z (operand_place second) ≡ []) (sym f) (right_none each together h)))))
  atom_told o (AtomEnd.In p node) h = absurd (false≢true (sym (in_no_keep m) ∙ visits_in_keeps names scope o p node h))

  pub test_told : (t : TestTree) → test_rules names scope t ≡ [] → test_is_told names (locals_of m) t ≡ true
  test_told (TestTree.Atom atom) h = atom_told atom.operand atom.end h
  test_told (TestTree.Not p node field) h =
      let access = access_meaning names scope node field in
      let of_node = unknown_reference scope node in
      let of_field = unknown_field_name names field in
      let known = left_none (of_node ++ of_field) (no_flag access (reference_place node)) h in
      let flag = flag_by access (reference_place node)
      (dotted_known scope.setting (reference_meaning scope node) (label_meaning names field.label) (reference_place node) field.place (left_none of_node of_field known) (right_none of_node of_field known))
      (right_none (of_node ++ of_field) (no_flag access (reference_place node)) h) in
      and_so (node_is_told vs node) (is_flag_meant (field_meaning names (reference_of vs node) field.label))
      (node_told m node (node_by_field scope.setting (reference_meaning scope node) (label_meaning names field.label) (ap is_sound flag)))
      (flag_meant_for (field_meaning names (reference_of vs node) field.label)
      (numbered_kind m names (reference_of vs node) field.label ∙ dotted_field scope.setting (reference_meaning scope node) (label_meaning names field.label) (ap is_sound flag) ∙ flag))

  pub tests_told : (ts : Tests) → tests_rules names scope ts ≡ [] → tests_are_told names (locals_of m) ts ≡ true
  tests_told ts h =
      all_told (test_rules names scope) (test_is_told names (locals_of m)) test_told (test_list ts)
      (left_none (flat_map (test_rules names scope) (test_list ts)) (others_than_first (flat_map (test_heads names scope) (test_list ts))) h)

  -- ---- binds

  variable_number : (variable : Name) → name_rules scope variable ≡ [] → is_some (number_of variable.label vs) ≡ true
  variable_number variable h = has_number variable.label vs (sym (nodes_are m variable.label) ∙ name_known m variable h)

  read_told : (variable : Name) (node : ReferenceTree) (field : Name) → name_rules scope variable ≡ [] → read_rules names scope node field ≡ [] → read_is_told names vs variable.label node field.label ≡ true
  read_told variable node field v h =
      let access = access_meaning names scope node field in
      let of_node = unknown_reference scope node in
      let of_field = unknown_field_name names field in
      let known = left_none (of_node ++ of_field) (no_pointer access (reference_place node)) h in
      let pointer = pointer_by access (reference_place node)
      (dotted_known scope.setting (reference_meaning scope node) (label_meaning names field.label) (reference_place node) field.place (left_none of_node of_field known) (right_none of_node of_field known))
      (right_none (of_node ++ of_field) (no_pointer access (reference_place node)) h) in
      and_so (node_is_told vs node) (is_some (read_of names vs variable.label node field.label))
      (node_told m node (node_by_field scope.setting (reference_meaning scope node) (label_meaning names field.label) (ap is_sound pointer)))
      (bound_some (number_of variable.label vs) (reference_of vs node) (number_of field.label names.pointers) (variable_number variable v)
      (pointer_number names field.label (dotted_field scope.setting (reference_meaning scope node) (label_meaning names field.label) (ap is_sound pointer) ∙ pointer)))

  bind_told : (b : BindTree) → bind_rules names scope b ≡ [] → bind_is_told names vs b ≡ true
  bind_told b h =
      read_told b.variable b.node b.field (left_none (name_rules scope b.variable) (read_rules names scope b.node b.field) h)
      (right_none (name_rules scope b.variable) (read_rules names scope b.node b.field) h)

  -- ---- writes

  -- what is written to a field by its meaning
  written_told : (node : Reference) (field : List ℕ) (meaning : FieldMeaning) (p : Place) → label_meaning names field ≡ meaning → unknown_label meaning p ≡ [] → (value : Written) → written_rules scope meaning value ≡ [] → (value_is_told vs value && is_some (written_of names vs node field value)) ≡ true
  written_told node field FieldMeaning.Unknown p e k value h = absurd (cc)
  written_told node field FieldMeaning.Key p e k value h = no_key_named (is_among names.flags field) (is_among names.pointers field) e
    where
      no_key_named : {P : Type 0} (flag pointer : Bool) → (if flag then FieldMeaning.Flag else if pointer then FieldMeaning.Pointer else FieldMeaning.Unknown) ≡ FieldMeaning.Key → P
      no_key_named true pointer n = absurd (cc)
      no_key_named false true n = absurd (cc)
      no_key_named false false n = absurd (cc)
  written_told node field FieldMeaning.Flag p e k (Written.Flag truth) h =
      mapped_some (λ f. Write.Flag node f truth.value) (number_of field names.flags) (flag_number names field (ap kind_of_field e))
  written_told node field FieldMeaning.Flag p e k (Written.Null q) h = absurd (cc)
  written_told node field FieldMeaning.Flag p e k (Written.Node to) h = no_truth_here (reference_meaning scope to) (reference_place to) h
  written_told node field FieldMeaning.Pointer p e k (Written.Flag truth) h = absurd (cc)
  written_told node field FieldMeaning.Pointer p e k (Written.Null q) h =
      mapped_some (λ i. Write.Pointer node i Value.Null) (number_of field names.pointers) (pointer_number names field (ap kind_of_field e))
  written_told node field FieldMeaning.Pointer p e k (Written.Node to) h =
      and_so (node_is_told vs to) (is_some (written_of names vs node field (Written.Node to))) (node_known m to h)
      (mapped_some (λ i. Write.Pointer node i (Value.Node (reference_of vs to))) (number_of field names.pointers) (pointer_number names field (ap kind_of_field e)))

  write_told : (w : WriteTree) → write_rules names scope w ≡ [] → write_is_told names vs w ≡ true
  write_told w h =
      let access = access_meaning names scope w.node w.field in
      let of_node = unknown_reference scope w.node in
      let of_field = unknown_field_name names w.field in
      let wrong = misplaced access (reference_place w.node) in
      let value = written_rules scope (label_meaning names w.field.label) w.value in
      let front = left_none (of_node ++ of_field ++ wrong) value h in
      let known = left_none (of_node ++ of_field) wrong front in
      let sound = sound_by access (reference_place w.node)
      (dotted_known scope.setting (reference_meaning scope w.node) (label_meaning names w.field.label) (reference_place w.node) w.field.place (left_none of_node of_field known) (right_none of_node of_field known))
      (right_none (of_node ++ of_field) wrong front) in
      regrouped (node_is_told vs w.node) (value_is_told vs w.value) (is_some (write_of names vs w))
      (node_told m w.node (node_by_field scope.setting (reference_meaning scope w.node) (label_meaning names w.field.label) sound))
      (written_told (reference_of vs w.node) w.field.label (label_meaning names w.field.label) w.field.place refl (right_none of_node of_field known) w.value
      (right_none (of_node ++ of_field ++ wrong) value h))
    where
      regrouped : (a b c : Bool) → a ≡ true → (b && c) ≡ true → (a && b && c) ≡ true
      regrouped true b c h k = k
      regrouped false b c h k = absurd (false≢true h)

  -- ---- blocks and assignments

  with_told : (w : Option With) → optional_with_rules scope w ≡ [] → with_is_told vs w ≡ true
  with_told None h = refl
  with_told (Some w) h =
      all_told (node_rules scope) (node_is_told vs) (node_known m) (with_list w)
      (left_none (flat_map (node_rules scope) (with_list w)) (repeats (map reference_occurrence (with_list w))) h)

  pub block_told : (tree : BlockTree) → block_rules names scope tree ≡ [] → block_is_told names (locals_of m) tree ≡ true
  block_told tree h =
      let of_with = optional_with_rules scope tree.with in
      let of_tests = flat_map (test_line_rules names scope) tree.tests in
      let of_binds = flat_map (bind_rules names scope) tree.binds in
      let of_writes = writes_rules names scope tree.writes in
      let each = flat_map (write_rules names scope) tree.writes in
      let four = left_none (of_with ++ of_tests ++ of_binds ++ of_writes) (block_reuses scope tree) h in
      let three = left_none (of_with ++ of_tests ++ of_binds) of_writes four in
      let two = left_none (of_with ++ of_tests) of_binds three in
      and_so _ (list_all (write_is_told names vs) tree.writes)
      (and_so _ (list_all (bind_is_told names vs) tree.binds)
      (and_so (with_is_told vs tree.with) (list_all (λ line. test_is_told names (locals_of m) line.test) tree.tests)
      (with_told tree.with (left_none of_with of_tests two))
      (all_told (test_line_rules names scope) (λ line. test_is_told names (locals_of m) line.test) (λ line. test_told line.test) tree.tests (right_none of_with of_tests two)))
      (all_told (bind_rules names scope) (bind_is_told names vs) bind_told tree.binds (right_none (of_with ++ of_tests) of_binds three)))
      (all_told (write_rules names scope) (write_is_told names vs) write_told tree.writes
      (left_none each (others_than_first (flat_map (write_heads names scope) tree.writes))
      (left_none (each ++ others_than_first (flat_map (write_heads names scope) tree.writes)) (repeats (map written_field tree.writes)) (right_none (of_with ++ of_tests ++ of_binds) of_writes four))))

  pub assignment_told : (variable : Name) (value : Assigned) → assign_rules names scope variable value ≡ [] → assignment_is_told names vs variable.label value ≡ true
  assignment_told variable (Assigned.New p) h = variable_number variable h
  assignment_told variable (Assigned.Null p) h = variable_number variable h
  assignment_told variable (Assigned.Node node None) h =
      and_so (is_some (number_of variable.label vs)) (node_is_told vs node)
      (variable_number variable (left_none (name_rules scope variable) (node_rules scope node) h))
      (node_known m node (right_none (name_rules scope variable) (node_rules scope node) h))
  assignment_told variable (Assigned.Node node (Some field)) h =
      let of_variable = name_rules scope variable in
      let of_read = read_rules names scope node field in
      let front = left_none (of_variable ++ of_read) (read_reuses scope variable node) h in
      read_told variable node field (left_none of_variable of_read front) (right_none of_variable of_read front)

  lock_if : (has : Bool) (p : Place) → when (not has) (unknown p) ≡ [] → has ≡ true
  lock_if true p h = refl
  lock_if false p h = absurd (cc)

  pub lock_told : (p : Place) (node : ReferenceTree) → lock_rules names scope p node ≡ [] → lock_is_told names vs node ≡ true
  lock_told p node h =
      let locks = when (not names.has_lock) (unknown p) in
      and_so names.has_lock (node_is_told vs node) (lock_if names.has_lock p (left_none locks (node_rules scope node) h)) (node_known m node (right_none locks (node_rules scope node) h))
