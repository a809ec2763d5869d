-- Where the writes of a block break no rule of typing, they are of one node and of different fields.
use Rattle.std.proofs.Common.{◌≡◌, ℕ, true, false, not, ◌&&◌, List, [], ◌∷◌, ◌++◌, map, Option, Some, None, refl, sym, ◌∙◌, ap, subst, if◌then◌else◌}
use Rattle.std.specs.Prelude.{◌==◌}
use Rattle.std.specs.List.{list_all, flat_map}
use Rattle.std.specs.Option.{option_map_or, option_map}
use Rattle.std.specs.Cmp.{first_so, second_so}
use Rattle.std.proofs.lemmas.Bool.{false≢true}
use Rattle.plank_lex.specs.declared.words.Reserved.TheVariants as word
use Rattle.plank_lex.specs.Spelling.{word_of}
use Rattle.plank_ast.specs.declared.names.Name.{Name}
use Rattle.plank_ast.specs.declared.names.Reference.{Reference as ReferenceTree}
use Rattle.plank_ast.specs.declared.statements.Written.{Written}
use Rattle.plank_ast.specs.declared.statements.Write.{Write as WriteTree}
use Rattle.plank_ast.specs.declared.methods.Method.{Method}
use Rattle.plank_ast.specs.declared.texts.Text.{Text}
use Rattle.plank_prog.specs.declared.blocks.Reference.{Reference}
use Rattle.plank_prog.specs.declared.blocks.Value.{Value}
use Rattle.plank_prog.specs.declared.blocks.Write.{Write}
use Rattle.plank_prog.specs.Names.{all_pairs, names_differ}
use Rattle.plank_prog.specs.Blocks.{same_reference, writes_agree}
use Rattle.plank_rules.specs.Declarations.{same_name, is_among, number_of, variables_of}
use Rattle.plank_rules.specs.Faults.{wrong_kind}
use Rattle.plank_rules.specs.Occurrences.{Occurrence, reference_occurrence, reference_place, repeats, others_than, others_than_first}
use Rattle.plank_rules.specs.Meanings.{reference_meaning, label_meaning, unknown_reference, unknown_field_name, misplaced}
use Rattle.plank_rules.specs.Atoms.{is_unknown}
use Rattle.plank_rules.specs.StatementRules.{access_meaning, written_rules, write_rules, write_heads, written_field, writes_rules}
use Rattle.plank_rules.specs.MethodRules.{method_scope}
use Rattle.plank_rules.specs.BrokenRules.{declared_by as rules_header}
use Rattle.plank_rules.specs.declared.names.Declared.{Declared}
use Rattle.plank_type.specs.Operands.{reference_of, written_of, write_of, writes_of}
use Rattle.plank_type.proofs.Tests.{and_so, left_none, right_none}
use Rattle.plank_type.proofs.Distinct.{when_none, when_rest, same_names, own_name}
use Rattle.plank_type.proofs.NamesOnce.{numbered_among}
use Rattle.plank_type.proofs.Tests.{not_false}
use Rattle.plank_type.proofs.KnownMeanings.{dotted_known}
use Rattle.plank_type.proofs.KeptPairs.{kept_pairs, both_pairs}
use Rattle.plank_type.proofs.KnownNames.{numbers_apart, same_self, label_of, unrepeated}

module _ (m : Method) where
  abbrev vs : List (List ℕ)
  vs = variables_of m

  module _ (rootless : is_among vs (word_of word.Root) ≡ false) where
    root_apart : (o : Option ℕ) → number_of (word_of word.Root) vs ≡ o → Reference.Root ≡ option_map_or Reference.Variable o Reference.Root
    root_apart None e = refl
    root_apart (Some v) e = absurd (false≢true (sym rootless ∙ numbered_among (word_of word.Root) vs v e))

    by_label : (q : ReferenceTree) → reference_of vs q ≡ option_map_or Reference.Variable (number_of (label_of q) vs) Reference.Root
    by_label (ReferenceTree.Root place) = root_apart (number_of (word_of word.Root) vs) refl
    by_label (ReferenceTree.Name name) = refl

    same_nodes : (l : List ℕ) (q r : ReferenceTree) → same_name l (label_of q) ≡ true → same_name l (label_of r) ≡ true → same_reference (reference_of vs q) (reference_of vs r) ≡ true
    same_nodes l q r h k =
        let e = by_label q ∙ ap (λ n. option_map_or Reference.Variable (number_of n vs) Reference.Root) (sym (same_names l (label_of q) h) ∙ same_names l (label_of r) k) ∙ sym (by_label r) in
        subst (λ (p : Reference). same_reference (reference_of vs q) p ≡ true) e (same_self (reference_of vs q))

    one_node : (l : List ℕ) (w : WriteTree) (us : List WriteTree) → same_name l (label_of w.node) ≡ true → list_all (λ u. same_name l (label_of u.node)) us ≡ true → list_all (λ u. same_reference (reference_of vs w.node) (reference_of vs u.node)) us ≡ true
    one_node l w [] h k = refl
    one_node l w (u ∷ us) h k =
        and_so (same_reference (reference_of vs w.node) (reference_of vs u.node)) (list_all (λ x. same_reference (reference_of vs w.node) (reference_of vs x.node)) us)
        (same_nodes l w.node u.node h (first_so (same_name l (label_of u.node)) (list_all (λ x. same_name l (label_of x.node)) us) k))
        (one_node l w us h (second_so (same_name l (label_of u.node)) (list_all (λ x. same_name l (label_of x.node)) us) k))

    nodes_agree : (l : List ℕ) (us : List WriteTree) → list_all (λ u. same_name l (label_of u.node)) us ≡ true → all_pairs (λ w u. same_reference (reference_of vs w.node) (reference_of vs u.node)) us ≡ true
    nodes_agree l [] h = refl
    nodes_agree l (u ∷ us) h =
        let rest = second_so (same_name l (label_of u.node)) (list_all (λ x. same_name l (label_of x.node)) us) h in
        and_so (list_all (λ x. same_reference (reference_of vs u.node) (reference_of vs x.node)) us) (all_pairs (λ w x. same_reference (reference_of vs w.node) (reference_of vs x.node)) us)
        (one_node l u us (first_so (same_name l (label_of u.node)) (list_all (λ x. same_name l (label_of x.node)) us) h) rest)
        (nodes_agree l us rest)

    all_named : (l : List ℕ) (us : List WriteTree) → others_than l (map (λ u. reference_occurrence u.node) us) ≡ [] → list_all (λ u. same_name l (label_of u.node)) us ≡ true
    all_named l [] h = refl
    all_named l (u ∷ us) h =
        let rest = others_than l (map (λ x. reference_occurrence x.node) us) in
        and_so (same_name l (label_of u.node)) (list_all (λ x. same_name l (label_of x.node)) us)
        (not_false (same_name l (label_of u.node)) (when_none (not (same_name l (label_of u.node))) (wrong_kind (reference_place u.node)) rest h))
        (all_named l us (when_rest (not (same_name l (label_of u.node))) (wrong_kind (reference_place u.node)) rest h))

    of_one_node : (us : List WriteTree) → others_than_first (map (λ u. reference_occurrence u.node) us) ≡ [] → all_pairs (λ w u. same_reference (reference_of vs w.node) (reference_of vs u.node)) us ≡ true
    of_one_node [] h = refl
    of_one_node (u ∷ us) h =
        nodes_agree (label_of u.node) (u ∷ us)
        (and_so (same_name (label_of u.node) (label_of u.node)) (list_all (λ x. same_name (label_of u.node) (label_of x.node)) us) (own_name (label_of u.node))
        (all_named (label_of u.node) us h))

    -- ---- the names before the dots of writes

    access_known : (t : Text) (q : ReferenceTree) (field : Name) → unknown_field_name (rules_header t) field ≡ [] → unknown_reference (method_scope m) q ≡ [] → is_unknown (access_meaning (rules_header t) (method_scope m) q field) ≡ false
    access_known t q field h n =
        dotted_known (method_scope m).setting (reference_meaning (method_scope m) q) (label_meaning (rules_header t) field.label) (reference_place q) field.place n h

    headed : (t : Text) (u : WriteTree) → write_rules (rules_header t) (method_scope m) u ≡ [] → write_heads (rules_header t) (method_scope m) u ≡ reference_occurrence u.node ∷ []
    headed t u h =
        let node = unknown_reference (method_scope m) u.node in
        let field = unknown_field_name (rules_header t) u.field in
        let kind = misplaced (access_meaning (rules_header t) (method_scope m) u.node u.field) (reference_place u.node) in
        let value = written_rules (method_scope m) (label_meaning (rules_header t) u.field.label) u.value in
        let front = left_none (node ++ field) kind (left_none (node ++ field ++ kind) value h) in
        ap (λ unknown. if unknown then [] else reference_occurrence u.node ∷ [])
        (access_known t u.node u.field (right_none node field front) (left_none node field front))

    all_headed : (t : Text) (us : List WriteTree) → flat_map (write_rules (rules_header t) (method_scope m)) us ≡ [] → flat_map (write_heads (rules_header t) (method_scope m)) us ≡ map (λ u. reference_occurrence u.node) us
    all_headed t [] h = refl
    all_headed t (u ∷ us) h =
        let here = write_rules (rules_header t) (method_scope m) u in
        let rest = flat_map (write_rules (rules_header t) (method_scope m)) us in
        ap (λ os. os ++ flat_map (write_heads (rules_header t) (method_scope m)) us) (headed t u (left_none here rest h))
        ∙ ap (λ os. reference_occurrence u.node ∷ os) (all_headed t us (right_none here rest h))

    -- ---- what writes write

    module _ (names : Declared) where
      -- a write of a node, to the field with a name
      abbrev Writes : Reference → List ℕ → Write → Type 0
      Writes q field (Write.Flag r flag to) = (r ≡ q) × (number_of field names.flags ≡ Some flag)
      Writes q field (Write.Pointer r pointer to) = (r ≡ q) × (number_of field names.pointers ≡ Some pointer)
      Writes q field (Write.TakeLock r) = true ≡ false
      Writes q field (Write.FreeLock r) = true ≡ false

      made : (q : Reference) (field : List ℕ) (f : ℕ → Write) (n o : Option ℕ) → n ≡ o → ((i : ℕ) → n ≡ Some i → Writes q field (f i)) → (x : Write) → option_map f o ≡ Some x → Writes q field x
      made q field f n None e so x h = absurd (cc)
      made q field f n (Some i) e so x h =
          let same : f i ≡ x = cc in
          subst (λ (y : Write). Writes q field y) same (so i e)

      written_so : (q : Reference) (field : List ℕ) (value : Written) (x : Write) → written_of names vs q field value ≡ Some x → Writes q field x
      written_so q field (Written.Flag truth) x h =
          made q field (λ f. Write.Flag q f truth.value) (number_of field names.flags) (number_of field names.flags) refl (λ i e. (refl, e)) x h
      written_so q field (Written.Null place) x h =
          made q field (λ p. Write.Pointer q p Value.Null) (number_of field names.pointers) (number_of field names.pointers) refl (λ i e. (refl, e)) x h
      written_so q field (Written.Node to) x h =
          made q field (λ p. Write.Pointer q p (Value.Node (reference_of vs to))) (number_of field names.pointers) (number_of field names.pointers) refl (λ i e. (refl, e)) x h

      same_as : (q r p s : Reference) → same_reference q r ≡ true → p ≡ q → s ≡ r → same_reference p s ≡ true
      same_as q r p s h e f = ap (λ z. same_reference z s) e ∙ ap (same_reference q) f ∙ h

      two_agree : (q r : Reference) (a b : List ℕ) (x y : Write) → same_reference q r ≡ true → names_differ a b ≡ true → Writes q a x → Writes r b y → writes_agree x y ≡ true
      two_agree q r a b (Write.Flag p f to) (Write.Flag s g too) h d x y =
          and_so (same_reference p s) (not (f == g)) (same_as q r p s h x.0 y.0) (numbers_apart a b names.flags f g d x.1 y.1)
      two_agree q r a b (Write.Pointer p f to) (Write.Pointer s g too) h d x y =
          and_so (same_reference p s) (not (f == g)) (same_as q r p s h x.0 y.0) (numbers_apart a b names.pointers f g d x.1 y.1)
      two_agree q r a b (Write.Flag p f to) (Write.Pointer s g too) h d x y = and_so (same_reference p s) true (same_as q r p s h x.0 y.0) refl
      two_agree q r a b (Write.Pointer p f to) (Write.Flag s g too) h d x y = and_so (same_reference p s) true (same_as q r p s h x.0 y.0) refl
      two_agree q r a b (Write.TakeLock p) y h d x z = absurd (false≢true (sym x))
      two_agree q r a b (Write.FreeLock p) y h d x z = absurd (false≢true (sym x))
      two_agree q r a b (Write.Flag p f to) (Write.TakeLock s) h d x y = absurd (false≢true (sym y))
      two_agree q r a b (Write.Flag p f to) (Write.FreeLock s) h d x y = absurd (false≢true (sym y))
      two_agree q r a b (Write.Pointer p f to) (Write.TakeLock s) h d x y = absurd (false≢true (sym y))
      two_agree q r a b (Write.Pointer p f to) (Write.FreeLock s) h d x y = absurd (false≢true (sym y))

      -- writes that break no rule are of one node and of different fields
      pub all_agree : (t : Text) (us : List WriteTree) → writes_rules (rules_header t) (method_scope m) us ≡ [] → all_pairs writes_agree (writes_of names vs us) ≡ true
      all_agree t us h =
          let each = flat_map (write_rules (rules_header t) (method_scope m)) us in
          let heads = others_than_first (flat_map (write_heads (rules_header t) (method_scope m)) us) in
          let fields = repeats (map written_field us) in
          let front = left_none (each ++ heads) fields h in
          kept_pairs writes_agree
          (λ w u. same_reference (reference_of vs w.node) (reference_of vs u.node) && names_differ w.field.label u.field.label) (write_of names vs)
          (λ w u x y apart e f.
          two_agree (reference_of vs w.node) (reference_of vs u.node) w.field.label u.field.label x y
          (first_so (same_reference (reference_of vs w.node) (reference_of vs u.node)) (names_differ w.field.label u.field.label) apart)
          (second_so (same_reference (reference_of vs w.node) (reference_of vs u.node)) (names_differ w.field.label u.field.label) apart)
          (written_so (reference_of vs w.node) w.field.label w.value x e) (written_so (reference_of vs u.node) u.field.label u.value y f))
          us
          (both_pairs (λ w u. same_reference (reference_of vs w.node) (reference_of vs u.node)) (λ w u. names_differ w.field.label u.field.label) us
          (of_one_node us (subst (λ (os : List Occurrence). others_than_first os ≡ []) (all_headed t us (left_none each heads front)) (right_none each heads front)))
          (unrepeated written_field us (right_none (each ++ heads) fields h)))
