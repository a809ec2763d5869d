-- Declared that break no rule of typing have numbers, and different names have different ones: the names after `with` differ.
use Rattle.std.proofs.Common.{◌≡◌, ℕ, Bool, true, false, not, List, [], ◌∷◌, map, Option, Some, None, refl, sym, ◌∙◌, ap}
use Rattle.std.specs.Prelude.{◌==◌}
use Rattle.std.specs.List.{list_all, flat_map}
use Rattle.std.specs.Option.{option_map_or}
use Rattle.std.specs.Cmp.{first_so, second_so}
use Rattle.std.proofs.lemmas.Bool.{eqb-true, eq-eqb, false≢true}
use Rattle.plank_base.specs.declared.places.Place.{Place}
use Rattle.plank_lex.specs.declared.words.Reserved.TheVariants as word
use Rattle.plank_lex.specs.Spelling.{word_of}
use Rattle.plank_ast.specs.declared.names.Name.{Name}
use Rattle.plank_ast.specs.declared.names.Reference.{Reference as ReferenceTree}
use Rattle.plank_ast.specs.declared.statements.With.{With}
use Rattle.plank_ast.specs.declared.methods.Method.{Method}
use Rattle.plank_ast.specs.declared.methods.Variables.{Variables}
use Rattle.plank_prog.specs.declared.blocks.Reference.{Reference}
use Rattle.plank_prog.specs.Names.{all_pairs, names_differ}
use Rattle.plank_prog.specs.Blocks.{same_reference}
use Rattle.plank_rules.specs.Declarations.{same_name, is_among, number_of, labels, variable_line, variables_of}
use Rattle.plank_rules.specs.Occurrences.{Occurrence, occurrence, reference_occurrence, labels_of, repeats}
use Rattle.plank_rules.specs.Meanings.{name_meaning, no_node}
use Rattle.plank_rules.specs.StatementRules.{name_rules, node_rules, with_list, optional_with_rules}
use Rattle.plank_rules.specs.MethodRules.{line_occurrences, variable_occurrences, method_scope}
use Rattle.plank_type.specs.Operands.{reference_of, with_of}
use Rattle.plank_type.proofs.Tests.{and_so, not_true, not_so, left_none, right_none, map_map, pairs_map}
use Rattle.plank_type.proofs.Distinct.{own_name, distinct_labels}
use Rattle.plank_type.proofs.NamesOnce.{numbered_same, not_numbered, apart_distinct}

-- names that differ have different numbers
pub numbers_apart : (a b : List ℕ) (among : List (List ℕ)) (i j : ℕ) → names_differ a b ≡ true → number_of a among ≡ Some i → number_of b among ≡ Some j → not (i == j) ≡ true
numbers_apart a b among i j h e f =
    not_so (i == j)
    (λ same. same ∙ sym (numbered_same a b among i e (f ∙ ap Some (sym (eqb-true i j same)))) ∙ not_true (same_name a b) h)

-- ---- the variables of a method

line_labels : (line : Option Variables) → labels_of (line_occurrences line) ≡ labels (option_map_or variable_line line [])
line_labels None = refl
line_labels (Some line) = map_map (λ (o : Occurrence). o.label) occurrence (variable_line line)

pub same_labels : (m : Method) → labels_of (variable_occurrences m) ≡ variables_of m
same_labels m = line_labels m.variables

pub same_self : (q : Reference) → same_reference q q ≡ true
same_self Reference.Root = refl
same_self (Reference.Variable i) = eq-eqb i i refl

-- the bytes of a name of a node
abbrev pub label_of : ReferenceTree → List ℕ
label_of q = (reference_occurrence q).label

-- what a rule on repetitions says of the labels of items
pub unrepeated : {X : Type 0} (f : X → Occurrence) (xs : List X) → repeats (map f xs) ≡ [] → all_pairs (λ x y. names_differ (f x).label (f y).label) xs ≡ true
unrepeated f xs h =
    sym (pairs_map names_differ (λ x. (f x).label) xs)
    ∙ ap (all_pairs names_differ) (sym (map_map (λ (o : Occurrence). o.label) f xs)) ∙ distinct_labels (map f xs) h

module _ (m : Method) where
  abbrev vs : List (List ℕ)
  vs = variables_of m

  declared : (a : List ℕ) → is_among vs a ≡ false → is_among (method_scope m).nodes a ≡ false
  unfolding method_scope
  declared a h = apart_distinct (labels_of (variable_occurrences m)) a (ap (λ ls. is_among ls a) (same_labels m) ∙ h)

  -- a name that the scope knows has a number
  unnumbered : (a : List ℕ) → is_among (method_scope m).nodes a ≡ true → number_of a vs ≡ None → true ≡ false
  unnumbered a known e = sym known ∙ declared a (not_numbered a vs e)

  known_if : (n : List ℕ) (p : Place) (known other : Bool) → is_among (method_scope m).nodes n ≡ known → is_among (method_scope m).keys n ≡ other → no_node (name_meaning (method_scope m) n) p ≡ [] → known ≡ true
  known_if n p true other e f h = refl
  known_if n p false true e f h = let k = rw (e, f) at h in absurd (cc)
  known_if n p false false e f h = let k = rw (e, f) at h in absurd (cc)

  -- a name where a node is needed is a variable
  pub name_known : (name : Name) → name_rules (method_scope m) name ≡ [] → is_among (method_scope m).nodes name.label ≡ true
  name_known name h =
      known_if name.label name.place (is_among (method_scope m).nodes name.label) (is_among (method_scope m).keys name.label) refl refl h

  -- ---- further names

  known_apart : (n : List ℕ) (o : Option ℕ) → number_of n vs ≡ o → is_among (method_scope m).nodes n ≡ true → not (same_reference Reference.Root (option_map_or Reference.Variable o Reference.Root)) ≡ true
  known_apart n None e known = absurd (false≢true (sym (unnumbered n known e)))
  known_apart n (Some i) e known = refl

  known_apart_too : (n : List ℕ) (o : Option ℕ) → number_of n vs ≡ o → is_among (method_scope m).nodes n ≡ true → not (same_reference (option_map_or Reference.Variable o Reference.Root) Reference.Root) ≡ true
  known_apart_too n None e known = absurd (false≢true (sym (unnumbered n known e)))
  known_apart_too n (Some i) e known = refl

  both_apart : (a b : List ℕ) (o p : Option ℕ) → number_of a vs ≡ o → number_of b vs ≡ p → is_among (method_scope m).nodes a ≡ true → is_among (method_scope m).nodes b ≡ true → names_differ a b ≡ true → not (same_reference (option_map_or Reference.Variable o Reference.Root) (option_map_or Reference.Variable p Reference.Root)) ≡ true
  both_apart a b None p e f x y h = absurd (false≢true (sym (unnumbered a x e)))
  both_apart a b (Some i) None e f x y h = refl
  both_apart a b (Some i) (Some j) e f x y h = numbers_apart a b vs i j h e f

  two_apart : (q r : ReferenceTree) → node_rules (method_scope m) q ≡ [] → node_rules (method_scope m) r ≡ [] → names_differ (label_of q) (label_of r) ≡ true → not (same_reference (reference_of vs q) (reference_of vs r)) ≡ true
  two_apart (ReferenceTree.Root p) (ReferenceTree.Root o) x y h = absurd (false≢true (sym (not_true (same_name (word_of word.Root) (word_of word.Root)) h) ∙ own_name (word_of word.Root)))
  two_apart (ReferenceTree.Root p) (ReferenceTree.Name b) x y h = known_apart b.label (number_of b.label vs) refl (name_known b y)
  two_apart (ReferenceTree.Name a) (ReferenceTree.Root p) x y h = known_apart_too a.label (number_of a.label vs) refl (name_known a x)
  two_apart (ReferenceTree.Name a) (ReferenceTree.Name b) x y h =
      both_apart a.label b.label (number_of a.label vs) (number_of b.label vs) refl refl (name_known a x) (name_known b y) h

  one_apart : (q : ReferenceTree) → node_rules (method_scope m) q ≡ [] → (rs : List ReferenceTree) → flat_map (node_rules (method_scope m)) rs ≡ [] → list_all (λ r. names_differ (label_of q) (label_of r)) rs ≡ true → list_all (λ r. not (same_reference (reference_of vs q) (reference_of vs r))) rs ≡ true
  one_apart q x [] n h = refl
  one_apart q x (r ∷ rs) n h =
      and_so (not (same_reference (reference_of vs q) (reference_of vs r))) (list_all (λ p. not (same_reference (reference_of vs q) (reference_of vs p))) rs)
      (two_apart q r x (left_none (node_rules (method_scope m) r) (flat_map (node_rules (method_scope m)) rs) n)
      (first_so (names_differ (label_of q) (label_of r)) (list_all (λ p. names_differ (label_of q) (label_of p)) rs) h))
      (one_apart q x rs (right_none (node_rules (method_scope m) r) (flat_map (node_rules (method_scope m)) rs) n)
      (second_so (names_differ (label_of q) (label_of r)) (list_all (λ p. names_differ (label_of q) (label_of p)) rs) h))

  all_apart : (qs : List ReferenceTree) → flat_map (node_rules (method_scope m)) qs ≡ [] → all_pairs (λ q r. names_differ (label_of q) (label_of r)) qs ≡ true → all_pairs (λ q r. not (same_reference (reference_of vs q) (reference_of vs r))) qs ≡ true
  all_apart [] n h = refl
  all_apart (q ∷ qs) n h =
      let rest : flat_map (node_rules (method_scope m)) qs ≡ [] = right_none (node_rules (method_scope m) q) (flat_map (node_rules (method_scope m)) qs) n in
      and_so (list_all (λ r. not (same_reference (reference_of vs q) (reference_of vs r))) qs) (all_pairs (λ p r. not (same_reference (reference_of vs p) (reference_of vs r))) qs)
      (one_apart q (left_none (node_rules (method_scope m) q) (flat_map (node_rules (method_scope m)) qs) n) qs rest
      (first_so (list_all (λ r. names_differ (label_of q) (label_of r)) qs) (all_pairs (λ p r. names_differ (label_of p) (label_of r)) qs) h))
      (all_apart qs rest (second_so (list_all (λ r. names_differ (label_of q) (label_of r)) qs) (all_pairs (λ p r. names_differ (label_of p) (label_of r)) qs) h))

  -- where `with` breaks no rule, its names differ
  pub with_apart : (w : Option With) → optional_with_rules (method_scope m) w ≡ [] → all_pairs (λ q r. not (same_reference q r)) (with_of vs w) ≡ true
  with_apart None h = refl
  with_apart (Some w) h =
      pairs_map (λ q r. not (same_reference q r)) (reference_of vs) (with_list w)
      ∙ all_apart (with_list w) (left_none (flat_map (node_rules (method_scope m)) (with_list w)) (repeats (map reference_occurrence (with_list w))) h)
      (unrepeated reference_occurrence (with_list w) (right_none (flat_map (node_rules (method_scope m)) (with_list w)) (repeats (map reference_occurrence (with_list w))) h))
