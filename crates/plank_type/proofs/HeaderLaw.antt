-- The header of a text that breaks no rule of typing and is within the limits is lawful.
use Rattle.std.proofs.Common.{◌≡◌, ℕ, suc, ◌≤◌, ◌<◌, ◌+◌, ◌*◌, ◌^◌, Bool, true, false, not, ◌||◌, List, [], ◌∷◌, ◌++◌, length, map, Option, Some, None, refl, sym, ◌∙◌, ap, subst, arith, if◌then◌else◌}
use Rattle.std.specs.Prelude.{nat_lt, unwrap_or, cond, position, fold}
use Rattle.std.specs.List.{list_all, list_any, flat_map, position_or_len}
use Rattle.std.specs.Cmp.{first_so, second_so}
use Rattle.std.proofs.lemmas.Bool.{ltb-true, lt-ltb, le-leb, eq-eqb, false≢true}
use Rattle.std.proofs.lemmas.List.{map-append}
use Rattle.std.proofs.Math.Nat.{pow-succ'}
use Rattle.std.proofs.lemmas.List.Folds.{list_all-append}
use Rattle.plank_base.specs.Keys.{is_ordinary}
use Rattle.plank_base.specs.declared.places.Place.{Place}
use Rattle.plank_base.specs.declared.limits.TheConstants.{FLAGS_LIMIT, POINTERS_LIMIT, NODES_LIMIT}
use Rattle.plank_ast.specs.declared.header.RootLine.{RootLine}
use Rattle.plank_ast.specs.declared.header.StartKey.{StartKey}
use Rattle.plank_ast.specs.declared.header.StartValue.{StartValue}
use Rattle.plank_ast.specs.declared.header.StartItem.{StartItem}
use Rattle.plank_ast.specs.declared.header.StartLine.{StartLine}
use Rattle.plank_ast.specs.declared.header.NamedCondition.{NamedCondition}
use Rattle.plank_ast.specs.declared.header.ConditionLine.{ConditionLine}
use Rattle.plank_ast.specs.declared.texts.Text.{Text}
use Rattle.plank_prog.specs.declared.conditions.Condition.{Condition}
use Rattle.plank_prog.specs.Names.{all_pairs, names_differ}
use Rattle.plank_prog.specs.Headers.{is_lawful_header, is_header_within_limits, have_distinct_fields, have_distinct_names, have_lawful_nodes, have_lawful_conditions, is_lawful_start_node, leads_within, optional_fits, walk_scope, freeze_scope, keep_scope}
use Rattle.plank_prog.specs.declared.scopes.Scope.{Scope}
use Rattle.plank_prog.specs.Scopes.{condition_fits}
use Rattle.plank_rules.specs.declared.broken.Broken.{Broken}
use Rattle.plank_rules.specs.Declarations.{same_name, is_among, with_name, number_of, distinct, flag_names, pointer_names, start_names, keep_names}
use Rattle.plank_rules.specs.Faults.{when, unknown}
use Rattle.plank_rules.specs.Occurrences.{Occurrence, labels_of}
use Rattle.plank_rules.specs.declared.scopes.Setting.{Setting}
use Rattle.plank_rules.specs.declared.names.Declared.{Declared}
use Rattle.plank_rules.specs.Meanings.{label_meaning}
use Rattle.plank_rules.specs.Conditions.{condition_rules}
use Rattle.plank_rules.specs.Headers.{header_scope, flag_occurrence, pointer_occurrence, start_occurrence, named_occurrence, root_rules, one_root, roots_rules, pointer_rules, edge_rules, holds_rules, keep_rules, optional_freeze_rules}
use Rattle.plank_rules.specs.BrokenRules.{declared_by, field_occurrences, broken_rules}
use Rattle.plank_type.proofs.Rules.{of_fields, of_roots, of_starts, of_edges, of_holds, of_keep_conditions, of_freeze, of_keeps}
use Rattle.plank_type.proofs.AsWritten.{declared_as_written}
use Rattle.plank_type.specs.Numbers.{names_of}
use Rattle.plank_type.specs.Headers.{edge_of, pointer_of, start_key, starts_set, start_flags, node_of, start_pointer, start_node_of, root_of, keep_of, freeze_of, header_of}
use Rattle.plank_type.specs.Conditions.{condition_of}
use Rattle.plank_type.specs.Limits.{text_excess}
use Rattle.plank_type.proofs.Tests.{and_so, both_true, or_first, or_second, left_none, right_none, map_map, all_map, pairs_map, all_so}
use Rattle.plank_type.proofs.Distinct.{distinct_labels}
use Rattle.plank_type.proofs.WithinLimits.{length_map, few_names, few_pointers, few_nodes}
use Rattle.plank_type.proofs.OperandsFit.{scope_at}
use Rattle.plank_type.proofs.ConditionsFit.{condition_of_fits}

-- ---- names

same_maps : {Y : Type 0} (f g : Y → List ℕ) → ((y : Y) → f y ≡ g y) → (ys : List Y) → map f ys ≡ map g ys
same_maps f g same [] = refl
same_maps f g same (y ∷ ys) = ap (λ name. name ∷ map f ys) (same y) ∙ ap (λ names. g y ∷ names) (same_maps f g same ys)

-- what is true of the names of parts, told of the parts that are made of them
pub differ_as : {X Y : Type 0} (name : X → List ℕ) (part : Y → X) (label : Y → List ℕ) → ((y : Y) → name (part y) ≡ label y) → (ys : List Y) → all_pairs names_differ (map label ys) ≡ true → all_pairs (λ a b. names_differ (name a) (name b)) (map part ys) ≡ true
differ_as name part label same ys h =
    pairs_map (λ a b. names_differ (name a) (name b)) part ys
    ∙ sym (pairs_map names_differ (λ y. name (part y)) ys)
    ∙ ap (all_pairs names_differ) (same_maps (λ y. name (part y)) label same ys) ∙ h

pairs_left : (xs ys : List (List ℕ)) → all_pairs names_differ (xs ++ ys) ≡ true → all_pairs names_differ xs ≡ true
pairs_left [] ys h = refl
pairs_left (x ∷ xs) ys h =
    and_so (list_all (names_differ x) xs) (all_pairs names_differ xs)
    (first_so (list_all (names_differ x) xs) (list_all (names_differ x) ys)
    (sym (list_all-append (names_differ x) xs ys) ∙ first_so (list_all (names_differ x) (xs ++ ys)) (all_pairs names_differ (xs ++ ys)) h))
    (pairs_left xs ys (second_so (list_all (names_differ x) (xs ++ ys)) (all_pairs names_differ (xs ++ ys)) h))

pairs_right : (xs ys : List (List ℕ)) → all_pairs names_differ (xs ++ ys) ≡ true → all_pairs names_differ ys ≡ true
pairs_right [] ys h = h
pairs_right (x ∷ xs) ys h = pairs_right xs ys (second_so (list_all (names_differ x) (xs ++ ys)) (all_pairs names_differ (xs ++ ys)) h)

pairs_between : (xs ys : List (List ℕ)) → all_pairs names_differ (xs ++ ys) ≡ true → list_all (λ x. list_all (names_differ x) ys) xs ≡ true
pairs_between [] ys h = refl
pairs_between (x ∷ xs) ys h =
    and_so (list_all (names_differ x) ys) (list_all (λ y. list_all (names_differ y) ys) xs)
    (second_so (list_all (names_differ x) xs) (list_all (names_differ x) ys)
    (sym (list_all-append (names_differ x) xs ys) ∙ first_so (list_all (names_differ x) (xs ++ ys)) (all_pairs names_differ (xs ++ ys)) h))
    (pairs_between xs ys (second_so (list_all (names_differ x) (xs ++ ys)) (all_pairs names_differ (xs ++ ys)) h))

-- ---- the root

out_of_both : (seen : List (List ℕ)) (n a : List ℕ) → is_among seen a ≡ false → same_name a n ≡ false → is_among (seen ++ n ∷ []) a ≡ false
out_of_both [] n a h k = ap (λ b. b || false) k
out_of_both (s ∷ seen) n a h k =
    ap (λ b. b || is_among (seen ++ n ∷ []) a) (or_first (same_name a s) (is_among seen a) h)
    ∙ out_of_both seen n a (or_second (same_name a s) (is_among seen a) h) k

stays_out : (here : Bool) (seen : List (List ℕ)) (n a : List ℕ) → is_among seen a ≡ false → same_name a n ≡ false → is_among (if here then seen else seen ++ n ∷ []) a ≡ false
stays_out true seen n a h k = h
stays_out false seen n a h k = out_of_both seen n a h k

-- a name among the names without repetitions is among the names
among_more : (seen names : List (List ℕ)) (a : List ℕ) → is_among seen a ≡ false → is_among names a ≡ false → is_among (fold with_name seen names) a ≡ false
among_more seen [] a h k = h
among_more seen (n ∷ ns) a h k =
    among_more (with_name seen n) ns a
    (stays_out (is_among seen n) seen n a h (or_first (same_name a n) (is_among ns a) k))
    (or_second (same_name a n) (is_among ns a) k)

true_unless : (b : Bool) → (b ≡ false → true ≡ false) → b ≡ true
true_unless true h = refl
true_unless false h = sym (h refl)

pub among_declared : (names : List (List ℕ)) (a : List ℕ) → is_among (distinct names) a ≡ true → is_among names a ≡ true
among_declared names a h = true_unless (is_among names a) (λ k. sym h ∙ among_more [] names a refl k)

first_below : (below : Bool) (at rest : ℕ) → nat_lt at (suc rest) ≡ below → unwrap_or (cond below (Some at) None) 0 < suc rest
first_below true at rest h = ltb-true at (suc rest) h
first_below false at rest h = omega arith

-- the number of a name lies below the number of names
number_below : (test : List ℕ → Bool) (names : List (List ℕ)) → list_any test names ≡ true → unwrap_or (position test names) 0 < length names
number_below test [] h = absurd (false≢true h)
number_below test (n ∷ ns) h = first_below (nat_lt (position_or_len test (n ∷ ns)) (length (n ∷ ns))) (position_or_len test (n ∷ ns)) (length ns) refl

unlisted_test : (test : Bool) (b : Broken) → when test b ≡ [] → test ≡ false
unlisted_test false b h = refl
unlisted_test true b h = absurd (cc)

-- the first root is a start node
pub root_known : (nodes : List (List ℕ)) (structure : Place) (r : RootLine) (rs : List RootLine) → roots_rules (distinct nodes) structure (r ∷ rs) ≡ [] → is_among nodes r.name.label ≡ true
root_known nodes structure r rs h =
    among_declared nodes r.name.label
    (true_unless (is_among (distinct nodes) r.name.label) (λ k.
    sym (ap not k) ∙ unlisted_test (not (is_among (distinct nodes) r.name.label)) (unknown r.name.place)
    (left_none (root_rules (distinct nodes) r) (flat_map (root_rules (distinct nodes)) rs)
    (right_none (one_root structure (r ∷ rs)) (flat_map (root_rules (distinct nodes)) (r ∷ rs)) h))))

root_below : (nodes : List (List ℕ)) (structure : Place) (roots : List RootLine) → roots_rules (distinct nodes) structure roots ≡ [] → root_of nodes roots < length nodes
root_below nodes structure [] h = absurd (cc)
root_below nodes structure (r ∷ rs) h = number_below (same_name r.name.label) nodes (root_known nodes structure r rs h)

-- ---- start nodes

bit_below : (set : Bool) (rest bound : ℕ) → rest < bound → (if set then 1 else 0) + 2 * rest < 2 * bound
bit_below true rest bound h = omega arith
bit_below false rest bound h = omega arith

twice_power : (n : ℕ) → 2 * 2 ^ n ≡ 2 ^ suc n
twice_power n = sym (pow-succ' 2 n)

flags_below : (items : List StartItem) (flags : List (List ℕ)) → start_flags items flags < 2 ^ length flags
flags_below items [] = omega arith
flags_below items (f ∷ fs) =
    subst (λ (bound : ℕ). start_flags items (f ∷ fs) < bound) (twice_power (length fs))
    (bit_below (starts_set items f) (start_flags items fs) (2 ^ length fs) (flags_below items fs))

key_is_end : (key : StartKey) → not (is_ordinary (start_key key)) ≡ true
key_is_end StartKey.Min = refl
key_is_end StartKey.Max = refl

-- the place of a name lies below the number of names
place_within : (below : Bool) (at count : ℕ) → nat_lt at count ≡ below → leads_within count (cond below (Some at) None) ≡ true
place_within true at count h = h
place_within false at count h = refl

number_within : (name : List ℕ) (names : List (List ℕ)) → leads_within (length names) (number_of name names) ≡ true
number_within name names = place_within (nat_lt (position_or_len (same_name name) names) (length names)) (position_or_len (same_name name) names) (length names) refl

node_within : (nodes : List (List ℕ)) (value : StartValue) → leads_within (length nodes) (node_of nodes value) ≡ true
node_within nodes (StartValue.Flag truth) = refl
node_within nodes (StartValue.Null place) = refl
node_within nodes (StartValue.Node name) = number_within name.label nodes

either_within : (test : Bool) (count : ℕ) (o p : Option ℕ) → leads_within count o ≡ true → leads_within count p ≡ true → leads_within count (if test then o else p) ≡ true
either_within true count o p h k = h
either_within false count o p h k = k

pointer_within : (nodes : List (List ℕ)) (items : List StartItem) (pointer : List ℕ) → leads_within (length nodes) (start_pointer nodes items pointer) ≡ true
pointer_within nodes [] pointer = refl
pointer_within nodes (item ∷ items) pointer =
    either_within (same_name pointer item.field.label) (length nodes) (node_of nodes item.value) (start_pointer nodes items pointer)
    (node_within nodes item.value) (pointer_within nodes items pointer)

node_is_lawful : (t : Text) (line : StartLine) → is_lawful_start_node (header_of t) (start_node_of (names_of t) line) ≡ true
node_is_lawful t line =
    both_true (both_true (both_true (key_is_end line.key) (lt-ltb (start_flags line.items (flag_names t)) (2 ^ length (flag_names t)) (flags_below line.items (flag_names t))))
    (eq-eqb (length (map (start_pointer (start_names t) line.items) (pointer_names t))) (length (map (pointer_of (names_of t) t.edges) t.pointers))
    (length_map (start_pointer (start_names t) line.items) (pointer_names t) ∙ length_map (λ l. l.name.label) t.pointers ∙ sym (length_map (pointer_of (names_of t) t.edges) t.pointers))))
    (all_map (leads_within (length (map (start_node_of (names_of t)) t.starts))) (start_pointer (start_names t) line.items) (pointer_names t)
    ∙ all_so (λ p. leads_within (length (map (start_node_of (names_of t)) t.starts)) (start_pointer (start_names t) line.items p))
    (λ p. ap (λ n. leads_within n (start_pointer (start_names t) line.items p)) (length_map (start_node_of (names_of t)) t.starts ∙ sym (length_map (λ l. l.name.label) t.starts))
    ∙ pointer_within (start_names t) line.items p) (pointer_names t))

either_fits : (test : Bool) (s : Scope) (o p : Option Condition) → optional_fits s o ≡ true → optional_fits s p ≡ true → optional_fits s (if test then o else p) ≡ true
either_fits true s o p h k = h
either_fits false s o p h k = k

-- ---- the whole header

module _ (t : Text) (rules : broken_rules t ≡ []) (within : text_excess t ≡ None) where
  labels_of_fields : labels_of (field_occurrences t) ≡ flag_names t ++ pointer_names t
  labels_of_fields =
      map-append (λ (o : Occurrence). o.label) (map flag_occurrence t.flags) (map pointer_occurrence t.pointers)
      ∙ ap (λ ls. ls ++ labels_of (map pointer_occurrence t.pointers)) (map_map (λ (o : Occurrence). o.label) flag_occurrence t.flags)
      ∙ ap (λ ls. flag_names t ++ ls) (map_map (λ (o : Occurrence). o.label) pointer_occurrence t.pointers)

  fields_differ : all_pairs names_differ (flag_names t ++ pointer_names t) ≡ true
  fields_differ =
      ap (all_pairs names_differ) (sym labels_of_fields)
      ∙ distinct_labels (field_occurrences t) (of_fields t rules)

  nodes_differ : all_pairs names_differ (start_names t) ≡ true
  nodes_differ =
      ap (all_pairs names_differ) (sym (map_map (λ (o : Occurrence). o.label) start_occurrence t.starts))
      ∙ distinct_labels (map start_occurrence t.starts) (of_starts t rules)

  keeps_differ : all_pairs names_differ (keep_names t) ≡ true
  keeps_differ =
      ap (all_pairs names_differ) (sym (map_map (λ (o : Occurrence). o.label) named_occurrence t.keeps))
      ∙ distinct_labels (map named_occurrence t.keeps) (of_keeps t rules)

  one_apart : (flag : List ℕ) → list_all (names_differ flag) (pointer_names t) ≡ true → list_all (λ p. names_differ flag p.name) (header_of t).pointers ≡ true
  one_apart flag h =
      all_map (λ p. names_differ flag p.name) (pointer_of (names_of t) t.edges) t.pointers
      ∙ sym (all_map (names_differ flag) (λ line. line.name.label) t.pointers) ∙ h

  each_apart : (flags : List (List ℕ)) → list_all (λ x. list_all (names_differ x) (pointer_names t)) flags ≡ true → list_all (λ flag. list_all (λ p. names_differ flag p.name) (header_of t).pointers) flags ≡ true
  each_apart [] h = refl
  each_apart (f ∷ fs) h =
      both_true (one_apart f (first_so (list_all (names_differ f) (pointer_names t)) (list_all (λ x. list_all (names_differ x) (pointer_names t)) fs) h))
      (each_apart fs (second_so (list_all (names_differ f) (pointer_names t)) (list_all (λ x. list_all (names_differ x) (pointer_names t)) fs) h))

  flags_apart : list_all (λ flag. list_all (λ p. names_differ flag p.name) (header_of t).pointers) (flag_names t) ≡ true
  flags_apart = each_apart (flag_names t) (pairs_between (flag_names t) (pointer_names t) fields_differ)

  distinct_fields : have_distinct_fields (header_of t) ≡ true
  distinct_fields =
      both_true (both_true (pairs_left (flag_names t) (pointer_names t) fields_differ)
      (differ_as (λ p. p.name) (pointer_of (names_of t) t.edges) (λ line. line.name.label) (λ line. refl) t.pointers (pairs_right (flag_names t) (pointer_names t) fields_differ)))
      flags_apart

  distinct_names : have_distinct_names (header_of t) ≡ true
  distinct_names =
      both_true (both_true distinct_fields
      (differ_as (λ n. n.name) (start_node_of (names_of t)) (λ line. line.name.label) (λ line. refl) t.starts nodes_differ))
      (differ_as (λ k. k.name) (keep_of (names_of t)) (λ line. line.name.label) (λ line. refl) t.keeps keeps_differ)

  header_within : is_header_within_limits (header_of t) ≡ true
  header_within =
      both_true (both_true (le-leb (length (flag_names t)) FLAGS_LIMIT (few_names t within).flags)
      (le-leb (length (header_of t).pointers) POINTERS_LIMIT (subst (λ (n : ℕ). n ≤ POINTERS_LIMIT) (sym (length_map (pointer_of (names_of t) t.edges) t.pointers)) (few_pointers t within))))
      (le-leb (length (header_of t).nodes) NODES_LIMIT (subst (λ (n : ℕ). n ≤ NODES_LIMIT) (sym (length_map (start_node_of (names_of t)) t.starts)) (few_nodes t within)))

  known_roots : roots_rules (distinct (start_names t)) t.place t.roots ≡ []
  known_roots =
      subst (λ (ns : List (List ℕ)). roots_rules (distinct ns) t.place t.roots ≡ []) (map_map (λ (o : Occurrence). o.label) start_occurrence t.starts) (of_roots t rules)

  lawful_nodes : have_lawful_nodes (header_of t) ≡ true
  lawful_nodes =
      both_true
      (lt-ltb (header_of t).root (length (header_of t).nodes)
      (subst (λ (n : ℕ). root_of (start_names t) t.roots < n) (length_map (λ line. line.name.label) t.starts ∙ sym (length_map (start_node_of (names_of t)) t.starts))
      (root_below (start_names t) t.place t.roots known_roots)))
      (all_map (is_lawful_start_node (header_of t)) (start_node_of (names_of t)) t.starts
      ∙ all_so (λ line. is_lawful_start_node (header_of t) (start_node_of (names_of t) line)) (node_is_lawful t) t.starts)

  -- the rules look names up as they are written
  as_written : declared_by t ≡ names_of t
  as_written = declared_as_written t rules

  edge_fits : (edges : List NamedCondition) → flat_map (edge_rules (names_of t) (header_scope Setting.Edge)) edges ≡ [] → (pointer : List ℕ) → optional_fits (walk_scope (header_of t)) (edge_of (names_of t) edges pointer) ≡ true
  edge_fits [] none pointer = refl
  edge_fits (line ∷ lines) none pointer =
      let here = edge_rules (names_of t) (header_scope Setting.Edge) line in
      let rest = flat_map (edge_rules (names_of t) (header_scope Setting.Edge)) lines in
      either_fits (same_name pointer line.name.label) (walk_scope (header_of t)) (Some (condition_of (names_of t) line.condition)) (edge_of (names_of t) lines pointer)
      ((condition_of_fits (names_of t) Setting.Edge refl line.condition).fits
      (right_none (pointer_rules (label_meaning (names_of t) line.name.label) line.name.place) (condition_rules (names_of t) (header_scope Setting.Edge) line.condition)
      (left_none here rest none)))
      (edge_fits lines (right_none here rest none) pointer)

  keep_fits : (keeps : List NamedCondition) → flat_map (keep_rules (names_of t) (header_scope Setting.Keep)) keeps ≡ [] → list_all (λ line. condition_fits (scope_at (names_of t) Setting.Keep) (condition_of (names_of t) line.condition)) keeps ≡ true
  keep_fits [] none = refl
  keep_fits (line ∷ lines) none =
      let here = keep_rules (names_of t) (header_scope Setting.Keep) line in
      let rest = flat_map (keep_rules (names_of t) (header_scope Setting.Keep)) lines in
      and_so (condition_fits (scope_at (names_of t) Setting.Keep) (condition_of (names_of t) line.condition))
      (list_all (λ k. condition_fits (scope_at (names_of t) Setting.Keep) (condition_of (names_of t) k.condition)) lines)
      ((condition_of_fits (names_of t) Setting.Keep refl line.condition).fits (left_none here rest none)) (keep_fits lines (right_none here rest none))

  freeze_fits : (line : Option ConditionLine) → optional_freeze_rules (names_of t) line ≡ [] → optional_fits (freeze_scope (header_of t)) (freeze_of (names_of t) line) ≡ true
  freeze_fits None none = refl
  freeze_fits (Some line) none = (condition_of_fits (names_of t) Setting.Freeze refl line.condition).fits none

  same_keep_scope : keep_scope (header_of t) ≡ scope_at (names_of t) Setting.Keep
  same_keep_scope =
      ap (λ (n : ℕ). record { flags = length (flag_names t); pointers = n; walked = true; visited = true })
      (length_map (pointer_of (names_of t) t.edges) t.pointers ∙ sym (length_map (λ line. line.name.label) t.pointers))

  lawful_conditions : have_lawful_conditions (header_of t) ≡ true
  lawful_conditions =
      both_true (both_true (both_true
      (all_map (λ p. optional_fits (walk_scope (header_of t)) p.edge) (pointer_of (names_of t) t.edges) t.pointers
      ∙ all_so (λ line. optional_fits (walk_scope (header_of t)) (edge_of (names_of t) t.edges line.name.label))
      (λ line. edge_fits t.edges (subst (λ (names : Declared). flat_map (edge_rules names (header_scope Setting.Edge)) t.edges ≡ []) as_written (of_edges t rules)) line.name.label) t.pointers)
      ((condition_of_fits (names_of t) Setting.Holds refl t.holds.condition).fits (subst (λ (names : Declared). holds_rules names t.holds ≡ []) as_written (of_holds t rules))))
      (all_map (λ k. condition_fits (keep_scope (header_of t)) k.condition) (keep_of (names_of t)) t.keeps
      ∙ ap (λ s. list_all (λ line. condition_fits s (condition_of (names_of t) line.condition)) t.keeps) same_keep_scope
      ∙ keep_fits t.keeps (subst (λ (names : Declared). flat_map (keep_rules names (header_scope Setting.Keep)) t.keeps ≡ []) as_written (of_keep_conditions t rules))))
      (freeze_fits t.freeze (subst (λ (names : Declared). optional_freeze_rules names t.freeze ≡ []) as_written (of_freeze t rules)))

  pub header_is_lawful : is_lawful_header (header_of t) ≡ true
  header_is_lawful = both_true (both_true (both_true header_within distinct_names) lawful_nodes) lawful_conditions
