-- Declared and their numbers, and how often a name occurs in a block: a variable that the block binds occurs once.
use Rattle.std.proofs.Common.{◌≡◌, ℕ, suc, ◌+◌, ◌≤◌, ◌<◌, Bool, true, false, not, ◌&&◌, ◌||◌, List, [], ◌∷◌, ◌++◌, length, map, get_or, Some, None, refl, sym, ◌∙◌, ap, subst, arith, if◌then◌else◌}
use Rattle.std.specs.Prelude.{nat_lt, cond, fold}
use Rattle.std.specs.List.{list_any, flat_map, position_or_len}
use Rattle.std.specs.Option.{option_map_or}
use Rattle.std.proofs.lemmas.Bool.{ltb-false, lt-ltb, false≢true}
use Rattle.std.proofs.lemmas.List.Folds.{list_any_at, list_any-append}
use Rattle.std.proofs.lemmas.List.Quantifiers.{position-Some}
use Rattle.plank_ast.specs.declared.statements.Bind.{Bind as BindTree}
use Rattle.plank_ast.specs.declared.methods.Method.{Method}
use Rattle.plank_rules.specs.Declarations.{same_name, is_among, number_of, with_name, distinct}
use Rattle.plank_rules.specs.Faults.{bind_reused}
use Rattle.plank_rules.specs.Occurrences.{Occurrence, occurrence, reference_occurrence, reuses_after}
use Rattle.plank_rules.specs.StatementRules.{bind_names, with_bound, bound_after}
use Rattle.plank_rules.specs.MethodRules.{method_scope}
use Rattle.plank_type.proofs.Tests.{false_if, or_left, or_right, or_first, or_second, or_neither}
use Rattle.plank_type.proofs.Distinct.{when_none, when_rest, same_names, own_name}

-- ---- names among names

among_front : (names : List (List ℕ)) (l a : List ℕ) → is_among names a ≡ true → is_among (names ++ l ∷ []) a ≡ true
among_front names l a h =
    list_any-append (same_name a) names (l ∷ []) ∙ or_left (is_among names a) (same_name a l || false) h

among_last : (names : List (List ℕ)) (l : List ℕ) → is_among (names ++ l ∷ []) l ≡ true
among_last names l =
    list_any-append (same_name l) names (l ∷ [])
    ∙ or_right (is_among names l) (same_name l l || false) (or_left (same_name l l) false (own_name l))

among_either : (known : Bool) (names : List (List ℕ)) (l a : List ℕ) → is_among names a ≡ true → is_among (if known then names else names ++ l ∷ []) a ≡ true
among_either true names l a h = h
among_either false names l a h = among_front names l a h

added_either : (known : Bool) (names : List (List ℕ)) (l : List ℕ) → is_among names l ≡ known → is_among (if known then names else names ++ l ∷ []) l ≡ true
added_either true names l h = h
added_either false names l h = among_last names l

-- a name that is among names stays among them
among_more : (names : List (List ℕ)) (l a : List ℕ) → is_among names a ≡ true → is_among (with_name names l) a ≡ true
among_more names l a h = among_either (is_among names l) names l a h

-- a name that is added is among them
among_added : (names : List (List ℕ)) (l : List ℕ) → is_among (with_name names l) l ≡ true
among_added names l = added_either (is_among names l) names l refl

-- the same, of a name with the same bytes
among_same : (names : List (List ℕ)) (a l : List ℕ) → same_name a l ≡ true → is_among (with_name names l) a ≡ true
among_same names a l h = subst (λ (n : List ℕ). is_among (with_name names l) n ≡ true) (sym (same_names a l h)) (among_added names l)

apart_either : (known : Bool) (names : List (List ℕ)) (l a : List ℕ) → is_among names a ≡ false → same_name a l ≡ false → is_among (if known then names else names ++ l ∷ []) a ≡ false
apart_either true names l a h k = h
apart_either false names l a h k =
    list_any-append (same_name a) names (l ∷ []) ∙ or_neither (is_among names a) (same_name a l || false) h (or_neither (same_name a l) false k refl)

apart_folded : (seen names : List (List ℕ)) (a : List ℕ) → is_among seen a ≡ false → is_among names a ≡ false → is_among (fold with_name seen names) a ≡ false
apart_folded seen [] a h k = h
apart_folded seen (n ∷ ns) a h k =
    apart_folded (with_name seen n) ns a
    (apart_either (is_among seen n) seen n a h (or_first (same_name a n) (is_among ns a) k))
    (or_second (same_name a n) (is_among ns a) k)

-- a name that is not among names is not among them without their repetitions
pub apart_distinct : (names : List (List ℕ)) (a : List ℕ) → is_among names a ≡ false → is_among (distinct names) a ≡ false
apart_distinct names a h = apart_folded [] names a refl h

-- ---- numbers of names

-- a name with a number is among the names
pub numbered_among : (a : List ℕ) (names : List (List ℕ)) (v : ℕ) → number_of a names ≡ Some v → is_among names a ≡ true
numbered_among a names v h =
    let at : (v < length names) × (same_name a (get_or names v a) ≡ true) × ((k : ℕ) → k < v → same_name a (get_or names k a) ≡ false) = position-Some (same_name a) names v a h in
    list_any_at (same_name a) names v a at.0 at.1

-- two names with one number are the same
pub numbered_same : (a b : List ℕ) (names : List (List ℕ)) (v : ℕ) → number_of a names ≡ Some v → number_of b names ≡ Some v → same_name a b ≡ true
numbered_same a b names v h k =
    let first : (v < length names) × (same_name a (get_or names v a) ≡ true) × ((i : ℕ) → i < v → same_name a (get_or names i a) ≡ false) = position-Some (same_name a) names v a h in
    let second : (v < length names) × (same_name b (get_or names v a) ≡ true) × ((i : ℕ) → i < v → same_name b (get_or names i a) ≡ false) = position-Some (same_name b) names v a k in
    subst (λ (n : List ℕ). same_name a n ≡ true) (sym (same_names b (get_or names v a) second.1)) first.1

past_first : (here rest : Bool) (count at : ℕ) → suc count ≤ cond (not here) (1 + at) 0 → (count ≤ at → rest ≡ false) → (here || rest) ≡ false
past_first true rest count at h k = absurd (omega arith)
past_first false rest count at h k = k (omega arith)

past_each : (test : List ℕ → Bool) (names : List (List ℕ)) → length names ≤ position_or_len test names → list_any test names ≡ false
past_each test [] h = refl
past_each test (n ∷ ns) h = past_first (test n) (list_any test ns) (length ns) (position_or_len test ns) h (past_each test ns)

no_number : (below : Bool) (at count : ℕ) → nat_lt at count ≡ below → cond below (Some at) None ≡ None → count ≤ at
no_number true at count e h = absurd (cc)
no_number false at count e h = ltb-false at count e

-- a name with no number is not among the names
pub not_numbered : (a : List ℕ) (names : List (List ℕ)) → number_of a names ≡ None → is_among names a ≡ false
not_numbered a names h =
    past_each (same_name a) names (no_number (nat_lt (position_or_len (same_name a) names) (length names)) (position_or_len (same_name a) names) (length names) refl h)

-- a number lies below the number of names
pub numbered_below : (a : List ℕ) (names : List (List ℕ)) (v : ℕ) → number_of a names ≡ Some v → nat_lt v (length names) ≡ true
numbered_below a names v h =
    let at : (v < length names) × (same_name a (get_or names v a) ≡ true) × ((k : ℕ) → k < v → same_name a (get_or names k a) ≡ false) = position-Some (same_name a) names v a h in
    lt-ltb v (length names) at.0

given_so : {A : Type 0} (test : A → Bool) (f : ℕ → A) (d : A) (count : ℕ) (below : Bool) (at : ℕ) → nat_lt at count ≡ below → ((i : ℕ) → nat_lt i count ≡ true → test (f i) ≡ true) → test d ≡ true → test (option_map_or f (cond below (Some at) None) d) ≡ true
given_so test f d count true at h some none = some at h
given_so test f d count false at h some none = none

-- what holds of each number below the number of names, and of what stands for no number
pub number_so : {A : Type 0} (test : A → Bool) (f : ℕ → A) (d : A) (name : List ℕ) (names : List (List ℕ)) → ((i : ℕ) → nat_lt i (length names) ≡ true → test (f i) ≡ true) → test d ≡ true → test (option_map_or f (number_of name names) d) ≡ true
number_so test f d name names some none =
    given_so test f d (length names) (nat_lt (position_or_len (same_name name) names) (length names)) (position_or_len (same_name name) names) refl some none

-- ---- how often a name occurs

abbrev pub bit : Bool → ℕ
bit true = 1
bit false = 0

abbrev pub times : List ℕ → List Occurrence → ℕ
times a [] = 0
times a (o ∷ os) = bit (same_name a o.label) + times a os

pub times_append : (a : List ℕ) (xs ys : List Occurrence) → times a (xs ++ ys) ≡ times a xs + times a ys
times_append a [] ys = omega arith
times_append a (x ∷ xs) ys = let rest : times a (xs ++ ys) ≡ times a xs + times a ys = times_append a xs ys in omega arith

pub none_first : (b : Bool) (n : ℕ) → bit b + n ≡ 0 → b ≡ false
none_first true n h = absurd (omega arith)
none_first false n h = refl

pub none_rest : (b : Bool) (n : ℕ) → bit b + n ≡ 0 → n ≡ 0
none_rest b n h = omega arith

none_in_all : (b : Bool) (n : ℕ) → b ≡ false → n ≡ 0 → bit b + n ≡ 0
none_in_all true n h k = absurd (false≢true (sym h))
none_in_all false n h k = omega arith

pub own_bit : (a : List ℕ) → bit (same_name a a) ≡ 1
own_bit a = ap bit (own_name a)

-- ---- a bound name occurs once

both_so : (a b : Bool) → a ≡ true → b ≡ true → (a && b) ≡ false → true ≡ false
both_so true b h k n = sym k ∙ n
both_so false b h k n = sym h

-- a bound name that stands earlier does not occur
seen_before : (bound names : List (List ℕ)) (a : List ℕ) (os : List Occurrence) → is_among bound a ≡ true → is_among names a ≡ true → reuses_after bound names os ≡ [] → times a os ≡ 0
seen_before bound names a [] b n h = refl
seen_before bound names a (o ∷ os) b n h =
    none_in_all (same_name a o.label) (times a os)
    (false_if (same_name a o.label) (λ e.
    e ∙ both_so (is_among bound o.label) (is_among names o.label)
    (subst (λ (l : List ℕ). is_among bound l ≡ true) (same_names a o.label e) b)
    (subst (λ (l : List ℕ). is_among names l ≡ true) (same_names a o.label e) n)
    (when_none (is_among bound o.label && is_among names o.label) (bind_reused o.place) (reuses_after bound (with_name names o.label) os) h)))
    (seen_before bound (with_name names o.label) a os b (among_more names o.label a n)
    (when_rest (is_among bound o.label && is_among names o.label) (bind_reused o.place) (reuses_after bound (with_name names o.label) os) h))

one_at_most : (b : Bool) (n : ℕ) → (b ≡ true → n ≡ 0) → n ≤ 1 → bit b + n ≤ 1
one_at_most true n h k = let e : n ≡ 0 = h refl in omega arith
one_at_most false n h k = omega arith

-- a bound name occurs once at most
pub bound_once : (bound names : List (List ℕ)) (a : List ℕ) (os : List Occurrence) → is_among bound a ≡ true → reuses_after bound names os ≡ [] → times a os ≤ 1
bound_once bound names a [] b h = omega arith
bound_once bound names a (o ∷ os) b h =
    let rest : reuses_after bound (with_name names o.label) os ≡ [] =
    when_rest (is_among bound o.label && is_among names o.label) (bind_reused o.place) (reuses_after bound (with_name names o.label) os) h in
    one_at_most (same_name a o.label) (times a os)
    (λ e. seen_before bound (with_name names o.label) a os b (among_same names a o.label e) rest)
    (bound_once bound (with_name names o.label) a os b rest)

-- ---- what binds bind

abbrev pub variables_bound : List BindTree → List Occurrence
variables_bound binds = map (λ b. occurrence b.variable) binds

abbrev pub nodes_read : List BindTree → List Occurrence
nodes_read binds = map (λ b. reference_occurrence b.node) binds

pub times_in_binds : (a : List ℕ) (binds : List BindTree) → times a (flat_map bind_names binds) ≡ times a (variables_bound binds) + times a (nodes_read binds)
times_in_binds a [] = refl
times_in_binds a (b ∷ bs) =
    let rest : times a (flat_map bind_names bs) ≡ times a (variables_bound bs) + times a (nodes_read bs) = times_in_binds a bs in
    omega arith

module _ (m : Method) where
  stays_either : (known : Bool) (bound : List (List ℕ)) (l a : List ℕ) → is_among bound a ≡ true → is_among (if known then with_name bound l else bound) a ≡ true
  stays_either true bound l a h = among_more bound l a h
  stays_either false bound l a h = h

  stays_bound : (bound : List (List ℕ)) (a : List ℕ) (binds : List BindTree) → is_among bound a ≡ true → is_among (bound_after (method_scope m) bound binds) a ≡ true
  stays_bound bound a [] h = h
  stays_bound bound a (b ∷ bs) h =
      stays_bound (with_bound (method_scope m) bound b.variable.label) a bs (stays_either (is_among (method_scope m).nodes b.variable.label) bound b.variable.label a h)

  bound_now : (bound : List (List ℕ)) (l : List ℕ) → is_among (method_scope m).nodes l ≡ true → is_among (with_bound (method_scope m) bound l) l ≡ true
  bound_now bound l h = subst (λ (known : Bool). is_among (if known then with_name bound l else bound) l ≡ true) (sym h) (among_added bound l)

  bound_either : (here : Bool) (bound : List (List ℕ)) (a : List ℕ) (b : BindTree) (bs : List BindTree) → same_name a b.variable.label ≡ here → is_among (method_scope m).nodes a ≡ true → 1 ≤ bit here + times a (variables_bound bs) → (1 ≤ times a (variables_bound bs) → is_among (bound_after (method_scope m) (with_bound (method_scope m) bound b.variable.label) bs) a ≡ true) → is_among (bound_after (method_scope m) (with_bound (method_scope m) bound b.variable.label) bs) a ≡ true
  bound_either true bound a b bs e known h k =
      let same : a ≡ b.variable.label = same_names a b.variable.label e in
      stays_bound (with_bound (method_scope m) bound b.variable.label) a bs
      (subst (λ (l : List ℕ). is_among (with_bound (method_scope m) bound b.variable.label) l ≡ true) (sym same)
      (bound_now bound b.variable.label (subst (λ (l : List ℕ). is_among (method_scope m).nodes l ≡ true) same known)))
  bound_either false bound a b bs e known h k = k (omega arith)

  -- a variable that a bind names is bound
  pub variable_bound : (bound : List (List ℕ)) (a : List ℕ) (binds : List BindTree) → is_among (method_scope m).nodes a ≡ true → 1 ≤ times a (variables_bound binds) → is_among (bound_after (method_scope m) bound binds) a ≡ true
  variable_bound bound a [] known h = absurd (omega arith)
  variable_bound bound a (b ∷ bs) known h =
      bound_either (same_name a b.variable.label) bound a b bs refl known h (variable_bound (with_bound (method_scope m) bound b.variable.label) a bs known)
