-- Declared that no rule finds repeated differ.
use Rattle.std.proofs.Common.{◌≡◌, ℕ, Bool, true, false, not, List, [], ◌∷◌, ◌++◌, fold, refl, sym, ◌∙◌, ap, subst, append_assoc, if◌then◌else◌}
use Rattle.std.specs.Prelude.{◌==◌}
use Rattle.std.specs.List.{list_all}
use Rattle.std.specs.Cmp.{first_so, second_so}
use Rattle.std.proofs.lemmas.Bool.{false≢true}
use Rattle.std.proofs.lemmas.List.{append-nil}
use Rattle.std.proofs.lemmas.List.Folds.{list_any-append}
use lib.Pointwise.{pointwise, bytes_decides}
use Rattle.plank_prog.specs.Names.{all_pairs, names_differ}
use Rattle.plank_rules.specs.declared.broken.Broken.{Broken}
use Rattle.plank_rules.specs.Declarations.{same_name, is_among, with_name, distinct}
use Rattle.plank_rules.specs.Faults.{when, twice}
use Rattle.plank_rules.specs.Occurrences.{Occurrence, labels_of, repeats_after, repeats}
use Rattle.plank_type.proofs.Tests.{and_so, or_first, or_second, or_neither, not_true, not_so}

-- a rule that is not listed does not hold
pub when_none : (test : Bool) (b : Broken) (rest : List Broken) → when test b ++ rest ≡ [] → test ≡ false
when_none false b rest h = refl
when_none true b rest h = absurd (cc)

pub when_rest : (test : Bool) (b : Broken) (rest : List Broken) → when test b ++ rest ≡ [] → rest ≡ []
when_rest false b rest h = h
when_rest true b rest h = absurd (cc)

-- ---- names among names

pub same_names : (a b : List ℕ) → same_name a b ≡ true → a ≡ b
same_names a b h = (bytes_decides a b).0 h

pub own_name : (a : List ℕ) → same_name a a ≡ true
own_name a = (bytes_decides a a).1 refl

pub other_name : (a b : List ℕ) → same_name a b ≡ false → names_differ b a ≡ true
other_name a b h = not_so (pointwise ◌==◌ b a) (λ k. absurd (false≢true (sym h ∙ ap (λ c. same_name a c) (same_names b a k) ∙ own_name a)))

not_among_fewer : (names : List (List ℕ)) (a b : List ℕ) → is_among (names ++ a ∷ []) b ≡ false → is_among names b ≡ false
not_among_fewer [] a b h = refl
not_among_fewer (n ∷ ns) a b h =
    or_neither (same_name b n) (is_among ns b) (or_first (same_name b n) (is_among (ns ++ a ∷ []) b) h)
    (not_among_fewer ns a b (or_second (same_name b n) (is_among (ns ++ a ∷ []) b) h))

not_the_last : (names : List (List ℕ)) (a b : List ℕ) → is_among (names ++ a ∷ []) b ≡ false → same_name b a ≡ false
not_the_last [] a b h = or_first (same_name b a) false h
not_the_last (n ∷ ns) a b h = not_the_last ns a b (or_second (same_name b n) (is_among (ns ++ a ∷ []) b) h)

-- ---- occurrences

-- whether none of these is among the names
abbrev unlisted : List (List ℕ) → List Occurrence → Bool
unlisted names os = list_all (λ o. not (is_among names o.label)) os

fewer_listed : (names : List (List ℕ)) (a : List ℕ) (os : List Occurrence) → unlisted (names ++ a ∷ []) os ≡ true → unlisted names os ≡ true
fewer_listed names a [] h = refl
fewer_listed names a (o ∷ os) h =
    and_so (not (is_among names o.label)) (unlisted names os)
    (ap not (not_among_fewer names a o.label (not_true (is_among (names ++ a ∷ []) o.label)
    (first_so (not (is_among (names ++ a ∷ []) o.label)) (unlisted (names ++ a ∷ []) os) h))))
    (fewer_listed names a os (second_so (not (is_among (names ++ a ∷ []) o.label)) (unlisted (names ++ a ∷ []) os) h))

differ_from : (names : List (List ℕ)) (a : List ℕ) (os : List Occurrence) → unlisted (names ++ a ∷ []) os ≡ true → list_all (names_differ a) (labels_of os) ≡ true
differ_from names a [] h = refl
differ_from names a (o ∷ os) h =
    and_so (names_differ a o.label) (list_all (names_differ a) (labels_of os))
    (other_name o.label a (not_the_last names a o.label (not_true (is_among (names ++ a ∷ []) o.label)
    (first_so (not (is_among (names ++ a ∷ []) o.label)) (unlisted (names ++ a ∷ []) os) h))))
    (differ_from names a os (second_so (not (is_among (names ++ a ∷ []) o.label)) (unlisted (names ++ a ∷ []) os) h))

-- what follows a name that is new
rest_of : (names : List (List ℕ)) (o : Occurrence) (os : List Occurrence) → repeats_after names (o ∷ os) ≡ [] → repeats_after (names ++ o.label ∷ []) os ≡ []
rest_of names o os h =
    subst (λ (ns : List (List ℕ)). repeats_after ns os ≡ [])
    (ap (λ t. if t then names else names ++ o.label ∷ []) (when_none (is_among names o.label) (twice o.place) (repeats_after (with_name names o.label) os) h))
    (when_rest (is_among names o.label) (twice o.place) (repeats_after (with_name names o.label) os) h)

none_listed : (names : List (List ℕ)) (os : List Occurrence) → repeats_after names os ≡ [] → unlisted names os ≡ true
none_listed names [] h = refl
none_listed names (o ∷ os) h =
    and_so (not (is_among names o.label)) (unlisted names os)
    (ap not (when_none (is_among names o.label) (twice o.place) (repeats_after (with_name names o.label) os) h))
    (fewer_listed names o.label os (none_listed (names ++ o.label ∷ []) os (rest_of names o os h)))

all_differ : (names : List (List ℕ)) (os : List Occurrence) → repeats_after names os ≡ [] → all_pairs names_differ (labels_of os) ≡ true
all_differ names [] h = refl
all_differ names (o ∷ os) h =
    and_so (list_all (names_differ o.label) (labels_of os)) (all_pairs names_differ (labels_of os))
    (differ_from names o.label os (none_listed (names ++ o.label ∷ []) os (rest_of names o os h)))
    (all_differ (names ++ o.label ∷ []) os (rest_of names o os h))

-- names that are not repeated are all kept
kept_after : (names : List (List ℕ)) (os : List Occurrence) → repeats_after names os ≡ [] → fold with_name names (labels_of os) ≡ names ++ labels_of os
kept_after names [] h = sym (append-nil names)
kept_after names (o ∷ os) h =
    ap (λ (ns : List (List ℕ)). fold with_name ns (labels_of os))
    (ap (λ t. if t then names else names ++ o.label ∷ []) (when_none (is_among names o.label) (twice o.place) (repeats_after (with_name names o.label) os) h))
    ∙ kept_after (names ++ o.label ∷ []) os (rest_of names o os h)
    ∙ append_assoc names (o.label ∷ []) (labels_of os)

pub kept : (os : List Occurrence) → repeats os ≡ [] → distinct (labels_of os) ≡ labels_of os
kept os h = kept_after [] os h

-- what is not repeated in a list is not repeated in its front
front_once : (names : List (List ℕ)) (xs ys : List Occurrence) → repeats_after names (xs ++ ys) ≡ [] → repeats_after names xs ≡ []
front_once names [] ys h = refl
front_once names (x ∷ xs) ys h =
    ap (λ t. when t (twice x.place) ++ repeats_after (with_name names x.label) xs)
    (when_none (is_among names x.label) (twice x.place) (repeats_after (with_name names x.label) (xs ++ ys)) h)
    ∙ front_once (with_name names x.label) xs ys (when_rest (is_among names x.label) (twice x.place) (repeats_after (with_name names x.label) (xs ++ ys)) h)

pub first_once : (xs ys : List Occurrence) → repeats (xs ++ ys) ≡ [] → repeats xs ≡ []
first_once xs ys h = front_once [] xs ys h

-- nor in its end, after fewer names
fewer_once : (more names : List (List ℕ)) (os : List Occurrence) → repeats_after (more ++ names) os ≡ [] → repeats_after names os ≡ []
fewer_once more names [] h = refl
fewer_once more names (o ∷ os) h =
    let none : is_among (more ++ names) o.label ≡ false =
    when_none (is_among (more ++ names) o.label) (twice o.place) (repeats_after (with_name (more ++ names) o.label) os) h in
    let here : is_among names o.label ≡ false =
    or_second (is_among more o.label) (is_among names o.label) (sym (list_any-append (same_name o.label) more names) ∙ none) in
    let next : repeats_after (more ++ (names ++ o.label ∷ [])) os ≡ [] =
    subst (λ (ns : List (List ℕ)). repeats_after ns os ≡ [])
    (ap (λ t. if t then more ++ names else more ++ names ++ o.label ∷ []) none ∙ append_assoc more names (o.label ∷ []))
    (when_rest (is_among (more ++ names) o.label) (twice o.place) (repeats_after (with_name (more ++ names) o.label) os) h) in
    ap (λ t. when t (twice o.place) ++ repeats_after (if t then names else names ++ o.label ∷ []) os) here
    ∙ fewer_once more (names ++ o.label ∷ []) os next

end_once : (names : List (List ℕ)) (xs ys : List Occurrence) → repeats_after names (xs ++ ys) ≡ [] → repeats_after (fold with_name names (labels_of xs)) ys ≡ []
end_once names [] ys h = h
end_once names (x ∷ xs) ys h =
    end_once (with_name names x.label) xs ys (when_rest (is_among names x.label) (twice x.place) (repeats_after (with_name names x.label) (xs ++ ys)) h)

pub last_once : (xs ys : List Occurrence) → repeats (xs ++ ys) ≡ [] → repeats ys ≡ []
last_once xs ys h =
    fewer_once (fold with_name [] (labels_of xs)) [] ys
    (subst (λ (ns : List (List ℕ)). repeats_after ns ys ≡ []) (sym (append-nil (fold with_name [] (labels_of xs)))) (end_once [] xs ys h))

-- where none is repeated, each two differ
pub distinct_labels : (os : List Occurrence) → repeats os ≡ [] → all_pairs names_differ (labels_of os) ≡ true
distinct_labels os h = all_differ [] os h
