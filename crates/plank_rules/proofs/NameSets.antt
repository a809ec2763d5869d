-- Sets of borrowed names, as the lists of names that contracts see.
use Rattle.std.proofs.Common.{◌≡◌, ℕ, ◌+◌, Bool, not, cond, List, [], ◌∷◌, ◌++◌, length, map, Some, None, refl, ap, sym, ◌∙◌, Bor, if◌then◌else◌, true, false}
use Rattle.std.specs.Prelude.{nat_lt, position}
use Rattle.std.specs.List.{list_any, position_or_len}
use Rattle.std.proofs.lemmas.List.{map-append, length-map}
use Rattle.indexmap.specs.IndexSet.{insert_key}
use Rattle.plank_rules.specs.Declarations.{same_name, is_among, with_name}

abbrev pub seen : List (Bor (List ℕ)) → List (List ℕ)
seen keys = map (λ key. key.now) keys

-- a test of what stands behind the borrows
pub list_any-seen : (test : List ℕ → Bool) (keys : List (Bor (List ℕ))) → list_any (λ key. test key.now) keys ≡ list_any test (seen keys)
list_any-seen test [] = refl
list_any-seen test (k ∷ ks) = rw (list_any-seen test ks) refl

-- one more name, or none
seen-if : (here : Bool) (keys : List (Bor (List ℕ))) (name : Bor (List ℕ)) → seen (if here then keys else keys ++ name ∷ []) ≡ (if here then seen keys else seen keys ++ name.now ∷ [])
seen-if true keys name = refl
seen-if false keys name = map-append (λ key. key.now) keys (name ∷ [])

-- a name that is inserted joins the names
pub seen-insert : (keys : List (Bor (List ℕ))) (name : Bor (List ℕ)) → seen (insert_key (λ x y. same_name x.now y.now) keys name) ≡ with_name (seen keys) name.now
seen-insert keys name =
    ap (λ here. seen (if here then keys else keys ++ name ∷ [])) (list_any-seen (same_name name.now) keys)
    ∙ seen-if (is_among (seen keys) name.now) keys name

-- a place among what stands behind the borrows
first-seen : (test : List ℕ → Bool) (keys : List (Bor (List ℕ))) → position_or_len (λ key. test key.now) keys ≡ position_or_len test (seen keys)
first-seen test [] = refl
first-seen test (k ∷ ks) = ap (λ at. cond (not (test k.now)) (1 + at) 0) (first-seen test ks)

pub position-seen : (test : List ℕ → Bool) (keys : List (Bor (List ℕ))) → position (λ key. test key.now) keys ≡ position test (seen keys)
position-seen test keys =
    ap (λ at. cond (nat_lt at (length keys)) (Some at) None) (first-seen test keys)
    ∙ ap (λ count. cond (nat_lt (position_or_len test (seen keys)) count) (Some (position_or_len test (seen keys))) None) (sym (length-map keys (λ key. key.now)))
