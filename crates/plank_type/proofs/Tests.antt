-- Tests that hold together, and lists that are empty.
use Rattle.std.proofs.Common.{◌≡◌, Bool, true, false, not, ◌&&◌, ◌||◌, List, [], ◌∷◌, ◌++◌, map, refl, sym, ap}
use Rattle.std.proofs.lemmas.Bool.{false≢true}
use Rattle.std.specs.Cmp.{first_so, second_so}
use Rattle.std.specs.List.{list_all}
use Rattle.plank_prog.specs.Names.{all_pairs}

pub and_so : (a b : Bool) → a ≡ true → b ≡ true → (a && b) ≡ true
and_so true b h k = k
and_so false b h k = absurd (false≢true h)

pub both_true : {a b : Bool} → a ≡ true → b ≡ true → (a && b) ≡ true
both_true {a = a} {b = b} h k = and_so a b h k

-- what gives its own contrary is false
pub false_if : (b : Bool) → (b ≡ true → b ≡ false) → b ≡ false
false_if true h = h refl
false_if false h = refl

pub or_left : (a b : Bool) → a ≡ true → (a || b) ≡ true
or_left true b h = refl
or_left false b h = absurd (false≢true h)

pub or_right : (a b : Bool) → b ≡ true → (a || b) ≡ true
or_right true b h = refl
or_right false b h = h

pub or_first : (a b : Bool) → (a || b) ≡ false → a ≡ false
or_first true b h = absurd (false≢true (sym h))
or_first false b h = refl

pub or_second : (a b : Bool) → (a || b) ≡ false → b ≡ false
or_second true b h = absurd (false≢true (sym h))
or_second false b h = h

pub or_neither : (a b : Bool) → a ≡ false → b ≡ false → (a || b) ≡ false
or_neither true b h k = absurd (false≢true (sym h))
or_neither false b h k = k

pub not_true : (a : Bool) → not a ≡ true → a ≡ false
not_true true h = absurd (false≢true h)
not_true false h = refl

pub not_so : (a : Bool) → (a ≡ true → a ≡ false) → not a ≡ true
not_so true h = absurd (false≢true (sym (h refl)))
not_so false h = refl

pub not_false : (b : Bool) → not b ≡ false → b ≡ true
not_false true h = refl
not_false false h = absurd (false≢true (sym h))

pub left_none : {X : Type 0} (xs ys : List X) → xs ++ ys ≡ [] → xs ≡ []
left_none [] ys h = refl
left_none (x ∷ xs) ys h = absurd (cc)

pub right_none : {X : Type 0} (xs ys : List X) → xs ++ ys ≡ [] → ys ≡ []
right_none [] ys h = h
right_none (x ∷ xs) ys h = absurd (cc)

pub map_map : {X Y Z : Type 0} (g : Y → Z) (f : X → Y) (xs : List X) → map g (map f xs) ≡ map (λ x. g (f x)) xs
map_map g f [] = refl
map_map g f (x ∷ xs) = ap (λ ys. g (f x) ∷ ys) (map_map g f xs)

-- a test of each image is one of each item
pub all_map : {X Y : Type 0} (test : Y → Bool) (f : X → Y) (xs : List X) → list_all test (map f xs) ≡ list_all (λ x. test (f x)) xs
all_map test f [] = refl
all_map test f (x ∷ xs) = ap (λ rest. test (f x) && rest) (all_map test f xs)

pub pairs_map : {X Y : Type 0} (test : Y → Y → Bool) (f : X → Y) (xs : List X) → all_pairs test (map f xs) ≡ all_pairs (λ x y. test (f x) (f y)) xs
pairs_map test f [] = refl
pairs_map test f (x ∷ xs) =
    rw (all_map (test (f x)) f xs) (ap (λ rest. list_all (λ y. test (f x) (f y)) xs && rest) (pairs_map test f xs))

-- a test that each item passes
pub all_so : {X : Type 0} (test : X → Bool) → ((x : X) → test x ≡ true) → (xs : List X) → list_all test xs ≡ true
all_so test so [] = refl
all_so test so (x ∷ xs) = and_so (test x) (list_all test xs) (so x) (all_so test so xs)

-- two tests that each item passes
pub both_all : {X : Type 0} (p q : X → Bool) (xs : List X) → list_all p xs ≡ true → list_all q xs ≡ true → list_all (λ x. p x && q x) xs ≡ true
both_all p q [] h k = refl
both_all p q (x ∷ xs) h k =
    and_so (p x && q x) (list_all (λ y. p y && q y) xs)
    (and_so (p x) (q x) (first_so (p x) (list_all p xs) h) (first_so (q x) (list_all q xs) k))
    (both_all p q xs (second_so (p x) (list_all p xs) h) (second_so (q x) (list_all q xs) k))
