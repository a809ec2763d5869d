-- What holds of the parts that are made of some items of a list, and of each two of them.
use Rattle.std.proofs.Common.{◌≡◌, Bool, true, false, ◌&&◌, List, [], ◌∷◌, filter_map, Option, Some, None, refl}
use Rattle.std.specs.List.{list_all, cons_option}
use Rattle.std.specs.Option.{option_map_or}
use Rattle.std.specs.Cmp.{first_so, second_so}
use Rattle.plank_prog.specs.Names.{all_pairs}
use Rattle.plank_type.proofs.Tests.{and_so}
use Rattle.plank_type.proofs.Tests.{both_all}

kept_head : {Y : Type 0} (test : Y → Bool) (o : Option Y) (rest : List Y) → ((y : Y) → o ≡ Some y → test y ≡ true) → list_all test rest ≡ true → list_all test (cons_option o rest) ≡ true
kept_head test None rest h k = k
kept_head test (Some y) rest h k = and_so (test y) (list_all test rest) (h y refl) k

kept_all : {X Y : Type 0} (test : Y → Bool) (ok : X → Bool) (f : X → Option Y) → ((x : X) (y : Y) → ok x ≡ true → f x ≡ Some y → test y ≡ true) → (xs : List X) → list_all ok xs ≡ true → list_all test (filter_map f xs) ≡ true
kept_all test ok f so [] h = refl
kept_all test ok f so (x ∷ xs) h =
    kept_head test (f x) (filter_map f xs) (λ y e. so x y (first_so (ok x) (list_all ok xs) h) e)
    (kept_all test ok f so xs (second_so (ok x) (list_all ok xs) h))

pairs_head : {Y : Type 0} (test : Y → Y → Bool) (o : Option Y) (rest : List Y) → ((y : Y) → o ≡ Some y → list_all (test y) rest ≡ true) → all_pairs test rest ≡ true → all_pairs test (cons_option o rest) ≡ true
pairs_head test None rest h k = k
pairs_head test (Some y) rest h k = and_so (list_all (test y) rest) (all_pairs test rest) (h y refl) k

-- what holds of the parts that are made of each two items
pub kept_pairs : {X Y : Type 0} (test : Y → Y → Bool) (apart : X → X → Bool) (f : X → Option Y) → ((w x : X) (y z : Y) → apart w x ≡ true → f w ≡ Some y → f x ≡ Some z → test y z ≡ true) → (xs : List X) → all_pairs apart xs ≡ true → all_pairs test (filter_map f xs) ≡ true
kept_pairs test apart f so [] h = refl
kept_pairs test apart f so (x ∷ xs) h =
    pairs_head test (f x) (filter_map f xs)
    (λ y e. kept_all (test y) (apart x) f (λ w z ok g. so x w y z ok e g) xs (first_so (list_all (apart x) xs) (all_pairs apart xs) h))
    (kept_pairs test apart f so xs (second_so (list_all (apart x) xs) (all_pairs apart xs) h))

pub head_false : {Y : Type 0} (test : Y → Bool) (o : Option Y) → ((y : Y) → o ≡ Some y → test y ≡ false) → option_map_or test o false ≡ false
head_false test None h = refl
head_false test (Some y) h = h y refl

pub both_pairs : {X : Type 0} (p q : X → X → Bool) (xs : List X) → all_pairs p xs ≡ true → all_pairs q xs ≡ true → all_pairs (λ x y. p x y && q x y) xs ≡ true
both_pairs p q [] h k = refl
both_pairs p q (x ∷ xs) h k =
    and_so (list_all (λ y. p x y && q x y) xs) (all_pairs (λ y z. p y z && q y z) xs)
    (both_all (p x) (q x) xs (first_so (list_all (p x) xs) (all_pairs p xs) h) (first_so (list_all (q x) xs) (all_pairs q xs) k))
    (both_pairs p q xs (second_so (list_all (p x) xs) (all_pairs p xs) h) (second_so (list_all (q x) xs) (all_pairs q xs) k))
