-- What is left of a list from a place on, in a loop over its items.
use Rattle.std.proofs.Common.{◌≡◌, ℕ, suc, ◌+◌, ◌-◌, ◌<◌, ◌&&◌, Bool, true, List, ◌∷◌, length, get_or, take, drop, sym, ◌∙◌, ap, arith, add-one, drop-cons, length-drop}
use Rattle.std.proofs.lemmas.List.{take_all}
use Rattle.std.specs.List.{list_all}
use Rattle.plank_prog.specs.Names.{all_pairs}

-- the item at a place, and then what is left from the next place on
pub rest-cons : {X : Type 0} (xs : List X) (i : ℕ) (x : X) → i < length xs → x ≡ get_or xs i x → drop i xs ≡ x ∷ drop (i + 1) xs
rest-cons xs i x within same = drop-cons xs i x within ∙ (rw add-one (ap (λ y. y ∷ drop (suc i) xs) (sym same)))

-- `&s[i..]` as it is read
pub rest-read : {X : Type 0} (xs : List X) (i : ℕ) → take (length xs - i) (drop i xs) ≡ drop i xs
rest-read xs i = take_all (length xs - i) (drop i xs) (simp length-drop (omega arith))

-- a loop over pairs: an item that does not stand apart from the later ones, one that does, and the end
module _ {X : Type 0} (apart : X → X → Bool) (xs : List X) where
  pairs_rest : (i : ℕ) (x : X) → i < length xs → x ≡ get_or xs i x → all_pairs apart (drop i xs) ≡ (list_all (apart x) (drop (i + 1) xs) && all_pairs apart (drop (i + 1) xs))
  pairs_rest i x within same = ap (λ ys. all_pairs apart ys) (rest-cons xs i x within same)

  pub pairs_go_on : (i : ℕ) (x : X) → i < length xs → x ≡ get_or xs i x → list_all (apart x) (take (length xs - (i + 1)) (drop (i + 1) xs)) ≡ true → all_pairs apart (drop i xs) ≡ all_pairs apart xs → all_pairs apart (drop (i + 1) xs) ≡ all_pairs apart xs
  pairs_go_on i x within same passes whole =
      let test : list_all (apart x) (drop (i + 1) xs) ≡ true = ap (list_all (apart x)) (sym (rest-read xs (i + 1))) ∙ passes in
      sym (ap (λ b. b && all_pairs apart (drop (i + 1) xs)) test) ∙ sym (pairs_rest i x within same) ∙ whole
