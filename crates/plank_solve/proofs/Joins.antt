-- Lists joined one after the other: what holds of all of them, and lists of one item each.
use Rattle.std.proofs.Common.{◌≡◌, ℕ, zero, suc, ◌<◌, List, [], ◌∷◌, ◌++◌, length, append_assoc, refl, sym, ◌∙◌, ap, inl, inr, arith}
use Rattle.std.specs.Prelude.{slice_get, slice_index_or, Some}
use Rattle.std.specs.List.{All}
use Rattle.std.proofs.lemmas.Bool.{cases_eq}
use Rattle.std.proofs.lemmas.List.{length-append, get_or_push, get_or_append_left}
use Rattle.std.proofs.lemmas.Option.{slice_get-get_or}
use Rattle.std.proofs.lemmas.List.Elements.{All-nil, All-append}
use Rattle.plank_lawful.specs.Lists.{joined}

pub joined_all : {X : Type 0} (P : X → Type 0) (each : ℕ → List X) (n : ℕ) → ((i : ℕ) → i < n → All P (each i)) → All P (joined each n)
unfolding joined
joined_all P each zero all = All-nil P
joined_all P each (suc n) all = All-append P (joined each n) (each n) (joined_all P each n (λ i below. all i (omega arith))) (all n (omega arith))

-- ---- of one item each

abbrev pub single : {X : Type 0} → (ℕ → X) → ℕ → List X
single item n = item n ∷ []

pub singles_count : {X : Type 0} (item : ℕ → X) (n : ℕ) → length (joined (single item) n) ≡ n
unfolding joined
singles_count item zero = refl
singles_count item (suc n) = let rest = singles_count item n in let both = length-append (joined (single item) n) (single item n) in omega (arith, rest, both)

pub singles_at : {X : Type 0} (item : ℕ → X) (n i : ℕ) (d : X) → i < n → slice_index_or (joined (single item) n) i d ≡ item i
unfolding joined
singles_at item zero i d below = absurd (omega arith)
singles_at item (suc n) i d below =
    elim (cases_eq i n) [
      | inl same ↦ get_or_push (joined (single item) n) (item n) d i (singles_count item n ∙ sym same) ∙ ap item (sym same)
      | inr other ↦ get_or_append_left (joined (single item) n) (single item n) d i (let count = singles_count item n in omega (arith, count)) ∙ singles_at item n i d (omega arith)
    ]

pub singles_get : {X : Type 0} (item : ℕ → X) (n i : ℕ) → i < n → slice_get (joined (single item) n) i ≡ Some (item i)
singles_get item n i below =
    slice_get-get_or (joined (single item) n) i (item i) (let count = singles_count item n in omega (arith, count)) ∙ ap Some (singles_at item n i (item i) below)

-- three lists behind another
pub three_lists : {X : Type 0} (old one two new a b d : List X) → one ≡ old ++ a → two ≡ one ++ b → new ≡ two ++ d → new ≡ old ++ (a ++ (b ++ d))
three_lists old one two new a b d p q r =
    r ∙ ap (λ xs. xs ++ d) (q ∙ ap (λ xs. xs ++ b) p) ∙ append_assoc (old ++ a) b d ∙ append_assoc old a (b ++ d)
