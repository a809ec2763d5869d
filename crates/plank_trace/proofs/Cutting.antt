-- Lists cut at a byte: where the first part lacks it, there is one cut.
use Rattle.std.proofs.Common.{◌≡◌, ◌==◌, ℕ, suc, ◌+◌, ◌-◌, subst, take_all, length-drop, ◌<◌, ◌≤◌, Bool, true, false, not, List, [], ◌∷◌, ◌++◌, length, take, drop, get_or, inl, inr, refl, sym, ap, ap₂, ◌∙◌, arith, eqb-true, one-add}
use Rattle.std.specs.List.{list_all, position_or_len}
use Rattle.std.proofs.lemmas.Bool.{and_parts, and_from, not_from_true, not_from_false, eq-eqb, ne_eqb, cases_Bool, cond-true, cond-false}
use Rattle.std.proofs.lemmas.List.Folds.{list_all-append}
use Rattle.std.proofs.lemmas.List.Sums.{split_at_first, passes_at_first}
use Rattle.plank_trace.specs.Schedules.{lacks}

pub not_head : (c h : ℕ) (x : List ℕ) → c ≡ h → lacks c (h ∷ x) ≡ true → ⊥
not_head c h x same q =
    let fails = (and_parts (not (h == c)) (lacks c x) q).0 in
    let holds = eq-eqb h c (sym same) in
    let clash : false ≡ true = ap not (sym holds) ∙ fails in
    absurd (cc)

-- a byte that stands there is not lacked
pub not_lacked : (c : ℕ) (a b : List ℕ) → lacks c (a ++ c ∷ b) ≡ true → ⊥
not_lacked c [] b h = not_head c c b refl h
not_lacked c (x ∷ a) b h = not_lacked c a b (and_parts (not (x == c)) (lacks c (a ++ c ∷ b)) h).1

pub first_cut : (c : ℕ) (a b x y : List ℕ) → lacks c a ≡ true → lacks c x ≡ true → a ++ c ∷ b ≡ x ++ c ∷ y → (a ≡ x) × (b ≡ y)
first_cut c [] b [] y p q e = let behind : b ≡ y = cc in (refl, behind)
first_cut c [] b (h ∷ x) y p q e = let same : c ≡ h = cc in absurd (not_head c h x same q)
first_cut c (g ∷ a) b [] y p q e = let same : c ≡ g = cc in absurd (not_head c g a same p)
first_cut c (g ∷ a) b (h ∷ x) y p q e =
    let head : g ≡ h = cc in
    let tail : a ++ c ∷ b ≡ x ++ c ∷ y = cc in
    let rest = first_cut c a b x y (and_parts (not (g == c)) (lacks c a) p).1 (and_parts (not (h == c)) (lacks c x) q).1 tail in
    (ap₂ (λ k ks. k ∷ ks) head rest.0, rest.1)

pub lacks_both : (c : ℕ) (a b : List ℕ) → lacks c a ≡ true → lacks c b ≡ true → lacks c (a ++ b) ≡ true
lacks_both c a b p q = list_all-append (λ x. not (x == c)) a b ∙ and_from (lacks c a) (lacks c b) p q

pub lacks_from : (p : ℕ → Bool) (c : ℕ) (bs : List ℕ) → p c ≡ false → list_all p bs ≡ true → lacks c bs ≡ true
lacks_from p c [] other h = refl
lacks_from p c (b ∷ bs) other h =
    let parts = and_parts (p b) (list_all p bs) h in
    let apart = λ (e : b ≡ c). let clash : true ≡ false = sym parts.0 ∙ ap p e ∙ other in absurd (cc) in
    and_from (not (b == c)) (lacks c bs) (not_from_false (b == c) (ne_eqb b c apart)) (lacks_from p c bs other parts.1)

-- ---- the first place of a byte

pub nothing_found : (c : ℕ) (bs : List ℕ) → length bs ≤ position_or_len (λ b. b == c) bs → lacks c bs ≡ true
nothing_found c [] h = refl
nothing_found c (b ∷ bs) h =
    elim (cases_Bool (b == c)) [
      | inl here ↦
          let none : position_or_len (λ x. x == c) (b ∷ bs) ≡ 0 = cond-false (not (b == c)) (1 + position_or_len (λ x. x == c) bs) 0 (not_from_true (b == c) here) in
          absurd (omega arith)
      | inr other ↦
          let more : position_or_len (λ x. x == c) (b ∷ bs) ≡ 1 + position_or_len (λ x. x == c) bs = cond-true (not (b == c)) (1 + position_or_len (λ x. x == c) bs) 0 (not_from_false (b == c) other) in
          and_from (not (b == c)) (lacks c bs) (not_from_false (b == c) other) (nothing_found c bs (omega arith))
    ]

pub front_lacks : (c : ℕ) (bs : List ℕ) → lacks c (take (position_or_len (λ b. b == c) bs) bs) ≡ true
front_lacks c [] = refl
front_lacks c (b ∷ bs) =
    elim (cases_Bool (b == c)) [
      | inl here ↦
          let none : position_or_len (λ x. x == c) (b ∷ bs) ≡ 0 = cond-false (not (b == c)) (1 + position_or_len (λ x. x == c) bs) 0 (not_from_true (b == c) here) in
          ap (λ (n : ℕ). lacks c (take n (b ∷ bs))) none
      | inr other ↦
          let more : position_or_len (λ x. x == c) (b ∷ bs) ≡ suc (position_or_len (λ x. x == c) bs) = cond-true (not (b == c)) (1 + position_or_len (λ x. x == c) bs) 0 (not_from_false (b == c) other) ∙ one-add (position_or_len (λ x. x == c) bs) in
          ap (λ (n : ℕ). lacks c (take n (b ∷ bs))) more
          ∙ and_from (not (b == c)) (lacks c (take (position_or_len (λ x. x == c) bs) bs)) (not_from_false (b == c) other) (front_lacks c bs)
    ]

pub found_cut : (c : ℕ) (bs : List ℕ) → position_or_len (λ b. b == c) bs < length bs → bs ≡ take (position_or_len (λ b. b == c) bs) bs ++ c ∷ drop (position_or_len (λ b. b == c) bs + 1) bs
found_cut c bs within =
    split_at_first (λ b. b == c) bs 0 within
    ∙ ap (λ x. take (position_or_len (λ b. b == c) bs) bs ++ x ∷ drop (position_or_len (λ b. b == c) bs + 1) bs)
    (eqb-true (get_or bs (position_or_len (λ b. b == c) bs) 0) c (passes_at_first (λ b. b == c) bs 0 within))

pub cut_parts : (c : ℕ) (bs : List ℕ) (n : ℕ) → n ≡ position_or_len (λ b. b == c) bs → n < length bs
    → (bs ≡ take n bs ++ c ∷ take (length bs - (n + 1)) (drop (n + 1) bs)) × (lacks c (take n bs) ≡ true)
cut_parts c bs n is within =
    let all = take_all (length bs - (n + 1)) (drop (n + 1) bs) (let rest = length-drop (n + 1) bs in omega (arith, rest)) in
    let found = subst (λ (k : ℕ). bs ≡ take k bs ++ c ∷ drop (k + 1) bs) (sym is) (found_cut c bs (subst (λ (k : ℕ). k < length bs) is within)) in
    (found ∙ ap (λ t. take n bs ++ c ∷ t) (sym all), subst (λ (k : ℕ). lacks c (take k bs) ≡ true) (sym is) (front_lacks c bs))
