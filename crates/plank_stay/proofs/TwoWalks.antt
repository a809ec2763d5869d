-- Two walks from one number that differ in their first move alone, and meet again at once: what the first comes to the
-- second comes to, but for what is cut out, and they end alike.
use Rattle.std.proofs.Common.{◌≡◌, ◌≢◌, ◌⊎◌, ℕ, Option, Some, None, refl, sym, ◌∙◌, ap, subst, inl, inr}
use Rattle.plank_base.specs.Paths.{Path, here, onward, off}
use Rattle.plank_base.proofs.Paths.{one_successor, end_or_successor, off-same, off-extends, no_return}

-- how the second walk meets the first, which moves from a to w: as the first; by one number more; by one less
pub data Meet (f g : ℕ → Option ℕ) (First : ℕ → Type 0) (Cut : Type 0) (a w : ℕ) : Type 0 where
  at_once : g a ≡ Some w → Meet f g First Cut a w
  put_in : (v : ℕ) → First v → v ≢ a → g a ≡ Some v → f v ≡ Some w → Meet f g First Cut a w
  cut_out : (v : ℕ) → Cut → First v → g a ≡ Some v → f w ≡ Some v → Meet f g First Cut a w

-- w is left out
abbrev pub IsCut : (ℕ → Option ℕ) → Type 0 → ℕ → ℕ → Type 0
IsCut f Cut w b = (b ≡ w) × Cut × ((v : ℕ) × (f w ≡ Some v))

-- a path is empty, or has a first move
first_step : {h : ℕ → Option ℕ} {b y : ℕ} → Path h y b → (y ≡ b) ⊎ ((m : ℕ) × (h y ≡ Some m) × Path h m b)
first_step here = inl refl
first_step (onward {m} s p) = inr (m, s, p)

module _ (f g : ℕ → Option ℕ) (First : ℕ → Type 0) (Cut : Type 0) (a w : ℕ) (moves : (x m : ℕ) → f x ≡ Some m → First m)
    (agree : (x : ℕ) → First x → x ≢ a → f x ≡ g x) (led : f a ≡ Some w) where
  not_there : (h : ℕ → Option ℕ) (y m : ℕ) → off h a y ≡ Some m → y ≢ a
  not_there h y m s e = end_or_successor (subst (λ v. off h a v ≡ None) (sym e) (off-same h a)) s

  -- without a the one is the other
  over : {b y : ℕ} → First y → Path (off f a) y b → Path g y b
  over is here = here
  over {b} {y} is (onward {m} s p) =
      let e : f y ≡ Some m = off-extends f a y m s in
      onward (sym (agree y is (not_there f y m s)) ∙ e) (over (moves y m e) p)

  back : {b y : ℕ} → First y → Path (off g a) y b → Path f y b
  back is here = here
  back {b} {y} is (onward {m} s p) =
      let e : f y ≡ Some m = agree y is (not_there g y m s) ∙ off-extends g a y m s in
      onward e (back (moves y m e) p)

  first_w : First w
  first_w = moves a w led

  -- where the first walk comes to, from a on
  pub first_on : {b y : ℕ} → First y → Path f y b → First b
  first_on is here = is
  first_on {b} {y} is (onward {m} s p) = first_on (moves y m s) p

  module _ (meet : Meet f g First Cut a w) where
    -- from w on, a left out
    from_w : (b : ℕ) → Path (off f a) w b → Path g a b ⊎ IsCut f Cut w b
    from_w b = by_meet meet
      where
        by_meet : Meet f g First Cut a w → Path (off f a) w b → Path g a b ⊎ IsCut f Cut w b
        by_meet (at_once e) p = inl (onward e (over first_w p))
        by_meet (put_in v is other ga fv) p = inl (onward ga (onward (sym (agree v is other) ∙ fv) (over first_w p)))
        by_meet (cut_out v cut is ga fw) p = elim (first_step p) [
          | inl same ↦ inr (sym same, cut, (v, fw))
          | inr q ↦ inl (onward ga (over is (subst (λ u. Path (off f a) u b) (one_successor (off-extends f a w q.0 q.1) fw) q.2)))
        ]

    pub crosses : (b : ℕ) → Path f a b → Path g a b ⊎ IsCut f Cut w b
    crosses b p = elim (no_return a p) [
      | inl e ↦ inl (subst (λ v. Path g a v) (sym e) here)
      | inr q ↦ from_w b (subst (λ u. Path (off f a) u b) (one_successor q.1 led) q.2)
    ]

    -- the second walk moves too
    pub goes_on : (v : ℕ) × (g a ≡ Some v)
    goes_on = by_meet meet
      where
        by_meet : Meet f g First Cut a w → (v : ℕ) × (g a ≡ Some v)
        by_meet (at_once e) = (w, e)
        by_meet (put_in v is other ga fv) = (v, ga)
        by_meet (cut_out v cut is ga fw) = (v, ga)

    to_end : (b y : ℕ) → g b ≡ None → g a ≡ Some y → Path (off g a) y b → Path f a b
    to_end b y none s = by_meet meet
      where
        by_meet : Meet f g First Cut a w → Path (off g a) y b → Path f a b
        by_meet (at_once e) p = onward led (back first_w (subst (λ u. Path (off g a) u b) (one_successor s e) p))
        by_meet (put_in v is other ga fv) p =
            let gv : g v ≡ Some w = sym (agree v is other) ∙ fv in
            elim (first_step (subst (λ u. Path (off g a) u b) (one_successor s ga) p)) [
              | inl same ↦ absurd (end_or_successor (subst (λ u. g u ≡ None) (sym same) none) gv)
              | inr q ↦ onward led (back first_w (subst (λ u. Path (off g a) u b) (one_successor (off-extends g a v q.0 q.1) gv) q.2))
            ]
        by_meet (cut_out v cut is ga fw) p = onward led (onward fw (back is (subst (λ u. Path (off g a) u b) (one_successor s ga) p)))

    -- where the second walk ends the first comes to
    pub crosses_back : (b : ℕ) → g b ≡ None → Path g a b → Path f a b
    crosses_back b none p = elim (no_return a p) [
      | inl e ↦ absurd (end_or_successor (subst (λ u. g u ≡ None) e none) goes_on.1)
      | inr q ↦ to_end b q.0 none q.1 q.2
    ]
