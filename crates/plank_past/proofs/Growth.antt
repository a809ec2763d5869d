-- Sets of refuted conclusions grow site by site.
use Rattle.std.proofs.Common.{◌≡◌, ◌⊎◌, ℕ, ◌+◌, ◌<◌, Bool, true, false, List, length, sym, ◌∙◌, inl, inr, arith}
use Rattle.std.specs.Prelude.{◌||◌}
use Rattle.std.proofs.lemmas.Bool.{or_left, or_right, or_cases, false≢true, cases_eq}
use Rattle.std.proofs.lemmas.Option.{slice_get_within}
use Rattle.plank_prog.specs.declared.methods.Method.{Method}
use Rattle.plank_pic.specs.declared.literals.Literal.{Literal}
use Rattle.plank_fact.specs.Outlines.{Outline, Point}
use Rattle.plank_marks.proofs.Rooms.{IsThere}
use Rattle.plank_past.specs.declared.hinds.Hinds.{Hinds}
use Rattle.plank_past.specs.Refuting.{IsRefutedBy, IsRefutedWithin, Grows}

module _ (Cs : List Literal) where
  -- nothing is refuted, and nothing is added
  pub grows_none : (A : Literal → Type 0) (old : ℕ → Bool) → ((C : Literal) → A C → ⊥) → Grows Cs A old old
  grows_none A old none = record { kept = λ k o. o; added = λ k C is a. absurd (none C a); only = λ k C is o. inl o }

  -- all are refuted already
  pub grows_full : (A : Literal → Type 0) (old : ℕ → Bool) → ((k : ℕ) → k < length Cs → old k ≡ true) → Grows Cs A old old
  grows_full A old full = record { kept = λ k o. o; added = λ k C is a. full k (slice_get_within Cs k C is); only = λ k C is o. inl o }

  -- what was found is united with what was there
  pub grows_union : (A : Literal → Type 0) (old found new : ℕ → Bool) → Grows Cs A (λ k. false) found → ((k : ℕ) → new k ≡ (old k || found k)) → Grows Cs A old new
  grows_union A old found new g is = record {
    kept = λ k o. is k ∙ or_left (old k) (found k) o;
    added = λ k C at a. is k ∙ or_right (old k) (found k) (g.added k C at a);
    only = λ k C at n. elim (or_cases (old k) (found k) (sym (is k) ∙ n)) [
      | inl o ↦ inl o
      | inr f ↦ elim (g.only k C at f) [ inl none ↦ absurd (false≢true none) | inr a ↦ inr a ]
    ];
  }

  -- the same, said of something else
  pub grows_as : (A B : Literal → Type 0) (old new : ℕ → Bool) → ((C : Literal) → A C → B C) → ((C : Literal) → B C → A C) → Grows Cs A old new → Grows Cs B old new
  grows_as A B old new to from g = record {
    kept = g.kept;
    added = λ k C at b. g.added k C at (from C b);
    only = λ k C at n. elim (g.only k C at n) [ inl o ↦ inl o | inr a ↦ inr (to C a) ];
  }

  -- one growth after the other
  pub grows_then : (A B D : Literal → Type 0) (old mid new : ℕ → Bool) → ((C : Literal) → A C → D C) → ((C : Literal) → B C → D C) → ((C : Literal) → D C → A C ⊎ B C)
      → Grows Cs A old mid → Grows Cs B mid new → Grows Cs D old new
  grows_then A B D old mid new of_first of_second either g h = record {
    kept = λ k o. h.kept k (g.kept k o);
    added = λ k C at d. elim (either C d) [ inl a ↦ h.kept k (g.added k C at a) | inr b ↦ h.added k C at b ];
    only = λ k C at n. elim (h.only k C at n) [
      | inl i ↦ elim (g.only k C at i) [ inl o ↦ inl o | inr a ↦ inr (of_first C a) ]
      | inr b ↦ inr (of_second C b)
    ];
  }

-- ---- over the sites

-- of the first i locations of the n-th method
abbrev pub before : ℕ → ℕ → ℕ → ℕ → Type 0
before n i k l = (k ≡ n) × (l < i)

module _ (Cs : List Literal) (O : Outline) (m : Method) (u : Hinds) (present : Literal) where
  pub no_location : (n : ℕ) (old : ℕ → Bool) → Grows Cs (IsRefutedWithin O m u present (before n 0)) old old
  no_location n old = grows_none Cs (IsRefutedWithin O m u present (before n 0)) old (λ C w. let below : w.site.l < 0 = w.there.1 in absurd (omega (arith, below)))

  pub one_location : (n i : ℕ) (old mid new : ℕ → Bool) → IsThere O.methods n i → Grows Cs (IsRefutedWithin O m u present (before n i)) old mid
      → ((x : Point O.methods) → x.m ≡ n → x.l ≡ i → Grows Cs (IsRefutedBy O m u present x) mid new) → Grows Cs (IsRefutedWithin O m u present (before n (i + 1))) old new
  one_location n i old mid new at g more =
      grows_then Cs (IsRefutedWithin O m u present (before n i)) (IsRefutedWithin O m u present (λ k l. (k ≡ n) × (l ≡ i))) (IsRefutedWithin O m u present (before n (i + 1))) old mid new
      (λ C w. record { site = w.site; there = (w.there.0, (let below : w.site.l < i = w.there.1 in omega (arith, below))); by = w.by })
      (λ C w. record { site = w.site; there = (w.there.0, (let same : w.site.l ≡ i = w.there.1 in omega (arith, same))); by = w.by })
      (λ C w. elim (cases_eq w.site.l i) [
        | inl same ↦ inr (record { site = w.site; there = (w.there.0, same); by = w.by })
        | inr other ↦ inl (record { site = w.site; there = (w.there.0, (let below : w.site.l < i + 1 = w.there.1 in omega (arith, below, other))); by = w.by })
      ])
      g here
    where
      here : Grows Cs (IsRefutedWithin O m u present (λ k l. (k ≡ n) × (l ≡ i))) mid new
      here = record {
        kept = (more at.point at.of_method at.of_location).kept;
        added = λ k C is w. (more w.site w.there.0 w.there.1).added k C is w.by;
        only = λ k C is r. elim ((more at.point at.of_method at.of_location).only k C is r) [
          | inl o ↦ inl o
          | inr b ↦ inr (record { site = at.point; there = (at.of_method, at.of_location); by = b })
        ];
      }

  -- all locations of a method
  pub all_locations : (n count : ℕ) (old new : ℕ → Bool) → ((x : Point O.methods) → x.m ≡ n → x.l < count) → Grows Cs (IsRefutedWithin O m u present (before n count)) old new
      → Grows Cs (IsRefutedWithin O m u present (λ k l. k ≡ n)) old new
  all_locations n count old new within =
      grows_as Cs (IsRefutedWithin O m u present (before n count)) (IsRefutedWithin O m u present (λ k l. k ≡ n)) old new
      (λ C w. record { site = w.site; there = w.there.0; by = w.by })
      (λ C w. record { site = w.site; there = (w.there, within w.site w.there); by = w.by })

  pub no_method : (old : ℕ → Bool) → Grows Cs (IsRefutedWithin O m u present (λ k l. k < 0)) old old
  no_method old = grows_none Cs (IsRefutedWithin O m u present (λ k l. k < 0)) old (λ C w. let below : w.site.m < 0 = w.there in absurd (omega (arith, below)))

  pub one_method : (n : ℕ) (old mid new : ℕ → Bool) → Grows Cs (IsRefutedWithin O m u present (λ k l. k < n)) old mid → Grows Cs (IsRefutedWithin O m u present (λ k l. k ≡ n)) mid new
      → Grows Cs (IsRefutedWithin O m u present (λ k l. k < n + 1)) old new
  one_method n old mid new =
      grows_then Cs (IsRefutedWithin O m u present (λ k l. k < n)) (IsRefutedWithin O m u present (λ k l. k ≡ n)) (IsRefutedWithin O m u present (λ k l. k < n + 1)) old mid new
      (λ C w. record { site = w.site; there = (let below : w.site.m < n = w.there in omega (arith, below)); by = w.by })
      (λ C w. record { site = w.site; there = (let same : w.site.m ≡ n = w.there in omega (arith, same)); by = w.by })
      (λ C w. elim (cases_eq w.site.m n) [
        | inl same ↦ inr (record { site = w.site; there = same; by = w.by })
        | inr other ↦ inl (record { site = w.site; there = (let below : w.site.m < n + 1 = w.there in omega (arith, below, other)); by = w.by })
      ])
