-- What all units force all methods force, and where all units are still each claim is justified.
use Rattle.std.specs.Prelude.{◌≡◌, ◌⊎◌, ℕ, ◌+◌, ◌*◌, ◌<◌, ◌≤◌, Bool, true, false, List, length, sum_by, slice_get, Some}
use Rattle.std.proofs.Common.{refl, sym, ◌∙◌, subst, inl, inr, arith}
use Rattle.std.proofs.lemmas.Bool.{true≢false}
use Rattle.std.proofs.lemmas.Option.{slice_get_within}
use Rattle.plank_base.specs.declared.limits.TheConstants.{VARIABLES_LIMIT, FLAGS_LIMIT, POINTERS_LIMIT, MARK_WORDS_PER_LOCATION}
use Rattle.plank_bits.specs.Forced.{IsClosed, IsLeast, IsBounded}
use Rattle.plank_board.specs.Stills.{IsClosing, AreStill}
use Rattle.plank_prog.specs.declared.headers.Header.{Header}
use Rattle.plank_prog.specs.declared.methods.Method.{Method}
use Rattle.plank_prog.specs.Methods.{location_count}
use Rattle.plank_fact.specs.declared.facts.Fact.{Fact}
use Rattle.plank_fact.specs.Outlines.{Outline, Point, location_number, IsClaimed}
use Rattle.plank_fact.specs.Forced.{outline, IsRefuted, Forces, AreLeastMarks, IsValid}
use Rattle.plank_fact.specs.Forced as forced
use Rattle.plank_fact.proofs.Bounded.{forces_bounded}
use Rattle.plank_unit.specs.Units.{unit_count, IsRefutedBySteps, at_entry, after, IsHadBySteps, IsBrokenFact, IsKept, IsForcedThere, HoldsThere, UnitForces, by_steps, by_others, UnitIsStill}
use Rattle.plank_unit.proofs.Numbers.{number_within}

had_not_refuted : (O : Outline) (x : Point O.methods) (f : Fact) → IsHadBySteps O x f → IsRefutedBySteps O x f → ⊥
had_not_refuted O x f had (at_entry first lacks) = lacks (had.entry first)
had_not_refuted O x f had (after from e leads lacks) = lacks (had.after from e leads)

refuted_by_steps : (O : Outline) (x : Point O.methods) (f : Fact) → IsRefutedBySteps O x f → IsRefuted O x f
refuted_by_steps O x f (at_entry first lacks) = forced.at_entry first lacks
refuted_by_steps O x f (after from e leads lacks) = forced.after from e leads lacks

refuted_by_others : (O : Outline) (x : Point O.methods) (f : Fact) → IsBrokenFact O x f → IsRefuted O x f
refuted_by_others O x f (L, is, w) = subst (IsRefuted O x) (sym is) (forced.broken w)

by_either : (O : Outline) (x : Point O.methods) (f : Fact) → IsRefuted O x f → IsRefutedBySteps O x f ⊎ IsBrokenFact O x f
by_either O x f (forced.at_entry first lacks) = inl (at_entry first lacks)
by_either O x f (forced.after from e leads lacks) = inl (after from e leads lacks)
by_either O x f (forced.broken w) = inr (_, refl, w)

module _ (h : Header) (methods : List Method) where
  -- ---- still units

  still_so : (Holds Refutes : (O : Outline) → Point O.methods → Fact → Type 0) → ((O : Outline) (x : Point O.methods) (f : Fact) → Holds O x f → Refutes O x f → ⊥)
      → (number k : ℕ) (a : ℕ → Bool) → HoldsThere h methods Holds number a → IsForcedThere h methods Refutes number a k → a k ≡ true
  still_so Holds Refutes not_both number k a still w = by_mark (a k) refl
    where
      by_mark : (b : Bool) → a k ≡ b → a k ≡ true
      by_mark true e = e
      by_mark false e =
          absurd (elim w.forced [
            | inl set ↦ true≢false (sym set ∙ e)
            | inr refuted ↦ not_both (outline h methods a) w.at w.fact (still w.at w.of_number w.fact (record { mark = k; of_fact = w.is; is = e })) refuted
          ])

  pub units_closing : (n : ℕ) → IsClosing (UnitForces h methods) (UnitIsStill h methods) n
  units_closing n u k a below still (by_steps number is w) = still_so IsHadBySteps IsRefutedBySteps had_not_refuted number k a (still.steps number is) w
  units_closing n u k a below still (by_others number is w) = still_so IsKept IsBrokenFact (λ O x f kept broken. kept broken) number k a (still.others number is) w

  -- ---- units and methods

  of_method : (Refutes : (O : Outline) → Point O.methods → Fact → Type 0) → ((O : Outline) (x : Point O.methods) (f : Fact) → Refutes O x f → IsRefuted O x f)
      → (number k : ℕ) (a : ℕ → Bool) (w : IsForcedThere h methods Refutes number a k) → Forces h methods w.at.m a k
  of_method Refutes refuted number k a w = record {
    at = w.at;
    of_method = refl;
    fact = w.fact;
    is = w.is;
    forced = elim w.forced [
      | inl set ↦ inl set
      | inr r ↦ inr (refuted (outline h methods a) w.at w.fact r)
    ];
  }

  -- some method forces what a unit forces
  record IsOfMethod (a : ℕ → Bool) (k : ℕ) : Type 0 where
    method : ℕ
    there : method < length methods
    forces : Forces h methods method a k

  method_of : (u k : ℕ) (a : ℕ → Bool) → UnitForces h methods u a k → IsOfMethod a k
  method_of u k a (by_steps number is w) = record { method = w.at.m; there = slice_get_within methods w.at.m w.at.method w.at.called; forces = of_method IsRefutedBySteps refuted_by_steps number k a w }
  method_of u k a (by_others number is w) = record { method = w.at.m; there = slice_get_within methods w.at.m w.at.method w.at.called; forces = of_method IsBrokenFact refuted_by_others number k a w }

  closed_by_units : (a : ℕ → Bool) → IsClosed (UnitForces h methods) (unit_count methods) a → IsClosed (Forces h methods) (length methods) a
  closed_by_units a closed k (m, below, w) =
      elim w.forced [
        | inl set ↦ set
        | inr refuted ↦ elim (by_either (outline h methods a) w.at w.fact refuted) [
          | inl r ↦
              let n = location_number methods w.at.m w.at.l in
              let within = number_within methods w.at in
              let few : 2 * n < unit_count methods = omega arith in
              closed k (2 * n, few, by_steps n refl (record { at = w.at; of_number = refl; fact = w.fact; is = w.is; forced = inr r }))
          | inr r ↦
              let n = location_number methods w.at.m w.at.l in
              let within = number_within methods w.at in
              let few : 2 * n + 1 < unit_count methods = omega arith in
              closed k (2 * n + 1, few, by_others n refl (record { at = w.at; of_number = refl; fact = w.fact; is = w.is; forced = inr r }))
        ]
      ]

  closed_by_methods : (a : ℕ → Bool) (n : ℕ) → IsClosed (Forces h methods) (length methods) a → IsClosed (UnitForces h methods) n a
  closed_by_methods a n closed k (u, below, w) = let v = method_of u k a w in closed k (v.method, v.there, v.forces)

  pub units_least : (a : ℕ → Bool) → IsLeast (UnitForces h methods) (unit_count methods) a → AreLeastMarks h methods a
  units_least a least = record {
    closed = closed_by_units a least.closed;
    within = λ b closed. least.within b (closed_by_methods b (unit_count methods) closed);
  }

  pub units_valid : (a : ℕ → Bool) → AreStill (UnitIsStill h methods) (unit_count methods) a → IsValid (outline h methods a)
  units_valid a still = record {
    entry = λ x f begins claimed. (had x f claimed).entry begins;
    after = λ from x e f leads claimed. (had x f claimed).after from e leads;
    kept = λ x L claimed broken. kept x (Fact.Now L) claimed (L, refl, broken);
  }
    where
      had : (x : Point methods) (f : Fact) → IsClaimed (outline h methods a) x f → IsHadBySteps (outline h methods a) x f
      had x f claimed =
          let n = location_number methods x.m x.l in
          let within = number_within methods x in
          let few : 2 * n < unit_count methods = omega arith in
          (still (2 * n) few).steps n refl x refl f claimed

      kept : (x : Point methods) (f : Fact) → IsClaimed (outline h methods a) x f → IsKept (outline h methods a) x f
      kept x f claimed =
          let n = location_number methods x.m x.l in
          let within = number_within methods x in
          let few : 2 * n + 1 < unit_count methods = omega arith in
          (still (2 * n + 1) few).others n refl x refl f claimed

  pub units_bounded : (n : ℕ) → length h.flags ≤ FLAGS_LIMIT → length h.pointers ≤ POINTERS_LIMIT
      → ((m : ℕ) (method : Method) → slice_get methods m ≡ Some method → length method.variables ≤ VARIABLES_LIMIT)
      → IsBounded (UnitForces h methods) n (sum_by location_count methods * (64 * MARK_WORDS_PER_LOCATION))
  units_bounded n few_flags few_pointers few_variables u k a below w =
      let v = method_of u k a w in
      forces_bounded h methods (length methods) few_flags few_pointers few_variables v.method k a v.there v.forces
