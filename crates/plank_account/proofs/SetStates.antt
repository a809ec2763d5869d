-- The sets at the moments of a run, and what the listed calls make of them: a call that changes takes the set of the moment
-- before to this one, a call that observes finds it as its answer says and leaves it.
use Rattle.std.proofs.Common.{◌≡◌, ℕ, zero, suc, ◌+◌, ◌<◌, ◌≤◌, Bool, true, false, cond, eqb, ℤ, List, [], ◌∷◌, length, Option, Some, None, refl, sym, ap, ◌∙◌, subst, ⊎_elim, inl, inr, arith}
use Rattle.std.specs.Prelude.{slice_get}
use Rattle.std.proofs.lemmas.Bool.{eq-eqb, ne_eqb, cases_lt}
use Rattle.std.proofs.lemmas.Option.{none-some, same_Some}
use Rattle.plank_hist.specs.Sets.{set_of_keys}
use Rattle.plank_account.proofs.Listings.{SetCall, Adds, added_cases}

-- the set at a moment; the newest stands first, and moment 0 is the last
abbrev pub state_at : List (ℤ → Bool) → ℕ → ℤ → Bool
state_at [] m = λ key. false
state_at (holds ∷ states) m = cond (eqb m (length states)) holds (state_at states m)

pub state_at-newest : (holds : ℤ → Bool) (states : List (ℤ → Bool)) (m : ℕ) → m ≡ length states → state_at (holds ∷ states) m ≡ holds
state_at-newest holds states m same = ap (λ b. cond b holds (state_at states m)) (eq-eqb m (length states) same)

pub state_at-earlier : (holds : ℤ → Bool) (states : List (ℤ → Bool)) (m : ℕ) → m < length states → state_at (holds ∷ states) m ≡ state_at states m
state_at-earlier holds states m lt = ap (λ b. cond b holds (state_at states m)) (ne_eqb m (length states) (λ same. omega arith))

-- the set so many steps ago
pub state_at-ago : (states : List (ℤ → Bool)) (ago m : ℕ) (holds : ℤ → Bool) → slice_get states ago ≡ Some holds → suc (m + ago) ≡ length states → state_at states m ≡ holds
state_at-ago [] ago m holds at sum = absurd (none-some holds at)
state_at-ago (newest ∷ states) zero m holds at sum = state_at-newest newest states m (omega arith) ∙ same_Some newest holds at
state_at-ago (newest ∷ states) (suc ago) m holds at sum = state_at-earlier newest states m (omega arith) ∙ state_at-ago states ago m holds at (omega arith)

-- a call takes one set to another
pub record Takes (before : ℤ → Bool) (c : SetCall) (after : ℤ → Bool) : Type 0 where
  pub allowed : set_of_keys.allows before c.input c.answer ≡ true
  pub leaves : after ≡ set_of_keys.after before c.input

-- the calls that change and that observe at the moments up to the last, and none later
pub record Shows (last : ℕ) (states : List (ℤ → Bool)) (changer : ℕ → Option SetCall) (observers : ℕ → List SetCall) : Type 0 where
  pub size : length states ≡ suc last
  pub first_state : state_at states 0 ≡ set_of_keys.first
  pub first_changer : changer 0 ≡ None
  pub no_changer : (m : ℕ) → last < m → changer m ≡ None
  pub no_observer : (m : ℕ) → last < m → observers m ≡ []
  pub unchanged : (m : ℕ) → m < last → changer (suc m) ≡ None → state_at states (suc m) ≡ state_at states m
  pub changed : (m : ℕ) (c : SetCall) → m < last → changer (suc m) ≡ Some c → Takes (state_at states m) c (state_at states (suc m))
  pub observed : (m k : ℕ) (c : SetCall) → slice_get (observers m) k ≡ Some c → Takes (state_at states m) c (state_at states m)

pub shows_start : (changer : ℕ → Option SetCall) (observers : ℕ → List SetCall) → ((m : ℕ) → changer m ≡ None) → ((m : ℕ) → observers m ≡ []) → Shows 0 (set_of_keys.first ∷ []) changer observers
shows_start changer observers none nobody = record {
  size = refl;
  first_state = state_at-newest set_of_keys.first [] 0 refl;
  first_changer = none 0;
  no_changer = λ m lt. none m;
  no_observer = λ m lt. nobody m;
  unchanged = λ m lt e. absurd (omega arith);
  changed = λ m c lt e. absurd (omega arith);
  observed = λ m k c at. absurd (none-some c (subst (λ cs. slice_get cs k ≡ Some c) (nobody m) at));
}

module _ (last : ℕ) (before : ℤ → Bool) (states : List (ℤ → Bool)) (changer : ℕ → Option SetCall) (observers : ℕ → List SetCall) (shows : Shows last (before ∷ states) changer observers) where
  -- one more moment: its changer, if it has one, takes the newest set to the one after
  pub shows_step : (after : ℤ → Bool) (more : ℕ → Option SetCall) → ((m : ℕ) → m ≤ last → more m ≡ changer m) → ((m : ℕ) → suc last < m → more m ≡ None)
      → (more (suc last) ≡ None → after ≡ before) → ((c : SetCall) → more (suc last) ≡ Some c → Takes before c after) → Shows (suc last) (after ∷ before ∷ states) more observers
  shows_step after more same none rests takes =
      let size : length states ≡ last = (let s = shows.size in omega arith) in
      let earlier : (m : ℕ) → m ≤ last → state_at (after ∷ before ∷ states) m ≡ state_at (before ∷ states) m = λ m le. state_at-earlier after (before ∷ states) m (omega arith) in
      let newest : state_at (after ∷ before ∷ states) (suc last) ≡ after = state_at-newest after (before ∷ states) (suc last) (omega arith) in
      let newest_before : state_at (before ∷ states) last ≡ before = state_at-newest before states last (sym size) in
      record {
        size = omega arith;
        first_state = earlier 0 (omega arith) ∙ shows.first_state;
        first_changer = same 0 (omega arith) ∙ shows.first_changer;
        no_changer = λ m lt. none m lt;
        no_observer = λ m lt. shows.no_observer m (omega arith);
        unchanged = λ m lt e.
            ⊎_elim (λ (below : m < last). earlier (suc m) below ∙ shows.unchanged m below (sym (same (suc m) below) ∙ e) ∙ sym (earlier m (omega arith)))
            (λ ge. let at : m ≡ last = omega arith in
            ap (λ n. state_at (after ∷ before ∷ states) (suc n)) at ∙ newest ∙ rests (sym (ap (λ n. more (suc n)) at) ∙ e) ∙ sym newest_before ∙ sym (earlier last (omega arith)) ∙ sym (ap (state_at (after ∷ before ∷ states)) at))
            (cases_lt m last);
        changed = λ m c lt e.
            ⊎_elim (λ (below : m < last).
            subst (λ (s : ℤ → Bool). Takes (state_at (after ∷ before ∷ states) m) c s) (sym (earlier (suc m) below))
            (subst (λ (s : ℤ → Bool). Takes s c (state_at (before ∷ states) (suc m))) (sym (earlier m (omega arith))) (shows.changed m c below (sym (same (suc m) below) ∙ e))))
            (λ ge. let at : m ≡ last = omega arith in
            subst (λ n. Takes (state_at (after ∷ before ∷ states) n) c (state_at (after ∷ before ∷ states) (suc n))) (sym at)
            (subst (λ (s : ℤ → Bool). Takes (state_at (after ∷ before ∷ states) last) c s) (sym newest)
            (subst (λ (s : ℤ → Bool). Takes s c after) (sym (earlier last (omega arith) ∙ newest_before)) (takes c (sym (ap (λ n. more (suc n)) at) ∙ e)))))
            (cases_lt m last);
        observed = λ m k c at.
            ⊎_elim (λ (later : last < m). absurd (none-some c (subst (λ cs. slice_get cs k ≡ Some c) (shows.no_observer m later) at)))
            (λ (le : m ≤ last). subst (λ (s : ℤ → Bool). Takes s c s) (sym (earlier m le)) (shows.observed m k c at))
            (cases_lt last m);
      }

  -- one more call observes, at a moment that has been
  pub shows_observed : (moment : ℕ) (call : SetCall) (more : ℕ → List SetCall) → moment ≤ last → Adds observers more moment call → Takes (state_at (before ∷ states) moment) call (state_at (before ∷ states) moment) → Shows last (before ∷ states) changer more
  shows_observed moment call more le adds takes = record {
    size = shows.size;
    first_state = shows.first_state;
    first_changer = shows.first_changer;
    no_changer = shows.no_changer;
    no_observer = λ m lt. adds.elsewhere m (λ same. absurd (omega arith)) ∙ shows.no_observer m lt;
    unchanged = shows.unchanged;
    changed = shows.changed;
    observed = λ m k c at.
        elim (added_cases observers more moment call adds m k c at) [
          | inl old ↦ shows.observed m k c old
          | inr new ↦ subst (λ (d : SetCall). Takes (state_at (before ∷ states) m) d (state_at (before ∷ states) m)) new.2 (subst (λ n. Takes (state_at (before ∷ states) n) call (state_at (before ∷ states) n)) (sym new.0) takes)
        ];
  }
