-- The trace law: a history that a trace explains is linearizable. The calls are listed moment by moment, at each its changer and then its observers.
use Rattle.std.proofs.Common.{◌≡◌, ℕ, zero, suc, ◌+◌, ◌<◌, ◌≤◌, true, List, ◌++◌, length, Option, Some, None, refl, sym, subst, ap, ◌∙◌, ⊎_elim, arith}
use Rattle.std.specs.List.{slice_get}
use Rattle.std.specs.Prelude.{map, option_to_list}
use Rattle.std.proofs.lemmas.Bool.{cases_lt}
use Rattle.std.proofs.lemmas.List.{map-append, length-append}
use Rattle.std.proofs.lemmas.Option.{slice_get_within}
use Rattle.plank_hist.specs.Objects.{Object, legal_from}
use Rattle.plank_hist.specs.Histories.{Happening, Responds}
use Rattle.plank_hist.specs.Linearizability.{Listing, call_of, Linearizable}
use Rattle.plank_hist.specs.Traces.{Trace, calls_at, TakesPlace, Explains}
use Rattle.plank_hist.proofs.Joined.{slice_get-append_left, slice_get-append_right, slice_get-append}
use Rattle.plank_hist.proofs.Replay.{Replays, Replays-cons, Replays-append, Replays-observers}

-- the calls of the moments up to m
abbrev listed : {State Input Answer : Type 0} → Trace State Input Answer → ℕ → List (Listing Input Answer)
listed trace zero = calls_at trace zero
listed trace (suc m) = listed trace m ++ calls_at trace (suc m)

-- how many calls stand before those of moment m
abbrev before : {State Input Answer : Type 0} → Trace State Input Answer → ℕ → ℕ
before trace zero = 0
before trace (suc m) = length (listed trace m)

module _ {State Input Answer : Type 0} (trace : Trace State Input Answer) where
  -- the k-th listing is the call that stands at place l of moment m
  record Stands (n k m l : ℕ) (c : Listing Input Answer) : Type 0 where
    pub in_time : m ≤ n
    pub at : slice_get (calls_at trace m) l ≡ Some c
    pub place : k ≡ before trace m + l

  length_listed : (m : ℕ) → length (listed trace m) ≡ before trace m + length (calls_at trace m)
  length_listed zero = omega arith
  length_listed (suc m) = length-append (listed trace m) (calls_at trace (suc m))

  before_rises : (m n : ℕ) → m ≤ n → before trace m ≤ before trace n
  before_rises m zero le = let e : m ≡ zero = omega arith in subst (λ i. before trace i ≤ before trace zero) (sym e) (omega arith)
  before_rises m (suc n) le =
      let step : before trace n ≤ before trace (suc n) = let e = length_listed n in omega arith in
      ⊎_elim (λ lt. let below : before trace m ≤ before trace n = before_rises m n (omega arith) in omega arith) (λ ge. let e : m ≡ suc n = omega arith in subst (λ i. before trace i ≤ before trace (suc n)) (sym e) (omega arith)) (cases_lt m (suc n))

  stands : (n k : ℕ) (c : Listing Input Answer) → slice_get (listed trace n) k ≡ Some c → (m l : ℕ) × Stands n k m l c
  stands zero k c e = (zero, k, record { in_time = omega arith; at = e; place = omega arith })
  stands (suc n) k c e =
      ⊎_elim (λ left. let s = stands n k c left in (s.0, s.1, record { in_time = (let le = s.2.in_time in omega arith); at = s.2.at; place = s.2.place })) (λ right. (suc n, right.0, record { in_time = omega arith; at = right.2; place = right.1 })) (slice_get-append (listed trace n) (calls_at trace (suc n)) k c e)

  is_listed : (n m l : ℕ) (c : Listing Input Answer) → m ≤ n → slice_get (calls_at trace m) l ≡ Some c → slice_get (listed trace n) (before trace m + l) ≡ Some c
  is_listed zero m l c le at =
      let e : m ≡ zero = omega arith in
      let there : slice_get (calls_at trace zero) l ≡ Some c = subst (λ i. slice_get (calls_at trace i) l ≡ Some c) e at in
      let k : before trace m + l ≡ l = let f : before trace m ≡ 0 = ap (before trace) e in omega arith in
      subst (λ i. slice_get (calls_at trace zero) i ≡ Some c) (sym k) there
  is_listed (suc n) m l c le at =
      ⊎_elim (λ lt. slice_get-append_left (listed trace n) (calls_at trace (suc n)) (before trace m + l) c (is_listed n m l c (omega arith) at)) (λ ge. let e : m ≡ suc n = omega arith in subst (λ i. slice_get (listed trace (suc n)) (before trace i + l) ≡ Some c) (sym e) (slice_get-append_right (listed trace n) (calls_at trace (suc n)) (before trace (suc n) + l) l c refl (subst (λ i. slice_get (calls_at trace i) l ≡ Some c) e at))) (cases_lt m (suc n))

  -- calls of an earlier moment stand before those of a later one
  stands_before : (n k l m p i j : ℕ) (c d : Listing Input Answer) → Stands n k m i c → Stands n l p j d → m < p → k < l
  stands_before n k l m p i j c d first second lt =
      let within = slice_get_within (calls_at trace m) i c first.at in
      let size = length_listed m in
      let rise = before_rises (suc m) p lt in
      let a = first.place in
      let b = second.place in
      omega arith

module _ {State Input Answer : Type 0} (object : Object State Input Answer) (h : List (Happening Input Answer)) (trace : Trace State Input Answer) (explains : Explains object h trace) where
  observers_replay : (m : ℕ) → m ≤ trace.last → Replays object (trace.states m) (map call_of (trace.observers m)) (trace.states m)
  observers_replay m le =
      Replays-observers object (trace.states m) (trace.observers m) (λ k c at. explains.observed m k c le at) (λ k c at. explains.kept m k c le at)

  -- from the moment before to this one
  moment_replays : (m : ℕ) (changer : Option (Listing Input Answer)) → m < trace.last → trace.changer (suc m) ≡ changer
      → Replays object (trace.states m) (map call_of (option_to_list changer ++ trace.observers (suc m))) (trace.states (suc m))
  moment_replays m None lt e =
      subst (λ s. Replays object s (map call_of (trace.observers (suc m))) (trace.states (suc m))) (explains.unchanged m lt e) (observers_replay (suc m) lt)
  moment_replays m (Some c) lt e =
      Replays-cons object (trace.states m) (trace.states (suc m)) (trace.states (suc m)) (call_of c) (map call_of (trace.observers (suc m))) (explains.change_allowed m c lt e) (sym (explains.changed m c lt e)) (observers_replay (suc m) lt)

  first_replays : (changer : Option (Listing Input Answer)) → changer ≡ None
      → Replays object (trace.states zero) (map call_of (option_to_list changer ++ trace.observers zero)) (trace.states zero)
  first_replays None e = observers_replay zero (omega arith)
  first_replays (Some c) e = absurd (cc)

  listed_replay : (n : ℕ) → n ≤ trace.last → Replays object (trace.states zero) (map call_of (listed trace n)) (trace.states n)
  listed_replay zero le = first_replays (trace.changer zero) explains.first_changer
  listed_replay (suc n) le =
      subst (λ calls. Replays object (trace.states zero) calls (trace.states (suc n))) (sym (map-append call_of (listed trace n) (calls_at trace (suc n)))) (Replays-append object (trace.states zero) (trace.states n) (trace.states (suc n)) (map call_of (listed trace n)) (map call_of (calls_at trace (suc n))) (listed_replay n (omega arith)) (moment_replays n (trace.changer (suc n)) le refl))

  takes_place : (k m l : ℕ) (c : Listing Input Answer) → Stands trace trace.last k m l c → TakesPlace trace m l c
  takes_place k m l c s = record { in_time = s.in_time; at = s.at }

  listed_once : (k l : ℕ) (c d : Listing Input Answer) → slice_get (listed trace trace.last) k ≡ Some c → slice_get (listed trace trace.last) l ≡ Some d → c.place ≡ d.place → k ≡ l
  listed_once k l c d first second same =
      let s = stands trace trace.last k c first in
      let t = stands trace trace.last l d second in
      let one = explains.once s.0 s.1 t.0 t.1 c d (takes_place k s.0 s.1 c s.2) (takes_place l t.0 t.1 d t.2) same in
      s.2.place ∙ ap (λ m. before trace m + s.1) one.0 ∙ ap (λ i. before trace t.0 + i) one.1 ∙ sym t.2.place

  listed_in_order : (k l j : ℕ) (answer : Answer) (c d : Listing Input Answer) → slice_get (listed trace trace.last) k ≡ Some c → slice_get (listed trace trace.last) l ≡ Some d → Responds h c.place j answer → j < d.place → k < l
  listed_in_order k l j answer c d first second responds lt =
      let s = stands trace trace.last k c first in
      let t = stands trace trace.last l d second in
      let here = takes_place k s.0 s.1 c s.2 in
      let there = takes_place l t.0 t.1 d t.2 in
      let begun = (explains.calls t.0 t.1 d there).begun in
      let known = slice_get_within h d.place _ begun.invocation in
      let ended : s.0 < trace.when j = explains.ended s.0 s.1 j answer c here responds in
      let rising : trace.when j < trace.when d.place = explains.rising j d.place lt known in
      let starts : trace.when d.place ≤ t.0 = explains.begun t.0 t.1 d there in
      stands_before trace trace.last k l s.0 t.0 s.1 t.1 c d s.2 t.2 (omega arith)

  listed_answered : (i j : ℕ) (answer : Answer) → Responds h i j answer → (k : ℕ) × (c : Listing Input Answer) × (slice_get (listed trace trace.last) k ≡ Some c) × (c.place ≡ i)
  listed_answered i j answer responds =
      let w = explains.answered i j answer responds in
      (before trace w.0 + w.1, w.2, is_listed trace trace.last w.0 w.1 w.2 w.3.in_time w.3.at, w.4)

  pub linearizable : Linearizable object h
  linearizable = (
    listed trace trace.last,
    record {
      calls = λ k c at. let s = stands trace trace.last k c at in explains.calls s.0 s.1 c (takes_place k s.0 s.1 c s.2);
      answered = listed_answered;
      once = listed_once;
      in_order = listed_in_order;
      legal = subst (λ s. legal_from object s (map call_of (listed trace trace.last)) ≡ true) explains.first_state (listed_replay trace.last (omega arith)).allowed;
    },
  )
