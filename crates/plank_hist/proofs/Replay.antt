-- Calls that an object allows from one state on, and the state that they leave.
use Rattle.std.proofs.Common.{◌≡◌, ℕ, zero, suc, true, List, [], ◌∷◌, ◌++◌, Some, refl, sym, subst, ap, ◌∙◌}
use Rattle.std.specs.List.{slice_get}
use Rattle.std.specs.Prelude.{map}
use Rattle.std.proofs.lemmas.Bool.{and_from, and_parts}
use Rattle.plank_hist.specs.Objects.{Object, Finished, replayed, legal_from}
use Rattle.plank_hist.specs.Linearizability.{Listing, call_of}

pub record Replays {State Input Answer : Type 0} (object : Object State Input Answer) (from : State) (calls : List (Finished Input Answer)) (to : State) : Type 0 where
  pub allowed : legal_from object from calls ≡ true
  pub reached : replayed object from calls ≡ to

module _ {State Input Answer : Type 0} (object : Object State Input Answer) where
  pub Replays-nil : (state : State) → Replays object state [] state
  Replays-nil state = record { allowed = refl; reached = refl }

  pub Replays-cons : (state next to : State) (call : Finished Input Answer) (calls : List (Finished Input Answer))
      → object.allows state call.input call.answer ≡ true → object.after state call.input ≡ next → Replays object next calls to
      → Replays object state (call ∷ calls) to
  Replays-cons state next to call calls allows leaves rest = record {
    allowed = and_from _ _ allows (subst (λ s. legal_from object s calls ≡ true) (sym leaves) rest.allowed);
    reached = ap (λ s. replayed object s calls) leaves ∙ rest.reached;
  }

  pub Replays-append : (from middle to : State) (xs ys : List (Finished Input Answer))
      → Replays object from xs middle → Replays object middle ys to → Replays object from (xs ++ ys) to
  Replays-append from middle to [] ys first second =
      subst (λ s. Replays object s ys to) (sym first.reached) second
  Replays-append from middle to (x ∷ xs) ys first second =
      let parts = and_parts _ _ first.allowed in
      Replays-cons from (object.after from x.input) to x (xs ++ ys) parts.0 refl
      (Replays-append (object.after from x.input) middle to xs ys (record { allowed = parts.1; reached = first.reached }) second)

  -- calls that leave the state as it is
  pub Replays-observers : (state : State) (observers : List (Listing Input Answer))
      → ((k : ℕ) (c : Listing Input Answer) → slice_get observers k ≡ Some c → object.allows state c.input c.answer ≡ true)
      → ((k : ℕ) (c : Listing Input Answer) → slice_get observers k ≡ Some c → object.after state c.input ≡ state)
      → Replays object state (map call_of observers) state
  Replays-observers state [] observed kept = Replays-nil state
  Replays-observers state (c ∷ cs) observed kept =
      Replays-cons state state state (call_of c) (map call_of cs) (observed zero c refl) (kept zero c refl)
      (Replays-observers state cs (λ k d e. observed (suc k) d e) (λ k d e. kept (suc k) d e))
