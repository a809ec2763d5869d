-- A branch of the search: what its failing rules out, and what its success leaves.
use Rattle.std.proofs.Common.{◌≡◌, ℕ, Bool, false, ◌∙◌, ap}
use Rattle.std.specs.Prelude.{List, Option, not, unwrap_or}
use Rattle.std.proofs.lemmas.List.{length-map}
use Rattle.plank_search.specs.Assignments.{IsOpen, with_value, NoneAgrees, Narrows, filled, full_of}
use Rattle.plank_search.specs.Answers.{Searches, Settles, IsSolution}
use Rattle.plank_search.proofs.Assigning.{filled-agrees}
use Rattle.plank_search.proofs.Narrowing.{Narrows-then, with_value-agrees}
use Rattle.plank_search.proofs.Probing.{ruled_out}

-- the other value follows where nothing agrees with the one
refuted : {m : (ℕ → Bool) → Type 0} (values : List (Option Bool)) (part : ℕ) (value : Bool) → IsOpen values part →
    NoneAgrees m (with_value values part value) → Narrows m values (with_value values part (not value))
refuted values part value open_part none =
    (ruled_out values part value open_part (λ full meets agrees given. none.contradicts full meets (with_value-agrees values part value full agrees given))).0

-- the same, along the search's own steps
pub branch_failed : (m : (ℕ → Bool) → Type 0) (start values put after saved next : List (Option Bool)) (part : ℕ) (value : Bool) →
    Narrows m start values → IsOpen values part → put ≡ with_value values part value → Searches m put after false →
    saved ≡ values → next ≡ with_value saved part (not value) → Narrows m start next
branch_failed m start values put after saved next part value so_far open_part put_is none saved_is next_is =
    let none_there : NoneAgrees m (with_value values part value) = rw put_is at none in
    let next_there : next ≡ with_value values part (not value) = next_is ∙ ap (λ (v : List (Option Bool)). with_value v part (not value)) saved_is in
    Narrows-then so_far (rw next_there (refuted values part value open_part none_there))

-- the same, after a decision that left the values as they were
pub decision_failed : (m : (ℕ → Bool) → Type 0) (start values decided put after saved next : List (Option Bool)) (part : ℕ) (value : Bool) →
    Narrows m start values → (decided ≡ values) × IsOpen decided part → put ≡ with_value decided part value → Searches m put after false →
    saved ≡ decided → next ≡ with_value saved part (not value) → Narrows m start next
decision_failed m start values decided put after saved next part value so_far open_part put_is none saved_is next_is =
    branch_failed m start decided put after saved next part value (rw open_part.0 so_far) open_part.1 put_is none saved_is next_is

-- where all that agree are of this kind, so is the filled assignment
pub solved : (m : (ℕ → Bool) → Type 0) (given values : List (Option Bool)) (found : List Bool) → Settles m given values → found ≡ filled values → IsSolution m given found
solved m given values found settled found_is = rw found_is (record {
  meets_all = settled.every.all (full_of (filled values)) (filled-agrees values);
  agrees = settled.within (full_of (filled values)) (filled-agrees values);
  every_part = length-map values (λ (value : Option Bool). unwrap_or value false) ∙ settled.same_length;
})
