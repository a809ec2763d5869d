-- A full assignment that is tried: its values let in none that disagreed, and where it does it settles the search.
use Rattle.std.proofs.Common.{◌≡◌, ◌∙◌, ℕ, Bool, true, false, List, refl}
use Rattle.std.specs.Prelude.{Option}
use Rattle.std.proofs.lemmas.List.{length-set}
use Rattle.plank_search.specs.Assignments.{IsOpen, with_value, AllAgree, Narrows}
use Rattle.plank_search.specs.Answers.{IsWithin, Settles, Fills, Propagates}
use Rattle.plank_search.proofs.Narrowing.{with_value-within}
use Rattle.std.specs.Prelude.{Some}

pub within-same : (values : List (Option Bool)) → IsWithin values values
within-same values = record { within = λ full agrees. agrees; same_length = refl }

pub within-then : {a b c : List (Option Bool)} → IsWithin a b → IsWithin b c → IsWithin a c
within-then first second = record {
  within = λ full agrees. first.within full (second.within full agrees);
  same_length = second.same_length ∙ first.same_length;
}

-- a put, and what follows from it
pub put-within : (m : (ℕ → Bool) → Type 0) (values put after : List (Option Bool)) (part : ℕ) (value : Bool) → IsOpen values part →
    put ≡ with_value values part value → Narrows m put after → IsWithin values after
put-within m values put after part value open_part put_is follows =
    let follows_there : Narrows m (with_value values part value) after = rw put_is at follows in
    record {
      within = λ full agrees. with_value-within values part value open_part full (follows_there.within full agrees);
      same_length = follows_there.same_length ∙ length-set values part (Some value);
    }

-- values within the old ones of which all that agree do
pub within-settles : (m : (ℕ → Bool) → Type 0) (old new : List (Option Bool)) → IsWithin old new → AllAgree m new → Settles m old new
within-settles m old new is all = record { every = all; within = is.within; same_length = is.same_length }

-- after values that follow
pub settles-after : (m : (ℕ → Bool) → Type 0) (start values after : List (Option Bool)) → Narrows m start values → Settles m values after → Settles m start after
settles-after m start values after follows settled = record {
  every = settled.every;
  within = λ full agrees. follows.within full (settled.within full agrees);
  same_length = settled.same_length ∙ follows.same_length;
}

-- the same, whatever the propagation answers
pub fills : (m : (ℕ → Bool) → Type 0) (values put after : List (Option Bool)) (part : ℕ) (value goes : Bool) → IsOpen values part →
    put ≡ with_value values part value → Propagates m put after goes → Fills values after goes
fills m values put after part value true open_part put_is follows = put-within m values put after part value open_part put_is follows
fills m values put after part value false open_part put_is none = tt
