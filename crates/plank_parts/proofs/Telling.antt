-- An answer that settles a question of a picture tells the search what it asks.
use Rattle.std.proofs.Common.{◌≡◌, ℕ, Bool, true, false, List, Option, sym, ◌∙◌}
use Rattle.std.specs.Prelude.{Result, Ok, Err}
use Rattle.std.proofs.lemmas.Bool.{true≢false}
use Rattle.plank_walk.specs.Settles as walk
use Rattle.plank_search.specs.Assignments.{Agrees, value_at}
use Rattle.plank_search.specs.Answers.{Tells}
use Rattle.plank_parts.specs.Tellings.{look_answer}

-- both ways to say that an assignment agrees
pub agrees : (values : List (Option Bool)) (full : ℕ → Bool) → Agrees values full → walk.Agrees (value_at values) full
agrees values full is = record { decided = is.decided }

pub agrees_back : (values : List (Option Bool)) (full : ℕ → Bool) → walk.Agrees (value_at values) full → Agrees values full
agrees_back values full is = record { decided = is.decided }

pub tells : (meaning : (ℕ → Bool) → Bool) (values : List (Option Bool)) (answer : Result Bool ℕ) →
    walk.Settles meaning (value_at values) answer → Tells (λ full. meaning full ≡ true) values (look_answer answer)
tells meaning values (Ok true) settled = record { all = λ full is. settled full (agrees values full is) }
tells meaning values (Ok false) settled = record { contradicts = λ full meets is. true≢false (sym meets ∙ settled full (agrees values full is)) }
tells meaning values (Err part) settled = settled
