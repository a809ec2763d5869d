-- What follows from a weaker demand follows from a stronger one. Systems of rules carry closures over by it.
use Rattle.std.proofs.Common.{ℕ, Bool, true, false, List}
use Rattle.std.specs.Prelude.{Option}
use Rattle.plank_search.specs.Answers.{Propagates}

pub stronger : {meets wider : (ℕ → Bool) → Type 0} (old new : List (Option Bool)) (goes : Bool) → ((full : ℕ → Bool) → meets full → wider full) →
    Propagates wider old new goes → Propagates meets old new goes
stronger old new true implies follows = record {
  keeps = λ full meets agrees. follows.keeps full (implies full meets) agrees;
  within = follows.within;
  not_wider = follows.not_wider;
  same_length = follows.same_length;
}
stronger old new false implies none = record { contradicts = λ full meets agrees. none.contradicts full (implies full meets) agrees }
