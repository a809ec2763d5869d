-- A schedule in which a call begins in the middle of another.
use Rattle.std.specs.Prelude.{ℕ, pos, List, [], ◌∷◌}
use Rattle.plank_sem.specs.declared.steps.Act.{Act}
use Rattle.plank_sem.specs.declared.steps.Act.TheVariants.{Invoke, Go}
use Rattle.plank_sem.specs.declared.steps.Choice.{Choice}

abbrev pub by : ℕ → Act → Choice
by thread act = record { thread = record { 0 = thread }; act = act }

-- newest first: thread 1 begins a call of method 0, thread 2 one of method 1, and both go on
abbrev pub two_calls : List Choice
two_calls = by 1 Go ∷ by 2 Go ∷ by 2 (Invoke 1 (pos 7)) ∷ by 1 (Invoke 0 (pos 7)) ∷ []
