-- What an answer found in a picture tells the search.
use Rattle.std.specs.Prelude.{ℕ, Bool, true, false, Result, Ok, Err}
use Rattle.plank_search.specs.declared.rules.Look.{Look}
use Rattle.plank_search.specs.declared.rules.Look.TheVariants.{Fails, Holds, Needs}

abbrev pub look_answer : Result Bool ℕ → Look
look_answer (Ok true) = Holds
look_answer (Ok false) = Fails
look_answer (Err part) = Needs part
