-- How many words of marks a program has.
use Rattle.std.specs.Prelude.{ℕ, ◌*◌, List, sum_by}
use Rattle.plank_base.specs.declared.limits.TheConstants.{MARK_WORDS_PER_LOCATION}
use Rattle.plank_prog.specs.declared.methods.Method.{Method}
use Rattle.plank_prog.specs.Methods.{location_count}

abbrev pub mark_words : List Method → ℕ
mark_words methods = MARK_WORDS_PER_LOCATION * sum_by location_count methods
