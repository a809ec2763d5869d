-- How many of some parts are yes: the meaning of a count, and bounds known under a partial assignment.
use Rattle.std.specs.Prelude.{◌≡◌, ◌+◌, ◌≤◌, ◌&&◌, nat_le, ℕ, Bool, true, false, List, [], length, Option, Some, None, slice_index_or, count_by}
use Rattle.plank_search.specs.Assignments.{Agrees}
use Rattle.plank_search.specs.declared.counts.Count.{Count}
use Rattle.plank_search.specs.declared.counts.Tally.{Tally}
use Rattle.plank_search.specs.Answers.{IsOpenIfSome}

-- at least the least number of the parts and at most the most are yes
abbrev pub count_holds : (ℕ → Bool) → Count → Bool
count_holds full count = nat_le count.least (count_by full count.parts) && nat_le (count_by full count.parts) count.most

-- the count of this number
abbrev pub count_at : List Count → ℕ → Count
count_at counts index = slice_index_or counts index (record { parts = []; least = 0; most = 0 })

-- the first open part, the earlier one where there is one
abbrev pub earlier_or : Option ℕ → ℕ → Option ℕ
earlier_or None part = Some part
earlier_or (Some first) part = Some first

-- the tally with one more part, read as this value
abbrev pub tally_with : Tally → ℕ → Option Bool → Tally
tally_with tally part None = record { known_yes = tally.known_yes; still_open = tally.still_open + 1; first_open = earlier_or tally.first_open part }
tally_with tally part (Some true) = record { known_yes = tally.known_yes + 1; still_open = tally.still_open; first_open = tally.first_open }
tally_with tally part (Some false) = tally

-- the tally of the parts: how many are yes of all that agree, and which part is open
pub record TallyOf (values : List (Option Bool)) (parts : List ℕ) (tally : Tally) : Type 0 where
  pub at_least : (full : ℕ → Bool) → Agrees values full → tally.known_yes ≤ count_by full parts
  pub at_most : (full : ℕ → Bool) → Agrees values full → count_by full parts ≤ tally.known_yes + tally.still_open
  pub first : IsOpenIfSome values tally.first_open
  pub none : tally.first_open ≡ None → tally.still_open ≡ 0
  pub within : tally.known_yes + tally.still_open ≤ length parts
