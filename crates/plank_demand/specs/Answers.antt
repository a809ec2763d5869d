-- What an answer lacks.
use Rattle.std.specs.Prelude.{◌≡◌, ℕ, List, slice_get, Some}
use Rattle.plank_fact.specs.declared.facts.Fact.{Fact}
use Rattle.plank_fact.specs.Outlines.{Outline, Point, IsMarked}

-- one of the facts is not claimed at the location
pub record LacksOne (O : Outline) (x : Point O.methods) (facts : List Fact) : Type 0 where
  pub number : ℕ
  pub fact : Fact
  pub needed : slice_get facts number ≡ Some fact
  pub marked : IsMarked O x fact
