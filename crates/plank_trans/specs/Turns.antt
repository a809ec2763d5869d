-- The turn of a location of a program, which is given by its numbers.
use Rattle.std.specs.Prelude.{◌≡◌, ℕ, List}
use Rattle.plank_prog.specs.declared.methods.Method.{Method}
use Rattle.plank_fact.specs.Outlines.{Point}
use Rattle.plank_query.specs.declared.turns.OwnTurn.{OwnTurn}
use Rattle.plank_query.specs.Places.{IsOwnTurnAt}

pub record IsTurnOf {methods : List Method} (x : Point methods) (m l : ℕ) (t : OwnTurn) : Type 0 where
  pub of_method : x.m ≡ m
  pub of_location : x.l ≡ l
  pub turn : IsOwnTurnAt x t.exit t
