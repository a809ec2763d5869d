-- What a session is asked about: rules, clauses, and the values given to all of its questions.
use Rattle.std.specs.Prelude.{List, Option, Bool}
use Rattle.plank_search.specs.declared.clauses.Literal.{Literal}

-- rules of this type, clauses, and a value or none for each part
pub record Posed (R : Type 0) : Type 0 where
  pub rules : R
  pub clauses : List (List Literal)
  pub given : List (Option Bool)
