-- What a call knows in pictures in which it may arrive, where a set has the past facts that are carried there.
use Rattle.std.specs.Prelude.{◌≡◌, ℕ, Bool, true, List}
use Rattle.plank_prog.specs.declared.headers.Header.{Header}
use Rattle.plank_prog.specs.declared.methods.Method.{Method}
use Rattle.plank_pic.specs.declared.literals.Literal.{Literal}
use Rattle.plank_fact.specs.declared.facts.Fact.{Fact}
use Rattle.plank_fact.specs.Tables.{IsNumbered}
use Rattle.plank_fact.specs.Outlines.{Outline}
use Rattle.plank_fact.specs.After.{IsKnown}
use Rattle.plank_query.specs.declared.predicates.Claim.{Claim}
use Rattle.plank_query.specs.declared.situations.Situation.{Situation}
use Rattle.plank_shown.specs.Shown.{Arrives}

-- the past fact is in the set
abbrev pub IsPastIn : Header → Method → (ℕ → Bool) → Literal → Type 0
IsPastIn h m set L = (n : ℕ) × IsNumbered h m n (Fact.Past L) × (set n ≡ true)

abbrev pub IsKnownFrom : Outline → Method → Situation → List Claim → (ℕ → Bool) → Fact → Type 0
IsKnownFrom O m S claims carried = IsKnown O m (Arrives O.header S claims) (IsPastIn O.header m carried)
