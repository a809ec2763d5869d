-- All that the rule of hindsight may take, as if it were true at one moment.
use Rattle.std.specs.Prelude.{◌≡◌, ℕ, ◌*◌, ◌<◌, Bool, true, List, Some, Contains}
use Rattle.plank_base.specs.declared.limits.TheConstants.{MARK_WORDS_PER_LOCATION}
use Rattle.plank_prog.specs.declared.headers.Header.{Header}
use Rattle.plank_prog.specs.declared.blocks.Reference.{Reference}
use Rattle.plank_prog.specs.declared.methods.Method.{Method}
use Rattle.plank_pic.specs.declared.literals.Literal.{Literal}
use Rattle.plank_fact.specs.declared.facts.Fact.{Fact}
use Rattle.plank_fact.specs.Literals.{past_name}
use Rattle.plank_fact.specs.Tables.{IsNumbered}
use Rattle.plank_fact.specs.Outlines.{Outline}
use Rattle.plank_follow.specs.Following.{IsFollowingFrom}

abbrev pub AreAmong : List Literal → List Literal → Type 0
AreAmong some all = (L : Literal) → Contains some L → Contains all L

-- what a past fact says is listed, and that its node is shared
abbrev pub IsWitnessedIn : List Literal → Literal → Type 0
IsWitnessedIn all P = Contains all P × ((q : Reference) → past_name P ≡ Some q → Contains all (Literal.Shared q))

-- listed are the literals that are true and last, those that are true, and what the known past facts below a number say
pub record AreTogether (h : Header) (m : Method) (lasting presents : List Literal) (known : ℕ → Bool) (count : ℕ) (all : List Literal) : Type 0 where
  pub lasts : AreAmong lasting all
  pub is_so : AreAmong presents all
  pub was_so : (n : ℕ) (P : Literal) → n < count → IsNumbered h m n (Fact.Past P) → known n ≡ true → IsWitnessedIn all P

abbrev pub AreSmall : (ℕ → Bool) → Type 0
AreSmall done = (k : ℕ) → done k ≡ true → k < 64 * MARK_WORDS_PER_LOCATION

-- all that follows by one use from a past fact of some numbers is known
abbrev pub AreUsed : Outline → Method → (lasting presents : List Literal) → (done known : ℕ → Bool) → Type 0
AreUsed O m lasting presents done known =
    (k j : ℕ) (C : Literal) → done k ≡ true → IsNumbered O.header m j (Fact.Past C) → IsFollowingFrom O m lasting presents k C → known j ≡ true
