-- What facts say, by their numbers.
use Rattle.std.specs.Prelude.{ℕ, Bool, List, Option, Some, None, if◌then◌else◌}
use Rattle.plank_prog.specs.declared.headers.Header.{Header}
use Rattle.plank_prog.specs.declared.methods.Method.{Method}
use Rattle.plank_pic.specs.declared.literals.Literal.{Literal}
use Rattle.plank_fact.specs.declared.facts.Fact.{Fact}
use Rattle.plank_fact.specs.Literals.{is_lasting}
use Rattle.plank_fact.specs.Tables.{fact_at}

-- what is true now
abbrev pub now_of : Option Fact → Option Literal
now_of None = None
now_of (Some (Fact.Now L)) = Some L
now_of (Some (Fact.Past L)) = None

-- what was true at some moment
abbrev pub past_of : Option Fact → Option Literal
past_of None = None
past_of (Some (Fact.Now L)) = None
past_of (Some (Fact.Past L)) = Some L

-- what is true now by the fact of number n, where it is in the set
abbrev pub now_at : Header → List Method → ℕ → (ℕ → Bool) → ℕ → Option Literal
now_at h methods m set n = if set n then now_of (fact_at h methods m n) else None

abbrev pub kept_lasting : Option Literal → Option Literal
kept_lasting None = None
kept_lasting (Some L) = if is_lasting L then Some L else None

-- the same, where it never changes
abbrev pub lasting_at : Header → List Method → ℕ → (ℕ → Bool) → ℕ → Option Literal
lasting_at h methods m set n = kept_lasting (now_at h methods m set n)

-- now or at some moment
abbrev pub literal_of : Option Fact → Literal
literal_of None = Literal.InSet
literal_of (Some (Fact.Now L)) = L
literal_of (Some (Fact.Past L)) = L

abbrev pub literal_at : Header → List Method → ℕ → ℕ → Literal
literal_at h methods m n = literal_of (fact_at h methods m n)
