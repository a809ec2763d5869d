-- Numbers of the facts that say what is true now, or what was true.
use Rattle.std.specs.Prelude.{◌≡◌, ◌↔◌, ℕ, Bool, true, false, not, ◌&&◌, ◌==◌, List, Option, Some, None}
use Rattle.plank_prog.specs.declared.headers.Header.{Header}
use Rattle.plank_prog.specs.declared.methods.Method.{Method}
use Rattle.plank_pic.specs.declared.literals.Literal.{Literal}
use Rattle.plank_fact.specs.declared.facts.Fact.{Fact}
use Rattle.plank_pic.specs.Below.{some_below}
use Rattle.plank_fact.specs.Tables.{IsNumbered, fact_at}

abbrev pub is_of_kind : Bool → Option Fact → Bool
is_of_kind past None = false
is_of_kind past (Some (Fact.Now L)) = not past
is_of_kind past (Some (Fact.Past L)) = past

-- k is the number of a fact of this kind of the m-th method, below n
abbrev pub is_kind_at : Header → List Method → ℕ → Bool → ℕ → ℕ → Bool
is_kind_at h methods m past k i = is_of_kind past (fact_at h methods m i) && (k == i)

abbrev pub kind_below : Header → List Method → ℕ → Bool → ℕ → ℕ → Bool
kind_below h methods m past n k = some_below (is_kind_at h methods m past k) n

-- a literal as a fact of the present or of the past
abbrev pub fact_of : Bool → Literal → Fact
fact_of true L = Fact.Past L
fact_of false L = Fact.Now L

-- just the numbers of the facts of this kind
abbrev pub AreOfKind : Header → Method → Bool → (ℕ → Bool) → Type 0
AreOfKind h m past set = (n : ℕ) → (set n ≡ true) ↔ ((L : Literal) × IsNumbered h m n (fact_of past L))
