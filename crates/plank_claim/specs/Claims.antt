-- Which facts of a location are claims of a question, one number after the other; and what claims say that are added to
-- others. Questions about own pictures and effects begin with them.
use Rattle.std.specs.Prelude.{◌≡◌, ◌↔◌, ℕ, zero, suc, ◌+◌, ◌<◌, Bool, true, not, ◌&&◌, List, [], ◌∷◌, ◌++◌, Option, Some, None, if◌then◌else◌}
use Rattle.plank_prog.specs.declared.headers.Header.{Header}
use Rattle.plank_prog.specs.declared.methods.Method.{Method}
use Rattle.plank_prog.specs.declared.programs.Program.{Program}
use Rattle.plank_prog.specs.Blocks.{block_names}
use Rattle.plank_bits.specs.Words.{has}
use Rattle.plank_pic.specs.declared.literals.Literal.{Literal}
use Rattle.plank_pic.specs.Pictures.{Picture}
use Rattle.plank_pic.specs.Truths.{truth}
use Rattle.plank_pic.specs.Calls.{is_usable}
use Rattle.plank_fact.specs.declared.facts.Fact.{Fact}
use Rattle.plank_fact.specs.Literals.{is_over, is_of_call}
use Rattle.plank_fact.specs.Tables.{fact_at}
use Rattle.plank_fact.specs.Effects.{is_known_to}
use Rattle.plank_fact.specs.Outlines.{Outline, Point, IsClaimed}
use Rattle.plank_fact.specs.Forced.{outline}
use Rattle.plank_query.specs.declared.situations.Situation.{Situation}
use Rattle.plank_query.specs.declared.predicates.Speaker.{Speaker}
use Rattle.plank_query.specs.declared.predicates.Predicate.{Predicate}
use Rattle.plank_query.specs.declared.predicates.Claim.{Claim}
use Rattle.plank_query.specs.Situations.{caller}
use Rattle.plank_query.specs.Predicates.{AreRight}
use Rattle.plank_claim.specs.declared.known.Known.{Known}

-- ---- which are meant

abbrev pub passes : Known → Literal → Bool
passes Known.All L = true
passes (Known.Read b) L = is_known_to b.now L
passes (Known.Named b) L = not (is_of_call L) && is_over (block_names b.now) L

-- ---- lists of claims

abbrev pub claim : Speaker → Literal → Claim
claim speaker L = record { predicate = Predicate.IsTrue speaker L; value = true }

abbrev pub usable_claim : ℕ → Claim
usable_claim i = record { predicate = Predicate.IsUsable i; value = true }

abbrev pub claim_of_literal : Speaker → Known → Literal → Option Claim
claim_of_literal speaker known L = if passes known L then Some (claim speaker L) else None

abbrev pub claim_of_fact : Speaker → Known → Option Fact → Option Claim
claim_of_fact speaker known None = None
claim_of_fact speaker known (Some (Fact.Past L)) = None
claim_of_fact speaker known (Some (Fact.Now L)) = claim_of_literal speaker known L

-- of the fact of number n, where its mark is not set
abbrev pub claim_at : Header → List Method → ℕ → (ℕ → Bool) → ℕ → Speaker → Known → ℕ → Option Claim
claim_at h methods m marks first speaker known n = if marks (first + n) then None else claim_of_fact speaker known (fact_at h methods m n)

abbrev pub listed : {A : Type 0} → Option A → List A
listed None = []
listed (Some a) = a ∷ []

-- those of the numbers below n
unfoldable pub listed_below : {A : Type 0} → (ℕ → Option A) → ℕ → List A
listed_below of zero = []
listed_below of (suc n) = listed_below of n ++ listed (of n)

-- ---- what they say

-- the new claims say what the old ones do, and this
abbrev pub Adds : Header → List Claim → List Claim → (Situation → Picture → Type 0) → Type 0
Adds h old new More = (S : Situation) (p : Picture) → AreRight h S p new ↔ (AreRight h S p old × More S p)

-- what is claimed at the location, and meant, is true of a call
abbrev pub AreTrue : (O : Outline) → Point O.methods → Speaker → Known → Situation → Picture → Type 0
AreTrue O x speaker known S p = (L : Literal) → IsClaimed O x (Fact.Now L) → passes known L ≡ true → truth p (caller S speaker) L ≡ true

-- the names below n are usable
abbrev pub AreUsable : ℕ → Situation → Picture → Type 0
AreUsable n S p = (i : ℕ) → i < n → is_usable p i ≡ true

-- the claims of the l-th location of the m-th method are added
abbrev pub AddsClaims : Program → List ℕ → ℕ → ℕ → Speaker → Known → List Claim → List Claim → Type 0
AddsClaims program words m l speaker known old new =
    (x : Point program.methods) → x.m ≡ m → x.l ≡ l → Adds program.header old new (AreTrue (outline program.header program.methods (has words)) x speaker known)
