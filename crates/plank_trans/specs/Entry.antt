-- What is claimed of the pictures where a method begins.
use Rattle.std.specs.Prelude.{◌≡◌, ℕ, suc, ◌<◌, true, false, List, []}
use Rattle.plank_prog.specs.declared.headers.Header.{Header}
use Rattle.plank_pic.specs.declared.parts.Part.{Part}
use Rattle.plank_pic.specs.Pictures.{Picture}
use Rattle.plank_query.specs.declared.predicates.Claim.{Claim}
use Rattle.plank_query.specs.declared.situations.Situation.{Situation}
use Rattle.plank_claim.specs.Claims.{Adds}

-- the call has changed nothing, and the first variables are null
abbrev pub IsBeginning : ℕ → Situation → Picture → Type 0
IsBeginning variables S p = (p Part.Spent ≡ false) × ((v : ℕ) → v < variables → p (Part.Null (suc v)) ≡ true)

abbrev pub AreOfEntry : ℕ → List Claim → Type 0
AreOfEntry variables claims = (h : Header) → Adds h [] claims (IsBeginning variables)
