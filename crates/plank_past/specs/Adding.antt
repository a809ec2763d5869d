-- What is claimed of a picture in a use of the rule of hindsight.
use Rattle.std.specs.Prelude.{◌≡◌, Bool, true, List, Option, Contains}
use Rattle.std.specs.Option.{option_map_or}
use Rattle.plank_prog.specs.declared.headers.Header.{Header}
use Rattle.plank_pic.specs.declared.literals.Literal.{Literal}
use Rattle.plank_pic.specs.Pictures.{Picture}
use Rattle.plank_pic.specs.Truths.{truth}
use Rattle.plank_query.specs.declared.situations.Situation.{Situation}
use Rattle.plank_query.specs.declared.predicates.Speaker.{Speaker}
use Rattle.plank_query.specs.declared.predicates.Predicate.{Predicate}
use Rattle.plank_query.specs.declared.predicates.Claim.{Claim}
use Rattle.plank_query.specs.Situations.{caller}
use Rattle.plank_query.specs.Predicates.{holds}
use Rattle.plank_claim.specs.Claims.{Adds}

abbrev pub own_claim : Literal → Claim
own_claim L = record { predicate = Predicate.IsTrue Speaker.Own L; value = true }

-- one claim is added
abbrev pub AddsOne : List Claim → List Claim → Predicate → Bool → Type 0
AddsOne old new predicate value = (h : Header) → Adds h old new (λ S p. holds h S p predicate ≡ value)

-- each of these is true of the own call
abbrev pub AreTrueOfOwn : List Literal → Situation → Picture → Type 0
AreTrueOfOwn those S p = (L : Literal) → Contains those L → truth p (caller S Speaker.Own) L ≡ true

abbrev pub AddsTrue : List Claim → List Claim → List Literal → Type 0
AddsTrue old new those = (h : Header) → Adds h old new (AreTrueOfOwn those)

-- what is given, if anything, is true of the own call
abbrev pub IsTrueIfGiven : Option Literal → Situation → Picture → Type 0
IsTrueIfGiven given S p = option_map_or (truth p (caller S Speaker.Own)) given true ≡ true

abbrev pub AddsGiven : List Claim → List Claim → Option Literal → Type 0
AddsGiven old new given = (h : Header) → Adds h old new (IsTrueIfGiven given)
