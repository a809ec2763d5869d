-- What refutes a use of the rule of hindsight: a picture, or an effect, where all is true that the rule takes, and its conclusion
-- is not. Where nothing does, the rule holds.
use Rattle.std.specs.Prelude.{◌≡◌, ◌⊎◌, ℕ, ◌<◌, Bool, true, false, List, [], length, slice_get, Some, Contains}
use Rattle.std.specs.Option.{option_map_or}
use Rattle.plank_prog.specs.declared.headers.Header.{Header}
use Rattle.plank_prog.specs.declared.methods.Method.{Method}
use Rattle.plank_pic.specs.declared.literals.Literal.{Literal}
use Rattle.plank_pic.specs.Pictures.{Picture}
use Rattle.plank_pic.specs.Lawful.{IsLawful}
use Rattle.plank_pic.specs.Truths.{truth}
use Rattle.plank_fact.specs.Outlines.{Outline, Point, IsClaimed}
use Rattle.plank_fact.specs.OwnSteps.{own_call, method_frame}
use Rattle.plank_fact.specs.Effects.{is_known_to, IsEffect}
use Rattle.plank_fact.specs.Hindsight.{is_node_shared, is_witnessed, AllTrue}
use Rattle.plank_query.specs.declared.goals.Goal.{Goal}
use Rattle.plank_query.specs.declared.goals.Moment.{Moment}
use Rattle.plank_query.specs.declared.predicates.Predicate.{Predicate}
use Rattle.plank_query.specs.declared.predicates.Speaker.{Speaker}
use Rattle.plank_query.specs.declared.predicates.Claim.{Claim}
use Rattle.plank_query.specs.Predicates.{holds}
use Rattle.plank_query.specs.declared.situations.Situation.{Situation}
use Rattle.plank_query.specs.Situations.{caller}
use Rattle.plank_prog.specs.declared.blocks.Block.{Block}
use Rattle.plank_fact.specs.declared.facts.Fact.{Fact}
use Rattle.plank_claim.specs.Claims.{Adds}
use Rattle.plank_past.specs.Adding.{AddsOne, AreTrueOfOwn, IsTrueIfGiven}
use Rattle.plank_past.specs.declared.hinds.Hinds.{Hinds}

-- the conclusion is not true of a shared node
abbrev pub refuting : Literal → Goal
refuting conclusion = Goal.Fails Moment.After (Predicate.IsWitnessed conclusion)

abbrev pub lasting : Hinds → Literal → Type 0
lasting u L = Contains u.lasting.now L

-- it was true already when the past fact was, and the conclusion was not
pub record IsRefutedAtOnce (h : Header) (m : Method) (u : Hinds) (conclusion : Literal) : Type 0 where
  pub picture : Picture
  pub lawful : IsLawful (method_frame h m) picture
  pub lasting_true : AllTrue (lasting u) picture (own_call m)
  pub witnessed : is_witnessed picture (own_call m) u.past ≡ true
  pub given : option_map_or (truth picture (own_call m)) u.present true ≡ true
  pub is_not : is_witnessed picture (own_call m) conclusion ≡ false

-- an effect of the site made it true, and the conclusion was not true then
pub record IsRefutedBy (O : Outline) (m : Method) (u : Hinds) (present : Literal) (site : Point O.methods) (conclusion : Literal) : Type 0 where
  pub before : Picture
  pub after : Picture
  pub effect : IsEffect O m site before after
  pub lasting_true : AllTrue (lasting u) before (own_call m)
  pub shared : is_node_shared before (own_call m) u.past ≡ true
  pub not_yet : truth before (own_call m) present ≡ false
  pub then_true : truth after (own_call m) present ≡ true
  pub is_not : is_witnessed after (own_call m) conclusion ≡ false

-- of the sites of the m-th method before the l-th location, or of all methods before it
pub record IsRefutedWithin (O : Outline) (m : Method) (u : Hinds) (present : Literal) (passed : ℕ → ℕ → Type 0) (conclusion : Literal) : Type 0 where
  pub site : Point O.methods
  pub there : passed site.m site.l
  pub by : IsRefutedBy O m u present site conclusion

-- it is refuted
abbrev pub IsRefuted : (O : Outline) → Method → Hinds → Literal → Type 0
IsRefuted O m u conclusion =
    IsRefutedAtOnce O.header m u conclusion
    ⊎ ((present : Literal) × (u.present ≡ Some present) × IsRefutedWithin O m u present (λ k l. k < length O.methods) conclusion)

-- ---- what the claims of the questions say

abbrev pub ClaimsAtOnce : Hinds → List Claim → Type 0
ClaimsAtOnce u claims = (h : Header) →
    Adds h [] claims (λ S p. (AreTrueOfOwn u.lasting.now S p × (holds h S p (Predicate.IsWitnessed u.past) ≡ true)) × IsTrueIfGiven u.present S p)

-- what the site claims of the names that its block reads is true of the other call
abbrev pub AreKnown : (O : Outline) → Point O.methods → Block → Situation → Picture → Type 0
AreKnown O x b S p = (L : Literal) → IsClaimed O x (Fact.Now L) → is_known_to b L ≡ true → truth p (caller S Speaker.Other) L ≡ true

abbrev pub ClaimsBefore : (O : Outline) → Point O.methods → Block → Hinds → Literal → List Claim → Type 0
ClaimsBefore O x b u present claims =
    Adds O.header [] claims (λ S p. ((AreKnown O x b S p × AreTrueOfOwn u.lasting.now S p)
    × (holds O.header S p (Predicate.IsNodeShared u.past) ≡ true)) × (holds O.header S p (Predicate.IsTrue Speaker.Own present) ≡ false))

abbrev pub ClaimsAfter : Literal → List Claim → Type 0
ClaimsAfter present claims = AddsOne [] claims (Predicate.IsTrue Speaker.Own present) true

-- ---- sets of conclusions, by their numbers, that grow by those of which this is so

pub record Grows (conclusions : List Literal) (Added : Literal → Type 0) (old new : ℕ → Bool) : Type 0 where
  pub kept : (k : ℕ) → old k ≡ true → new k ≡ true
  pub added : (k : ℕ) (C : Literal) → slice_get conclusions k ≡ Some C → Added C → new k ≡ true
  pub only : (k : ℕ) (C : Literal) → slice_get conclusions k ≡ Some C → new k ≡ true → (old k ≡ true) ⊎ Added C

abbrev pub nothing : ℕ → Bool
nothing k = false
