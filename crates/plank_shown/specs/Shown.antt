-- What one picture shows of a fact, and what each picture shows in which a call may arrive.
use Rattle.std.specs.Prelude.{◌≡◌, ℕ, Bool, true, List, length, Option, Some, None}
use Rattle.plank_prog.specs.declared.headers.Header.{Header}
use Rattle.plank_prog.specs.declared.methods.Method.{Method}
use Rattle.plank_pic.specs.Pictures.{Picture}
use Rattle.plank_pic.specs.Truths.{Caller, truth}
use Rattle.plank_fact.specs.declared.facts.Fact.{Fact}
use Rattle.plank_fact.specs.Tables.{fact_at}
use Rattle.plank_fact.specs.OwnSteps.{own_call}
use Rattle.plank_fact.specs.Hindsight.{is_witnessed}
use Rattle.plank_query.specs.declared.goals.Goal.{Goal}
use Rattle.plank_query.specs.declared.goals.Moment.{Moment}
use Rattle.plank_query.specs.declared.predicates.Claim.{Claim}
use Rattle.plank_query.specs.declared.predicates.Speaker.{Speaker}
use Rattle.plank_query.specs.declared.predicates.Predicate.{Predicate}
use Rattle.plank_query.specs.declared.situations.Situation.{Situation}
use Rattle.plank_query.specs.Situations.{own_variables, IsSituated}
use Rattle.plank_query.specs.Predicates.{AreRight}

-- the literal is true, and for a past fact its node is shared
abbrev pub shows : Picture → Caller → Fact → Bool
shows p c (Fact.Now L) = truth p c L
shows p c (Fact.Past L) = is_witnessed p c L

-- the picture is one after a step of the situation, from a picture of which the claims are right
pub record Arrives (h : Header) (S : Situation) (claims : List Claim) (p : Picture) : Type 0 where
  pub before : Picture
  pub situated : IsSituated h S before p
  pub right : AreRight h S before claims

-- each of these pictures shows the fact to a call of the method
abbrev pub IsShown : Method → (Picture → Type 0) → Fact → Type 0
IsShown m Those f = (p : Picture) → Those p → shows p (own_call m) f ≡ true

-- the situation sees a call of a method
abbrev pub IsOfCall : Situation → Method → Type 0
IsOfCall S m = own_variables S ≡ length m.variables

-- ---- what is asked

-- a picture after the step does not show the fact
abbrev pub goal_of : Option Fact → Goal
goal_of None = Goal.Anything
goal_of (Some (Fact.Now L)) = Goal.Fails Moment.After (Predicate.IsTrue Speaker.Own L)
goal_of (Some (Fact.Past L)) = Goal.Fails Moment.After (Predicate.IsWitnessed L)

abbrev pub goal_at : Header → List Method → ℕ → ℕ → Goal
goal_at h methods m n = goal_of (fact_at h methods m n)
