-- Past facts of names that name what one name did, and of the set: steps carry them along.
use Rattle.std.specs.Prelude.{◌≡◌, ℕ, ◌<◌, Bool, true, false, not, ◌&&◌, ◌||◌, length, Some}
use Rattle.std.specs.Bool.{beq}
use Rattle.std.proofs.Common.{refl, sym, ◌∙◌, ap, ap₂, inl, inr, arith}
use Rattle.std.proofs.lemmas.Bool.{cases_Bool, and_from, false≢true}
use Rattle.plank_prog.specs.declared.blocks.Reference.{Reference}
use Rattle.plank_pic.specs.declared.parts.Part.{Part}
use Rattle.plank_pic.specs.declared.literals.Literal.{Literal}
use Rattle.plank_pic.specs.declared.literals.Exit.{Exit}
use Rattle.plank_pic.specs.Steps.{Of}
use Rattle.plank_pic.specs.Blocks.{source}
use Rattle.plank_pic.specs.Calls.{own_names, own_turn}
use Rattle.plank_fact.specs.declared.facts.Fact.{Fact}
use Rattle.plank_fact.specs.Literals.{past_name, said_of}
use Rattle.plank_fact.specs.Tables.{name_at, name_count, IsNumbered, IsFactOf}
use Rattle.plank_fact.specs.Places.{number_of}
use Rattle.plank_fact.specs.Outlines.{Outline, Point, IsClaimed}
use Rattle.plank_fact.specs.OwnSteps.{is_yes, turn_at}
use Rattle.plank_fact.specs.After.{named_before, IsCarried}
use Rattle.plank_query.specs.declared.turns.OwnTurn.{OwnTurn}
use Rattle.plank_query.specs.Situations.{turn_of_own}
use Rattle.plank_query.specs.Places.{IsOwnTurnAt}
use Rattle.plank_trans.specs.Carried.{Stays, AreEnough}
use Rattle.plank_trans.proofs.Carries.{named_carried}

-- a name has the value that it has itself
itself_value : (a b : Bool) → beq b (not a) ≡ true → ((a && a) || b) ≡ true
itself_value true b e = refl
itself_value false true e = refl
itself_value false false e = absurd (false≢true e)

module _ (O : Outline) (x : Point O.methods) (t : OwnTurn) (e : Exit) (at : IsOwnTurnAt x e t) where
  pub own_turn_is : turn_of_own t ≡ turn_at O x e
  own_turn_is = ap₂ (λ v a. own_turn v a (is_yes t.exit)) at.variables at.action ∙ ap (λ w. own_turn (length x.method.variables) x.location.action (is_yes w)) at.exit

  source_stays : (from to : ℕ) → from < name_count x.method → source (turn_of_own t) to ≡ Of from → Stays O x e from to
  source_stays from to below is p after step =
      let fits : from < own_names (length x.method.variables) x.location.action = omega (arith, below) in
      ap (λ s. named_before p (source s to) from) (sym own_turn_is) ∙ ap (λ s. named_before p s from) is
      ∙ itself_value (p (Part.Null from)) (p (Part.Same from from)) (step.own.picture.lawful.possible.picture.itself from fits)

  -- a past fact that is claimed of the one name is carried to the other
  pub kept_from : (L : Literal) → IsFactOf O.header x.method (Fact.Past L) → (q : Reference) → past_name L ≡ Some q → (from : ℕ) → from < name_count x.method
      → source (turn_of_own t) (number_of q) ≡ Of from → IsClaimed O x (Fact.Past (said_of (name_at from) L)) → IsCarried O x e L
  kept_from L fact q names from below is claimed = (named_carried O x e L fact q names).0 (from, below, (claimed, source_stays from (number_of q) below is))

-- where each wanted past fact is among some that are carried, these are enough
pub kept_enough : (O : Outline) (x : Point O.methods) (e : Exit) (wanted kept left : ℕ → Bool)
    → ((n : ℕ) (L : Literal) → IsNumbered O.header x.method n (Fact.Past L) → kept n ≡ true → IsCarried O x e L)
    → ((k : ℕ) → left k ≡ (wanted k && not (kept k))) → ((n : ℕ) (L : Literal) → IsNumbered O.header x.method n (Fact.Past L) → left n ≡ true → ⊥)
    → AreEnough O x e wanted kept
kept_enough O x e wanted kept left carries left_is none = record {
  carried = carries;
  all = λ n L is wants. elim (cases_Bool (kept n)) [
    | inl there ↦ inl there
    | inr away ↦ absurd (none n L is (left_is n ∙ and_from (wanted n) (not (kept n)) wants (ap not away)))
  ];
}
