-- The pairs of names whose goal is reached are those of which the one does not stay what the other was.
use Rattle.std.specs.Prelude.{◌≡◌, ℕ, ◌+◌, ◌*◌, Bool, not, List, []}
use Rattle.std.proofs.Common.{sym, ◌∙◌, ap, subst, inl, inr}
use Rattle.std.proofs.lemmas.Bool.{cases_Bool, not-true, true≢false}
use Rattle.plank_prog.specs.declared.programs.Program.{Program}
use Rattle.plank_pic.specs.declared.literals.Exit.{Exit}
use Rattle.plank_pic.specs.Pictures.{Picture}
use Rattle.plank_pic.specs.Blocks.{source}
use Rattle.plank_fact.specs.Outlines.{Outline, Point}
use Rattle.plank_fact.specs.OwnSteps.{turn_at}
use Rattle.plank_fact.specs.After.{named_before}
use Rattle.plank_query.specs.declared.predicates.Claim.{Claim}
use Rattle.plank_query.specs.declared.predicates.Speaker.{Speaker}
use Rattle.plank_query.specs.declared.questions.Question.{Question}
use Rattle.plank_query.specs.declared.turns.OwnTurn.{OwnTurn}
use Rattle.plank_query.specs.declared.situations.Situation.{Situation}
use Rattle.plank_query.specs.Situations.{turn_of_own}
use Rattle.plank_query.specs.Predicates.{AreRight}
use Rattle.plank_query.specs.Goals.{goal_holds}
use Rattle.plank_query.specs.Questions.{IsReached}
use Rattle.plank_query.specs.Places.{IsOwnTurnAt}
use Rattle.plank_claim.specs.declared.known.Known.{Known}
use Rattle.plank_claim.specs.Claims.{AddsClaims}
use Rattle.plank_past.specs.Answered.{AreReached}
use Rattle.plank_past.proofs.Asking.{no_claims, situated_in, in_situation, right_in, in_right, goal_in, in_goal}
use Rattle.plank_method.specs.Deciding.{outline_of}
use Rattle.plank_trans.specs.Carried.{Stays, AreMoves, move_goal, AreMoveGoals}
use Rattle.plank_trans.proofs.Origins.{source_again}
use Rattle.plank_trans.proofs.Pairs.{pair_goal}
use Rattle.plank_trans.proofs.Steps.{turn_is, steps_own, own_situated, own_right}

-- ---- a pair

module _ (program : Program) (words : List ℕ) (m l : ℕ) (t : OwnTurn) (claims : List Claim) (said : AddsClaims program words m l Speaker.Own Known.All [] claims)
    (x : Point program.methods) (of_method : x.m ≡ m) (of_location : x.l ≡ l) (e : Exit) (at : IsOwnTurnAt x e t)
    (q : Question) (of_header : q.header.now ≡ program.header) (situation : q.situation ≡ Situation.Step t) (claimed : q.before.now ≡ claims) (none_after : q.after.now ≡ []) where
  abbrev O : Outline
  O = outline_of program words

  abbrev S : Situation
  S = Situation.Step t

  looks_for : (before after : Picture) (from to : ℕ) → goal_holds program.header S before after (move_goal (turn_of_own t) from to) ≡ not (named_before before (source (turn_at O x e) to) from)
  looks_for before after from to =
      ap (λ s. not (named_before before s from)) (source_again (source (turn_of_own t) to) ∙ ap (λ w. source w to) (turn_is program words m l t claims said x of_method of_location e at))

  unreached_stays : (from to : ℕ) → (IsReached q (move_goal (turn_of_own t) from to) → ⊥) → Stays O x e from to
  unreached_stays from to none p after w = elim (cases_Bool (named_before p (source (turn_at O x e) to) from)) [
    | inl is ↦ is
    | inr is_not ↦ absurd (none (record {
      before = p;
      after = after;
      meets = record {
        situated = in_situation q program.header S of_header situation p after (own_situated program words m l t claims said x of_method of_location e at p after w);
        right_before = in_right q program.header S of_header situation p q.before.now
            (subst (λ cs. AreRight program.header S p cs) (sym claimed) (own_right program words m l t claims said x of_method of_location e at p after w));
        right_after = subst (λ cs. AreRight q.header.now q.situation after cs) (sym none_after) (no_claims q.header.now q.situation after);
      };
      holds = in_goal q program.header S of_header situation p after (move_goal (turn_of_own t) from to) (looks_for p after from to ∙ ap not is_not);
    }))
  ]

  stays_unreached : (from to : ℕ) → Stays O x e from to → IsReached q (move_goal (turn_of_own t) from to) → ⊥
  stays_unreached from to stays r =
      let step = steps_own program words m l t claims said x of_method of_location e at r.before r.after
      (situated_in q program.header S of_header situation r.before r.after r.meets.situated)
      (subst (λ cs. AreRight program.header S r.before cs) claimed (right_in q program.header S of_header situation r.before q.before.now r.meets.right_before)) in
      let is_not = not-true (named_before r.before (source (turn_at O x e) to) from)
      (sym (looks_for r.before r.after from to) ∙ goal_in q program.header S of_header situation r.before r.after (move_goal (turn_of_own t) from to) r.holds) in
      true≢false (sym (stays r.before r.after step) ∙ is_not)

  -- ---- all pairs

  pub are_moves : (names : ℕ) → AreMoveGoals (turn_of_own t) names q.goals.now → (moved : ℕ → Bool) → AreReached q moved → AreMoves O x e names moved
  are_moves names goals moved answered from to a b =
      let k = from * names + to in
      let there = pair_goal (turn_of_own t) names q.goals.now goals from to a b in
      let each = answered.each k (move_goal (turn_of_own t) from to) there in (
        λ f. unreached_stays from to (λ r. true≢false (sym (each.1 r) ∙ f)),
        λ stays. elim (cases_Bool (moved k)) [ inl f ↦ absurd (stays_unreached from to stays (each.0 f)) | inr f ↦ f ],
      )
