-- What the questions ask: pictures that reach a goal refute the conclusion, and the other way round.
use Rattle.std.proofs.Common.{◌≡◌, ℕ, suc, true, false, not, List, [], length, refl, sym, ◌∙◌, ap, subst, rules}
use Rattle.std.specs.Prelude.{Contains}
use Rattle.std.specs.Option.{option_map_or}
use Rattle.std.proofs.lemmas.Bool.{not-true}
use Rattle.plank_prog.specs.declared.blocks.Block.{Block}
use Rattle.plank_prog.specs.declared.headers.Header.{Header}
use Rattle.plank_prog.specs.declared.methods.Action.{Action}
use Rattle.plank_prog.specs.declared.methods.Method.{Method}
use Rattle.plank_prog.specs.Methods.{is_site}
use Rattle.plank_pic.specs.declared.literals.Literal.{Literal}
use Rattle.plank_pic.specs.Pictures.{Picture}
use Rattle.plank_pic.specs.Lawful.{IsLawful}
use Rattle.plank_pic.specs.Truths.{truth}
use Rattle.plank_fact.specs.Outlines.{Outline, Point}
use Rattle.plank_fact.specs.OwnSteps.{own_call, frame_of, method_frame}
use Rattle.plank_fact.specs.Effects.{is_known_to}
use Rattle.plank_fact.specs.Hindsight.{is_node_shared, is_witnessed}
use Rattle.plank_query.specs.declared.goals.Goal.{Goal}
use Rattle.plank_query.specs.declared.questions.Question.{Question}
use Rattle.plank_query.specs.declared.predicates.Claim.{Claim}
use Rattle.plank_query.specs.declared.predicates.Speaker.{Speaker}
use Rattle.plank_query.specs.declared.situations.Situation.{Situation}
use Rattle.plank_query.specs.declared.turns.SiteTurn.{SiteTurn}
use Rattle.plank_query.specs.Situations.{frame, caller, own_caller, IsSituated}
use Rattle.plank_query.specs.Predicates.{AreRight}
use Rattle.plank_query.specs.Goals.{goal_holds}
use Rattle.plank_query.specs.Questions.{IsReached}
use Rattle.plank_query.specs.Places.{IsSiteTurnAt}
use Rattle.plank_query.proofs.Placed.{other_so, effect, effect_situated}
use Rattle.plank_past.specs.declared.hinds.Hinds.{Hinds}
use Rattle.plank_past.specs.Refuting.{refuting, IsRefutedAtOnce, IsRefutedBy, ClaimsAtOnce, ClaimsBefore, ClaimsAfter}

-- nothing is claimed
pub no_claims : (h : Header) (S : Situation) (p : Picture) → AreRight h S p []
no_claims h S p c w = absurd (nothing_in c w)
  where
    nothing_in : (c : Claim) → Contains [] c → ⊥
    nothing_in c w = search rules

-- ---- questions, said of their parts

module _ (q : Question) (h : Header) (S : Situation) (of_header : q.header.now ≡ h) (situation : q.situation ≡ S) where
  pub situated_in : (before after : Picture) → IsSituated q.header.now q.situation before after → IsSituated h S before after
  situated_in before after w = subst (λ T. IsSituated h T before after) situation (subst (λ g. IsSituated g q.situation before after) of_header w)

  pub in_situation : (before after : Picture) → IsSituated h S before after → IsSituated q.header.now q.situation before after
  in_situation before after w = subst (λ g. IsSituated g q.situation before after) (sym of_header) (subst (λ T. IsSituated h T before after) (sym situation) w)

  pub right_in : (p : Picture) (claims : List Claim) → AreRight q.header.now q.situation p claims → AreRight h S p claims
  right_in p claims w = subst (λ T. AreRight h T p claims) situation (subst (λ g. AreRight g q.situation p claims) of_header w)

  pub in_right : (p : Picture) (claims : List Claim) → AreRight h S p claims → AreRight q.header.now q.situation p claims
  in_right p claims w = subst (λ g. AreRight g q.situation p claims) (sym of_header) (subst (λ T. AreRight h T p claims) (sym situation) w)

  pub goal_in : (before after : Picture) (goal : Goal) → goal_holds q.header.now q.situation before after goal ≡ true → goal_holds h S before after goal ≡ true
  goal_in before after goal w = subst (λ T. goal_holds h T before after goal ≡ true) situation (subst (λ g. goal_holds g q.situation before after goal ≡ true) of_header w)

  pub in_goal : (before after : Picture) (goal : Goal) → goal_holds h S before after goal ≡ true → goal_holds q.header.now q.situation before after goal ≡ true
  in_goal before after goal w = subst (λ g. goal_holds g q.situation before after goal ≡ true) (sym of_header) (subst (λ T. goal_holds h T before after goal ≡ true) (sym situation) w)

-- ---- of the names of a method

module _ (h : Header) (m : Method) (u : Hinds) (q : Question) (v : ℕ) (of_header : q.header.now ≡ h) (situation : q.situation ≡ Situation.Names v) (size : v ≡ length m.variables)
    (claimed : ClaimsAtOnce u q.before.now) (none_after : q.after.now ≡ []) where
  abbrev S : Situation
  S = Situation.Names v

  caller_so : caller S Speaker.Own ≡ own_call m
  caller_so = ap own_caller size

  frame_so : frame h S ≡ method_frame h m
  frame_so = ap (λ n. frame_of h (suc n)) size

  pub reached_at_once : (C : Literal) → IsReached q (refuting C) → IsRefutedAtOnce h m u C
  reached_at_once C r =
      let s = situated_in q h S of_header situation r.before r.after r.meets.situated in
      let said = ((claimed h S r.before).0 (right_in q h S of_header situation r.before q.before.now r.meets.right_before)).1 in
      let reached = goal_in q h S of_header situation r.before r.after (refuting C) r.holds in
      record {
        picture = r.before;
        lawful = subst (λ F. IsLawful F r.before) frame_so s.lawful;
        lasting_true = λ L w. subst (λ c. truth r.before c L ≡ true) caller_so (said.0.0 L w);
        witnessed = subst (λ c. is_witnessed r.before c u.past ≡ true) caller_so said.0.1;
        given = subst (λ c. option_map_or (truth r.before c) u.present true ≡ true) caller_so said.1;
        is_not = subst (λ c. is_witnessed r.before c C ≡ false) caller_so (subst (λ p. is_witnessed p (caller S Speaker.Own) C ≡ false) s.step (not-true _ reached));
      }

  pub at_once_reached : (C : Literal) → IsRefutedAtOnce h m u C → IsReached q (refuting C)
  at_once_reached C w = record {
    before = w.picture;
    after = w.picture;
    meets = record {
      situated = in_situation q h S of_header situation w.picture w.picture (record {
        lawful = subst (λ F. IsLawful F w.picture) (sym frame_so) w.lawful;
        fit = λ i below. refl;
        step = refl;
      });
      right_before = in_right q h S of_header situation w.picture q.before.now ((claimed h S w.picture).1 (
        no_claims h S w.picture,
        (
          (
            λ L v. subst (λ c. truth w.picture c L ≡ true) (sym caller_so) (w.lasting_true L v),
            subst (λ c. is_witnessed w.picture c u.past ≡ true) (sym caller_so) w.witnessed,
          ),
          subst (λ c. option_map_or (truth w.picture c) u.present true ≡ true) (sym caller_so) w.given,
        ),
      ));
      right_after = subst (λ cs. AreRight q.header.now q.situation w.picture cs) (sym none_after) (no_claims q.header.now q.situation w.picture);
    };
    holds = in_goal q h S of_header situation w.picture w.picture (refuting C) (ap not (subst (λ c. is_witnessed w.picture c C ≡ false) (sym caller_so) w.is_not));
  }

-- ---- of an effect

module _ (O : Outline) (m : Method) (x : Point O.methods) (t : SiteTurn) (at : IsSiteTurnAt m x t) (b : Block) (here : x.location.action ≡ Action.Block b) (writes : is_site x.location.action ≡ true)
    (u : Hinds) (present : Literal)
    (q : Question) (of_header : q.header.now ≡ O.header) (situation : q.situation ≡ Situation.Effect t)
    (claimed : ClaimsBefore O x b u present q.before.now) (claimed_after : ClaimsAfter present q.after.now) where
  abbrev E : Situation
  E = Situation.Effect t

  own_so : caller E Speaker.Own ≡ own_call m
  own_so = ap own_caller at.variables

  pub reached_by : (C : Literal) → IsReached q (refuting C) → IsRefutedBy O m u present x C
  reached_by C r =
      let s = situated_in q O.header E of_header situation r.before r.after r.meets.situated in
      let said = ((claimed E r.before).0 (right_in q O.header E of_header situation r.before q.before.now r.meets.right_before)).1 in
      let then = ((claimed_after O.header E r.after).0 (right_in q O.header E of_header situation r.after q.after.now r.meets.right_after)).1 in
      let reached = goal_in q O.header E of_header situation r.before r.after (refuting C) r.holds in
      record {
        before = r.before;
        after = r.after;
        effect = effect O m x t at b here writes r.before r.after s (λ L is knows. subst (λ c. truth r.before c L ≡ true) (other_so O m x t at b here) (said.0.0.0 L is knows));
        lasting_true = λ L w. subst (λ c. truth r.before c L ≡ true) own_so (said.0.0.1 L w);
        shared = subst (λ c. is_node_shared r.before c u.past ≡ true) own_so said.0.1;
        not_yet = subst (λ c. truth r.before c present ≡ false) own_so said.1;
        then_true = subst (λ c. truth r.after c present ≡ true) own_so then;
        is_not = subst (λ c. is_witnessed r.after c C ≡ false) own_so (not-true _ reached);
      }

  block_or : Action → Block
  block_or (Action.Block c) = c
  block_or (Action.Copy to from next) = b
  block_or (Action.New to next) = b
  block_or (Action.Return answer) = b

  same_block : (c : Block) → x.location.action ≡ Action.Block c → c ≡ b
  unfolding block_or
  same_block c is = ap block_or (sym is ∙ here)

  pub by_reached : (C : Literal) → IsRefutedBy O m u present x C → IsReached q (refuting C)
  by_reached C w = record {
    before = w.before;
    after = w.after;
    meets = record {
      situated = in_situation q O.header E of_header situation w.before w.after
          (effect_situated O m x t at w.effect.block w.effect.here w.before w.after w.effect.lawful w.effect.others w.effect.step);
      right_before = in_right q O.header E of_header situation w.before q.before.now ((claimed E w.before).1 (
        no_claims O.header E w.before,
        (
          (
            (
              λ L is meant. subst (λ c. truth w.before c L ≡ true) (sym (other_so O m x t at w.effect.block w.effect.here))
                  (w.effect.claimed L is (ap (λ c. is_known_to c L) (same_block w.effect.block w.effect.here) ∙ meant)),
              λ L v. subst (λ c. truth w.before c L ≡ true) (sym own_so) (w.lasting_true L v),
            ),
            subst (λ c. is_node_shared w.before c u.past ≡ true) (sym own_so) w.shared,
          ),
          subst (λ c. truth w.before c present ≡ false) (sym own_so) w.not_yet,
        ),
      ));
      right_after = in_right q O.header E of_header situation w.after q.after.now ((claimed_after O.header E w.after).1 (
        no_claims O.header E w.after,
        subst (λ c. truth w.after c present ≡ true) (sym own_so) w.then_true,
      ));
    };
    holds = in_goal q O.header E of_header situation w.before w.after (refuting C) (ap not (subst (λ c. is_witnessed w.after c C ≡ false) (sym own_so) w.is_not));
  }
