-- Situations at locations: own pictures, own steps, writes and effects are pictures that are in one, and in which what is
-- claimed is true.
use Rattle.std.proofs.Common.{◌≡◌, ℕ, suc, ◌+◌, ◌<◌, ◌≤◌, true, false, length, refl, sym, ◌∙◌, ap, ap₂, subst, inl, inr, arith}
use Rattle.std.specs.Prelude.{◌||◌, nat_lt}
use Rattle.std.proofs.lemmas.Bool.{or_left, or_right, or_cases, cases_Bool, ltb-true, ltb-false}
use Rattle.plank_prog.specs.declared.blocks.Block.{Block}
use Rattle.plank_prog.specs.declared.methods.Action.{Action}
use Rattle.plank_prog.specs.declared.methods.Method.{Method}
use Rattle.plank_prog.specs.Methods.{is_site}
use Rattle.plank_pic.specs.declared.literals.Literal.{Literal}
use Rattle.plank_pic.specs.declared.literals.Exit.{Exit}
use Rattle.plank_pic.specs.Frames.{Frame}
use Rattle.plank_pic.specs.Pictures.{Picture}
use Rattle.plank_pic.specs.Lawful.{IsLawful}
use Rattle.plank_pic.specs.Blocks.{Turn, name, IsTurnStep}
use Rattle.plank_pic.specs.Blocks as blocks
use Rattle.plank_pic.specs.Calls.{own_names, own_turn, is_usable, is_others}
use Rattle.plank_pic.specs.Calls as calls
use Rattle.plank_pic.specs.Truths.{truth}
use Rattle.plank_fact.specs.declared.facts.Fact.{Fact}
use Rattle.plank_fact.specs.Tables.{name_count}
use Rattle.plank_fact.specs.Outlines.{Outline, Point, IsClaimed}
use Rattle.plank_fact.specs.OwnSteps.{own_call, frame_of, own_frame, is_yes, turn_at, IsOwnPicture, IsOwnStep, IsWriteStep}
use Rattle.plank_fact.specs.Effects.{read_below, joint_frame, other_turn, other_call, is_known_to, IsEffect}
use Rattle.plank_query.specs.declared.turns.OwnTurn.{OwnTurn}
use Rattle.plank_query.specs.declared.turns.SiteTurn.{SiteTurn}
use Rattle.plank_query.specs.declared.situations.Situation.{Situation}
use Rattle.plank_query.specs.declared.predicates.Speaker.{Speaker}
use Rattle.plank_query.specs.Sites.{action_reads_below, site_turn}
use Rattle.plank_query.specs.Situations.{turn_of_own, turn_of_site, frame, caller, own_caller, IsSituated}
use Rattle.plank_query.specs.Places.{IsOwnTurnAt, IsSiteTurnAt}

-- ---- the own call

module _ (O : Outline) (x : Point O.methods) (e : Exit) (t : OwnTurn) (at : IsOwnTurnAt x e t) where
  frame_so : frame_of O.header (own_names t.variables t.action.now) ≡ own_frame O x
  frame_so = ap₂ (λ v a. frame_of O.header (own_names v a)) at.variables at.action

  turn_so : turn_of_own t ≡ turn_at O x e
  turn_so = ap₂ (λ v a. own_turn v a (is_yes t.exit)) at.variables at.action ∙ ap (λ w. own_turn (length x.method.variables) x.location.action (is_yes w)) at.exit

  pub caller_so : own_caller t.variables ≡ own_call x.method
  caller_so = ap own_caller at.variables

  abbrev pub AllClaimed : Picture → Type 0
  AllClaimed p = (L : Literal) → IsClaimed O x (Fact.Now L) → truth p (own_call x.method) L ≡ true

  -- own pictures, whatever the exit
  lawful_there : (p : Picture) → IsLawful (own_frame O x) p → IsLawful (frame_of O.header (own_names t.variables t.action.now)) p
  lawful_there p = subst (λ F. IsLawful F p) (sym frame_so)

  picture_to : (p : Picture) → ((i : ℕ) → i < own_names t.variables t.action.now → is_usable p i ≡ true) → IsLawful (frame_of O.header (own_names t.variables t.action.now)) p → calls.IsOwnPicture (own_frame O x) p
  picture_to p fit lawful = subst (λ F. calls.IsOwnPicture F p) frame_so (record { lawful = lawful; usable = fit })

  fit_from : (p : Picture) → calls.IsOwnPicture (own_frame O x) p → (i : ℕ) → i < own_names t.variables t.action.now → is_usable p i ≡ true
  fit_from p own = (subst (λ F. calls.IsOwnPicture F p) (sym frame_so) own).usable

  pub own_picture : (p : Picture) → IsSituated O.header (Situation.Own t) p p → AllClaimed p → IsOwnPicture O x p
  own_picture p s all = record { picture = picture_to p s.fit s.lawful; claimed = all }

  pub own_situated : (p : Picture) → IsOwnPicture O x p → IsSituated O.header (Situation.Own t) p p
  own_situated p own = record { lawful = lawful_there p own.picture.lawful; fit = fit_from p own.picture; step = refl }

  pub own_step : (before after : Picture) → IsSituated O.header (Situation.Step t) before after → AllClaimed before → IsOwnStep O x e before after
  own_step before after s all = record {
    own = record { picture = picture_to before s.fit s.lawful; claimed = all };
    step = subst (λ F. IsTurnStep F (turn_at O x e) before after) frame_so (subst (λ w. IsTurnStep (frame_of O.header (own_names t.variables t.action.now)) w before after) turn_so s.step);
  }

  pub step_situated : (before after : Picture) → IsOwnStep O x e before after → IsSituated O.header (Situation.Step t) before after
  step_situated before after own = record {
    lawful = lawful_there before own.own.picture.lawful;
    fit = fit_from before own.own.picture;
    step = subst (λ F. IsTurnStep F (turn_of_own t) before after) (sym frame_so) (subst (λ w. IsTurnStep (own_frame O x) w before after) (sym turn_so) own.step);
  }

-- ---- the own write

module _ (O : Outline) (x : Point O.methods) (t : OwnTurn) (at : IsOwnTurnAt x Exit.Yes t) where
  pub own_write : (before after : Picture) → IsSituated O.header (Situation.Write t) before after → AllClaimed O x Exit.Yes t at before → IsWriteStep O x before after
  own_write before after s all = record {
    own = record { picture = picture_to O x Exit.Yes t at before s.fit s.lawful; claimed = all };
    step = subst (λ F. blocks.IsWriteStep F (turn_at O x Exit.Yes) before after) (frame_so O x Exit.Yes t at)
        (subst (λ w. blocks.IsWriteStep (frame_of O.header (own_names t.variables t.action.now)) w before after) (turn_so O x Exit.Yes t at) s.step);
  }

  pub write_situated : (before after : Picture) → IsWriteStep O x before after → IsSituated O.header (Situation.Write t) before after
  write_situated before after own = record {
    lawful = lawful_there O x Exit.Yes t at before own.own.picture.lawful;
    fit = fit_from O x Exit.Yes t at before own.own.picture;
    step = subst (λ F. blocks.IsWriteStep F (turn_of_own t) before after) (sym (frame_so O x Exit.Yes t at))
        (subst (λ w. blocks.IsWriteStep (own_frame O x) w before after) (sym (turn_so O x Exit.Yes t at)) own.step);
  }

-- ---- effects

module _ (O : Outline) (m : Method) (site : Point O.methods) (t : SiteTurn) (at : IsSiteTurnAt m site t) where
  abbrev pub n : ℕ
  n = name_count m

  module _ (b : Block) (here : site.location.action ≡ Action.Block b) where
    block_so : t.action.now ≡ Action.Block b
    block_so = at.action ∙ here

    joint_so : frame O.header (Situation.Effect t) ≡ joint_frame O m site.method b
    joint_so =
        ap (λ a. frame_of O.header (suc t.variables + action_reads_below a t.others)) block_so
        ∙ ap₂ (λ v w. frame_of O.header (suc v + read_below b w)) at.variables at.others

    acting_so : turn_of_site t ≡ other_turn n b
    acting_so = ap (λ a. site_turn (suc t.variables) a) block_so ∙ ap (λ v. other_turn (suc v) b) at.variables

    pub other_so : caller (Situation.Effect t) Speaker.Other ≡ other_call n b
    other_so = ap (λ (s : Turn). record { own = false; name = name s }) acting_so

    abbrev pub AllKnown : Picture → Type 0
    AllKnown p = (L : Literal) → IsClaimed O site (Fact.Now L) → is_known_to b L ≡ true → truth p (other_call n b) L ≡ true

    pub effect : is_site site.location.action ≡ true → (before after : Picture) → IsSituated O.header (Situation.Effect t) before after → AllKnown before → IsEffect O m site before after
    effect writes before after s known = record {
      writes = writes;
      block = b;
      here = here;
      lawful = subst (λ F. IsLawful F before) joint_so s.lawful;
      others = others_so;
      claimed = known;
      step = subst (λ F. blocks.IsWriteStep F (other_turn n b) before after) joint_so (subst (λ w. blocks.IsWriteStep (frame O.header (Situation.Effect t)) w before after) acting_so s.step);
    }
      where
        others_so : (i : ℕ) → n ≤ i → i < (joint_frame O m site.method b).names → is_others before i ≡ true
        others_so i from below =
            let fits = s.fit i (subst (λ (F : Frame). i < F.names) (sym joint_so) below) in
            elim (or_cases (nat_lt i (suc t.variables)) (is_others before i) fits) [
              | inl own ↦ (let lt = ltb-true i (suc t.variables) own in let v = at.variables in absurd (omega (arith, lt, v, from)))
              | inr is ↦ is
            ]

    pub effect_situated : (before after : Picture) → IsLawful (joint_frame O m site.method b) before → ((i : ℕ) → n ≤ i → i < (joint_frame O m site.method b).names → is_others before i ≡ true)
        → blocks.IsWriteStep (joint_frame O m site.method b) (other_turn n b) before after → IsSituated O.header (Situation.Effect t) before after
    effect_situated before after lawful others step = record {
      lawful = subst (λ F. IsLawful F before) (sym joint_so) lawful;
      fit = fit_so;
      step = subst (λ F. blocks.IsWriteStep F (turn_of_site t) before after) (sym joint_so) (subst (λ w. blocks.IsWriteStep (joint_frame O m site.method b) w before after) (sym acting_so) step);
    }
      where
        fit_so : (i : ℕ) → i < (frame O.header (Situation.Effect t)).names → (nat_lt i (suc t.variables) || is_others before i) ≡ true
        fit_so i below = elim (cases_Bool (nat_lt i (suc t.variables))) [
          | inl own ↦ or_left _ _ own
          | inr not_own ↦ or_right (nat_lt i (suc t.variables)) _ (others i (let ge = ltb-false i (suc t.variables) not_own in let v = at.variables in omega (arith, ge, v)) (subst (λ (F : Frame). i < F.names) joint_so below))
        ]
