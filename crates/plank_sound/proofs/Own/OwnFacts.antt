-- What the outline claims where a call comes to by its own step is true of it.
use Rattle.std.proofs.Common.{◌≡◌, suc, ◌<◌, ℤ, Bool, true, false, List, ◌∷◌, length, Option, Some, refl, sym, ◌∙◌, ap, subst, inl, arith}
use Rattle.std.specs.Prelude.{slice_get}
use Rattle.std.specs.Bool.{beq}
use Rattle.std.specs.FinMap.{get}
use Rattle.std.proofs.lemmas.Option.{same_Some}
use Rattle.plank_base.specs.declared.keys.ThreadId.{ThreadId}
use Rattle.plank_prog.specs.declared.blocks.Reference.{Reference}
use Rattle.plank_prog.specs.declared.methods.Action.{Action}
use Rattle.plank_prog.specs.Headers.{is_lawful_header}
use Rattle.plank_prog.specs.Methods.{are_lawful_methods}
use Rattle.plank_hist.specs.declared.events.Event.{Event}
use Rattle.plank_sem.specs.declared.calls.Call.{Call}
use Rattle.plank_sem.specs.declared.steps.Choice.{Choice}
use Rattle.plank_sem.specs.Worlds.{WorldState}
use Rattle.plank_sem.specs.Steps.{stepped, performed}
use Rattle.plank_sem.specs.Kept.{GhostWorld, kept_performed}
use Rattle.plank_sem.specs.Facts.{IsSound, HasSizes}
use Rattle.plank_sem.specs.CallMoments.{call_moments}
use Rattle.plank_sem.proofs.CallMoments.{HasAge, newest_moment}
use Rattle.plank_pic.specs.declared.literals.Literal.{Literal}
use Rattle.plank_pic.specs.declared.literals.Exit.{Exit}
use Rattle.plank_pic.specs.Frames.{Frame}
use Rattle.plank_pic.specs.Blocks.{source}
use Rattle.plank_pic.specs.Calls.{binds_of}
use Rattle.plank_pic.specs.Truths.{Caller, truth}
use Rattle.plank_fact.specs.declared.facts.Fact.{Fact}
use Rattle.plank_fact.specs.Literals.{past_name, said_of, can_be_past}
use Rattle.plank_fact.specs.Tables.{IsFactOf}
use Rattle.plank_fact.specs.Outlines.{Outline, Point, IsClaimed}
use Rattle.plank_fact.specs.OwnSteps.{own_call, own_frame, turn_at, IsOwnStep, LeadsTo}
use Rattle.plank_fact.specs.Hindsight.{is_witnessed}
use Rattle.plank_fact.specs.After.{IsPictureAfter, IsCarried}
use Rattle.plank_fact.specs.Forced.{IsValid}
use Rattle.plank_scene.specs.Scenes.{Scene, shown}
use Rattle.plank_scene.specs.Worlds.{IsOrderlyWorld}
use Rattle.plank_sound.specs.Sights.{holds, holds_shared, values_of, seen_in, seen_at, sight_of, IsTrueFact}
use Rattle.plank_sound.specs.Interference.{IsAt}
use Rattle.plank_sound.specs.HindsightLaw.{HindsightHolds, WasTrueOnce}
use Rattle.plank_sound.proofs.Sights.Sighted.{truth_seen}
use Rattle.plank_sound.proofs.Sights.Seen.{seen_world}
use Rattle.plank_sound.proofs.Sights.PastSeen.{witnessed_seen, past_seen}
use Rattle.plank_sound.proofs.Own.Standing.{own_value, own_below, values_there, all_mine}
use Rattle.plank_sound.proofs.Own.Stepping.{ComesFrom, OwnStepped, by_exit, own_stepped, before, beyond}
use Rattle.plank_sound.proofs.Sights.LiteralKinds.{said_past}
use Rattle.plank_sound.proofs.Sights.Carrying.{named_before_so, said_same}
use Rattle.plank_sound.proofs.Own.PastFacts.{IsSo, known_so}

module _ (O : Outline) (header : is_lawful_header O.header ≡ true) (methods : are_lawful_methods O.header O.methods ≡ true)
    (g : GhostWorld) (sound : IsSound O.header g) (sizes : HasSizes g.world) (orderly : IsOrderlyWorld O.header g)
    (thread : ThreadId) (call : Call) (pending : get g.world.calls thread.0 ≡ Some call) (x : Point O.methods) (at : IsAt x call)
    (claims : (L : Literal) → IsClaimed O x (Fact.Now L) → holds O.header (sight_of O.header g thread.0 call x.method) L ≡ true) (any : ℤ)
    (event : Option Event) (after : WorldState) (step : performed O.methods g.world thread call x.location.action ≡ stepped event after)
    (sound_after : IsSound O.header (record { world = after; kept = kept_performed O.header g.world.heap after.heap thread call x.location.action g.kept })) (sizes_after : HasSizes after)
    (later : Call) (now : get after.calls thread.0 ≡ Some later) where
  abbrev F : Frame
  F = own_frame O x

  abbrev later_world : GhostWorld
  later_world = record { world = after; kept = kept_performed O.header g.world.heap after.heap thread call x.location.action g.kept }

  abbrev S : Scene
  S = before O header methods g sound sizes orderly thread call pending x at claims any event after step sound_after sizes_after later now

  abbrev T : Scene
  T = beyond O header methods g sound sizes orderly thread call pending x at claims any event after step sound_after sizes_after later now

  abbrev c : Caller
  c = own_call x.method

  -- what is seen after the step
  seen_after : later.key ≡ call.key → seen_in O.header T c thread.0 ≡ sight_of O.header later_world thread.0 later x.method
  seen_after same_key =
      seen_world O.header T c thread.0 later_world later.key (values_of after.heap later x.method) refl refl (sym same_key)
      (own_value g.world.heap call (binds_of x.location.action) x.method after.heap later (sound.same_root ∙ sym sound_after.same_root))
      (λ r y e. values_there (λ z. z < length after.heap.nodes) after.heap later x.method sound_after.closed.root (sound_after.variables_within thread.0 later now) (c.name r) y e)
      sound_after.owned

  below : (r : Reference) → c.name r < F.names
  below r = let b = own_below x.method r in omega arith

  truth_then : (L : Literal) → truth (shown F T) c L ≡ holds O.header (seen_in O.header T c thread.0) L
  truth_then L = truth_seen F T c thread.0 below L (λ e. record { part = inl (refl, refl); owned = λ r y e d. ap (λ b. beq b true) (all_mine g.kept.owners y) })

  module _ (valid : IsValid O) (same_method : later.method ≡ call.method) (same_key : later.key ≡ call.key)
      (choice : Choice) (choices : List Choice) (ghosts : List GhostWorld) (aged : HasAge thread.0 (choice ∷ choices))
      (hindsight_law : HindsightHolds O (choice ∷ choices) later_world (g ∷ ghosts))
      (past_claims : (L : Literal) → IsClaimed O x (Fact.Past L) → WasTrueOnce O choices g ghosts thread.0 call x.method L)
      (grows : call_moments thread.0 (choice ∷ choices) (later_world ∷ g ∷ ghosts) ≡ later_world ∷ call_moments thread.0 choices (g ∷ ghosts))
      (past_kinds : (L : Literal) → IsFactOf O.header x.method (Fact.Past L) → can_be_past L ≡ true) (goes_on : (answer : Bool) → x.location.action ≡ Action.Return answer → ⊥) where
    abbrev Was : Literal → Type 0
    Was L = WasTrueOnce O (choice ∷ choices) later_world (g ∷ ghosts) thread.0 later x.method L

    truth_after : (L : Literal) → truth (shown F T) c L ≡ holds O.header (sight_of O.header later_world thread.0 later x.method) L
    truth_after L = truth_then L ∙ ap (λ s. holds O.header s L) (seen_after same_key)

    seen_now : (L : Literal) → can_be_past L ≡ true → is_witnessed (shown F T) c L ≡ true → Was L
    seen_now L kind e = record {
      ago = 0;
      moment = later_world;
      at = newest_moment thread.0 (choice ∷ choices) later_world (g ∷ ghosts) aged;
      kind = kind;
      was = sym (past_seen O.header T c thread.0 later_world later.key (values_of after.heap later x.method) refl refl (sym same_key)
          (own_value g.world.heap call (binds_of x.location.action) x.method after.heap later (sound.same_root ∙ sym sound_after.same_root)) sound_after.owned L kind)
          ∙ sym (witnessed_seen F T c thread.0 below L (truth_then L)) ∙ e;
    }

    -- what is carried
    carried_so : (e : Exit) → IsOwnStep O x e (shown F S) (shown F T) → ComesFrom O header methods g sound sizes orderly thread call pending x at claims any event after step sound_after sizes_after later now e → (L : Literal) → IsCarried O x e L → Was L
    carried_so e taken comes L carried =
        let was = past_claims carried.before carried.claimed in
        let value_then : (r : Reference) → T.named (c.name r) ≡ values_of after.heap later x.method r = own_value g.world.heap call (binds_of x.location.action) x.method after.heap later (sound.same_root ∙ sym sound_after.same_root) in
        let same_value : (q : Reference) → past_name carried.before ≡ Some q → values_of after.heap later x.method carried.to ≡ values_of g.world.heap call x.method q = λ q is.
        sym (value_then carried.to) ∙ comes.comes (c.name carried.to) (below carried.to)
        ∙ named_before_so F S (source (turn_at O x e) (c.name carried.to)) comes.fresh (c.name q) (carried.stays q is (shown F S) (shown F T) taken)
        ∙ own_value g.world.heap call (binds_of x.location.action) x.method g.world.heap call refl q in
        record {
          ago = suc was.ago;
          moment = was.moment;
          at = ap (λ ws. slice_get ws (suc was.ago)) grows ∙ was.at;
          kind = subst (λ K. can_be_past K ≡ true) (sym carried.is) (said_past carried.to carried.before was.kind);
          was = ap (λ K. holds_shared O.header (seen_at O.header was.moment (values_of after.heap later x.method) later.key thread.0 false) K) carried.is
              ∙ ap (λ k. holds_shared O.header (seen_at O.header was.moment (values_of after.heap later x.method) k thread.0 false) (said_of carried.to carried.before)) same_key
              ∙ said_same O.header was.moment call.key thread.0 (values_of after.heap later x.method) (values_of g.world.heap call x.method) carried.to carried.before was.kind same_value
              ∙ was.was;
        }

    -- a claim where the call comes to
    pub own_fact : (y : Point O.methods) → IsAt y later → (f : Fact) → IsClaimed O y f → IsTrueFact O.header (choice ∷ choices) later_world (g ∷ ghosts) thread.0 later y.method f
    own_fact y there f claimed = by_step (own_stepped O header methods g sound sizes orderly thread call pending x at claims any event after step sound_after sizes_after later now x.location.action refl (λ answer e. goes_on answer e))
      where
        same_m : y.m ≡ x.m
        same_m = there.method ∙ same_method ∙ sym at.method

        methods_same : x.method ≡ y.method
        methods_same = same_Some _ _ (sym x.called ∙ ap (slice_get O.methods) (sym same_m) ∙ y.called)

        by_step : OwnStepped O header methods g sound sizes orderly thread call pending x at claims any event after step sound_after sizes_after later now → IsTrueFact O.header (choice ∷ choices) later_world (g ∷ ghosts) thread.0 later y.method f
        by_step (by_exit e taken to comes) =
            let leads : LeadsTo x e y = record { same_method = same_m; leads = to ∙ ap Some (sym there.location) } in
            subst (λ m. IsTrueFact O.header (choice ∷ choices) later_world (g ∷ ghosts) thread.0 later m f) methods_same
            (by_fact f (known_so O x.method (IsPictureAfter O x e) (IsCarried O x e) Was (shown F T) (shown F S, taken) (λ L fact. seen_now L (past_kinds L fact)) (λ L fact carried. carried_so e taken comes L carried)
            (λ past once L fact was given law. hindsight_law thread.0 later now x (at.method ∙ sym same_method) _ (λ K lasts. (lasts.0, sym (truth_after K) ∙ lasts.1.holds (shown F T) (shown F S, taken))) past was once
            (λ b is. sym (truth_after b) ∙ given b is) L (past_kinds L fact) law) f (valid.after x y e f leads claimed)))
          where
            by_fact : (f : Fact) → IsSo x.method Was (shown F T) f → IsTrueFact O.header (choice ∷ choices) later_world (g ∷ ghosts) thread.0 later x.method f
            by_fact (Fact.Now L) so = sym (truth_after L) ∙ so
            by_fact (Fact.Past L) so = so
