-- The laws on steps of calls: own steps and effects, in a world of which what claims say is known.
use Rattle.std.proofs.Common.{◌≡◌, ◌≢◌, ℕ, ℤ, true, false, length, Some, refl, sym, ◌∙◌, ap, subst, inl, inr}
use Rattle.std.specs.FinMap.{get}
use Rattle.std.proofs.lemmas.Bool.{false≢true, ne_eqb}
use Rattle.plank_base.specs.declared.keys.ThreadId.{ThreadId}
use Rattle.plank_prog.specs.declared.blocks.Block.{Block}
use Rattle.plank_prog.specs.declared.methods.Action.{Action}
use Rattle.plank_prog.specs.Methods.{is_site}
use Rattle.plank_sem.specs.declared.calls.Call.{Call}
use Rattle.plank_sem.specs.Steps.{performed, ended}
use Rattle.plank_sem.specs.Kept.{GhostWorld, kept_performed}
use Rattle.plank_sem.specs.Facts.{IsSound, HasSizes}
use Rattle.plank_sem.proofs.CallMaps.{found_after_remove}
use Rattle.plank_sem.proofs.FitsKept.{world_of}
use Rattle.plank_pic.specs.declared.literals.Exit.{Exit}
use Rattle.plank_fact.specs.Outlines.{Outline, Point}
use Rattle.plank_fact.specs.OwnSteps.{location_after}
use Rattle.plank_sound.specs.Sights.{value_at}
use Rattle.plank_sound.specs.SeenSteps.{ActsAt, IsKnownWorld, IsSeenOwn, IsSeenOther, keys_of_two}
use Rattle.plank_sound.proofs.Own.Stepping.{BlockStepped, yes_stepped, no_stepped, block_stepped, OwnStepped, by_exit, own_stepped}
use Rattle.plank_sound.proofs.Others.EffectSteps.{OtherStepped, by_effect, unseen, other_stepped}
use Rattle.plank_sound.proofs.Others.StepViews.{claims_at}

module _ (O : Outline) (g later : GhostWorld) (known : IsKnownWorld O g) (sound_after : IsSound O.header later) (sizes_after : HasSizes later.world) (thread : ThreadId) (acts : ActsAt O g thread later.world later.kept) where
  abbrev x : Point O.methods
  x = acts.point

  -- the world after, with what the action makes of what is kept
  abbrev made : GhostWorld
  made = record { world = later.world; kept = kept_performed O.header g.world.heap later.world.heap thread acts.call acts.point.location.action g.kept }

  sound_made : IsSound O.header made
  sound_made = subst (λ k. IsSound O.header (record { world = later.world; kept = k })) acts.kept_is sound_after

  -- ---- the own call

  module _ (next : Call) (now : get later.world.calls thread.0 ≡ Some next) (key : ℤ) where
    -- a call that is pending afterwards has not returned
    goes_on : (answer : _) → x.location.action ≡ Action.Return answer → ⊥
    goes_on answer returns =
        let e = ap (λ a. performed O.methods g.world thread acts.call a) (sym returns) ∙ acts.step in
        (found_after_remove g.world.calls thread.0 thread.0 next (ap (λ w. get w.calls thread.0) (world_of _ acts.event (ended g.world thread) later.world e) ∙ now)).0 refl

    by_block : (b : Block) → x.location.action ≡ Action.Block b
        → BlockStepped O known.header known.methods g known.sound known.sizes known.orderly thread acts.call acts.pending x acts.at (claims_at O g known.claims acts) key acts.event later.world acts.step sound_made sizes_after next now b → IsSeenOwn O g made thread acts.call next x key
    by_block b same (yes_stepped passed step write wrote to comes) =
        record { exit = Exit.Yes; step = step; leads = ap (location_after Exit.Yes) same ∙ ap Some (sym to); write = λ e site. write }
    by_block b same (no_stepped failed step to comes) =
        record { exit = Exit.No; step = step; leads = ap (location_after Exit.No) same ∙ ap Some (sym to); write = λ e site. absurd (cc) }

    unwritten : is_site x.location.action ≡ false
        → OwnStepped O known.header known.methods g known.sound known.sizes known.orderly thread acts.call acts.pending x acts.at (claims_at O g known.claims acts) key acts.event later.world acts.step sound_made sizes_after next now → IsSeenOwn O g made thread acts.call next x key
    unwritten none (by_exit e step leads comes) = record { exit = e; step = step; leads = leads; write = λ yes site. absurd (false≢true (sym none ∙ site)) }

    by_action : (a : Action) → x.location.action ≡ a → IsSeenOwn O g made thread acts.call next x key
    by_action (Action.Block b) same =
        by_block b same (block_stepped O known.header known.methods g known.sound known.sizes known.orderly thread acts.call acts.pending x acts.at (claims_at O g known.claims acts) key acts.event later.world acts.step sound_made sizes_after next now b same)
    by_action (Action.Copy to from location) same =
        unwritten (ap is_site same)
        (own_stepped O known.header known.methods g known.sound known.sizes known.orderly thread acts.call acts.pending x acts.at (claims_at O g known.claims acts) key acts.event later.world acts.step sound_made sizes_after next now (Action.Copy to from location) same (λ answer e. absurd (cc)))
    by_action (Action.New to location) same =
        unwritten (ap is_site same)
        (own_stepped O known.header known.methods g known.sound known.sizes known.orderly thread acts.call acts.pending x acts.at (claims_at O g known.claims acts) key acts.event later.world acts.step sound_made sizes_after next now (Action.New to location) same (λ answer e. absurd (cc)))
    by_action (Action.Return answer) same = absurd (goes_on answer same)

    pub own_step_seen : IsSeenOwn O g later thread acts.call next x key
    own_step_seen = subst (λ k. IsSeenOwn O g (record { world = later.world; kept = k }) thread acts.call next x key) (sym acts.kept_is) (by_action x.location.action refl)

  -- ---- another call

  module _ (b : Block) (same : x.location.action ≡ Action.Block b) (writes : is_site x.location.action ≡ true) (u : ℕ) (call : Call) (y : Point O.methods) (apart : u ≢ thread.0) where
    as_seen : OtherStepped O known.header known.methods g known.sound known.sizes known.orderly thread acts.call acts.pending x acts.at (claims_at O g known.claims acts) y.method (value_at g.world.heap call (length y.method.variables)) refl (Some u)
        (ne_eqb thread.0 u (λ e. apart (sym e))) (keys_of_two call.key acts.call.key) refl (λ z. call.key) (g.kept.has_changed u) acts.event later.world acts.step sound_made sizes_after b same
        → IsSeenOther O g made u call y.method thread acts.call x b
    as_seen (by_effect is) = inl is
    as_seen (unseen is) = inr is

    pub other_step_seen : IsSeenOther O g later u call y.method thread acts.call x b
    other_step_seen = subst (λ k. IsSeenOther O g (record { world = later.world; kept = k }) u call y.method thread acts.call x b) (sym acts.kept_is)
        (as_seen (other_stepped O known.header known.methods g known.sound known.sizes known.orderly thread acts.call acts.pending x acts.at (claims_at O g known.claims acts) y.method (value_at g.world.heap call (length y.method.variables)) refl (Some u)
        (ne_eqb thread.0 u (λ e. apart (sym e))) (keys_of_two call.key acts.call.key) refl (λ z. call.key) (g.kept.has_changed u) acts.event later.world acts.step sound_made sizes_after b same writes))
