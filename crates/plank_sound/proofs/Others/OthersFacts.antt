-- A step of another thread keeps what is claimed where a call stands.
use Rattle.std.proofs.Common.{◌≡◌, ◌⊎◌, ℕ, zero, suc, ◌<◌, ◌≤◌, true, false, not, length, Option, Some, None, refl, sym, ◌∙◌, ap, inl, inr, arith}
use Rattle.std.specs.Prelude.{nat_lt, slice_get, is_none}
use Rattle.std.specs.FinMap.{get}
use Rattle.std.proofs.lemmas.Bool.{and_from, or_left, or_right, ne_eqb, lt-ltb, cases_Bool, true_from_ne_false}
use Rattle.plank_base.specs.declared.keys.NodeId.{NodeId}
use Rattle.plank_base.specs.declared.keys.ThreadId.{ThreadId}
use Rattle.plank_prog.specs.declared.blocks.Block.{Block}
use Rattle.plank_prog.specs.declared.methods.Action.{Action}
use Rattle.plank_prog.specs.declared.methods.Method.{Method}
use Rattle.plank_prog.specs.Headers.{is_lawful_header}
use Rattle.plank_prog.specs.Methods.{is_site, are_lawful_methods}
use Rattle.plank_heap.specs.declared.heaps.Heap.{Heap}
use Rattle.plank_sem.specs.declared.calls.Call.{Call}
use Rattle.plank_sem.specs.Worlds.{WorldState}
use Rattle.plank_sem.specs.Kept.{Kept, GhostWorld, IsShared, IsOwn, kept_performed}
use Rattle.plank_sem.specs.Facts.{IsSound, HasSizes}
use Rattle.plank_pic.specs.declared.literals.Literal.{Literal}
use Rattle.plank_pic.specs.declared.parts.Part.{Part}
use Rattle.plank_pic.specs.Frames.{Frame}
use Rattle.plank_pic.specs.Pictures.{Picture}
use Rattle.plank_pic.specs.Calls.{is_usable}
use Rattle.plank_pic.specs.Truths.{truth}
use Rattle.plank_fact.specs.declared.facts.Fact.{Fact}
use Rattle.plank_fact.specs.Tables.{name_count}
use Rattle.plank_fact.specs.Outlines.{Outline, Point, IsClaimed}
use Rattle.plank_fact.specs.OwnSteps.{own_call, method_frame}
use Rattle.plank_fact.specs.Forced.{IsValid}
use Rattle.plank_scene.specs.Scenes.{Scene, is_node, is_shared_in, is_mine_in, shown}
use Rattle.plank_scene.specs.Worlds.{IsOrderlyWorld}
use Rattle.plank_scene.specs.OwnScenes.{counts_as_mine}
use Rattle.plank_scene.proofs.Scenes.Showing.{on_at, shown_says}
use Rattle.plank_scene.proofs.Steps.QuietSteps.{IsQuiet, scene_then, quiet_shows}
use Rattle.plank_sound.specs.Sights.{holds, value_at, sight_of}
use Rattle.plank_sound.specs.Interference.{IsAt, AreNowTrue}
use Rattle.plank_sound.specs.SeenSteps.{ActsAt, keys_of_two}
use Rattle.plank_sound.proofs.Own.Readers.{reader_truth, not_theirs}
use Rattle.plank_sound.proofs.Others.JointNames.{own_is}
use Rattle.plank_sound.proofs.Others.EffectSteps.{OtherStepped, by_effect, unseen, other_stepped, joint, joint_before, joint_after}
use Rattle.plank_sound.proofs.Others.StepViews.{claims_at}

-- what is named does not change while the root and the call stay
pub same_values : (heap later : Heap) (call : Call) (variables i : ℕ) → heap.root ≡ later.root → value_at heap call variables i ≡ value_at later call variables i
same_values heap later call variables zero root = ap (λ (r : NodeId). Some r.0) root
same_values heap later call variables (suc v) root = refl

module _ (O : Outline) (header : is_lawful_header O.header ≡ true) (methods : are_lawful_methods O.header O.methods ≡ true) (valid : IsValid O)
    (g : GhostWorld) (sound : IsSound O.header g) (sizes : HasSizes g.world) (orderly : IsOrderlyWorld O.header g) (claims : AreNowTrue O g)
    (u : ℕ) (call : Call) (pending : get g.world.calls u ≡ Some call) (x : Point O.methods) (at : IsAt x call)
    (after : WorldState) (still : get after.calls u ≡ Some call) (sizes_after : HasSizes after) (thread : ThreadId) (apart : u ≡ thread.0 → ⊥) where
  abbrev m : Method
  m = x.method

  abbrev n : ℕ
  n = name_count m

  abbrev V : ℕ
  V = length m.variables

  abbrev named : ℕ → Option ℕ
  named = value_at g.world.heap call V

  usable_variable : (v : ℕ) (y : NodeId) → slice_get call.variables v ≡ Some (Some y) → IsShared g.kept.owners y.0 ⊎ IsOwn g.kept.owners y.0 u
  usable_variable v y found = elim (sound.variables u call pending v y found) [ inl s ↦ inl s | inr o ↦ inr o.0 ]

  mine_so : (i y : ℕ) → named i ≡ Some y → counts_as_mine g.kept.owners (Some thread.0) y ≡ true
  mine_so i y e = not_theirs g u call m thread.0 sound.root_is_shared usable_variable apart i y e

  -- ---- a site of the other call

  module _ (kept : Kept) (acts : ActsAt O g thread after kept) (b : Block) (same : acts.point.location.action ≡ Action.Block b)
      (sound_after : IsSound O.header (record { world = after; kept = kept_performed O.header g.world.heap after.heap thread acts.call acts.point.location.action g.kept })) where
    abbrev later : GhostWorld
    later = record { world = after; kept = kept_performed O.header g.world.heap after.heap thread acts.call acts.point.location.action g.kept }

    apart_node : is_node (Some thread.0) (Some u) ≡ false
    apart_node = ne_eqb thread.0 u (λ e. apart (sym e))

    abbrev F : Frame
    F = joint O header methods g sound sizes orderly thread acts.call acts.pending acts.point acts.at (claims_at O g claims acts) m named refl (Some u) apart_node (keys_of_two call.key acts.call.key) refl (λ z. call.key) (g.kept.has_changed u) acts.event after acts.step sound_after sizes_after b same

    abbrev S : Scene
    S = joint_before O header methods g sound sizes orderly thread acts.call acts.pending acts.point acts.at (claims_at O g claims acts) m named refl (Some u) apart_node (keys_of_two call.key acts.call.key) refl (λ z. call.key) (g.kept.has_changed u) acts.event after acts.step sound_after sizes_after b same

    abbrev T : Scene
    T = joint_after O header methods g sound sizes orderly thread acts.call acts.pending acts.point acts.at (claims_at O g claims acts) m named refl (Some u) apart_node (keys_of_two call.key acts.call.key) refl (λ z. call.key) (g.kept.has_changed u) acts.event after acts.step sound_after sizes_after b same

    names_own : (i : ℕ) → i < n → S.named i ≡ named i
    names_own i bi = own_is b n named (length acts.point.method.variables) acts.call i bi

    mine_named : (i y : ℕ) → i < n → S.named i ≡ Some y → S.mine y ≡ true
    mine_named i y bi e = mine_so i y (sym (names_own i bi) ∙ e)

    room : n ≤ F.names
    room = omega arith

    truth_before : (L : Literal) → truth (shown F S) (own_call m) L ≡ holds O.header (sight_of O.header g u call m) L
    truth_before L = reader_truth F S g sound u call pending m room refl refl refl refl names_own refl mine_named L

    truth_after : later.kept.has_changed u ≡ g.kept.has_changed u → (L : Literal) → truth (shown F T) (own_call m) L ≡ holds O.header (sight_of O.header later u call m) L
    truth_after unchanged L =
        reader_truth F T later sound_after u call still m room refl refl refl refl
        (λ i bi. names_own i bi ∙ same_values g.world.heap after.heap call V i (sound.same_root ∙ sym sound_after.same_root)) (sym unchanged) mine_named L

    -- each name of the reader is usable for it
    usable_name : (i : ℕ) → i < n → is_usable (shown F S) i ≡ true
    usable_name i bi = by_name (named i) refl
      where
        fits : nat_lt i F.names ≡ true
        fits = lt-ltb i F.names (let r = room in omega (arith, r))

        at_name : {o : Option ℕ} → named i ≡ o → S.named i ≡ o
        at_name e = names_own i bi ∙ e

        by_name : (o : Option ℕ) → named i ≡ o → is_usable (shown F S) i ≡ true
        by_name None e = or_left _ _ (or_left _ _ (shown_says F S (Part.Null i) fits ∙ ap is_none (at_name e)))
        by_name (Some y) e = elim (cases_Bool (is_shared_in S y)) [
          | inl s ↦ or_left _ _ (or_right _ _ (shown_says F S (Part.Shared i) fits ∙ on_at (is_shared_in S) (at_name e) ∙ s))
          | inr d ↦ or_right _ _ (shown_says F S (Part.Mine i) fits ∙ on_at (is_mine_in S) (at_name e) ∙ and_from _ _ (mine_so i y e) (ap not d))
        ]

    kept_by : (L : Literal) → IsClaimed O x (Fact.Now L)
        → OtherStepped O header methods g sound sizes orderly thread acts.call acts.pending acts.point acts.at (claims_at O g claims acts) m named refl (Some u) apart_node (keys_of_two call.key acts.call.key) refl (λ z. call.key) (g.kept.has_changed u) acts.event after acts.step sound_after sizes_after b same
        → truth (shown F T) (own_call m) L ≡ true
    kept_by L claimed (by_effect effect) = true_from_ne_false (truth (shown F T) (own_call m) L) (λ e. valid.kept x L claimed (record {
      site = acts.point;
      before = shown F S;
      after = shown F T;
      effect = effect;
      claimed = λ K claimed_K. truth_before K ∙ claims u call pending x at K claimed_K;
      usable = usable_name;
      false_after = e;
    }))
    kept_by L claimed (unseen same_picture) = ap (λ (p : Picture). truth p (own_call m) L) (sym same_picture) ∙ truth_before L ∙ claims u call pending x at L claimed

    pub kept_at_site : is_site acts.point.location.action ≡ true → later.kept.has_changed u ≡ g.kept.has_changed u → (L : Literal) → IsClaimed O x (Fact.Now L) → holds O.header (sight_of O.header later u call m) L ≡ true
    kept_at_site writes unchanged L claimed =
        sym (truth_after unchanged L)
        ∙ kept_by L claimed (other_stepped O header methods g sound sizes orderly thread acts.call acts.pending acts.point acts.at (claims_at O g claims acts) m named refl (Some u) apart_node (keys_of_two call.key acts.call.key) refl (λ z. call.key) (g.kept.has_changed u) acts.event after acts.step sound_after sizes_after b same writes)

  -- ---- a step that writes nothing

  module _ (kept : Kept) (sound_after : IsSound O.header (record { world = after; kept = kept })) (unchanged : kept.has_changed u ≡ g.kept.has_changed u) (other : Call) (is_quiet : IsQuiet g thread.0 other after.heap kept.owners) where
    abbrev here : Scene
    here = record {
      heap = g.world.heap;
      owners = g.kept.owners;
      before = g.world.heap;
      after = g.world.heap;
      named = named;
      walked = λ k. call.key;
      unborn = λ z. other.key;
      mine = λ z. true;
      own = Some u;
      other = None;
      spent = g.kept.has_changed u;
    }

    abbrev then_scene : Scene
    then_scene = scene_then here after.heap kept.owners

    pub kept_quietly : (L : Literal) → IsClaimed O x (Fact.Now L) → holds O.header (sight_of O.header (record { world = after; kept = kept }) u call m) L ≡ true
    kept_quietly L claimed =
        sym (reader_truth (method_frame O.header m) then_scene (record { world = after; kept = kept }) sound_after u call still m (omega arith) refl refl refl refl
        (λ i bi. same_values g.world.heap after.heap call V i (sound.same_root ∙ sym sound_after.same_root)) (sym unchanged) (λ i y bi e. refl) L)
        ∙ ap (λ (p : Picture). truth p (own_call m) L) (sym (quiet_shows (method_frame O.header m) header g sound here refl refl refl thread.0 other refl after.heap kept.owners is_quiet))
        ∙ reader_truth (method_frame O.header m) here g sound u call pending m (omega arith) refl refl refl refl (λ i bi. refl) refl (λ i y bi e. refl) L
        ∙ claims u call pending x at L claimed
