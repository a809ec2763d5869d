-- Interference: in every world of every run of a program whose outline is valid and whose obligations hold, shared nodes meet
-- the keeps, pointers their order, and each claim is true of each call that stands where it is claimed.
use Rattle.std.proofs.Common.{◌≡◌, ℕ, zero, suc, ◌<◌, ◌==◌, ℤ, Bool, true, false, List, ◌∷◌, length, Option, Some, None, refl, sym, ◌∙◌, ap, subst, inl, inr, arith}
use Rattle.std.specs.Prelude.{nat_lt, slice_get, is_none, replicate}
use Rattle.std.specs.Option.{option_map_or, option_flatten}
use Rattle.std.specs.Ordering.{nat_cmp}
use Rattle.std.specs.FinMap.{get, insert, get-empty}
use Rattle.std.proofs.Math.Path.{fun_ext}
use Rattle.std.proofs.lemmas.Bool.{cases_eq, ne_eqb, eq-eqb, lt-ltb, cond-true, cond-false}
use Rattle.std.proofs.lemmas.Option.{none-some, same_Some}
use Rattle.plank_base.specs.declared.keys.NodeId.{NodeId}
use Rattle.plank_base.specs.declared.keys.ThreadId.{ThreadId}
use Rattle.plank_base.specs.declared.limits.TheConstants.{VARIABLES_LIMIT}
use Rattle.plank_prog.specs.declared.headers.Header.{Header}
use Rattle.plank_prog.specs.declared.blocks.Reference.{Reference}
use Rattle.plank_prog.specs.declared.methods.Action.{Action}
use Rattle.plank_prog.specs.declared.methods.Method.{Method}
use Rattle.plank_prog.specs.Headers.{is_lawful_header}
use Rattle.plank_prog.specs.Methods.{are_lawful_methods}
use Rattle.plank_hist.specs.declared.events.Event.{Event}
use Rattle.plank_sem.specs.declared.calls.Call.{Call}
use Rattle.plank_sem.specs.declared.steps.Act.{Act}
use Rattle.plank_sem.specs.declared.steps.Act.TheVariants.{Invoke, Go}
use Rattle.plank_sem.specs.declared.steps.Choice.{Choice}
use Rattle.plank_sem.specs.Worlds.{WorldState, fresh_call}
use Rattle.plank_sem.specs.Actions.{After}
use Rattle.plank_sem.specs.Steps.{next, stepped, action_of}
use Rattle.plank_sem.specs.Kept.{Kept, GhostWorld, kept_performed, kept_gone_on, kept_acted, ghost_start, GhostRun, ghost_goes_on}
use Rattle.plank_sem.specs.Facts.{IsSound, HasSizes}
use Rattle.plank_sem.proofs.CallMaps.{found_after_remove}
use Rattle.plank_sem.proofs.SoundWorlds.{GoodRun, run_good, good_sound}
use Rattle.plank_sem.proofs.RunInduction.{run_induction}
use Rattle.plank_sem.proofs.StepCases.{made_by, made_same, StepWas, began, went, finished, acted_cases}
use Rattle.plank_sem.proofs.CallMoments.{HasAge, begun_since-other, begun_since-go, other_pending, pending_has_age, newest_moment, older_moments}
use Rattle.plank_sem.proofs.Sizes.{run_sizes}
use Rattle.plank_pic.specs.declared.literals.Literal.{Literal}
use Rattle.plank_pic.specs.declared.parts.Part.{Part}
use Rattle.plank_pic.specs.Frames.{Frame}
use Rattle.plank_pic.specs.Truths.{truth}
use Rattle.plank_fact.specs.Literals.{can_be_past}
use Rattle.plank_fact.specs.declared.facts.Fact.{Fact}
use Rattle.plank_fact.specs.Tables.{name_count, IsFactOf}
use Rattle.plank_fact.specs.Outlines.{Outline, Point, IsClaimed}
use Rattle.plank_fact.specs.OwnSteps.{own_call, method_frame}
use Rattle.plank_fact.specs.After.{IsEntryPicture}
use Rattle.plank_fact.specs.Forced.{IsValid}
use Rattle.plank_fact.specs.Obligations.{AllHold}
use Rattle.plank_scene.specs.Scenes.{Scene, shown}
use Rattle.plank_scene.specs.Worlds.{IsOrderlyWorld}
use Rattle.plank_scene.specs.Turns.{number}
use Rattle.plank_scene.proofs.Scenes.Showing.{shown_says}
use Rattle.plank_scene.proofs.Scenes.Orderly.{shows_lawful}
use Rattle.plank_scene.proofs.Steps.Inhabited.{in_world}
use Rattle.plank_scene.proofs.Keeps.OrderlyWorlds.{orderly_scene}
use Rattle.plank_sound.specs.Sights.{holds, value_at, values_of, sight_of, WasTrue, IsTrueFact}
use Rattle.plank_sound.specs.Interference.{IsAt, AreNowTrue, IsKeptSo, Inv}
use Rattle.plank_sound.specs.HindsightLaw.{HindsightHolds, WasTrueOnce}
use Rattle.plank_sound.proofs.Own.Stepping.{get_inserted, action_at}
use Rattle.plank_sound.proofs.Own.PastFacts.{IsSo, known_so}
use Rattle.plank_sound.proofs.Own.OwnFacts.{own_fact}
use Rattle.plank_sound.proofs.Others.OthersFacts.{same_values, kept_at_site, kept_quietly}
use Rattle.plank_sound.proofs.Own.Readers.{reader_truth, reader_witnessed}
use Rattle.plank_sound.proofs.Interference.OrderlyKept.{orderly_then}
use Rattle.plank_sound.proofs.Hindsight.HindsightRuns.{hindsight_holds}
use Rattle.plank_sound.proofs.Others.StepViews.{StepView, at_site, quiet, kept_began, acts_so, step_view, site_block}

-- of the claims that are true, those of now
pub claims_now : (O : Outline) (choices : List Choice) (g : GhostWorld) (ghosts : List GhostWorld) → IsKeptSo O choices g ghosts → AreNowTrue O g
claims_now O choices g ghosts kept u call pending x at L claimed = kept.claims u call pending x at (Fact.Now L) claimed

-- what is kept of other threads' calls
pub kept_other : (h : Header) (methods : List Method) (before after : WorldState) (thread : ThreadId) (act : Act) (kept : Kept) (u : ℕ) → (u ≡ thread.0 → ⊥) → (kept_acted h methods before after thread act kept).has_changed u ≡ kept.has_changed u
kept_other h methods before after thread (Invoke m key) kept u apart = cond-false (u == thread.0) false (kept.has_changed u) (ne_eqb u thread.0 apart)
kept_other h methods before after thread Go kept u apart = by_call (get before.calls thread.0)
  where
    by_action : (call : Call) (o : Option Action) → (option_map_or (λ a. kept_performed h before.heap after.heap thread call a kept) o kept).has_changed u ≡ kept.has_changed u
    by_action call None = refl
    by_action call (Some a) = cond-false (u == thread.0) _ (kept.has_changed u) (ne_eqb u thread.0 apart)

    by_call : (o : Option Call) → (kept_gone_on h methods before.heap after.heap thread o kept).has_changed u ≡ kept.has_changed u
    by_call None = refl
    by_call (Some call) = by_action call (action_of methods call)

module _ (O : Outline) (header : is_lawful_header O.header ≡ true) (methods : are_lawful_methods O.header O.methods ≡ true) (valid : IsValid O) (hold : AllHold O)
    (past_kinds : (m : Method) (L : Literal) → IsFactOf O.header m (Fact.Past L) → can_be_past L ≡ true) where
  module _ (choices : List Choice) (told : List (Option Event)) (g : GhostWorld) (ghosts : List GhostWorld) (run : GhostRun O.header O.methods choices told (g ∷ ghosts)) (inv : IsKeptSo O choices g ghosts)
      (choice : Choice) (event : Option Event) (after : WorldState) (step : next O.methods g.world choice ≡ stepped event after) where
    abbrev thread : ThreadId
    thread = choice.thread

    abbrev kept : Kept
    kept = kept_acted O.header O.methods g.world after thread choice.act g.kept

    abbrev later : GhostWorld
    later = record { world = after; kept = kept }

    more : GhostRun O.header O.methods (choice ∷ choices) (event ∷ told) (later ∷ g ∷ ghosts)
    more = ghost_goes_on run choice event after step

    good : GoodRun O.header O.methods (later ∷ g ∷ ghosts)
    good = run_good header methods more

    sound : IsSound O.header g
    sound = good_sound O.header O.methods g (good.good 1 g refl)

    sound_after : IsSound O.header later
    sound_after = good_sound O.header O.methods later (good.good 0 later refl)

    sizes : HasSizes g.world
    sizes = run_sizes run 0 g refl

    sizes_after : HasSizes after
    sizes_after = run_sizes more 0 later refl

    view : StepView O g thread after kept
    view = step_view O g (good.good 1 g refl).fits thread choice.act event after step

    orderly_later : IsOrderlyWorld O.header later
    orderly_later = orderly_then O header methods hold g sound sizes inv.orderly (claims_now O choices g ghosts inv) thread after kept sound_after sizes_after view

    older_later : (i : ℕ) (w : GhostWorld) → slice_get (g ∷ ghosts) i ≡ Some w → IsOrderlyWorld O.header w × AreNowTrue O w
    older_later zero w at = subst (λ v. IsOrderlyWorld O.header v × AreNowTrue O v) (same_Some g w at) (inv.orderly, (claims_now O choices g ghosts inv))
    older_later (suc i) w at = inv.older i w at

    all_orderly : (i : ℕ) (w : GhostWorld) → slice_get (later ∷ g ∷ ghosts) i ≡ Some w → IsOrderlyWorld O.header w
    all_orderly zero w at = subst (λ v. IsOrderlyWorld O.header v) (same_Some later w at) orderly_later
    all_orderly (suc i) w at = (older_later i w at).0

    law : HindsightHolds O (choice ∷ choices) later (g ∷ ghosts)
    law = hindsight_holds O header methods (choice ∷ choices) (event ∷ told) later (g ∷ ghosts) more all_orderly (λ i w at. (older_later i w at).1)

    -- ---- calls of other threads

    module _ (u : ℕ) (call : Call) (x : Point O.methods) (at : IsAt x call) (pending : get g.world.calls u ≡ Some call) (still : get after.calls u ≡ Some call) (apart : u ≡ thread.0 → ⊥) where
      unchanged : kept.has_changed u ≡ g.kept.has_changed u
      unchanged = kept_other O.header O.methods g.world after thread choice.act g.kept u apart

      other_now : (L : Literal) → IsClaimed O x (Fact.Now L) → StepView O g thread after kept → holds O.header (sight_of O.header later u call x.method) L ≡ true
      other_now L claimed (quiet other is) =
          kept_quietly O header methods valid g sound sizes inv.orderly (claims_now O choices g ghosts inv) u call pending x at after still sizes_after thread apart kept sound_after unchanged other is L claimed
      other_now L claimed (at_site acts writes) =
          let b = site_block acts.point.location.action writes in
          let sound_made = subst (λ k. IsSound O.header (record { world = after; kept = k })) acts.kept_is sound_after in
          subst (λ k. holds O.header (sight_of O.header (record { world = after; kept = k }) u call x.method) L ≡ true) (sym acts.kept_is)
          (kept_at_site O header methods valid g sound sizes inv.orderly (claims_now O choices g ghosts inv) u call pending x at after still sizes_after thread apart kept acts b.0 b.1 sound_made writes (ap (λ (k : Kept). k.has_changed u) (sym acts.kept_is) ∙ unchanged) L claimed)

      aged : HasAge u choices
      aged = pending_has_age run u call pending

      same_names : values_of g.world.heap call x.method ≡ values_of after.heap call x.method
      same_names = fun_ext (λ (r : Reference). same_values g.world.heap after.heap call (length x.method.variables) ((own_call x.method).name r) (sound.same_root ∙ sym sound_after.same_root))

      other_past : (L : Literal) → WasTrueOnce O choices g ghosts u call x.method L → WasTrueOnce O (choice ∷ choices) later (g ∷ ghosts) u call x.method L
      other_past L was = subst (λ named. WasTrue O.header (choice ∷ choices) (later ∷ g ∷ ghosts) u named call.key L) same_names (record {
        ago = suc was.ago;
        moment = was.moment;
        at = ap (λ ws. slice_get ws (suc was.ago)) (older_moments u choice choices later (g ∷ ghosts) aged (begun_since-other u choice _ apart)) ∙ was.at;
        kind = was.kind;
        was = was.was;
      })

      other_fact : (f : Fact) → IsClaimed O x f → IsTrueFact O.header (choice ∷ choices) later (g ∷ ghosts) u call x.method f
      other_fact (Fact.Now L) claimed = other_now L claimed view
      other_fact (Fact.Past L) claimed = other_past L (inv.claims u call pending x at (Fact.Past L) claimed)

    -- ---- a call that has begun

    none_there : (n v : ℕ) → option_flatten {T = NodeId} (slice_get (replicate n None) v) ≡ None
    none_there zero v = refl
    none_there (suc n) zero = refl
    none_there (suc n) (suc v) = none_there n v

    module _ (u : ℕ) (same_thread : u ≡ thread.0) (m : ℕ) (key : ℤ) (is : choice.act ≡ Invoke m key) (pending : get after.calls u ≡ Some (fresh_call m key)) (y : Point O.methods) (at : IsAt y (fresh_call m key)) where
      abbrev F : Frame
      F = method_frame O.header y.method

      abbrev S : Scene
      S = record {
        heap = after.heap;
        owners = kept.owners;
        before = after.heap;
        after = after.heap;
        named = value_at after.heap (fresh_call m key) (length y.method.variables);
        walked = λ k. key;
        unborn = λ z. key;
        mine = λ z. true;
        own = Some u;
        other = None;
        spent = kept.has_changed u;
      }

      unspent : kept.has_changed u ≡ false
      unspent = ap (λ (k : Kept). k.has_changed u) (kept_began O.header O.methods g.world after thread g.kept choice.act m key is) ∙ cond-true (u == thread.0) false (g.kept.has_changed u) (eq-eqb u thread.0 same_thread)

      null_names : (v : ℕ) → v < name_count y.method → 0 < v → shown F S (Part.Null v) ≡ true
      null_names zero bv pos = absurd (omega (arith, pos))
      null_names (suc v) bv pos =
          shown_says F S (Part.Null (suc v)) (lt-ltb (suc v) F.names bv)
          ∙ ap is_none (cond-true (nat_lt v (length y.method.variables)) _ None (lt-ltb v (length y.method.variables) (omega (arith, bv))) ∙ ap number (none_there VARIABLES_LIMIT v))

      entered : IsEntryPicture O.header y.method (shown F S)
      entered = record {
        lawful = shows_lawful F S
            (in_world F later header sound_after sizes_after S (kept.has_changed u) (inl refl) (λ r e. ap S.named (sym (same_Some 0 r e))))
            (orderly_scene F later header sound_after sizes_after S (kept.has_changed u) (inl refl) orderly_later);
        null = null_names;
        unspent = unspent;
      }

      truth_now : (L : Literal) → truth (shown F S) (own_call y.method) L ≡ holds O.header (sight_of O.header later u (fresh_call m key) y.method) L
      truth_now L = reader_truth F S later sound_after u (fresh_call m key) pending y.method (omega arith) refl refl refl refl (λ i bi. refl) refl (λ i z bi e. refl) L

      abbrev Was : Literal → Type 0
      Was L = WasTrueOnce O (choice ∷ choices) later (g ∷ ghosts) u (fresh_call m key) y.method L

      fact_so : (f : Fact) → IsSo y.method Was (shown F S) f → IsTrueFact O.header (choice ∷ choices) later (g ∷ ghosts) u (fresh_call m key) y.method f
      fact_so (Fact.Now L) so = sym (truth_now L) ∙ so
      fact_so (Fact.Past L) so = so

      begun_fact : (f : Fact) → IsClaimed O y f → IsTrueFact O.header (choice ∷ choices) later (g ∷ ghosts) u (fresh_call m key) y.method f
      begun_fact f claimed =
          fact_so f (known_so O y.method (IsEntryPicture O.header y.method) (λ L. ⊥) Was (shown F S) entered
          (λ L fact e. record {
            ago = 0;
            moment = later;
            at = newest_moment u (choice ∷ choices) later (g ∷ ghosts) (pending_has_age more u (fresh_call m key) pending);
            kind = past_kinds y.method L fact;
            was = reader_witnessed F S later sound_after u (fresh_call m key) y.method (omega arith) refl refl refl (λ i bi. refl) L (past_kinds y.method L fact) e;
          })
          (λ L fact none. absurd none)
          (λ past once L fact was given hindsight. law u (fresh_call m key) pending y at.method _ (λ K lasts. (lasts.0, sym (truth_now K) ∙ lasts.1.holds (shown F S) entered)) past was once (λ b is. sym (truth_now b) ∙ given b is) L (past_kinds y.method L fact) hindsight)
          f (valid.entry y f at.location claimed))

    -- ---- a call that went on

    returns_none : (call : Call) (action : Action) (made : After) (answer : Bool) → action ≡ Action.Return answer → made_by g.world.heap thread call action ≡ Some made → ⊥
    returns_none call action made answer e makes = none-some made (sym (ap (made_by g.world.heap thread call) e) ∙ makes)

    went_fact : (u : ℕ) (found : Call) → u ≡ thread.0 → get after.calls u ≡ Some found → (call : Call) (action : Action) (made : After) → choice.act ≡ Go → get g.world.calls thread.0 ≡ Some call → action_of O.methods call ≡ Some action → made_by g.world.heap thread call action ≡ Some made
        → after ≡ record { heap = made.heap; calls = insert g.world.calls thread.0 made.call } → (y : Point O.methods) → IsAt y found → (f : Fact) → IsClaimed O y f → IsTrueFact O.header (choice ∷ choices) later (g ∷ ghosts) u found y.method f
    went_fact u found same_thread at call action made is pending here makes same_world y there f claimed =
        let acts = acts_so O g (good.good 1 g refl).fits thread choice.act event after call action made is pending here makes same_world in
        let sound_made = subst (λ k. IsSound O.header (record { world = after; kept = k })) acts.kept_is sound_after in
        let now : get after.calls thread.0 ≡ Some found = subst (λ t. get after.calls t ≡ Some found) same_thread at in
        let its_call : made.call ≡ found = same_Some _ _ (sym (get_inserted g.world.calls thread.0 made.call) ∙ ap (λ (w : WorldState). get w.calls thread.0) (sym same_world) ∙ now) in
        let same = made_same g.world.heap thread call action made makes in
        let same_call : acts.call ≡ call = same_Some _ _ (sym acts.pending ∙ pending) in
        let same_method : found.method ≡ acts.call.method = ap (λ (c : Call). c.method) (sym its_call) ∙ same.method ∙ ap (λ (c : Call). c.method) (sym same_call) in
        let same_key : found.key ≡ acts.call.key = ap (λ (c : Call). c.key) (sym its_call) ∙ same.key ∙ ap (λ (c : Call). c.key) (sym same_call) in
        subst (λ t. IsTrueFact O.header (choice ∷ choices) later (g ∷ ghosts) t found y.method f) (sym same_thread)
        (subst (λ k. IsTrueFact O.header (choice ∷ choices) (record { world = after; kept = k }) (g ∷ ghosts) thread.0 found y.method f) (sym acts.kept_is)
        (own_fact O header methods g sound sizes inv.orderly thread acts.call acts.pending acts.point acts.at (λ L c. (claims_now O choices g ghosts inv) thread.0 acts.call acts.pending acts.point acts.at L c) found.key acts.event after acts.step sound_made sizes_after found now
        valid same_method same_key choice choices ghosts (pending_has_age more thread.0 found now)
        (subst (λ k. HindsightHolds O (choice ∷ choices) (record { world = after; kept = k }) (g ∷ ghosts)) acts.kept_is law)
        (λ L c. inv.claims thread.0 acts.call acts.pending acts.point acts.at (Fact.Past L) c)
        (older_moments thread.0 choice choices _ (g ∷ ghosts) (pending_has_age run thread.0 acts.call acts.pending) (begun_since-go thread.0 choice _ is))
        (past_kinds acts.point.method)
        (λ answer e. returns_none call action made answer (same_Some _ _ (sym here ∙ ap (action_of O.methods) (sym same_call) ∙ action_at acts.point acts.call acts.at) ∙ e) makes) y there f claimed))

    -- ---- all calls

    claim_so : (u : ℕ) (found : Call) → get after.calls u ≡ Some found → (y : Point O.methods) → IsAt y found → (f : Fact) → IsClaimed O y f → StepWas O.methods g.world thread choice.act event after → IsTrueFact O.header (choice ∷ choices) later (g ∷ ghosts) u found y.method f
    claim_so u found at y there f claimed was = elim (cases_eq u thread.0) [
      | inr other ↦ other_fact u found y there (other_pending O.methods g.world thread choice.act event after u found other at was) at other f claimed
      | inl same ↦ of_own same was
    ]
      where
        of_own : u ≡ thread.0 → StepWas O.methods g.world thread choice.act event after → IsTrueFact O.header (choice ∷ choices) later (g ∷ ghosts) u found y.method f
        of_own same (began m key method is called same_event same_world) =
            let fresh : found ≡ fresh_call m key = same_Some _ _ (sym at ∙ ap (λ (w : WorldState). get w.calls u) same_world ∙ ap (λ t. get (insert g.world.calls thread.0 (fresh_call m key)) t) same ∙ get_inserted g.world.calls thread.0 (fresh_call m key)) in
            subst (λ c. IsTrueFact O.header (choice ∷ choices) later (g ∷ ghosts) u c y.method f) (sym fresh)
            (begun_fact u same m key is (at ∙ ap Some fresh) y (subst (λ c. IsAt y c) fresh there) f claimed)
        of_own same (went call action made is pending here makes same_event same_world) = went_fact u found same at call action made is pending here makes same_world y there f claimed
        of_own same (finished call answer is pending here same_event same_world) =
            absurd ((found_after_remove g.world.calls thread.0 u found (ap (λ (w : WorldState). get w.calls u) (sym same_world) ∙ at)).0 same)

    pub kept_after : IsKeptSo O (choice ∷ choices) later (g ∷ ghosts)
    kept_after = record {
      orderly = orderly_later;
      claims = λ u found at y there f claimed. claim_so u found at y there f claimed (acted_cases O.methods g.world thread event after choice.act step);
      older = older_later;
    }

  -- of every run
  pub interference : IsOrderlyWorld O.header (ghost_start O.header) → {choices : List Choice} {told : List (Option Event)} {ghosts : List GhostWorld} → GhostRun O.header O.methods choices told ghosts → Inv O choices told ghosts
  interference start run =
      run_induction (Inv O)
      (record { orderly = start; claims = λ u call at x there f claimed. absurd (none-some call (sym (get-empty nat_cmp u) ∙ at)); older = λ i w at. absurd (none-some w at) })
      (λ choices told g ghosts so_far inv choice event after step. kept_after choices told g ghosts so_far inv choice event after step) run
