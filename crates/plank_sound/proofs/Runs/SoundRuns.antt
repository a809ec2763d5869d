-- Every step of every run of a program with a valid outline, whose obligations hold, is justified.
use Rattle.std.proofs.Common.{◌≡◌, ℕ, ◌==◌, ℤ, Bool, true, false, not, List, [], ◌∷◌, length, Option, Some, refl, sym, ◌∙◌, ap, subst, inl, inr, None}
use Rattle.std.specs.Prelude.{slice_get, option_map, option_and_then}
use Rattle.std.specs.FinMap.{get}
use Rattle.std.proofs.lemmas.Bool.{true≢false, false≢true, not-true, and_parts}
use Rattle.std.proofs.lemmas.Option.{none-some, same_Some}
use Rattle.plank_base.specs.declared.operations.Op.{Op}
use Rattle.plank_base.specs.declared.operations.Op.TheVariants.{Insert, Delete, Contains}
use Rattle.plank_base.specs.declared.keys.ThreadId.{ThreadId}
use Rattle.plank_base.specs.declared.obligations.Kind.{Kind}
use Rattle.plank_prog.specs.declared.blocks.Write.{Write}
use Rattle.plank_prog.specs.declared.methods.Action.{Action}
use Rattle.plank_prog.specs.declared.methods.Method.{Method}
use Rattle.plank_prog.specs.Headers.{is_lawful_header}
use Rattle.plank_prog.specs.Methods.{are_lawful_methods, operation}
use Rattle.plank_prog.specs.declared.methods.MethodKind.{MethodKind}
use Rattle.plank_heap.specs.declared.heaps.Heap.{Heap}
use Rattle.plank_heap.specs.Walks.{contains}
use Rattle.plank_hist.specs.declared.events.Event.{Event}
use Rattle.plank_hist.specs.declared.events.Event.TheVariants.{Invoke as invocation, Respond as response}
use Rattle.plank_sem.specs.declared.calls.Call.{Call}
use Rattle.plank_sem.specs.declared.steps.Choice.{Choice}
use Rattle.plank_sem.specs.Worlds.{WorldState}
use Rattle.plank_sem.specs.Reads.{tests_value}
use Rattle.plank_sem.specs.Steps.{next, stepped, action_of, op_of}
use Rattle.plank_sem.specs.Kept.{GhostWorld, differs, kept_performed, ghost_after, GhostRun, ghost_goes_on}
use Rattle.plank_sem.specs.Facts.{IsSound, HasSizes, IsWriting}
use Rattle.plank_sem.proofs.SoundWorlds.{GoodRun, run_good, good_sound}
use Rattle.plank_sem.proofs.StepCases.{StepWas, began, went, finished, acted_cases}
use Rattle.plank_sem.proofs.Sizes.{run_sizes}
use Rattle.plank_pic.specs.declared.literals.Literal.{Literal}
use Rattle.plank_pic.specs.declared.literals.Exit.{Exit}
use Rattle.plank_pic.specs.Blocks.{change, change_by, change_of}
use Rattle.plank_fact.specs.declared.facts.Fact.{Fact}
use Rattle.plank_fact.specs.Tables.{IsFactOf}
use Rattle.plank_fact.specs.Outlines.{Outline, Point}
use Rattle.plank_fact.specs.OwnSteps.{turn_at}
use Rattle.plank_fact.specs.Forced.{IsValid}
use Rattle.plank_fact.specs.Obligations.{needed_for, AllHold}
use Rattle.plank_fact.proofs.Valid.{claimed_or_marked}
use Rattle.plank_fact.proofs.TableFacts.{past_kind, spent_there, unspent_there, was_present_there, was_absent_there}
use Rattle.plank_fact.proofs.Listed.{none_fails}
use Rattle.plank_account.specs.Accounts.{IsJustified}
use Rattle.plank_account.specs.Justified.{MayTurnKey, WasInSet, IsJustifiedStep, AllStepsJustified}
use Rattle.plank_scene.proofs.Turns.Turning.{unturned}
use Rattle.plank_sound.specs.Sights.{IsTrueFact}
use Rattle.plank_sound.specs.Interference.{IsAt, IsKeptSo}
use Rattle.plank_sound.specs.HindsightLaw.{WasTrueOnce}
use Rattle.plank_sound.specs.SeenSteps.{ActsAt}
use Rattle.plank_sound.proofs.Own.Stepping.{get_inserted, action_at, BlockStepped, yes_stepped, no_stepped, block_stepped}
use Rattle.plank_sound.proofs.Others.StepViews.{standing, acts_so, claims_at}
use Rattle.plank_sound.proofs.Runs.StartWorlds.{start_orderly, start_holds}
use Rattle.plank_sound.proofs.Interference.Interference.{interference, claims_now}
use Rattle.plank_sound.proofs.Runs.Turns.{turns_own}

-- a method with an operation is no upkeep
set_of : (kind : MethodKind) (op : Op) → operation kind ≡ Some op → kind ≡ MethodKind.Set op
set_of (MethodKind.Set o) op e = ap MethodKind.Set (same_Some o op e)
set_of MethodKind.Upkeep op e = absurd (none-some op e)

module _ (O : Outline) (header : is_lawful_header O.header ≡ true) (methods : are_lawful_methods O.header O.methods ≡ true) (valid : IsValid O) (hold : AllHold O) where
  module _ (choices : List Choice) (told : List (Option Event)) (g : GhostWorld) (ghosts : List GhostWorld) (run : GhostRun O.header O.methods choices told (g ∷ ghosts))
      (choice : Choice) (event : Option Event) (after : WorldState) (step : next O.methods g.world choice ≡ stepped event after) where
    abbrev thread : ThreadId
    thread = choice.thread

    inv : IsKeptSo O choices g ghosts
    inv = interference O header methods valid hold (λ m L is. past_kind O.header m L is) (start_orderly O.header (start_holds O hold)) run

    abbrev later : GhostWorld
    later = ghost_after O.header O.methods g choice after

    good : GoodRun O.header O.methods (later ∷ g ∷ ghosts)
    good = run_good header methods (ghost_goes_on run choice event after step)

    was : StepWas O.methods g.world thread choice.act event after
    was = acted_cases O.methods g.world thread event after choice.act step

    -- the operation of a call is that of its point
    op_at : (x : Point O.methods) (call : Call) → IsAt x call → op_of O.methods call ≡ operation x.method.kind
    op_at x call at = ap (option_and_then (λ (m : Method). operation m.kind)) (ap (slice_get O.methods) (sym at.method) ∙ x.called)

    -- ---- what a step turns

    same_heap_turns : (heap : Heap) → after.heap ≡ heap → heap ≡ g.world.heap → (key : ℤ) → differs O.header g.world.heap after.heap key ≡ true → ⊥
    same_heap_turns heap is same key differ = false≢true (sym (unturned (contains O.header g.world.heap key)) ∙ ap (λ w. differs O.header g.world.heap w key) (sym (is ∙ same)) ∙ differ)

    module _ (writing : IsWriting O.methods g.world thread) (key : ℤ) (differ : differs O.header g.world.heap after.heap key ≡ true) where
      by_point : (acts : ActsAt O g thread after later.kept) → acts.call ≡ writing.call → (later_call : Call) → get after.calls thread.0 ≡ Some later_call → (w : Write) (ws : List Write) → writing.block.writes ≡ w ∷ ws → MayTurnKey O.header O.methods g thread.0 key
      by_point acts same_call later_call now w ws writes =
          let same : acts.point.location.action ≡ Action.Block writing.block = same_Some _ _ (sym (action_at acts.point acts.call acts.at) ∙ ap (action_of O.methods) same_call ∙ writing.at) in
          let change_is : change_of (turn_at O acts.point Exit.Yes) ≡ Some (change (turn_at O acts.point Exit.Yes) w ws) =
          ap (λ a. change_of (record (turn_at O acts.point Exit.Yes) { action = a })) same ∙ ap (λ vs. change_by (record (turn_at O acts.point Exit.Yes) { action = Action.Block writing.block }) vs) writes in
          by_stepped same change_is (block_stepped O header methods g sound sizes inv.orderly thread acts.call acts.pending acts.point acts.at (claims_at O g (claims_now O choices g ghosts inv) acts) key acts.event after acts.step sound_made sizes_after later_call now writing.block same)
        where
          sound : IsSound O.header g
          sound = good_sound O.header O.methods g (good.good 1 g refl)

          sizes : HasSizes g.world
          sizes = run_sizes run 0 g refl

          sizes_after : HasSizes after
          sizes_after = run_sizes (ghost_goes_on run choice event after step) 0 later refl

          sound_made : IsSound O.header (record { world = after; kept = kept_performed O.header g.world.heap after.heap thread acts.call acts.point.location.action g.kept })
          sound_made = subst (λ k. IsSound O.header (record { world = after; kept = k })) acts.kept_is (good_sound O.header O.methods later (good.good 0 later refl))

          by_stepped : acts.point.location.action ≡ Action.Block writing.block → change_of (turn_at O acts.point Exit.Yes) ≡ Some (change (turn_at O acts.point Exit.Yes) w ws)
              → BlockStepped O header methods g sound sizes inv.orderly thread acts.call acts.pending acts.point acts.at (claims_at O g (claims_now O choices g ghosts inv) acts) key acts.event after acts.step sound_made sizes_after later_call now writing.block → MayTurnKey O.header O.methods g thread.0 key
          by_stepped same change_is (no_stepped failed own to comes) = absurd (true≢false (same_Some true false (sym writing.passed ∙ ap (λ c. tests_value g.world.heap thread c writing.block.tests) (sym same_call) ∙ failed)))
          by_stepped same change_is (yes_stepped passed own taken wrote to comes) =
              let turns = turns_own O header methods g sound sizes inv.orderly thread acts.call acts.pending acts.point acts.at (claims_at O g (claims_now O choices g ghosts inv) acts) key acts.event after acts.step sound_made sizes_after later_call now hold (change (turn_at O acts.point Exit.Yes) w ws) change_is taken differ in
              record {
                call = acts.call;
                pending = acts.pending;
                own = turns.own;
                first = turns.first;
                op = turns.op;
                performs = op_at acts.point acts.call acts.at ∙ ap operation turns.performs;
                allowed = turns.allowed;
              }

      by_writes : (acts : ActsAt O g thread after later.kept) → acts.call ≡ writing.call → (later_call : Call) → get after.calls thread.0 ≡ Some later_call → (ws : List Write) → writing.block.writes ≡ ws → MayTurnKey O.header O.methods g thread.0 key
      by_writes acts same_call later_call now [] none = absurd (false≢true (sym (ap (λ (vs : List Write). not (length vs == 0)) none) ∙ writing.writes))
      by_writes acts same_call later_call now (w ∷ ws) some = by_point acts same_call later_call now w ws some

      turns_so : StepWas O.methods g.world thread choice.act event after → MayTurnKey O.header O.methods g thread.0 key
      turns_so (began m k method is called same_event same_world) = absurd (same_heap_turns g.world.heap (ap (λ (w : WorldState). w.heap) same_world) refl key differ)
      turns_so (finished call answer is pending here same_event same_world) = absurd (same_heap_turns g.world.heap (ap (λ (w : WorldState). w.heap) same_world) refl key differ)
      turns_so (went call action made is pending here makes same_event same_world) =
          let acts = acts_so O g (good.good 1 g refl).fits thread choice.act event after call action made is pending here makes same_world in
          by_writes acts (same_Some _ _ (sym acts.pending ∙ writing.pending)) made.call (ap (λ (w : WorldState). get w.calls thread.0) same_world ∙ get_inserted g.world.calls thread.0 made.call) writing.block.writes refl

    -- ---- what it answers

    module _ (answer : Bool) (call : Call) (pending : get g.world.calls thread.0 ≡ Some call) (x : Point O.methods) (at : IsAt x call) (returns : x.location.action ≡ Action.Return answer)
        (op : Op) (is : x.method.kind ≡ MethodKind.Set op) where
      -- a fact that the answer needs is true
      needed_so : (n : ℕ) (f : Fact) → slice_get (needed_for op answer) n ≡ Some f → IsFactOf O.header x.method f → IsTrueFact O.header choices g ghosts thread.0 call x.method f
      needed_so n f needed there = elim (claimed_or_marked O x f there) [
        | inl claimed ↦ inv.claims thread.0 call pending x at f claimed
        | inr marked ↦ absurd (none_fails O hold Kind.Answer x (record { op = op; answer = answer; of_method = is; returns = returns; number = n; fact = f; needed = needed; marked = marked }))
      ]

      was_present : WasTrueOnce O choices g ghosts thread.0 call x.method Literal.InSet → WasInSet O.header choices (g ∷ ghosts) thread.0 call.key true
      was_present was = record { ago = was.ago; moment = was.moment; at = was.at; was = (and_parts (contains O.header was.moment.world.heap call.key) true was.was).0 }

      was_absent : WasTrueOnce O choices g ghosts thread.0 call x.method Literal.NotInSet → WasInSet O.header choices (g ∷ ghosts) thread.0 call.key false
      was_absent was = record { ago = was.ago; moment = was.moment; at = was.at; was = not-true (contains O.header was.moment.world.heap call.key) (and_parts (not (contains O.header was.moment.world.heap call.key)) true was.was).0 }

      justified : (o : Op) → op ≡ o → (b : Bool) → answer ≡ b → IsJustified (WasInSet O.header choices (g ∷ ghosts) thread.0 call.key) (g.kept.has_changed thread.0) o b
      justified Contains same true said = was_present (needed_so 0 (Fact.Past Literal.InSet) (ap (λ o. slice_get (needed_for o answer) 0) same ∙ ap (λ b. slice_get (needed_for Contains b) 0) said) (was_present_there O.header x.method))
      justified Contains same false said = was_absent (needed_so 0 (Fact.Past Literal.NotInSet) (ap (λ o. slice_get (needed_for o answer) 0) same ∙ ap (λ b. slice_get (needed_for Contains b) 0) said) (was_absent_there O.header x.method))
      justified Insert same true said = needed_so 0 (Fact.Now Literal.Spent) (ap (λ o. slice_get (needed_for o answer) 0) same ∙ ap (λ b. slice_get (needed_for Insert b) 0) said) (spent_there O.header x.method)
      justified Insert same false said = (
        not-true (g.kept.has_changed thread.0) (needed_so 0 (Fact.Now Literal.Unspent) (ap (λ o. slice_get (needed_for o answer) 0) same ∙ ap (λ b. slice_get (needed_for Insert b) 0) said) (unspent_there O.header x.method)),
        was_present (needed_so 1 (Fact.Past Literal.InSet) (ap (λ o. slice_get (needed_for o answer) 1) same ∙ ap (λ b. slice_get (needed_for Insert b) 1) said) (was_present_there O.header x.method)),
      )
      justified Delete same true said = needed_so 0 (Fact.Now Literal.Spent) (ap (λ o. slice_get (needed_for o answer) 0) same ∙ ap (λ b. slice_get (needed_for Delete b) 0) said) (spent_there O.header x.method)
      justified Delete same false said = (
        not-true (g.kept.has_changed thread.0) (needed_so 0 (Fact.Now Literal.Unspent) (ap (λ o. slice_get (needed_for o answer) 0) same ∙ ap (λ b. slice_get (needed_for Delete b) 0) said) (unspent_there O.header x.method)),
        was_absent (needed_so 1 (Fact.Past Literal.NotInSet) (ap (λ o. slice_get (needed_for o answer) 1) same ∙ ap (λ b. slice_get (needed_for Delete b) 1) said) (was_absent_there O.header x.method)),
      )

    answers_so : (answer : Bool) (call : Call) (op : Op) → event ≡ Some (response thread answer) → get g.world.calls thread.0 ≡ Some call → op_of O.methods call ≡ Some op → StepWas O.methods g.world thread choice.act event after
        → IsJustified (WasInSet O.header choices (g ∷ ghosts) thread.0 call.key) (g.kept.has_changed thread.0) op answer
    answers_so answer call op told pending performs (began m k method is called same_event same_world) = absurd (no_answer (operation method.kind) (sym same_event ∙ told))
      where
        no_answer : (o : Option Op) → option_map (λ p. invocation thread p k) o ≡ Some (response thread answer) → ⊥
        no_answer None e = none-some _ e
        no_answer (Some p) e = absurd (cc)
    answers_so answer call op told pending performs (went other action made is is_pending here makes same_event same_world) = absurd (none-some _ (sym same_event ∙ told))
    answers_so answer call op told pending performs (finished other said is is_pending here same_event same_world) =
        let stands = standing O.methods g.world (good.good 1 g refl).fits thread.0 call pending in
        let same_call : other ≡ call = same_Some _ _ (sym is_pending ∙ pending) in
        let tells : Some (response thread said) ≡ Some (response thread answer) = sym (ap (λ o. option_map (λ p. response thread said) o) (ap (op_of O.methods) same_call ∙ performs)) ∙ sym same_event ∙ told in
        let same_answer : said ≡ answer = cc in
        let returns : stands.point.location.action ≡ Action.Return answer = same_Some _ _ (sym (action_at stands.point call stands.at) ∙ ap (action_of O.methods) (sym same_call) ∙ here) ∙ ap Action.Return same_answer in
        justified answer call pending stands.point stands.at returns op (set_of stands.point.method.kind op (sym (op_at stands.point call stands.at) ∙ performs)) op refl answer refl

    pub step_justified : IsJustifiedStep O.header O.methods choices g ghosts choice event after
    step_justified = record {
      turns = λ writing key differ. turns_so writing key differ was;
      answers = λ answer call op told pending performs. answers_so answer call op told pending performs was;
    }

  pub all_steps_justified : AllStepsJustified O.header O.methods
  all_steps_justified = λ choices told g ghosts run choice event after step. step_justified choices told g ghosts run choice event after step
