-- Steps keep worlds orderly.
use Rattle.std.proofs.Common.{◌≡◌, ◌⊎◌, ℕ, zero, suc, ◌==◌, ℤ, true, false, not, List, [], ◌∷◌, ◌++◌, length, Some, None, refl, sym, ◌∙◌, ap, subst, inl, inr, arith}
use Rattle.std.specs.Prelude.{slice_get}
use Rattle.std.specs.Option.{option_map_or}
use Rattle.std.specs.FinMap.{get, insert}
use Rattle.std.proofs.lemmas.Bool.{true≢false, false≢true}
use Rattle.std.proofs.lemmas.Option.{none-some, same_Some, slice_get_within}
use Rattle.plank_base.specs.declared.keys.NodeId.{NodeId}
use Rattle.plank_base.specs.declared.keys.ThreadId.{ThreadId}
use Rattle.plank_prog.specs.declared.blocks.Write.{Write}
use Rattle.plank_prog.specs.declared.blocks.Block.{Block}
use Rattle.plank_prog.specs.declared.methods.Action.{Action}
use Rattle.plank_prog.specs.Conditions.{value}
use Rattle.plank_prog.specs.Headers.{is_lawful_header}
use Rattle.plank_prog.specs.Methods.{is_site, are_lawful_methods}
use Rattle.plank_heap.specs.declared.nodes.Node.{Node}
use Rattle.plank_heap.specs.declared.heaps.Heap.{Heap}
use Rattle.plank_heap.specs.Heaps.{view_of_node}
use Rattle.plank_heap.specs.Changes.{fresh_node}
use Rattle.plank_heap.specs.Walks.{walk_visits}
use Rattle.plank_sem.specs.declared.calls.Call.{Call}
use Rattle.plank_sem.specs.Worlds.{WorldState}
use Rattle.plank_sem.specs.Reads.{tests_value}
use Rattle.plank_sem.specs.Actions.{After, block_run}
use Rattle.plank_sem.specs.Steps.{stepped, performed}
use Rattle.plank_sem.specs.Kept.{Kept, GhostWorld, IsShared, kept_performed, owners_after, owners_written}
use Rattle.plank_sem.specs.Facts.{IsSound, HasSizes}
use Rattle.plank_sem.proofs.Lists.{found_after_push}
use Rattle.plank_pic.specs.declared.literals.Exit.{Exit}
use Rattle.plank_pic.specs.declared.parts.KeyName.{KeyName}
use Rattle.plank_pic.specs.declared.parts.Part.{Part}
use Rattle.plank_pic.specs.Frames.{Frame}
use Rattle.plank_pic.specs.Pictures.{Picture}
use Rattle.plank_pic.specs.Steps.{Change}
use Rattle.plank_pic.specs.Blocks.{change, change_by, change_of}
use Rattle.plank_fact.specs.Outlines.{Outline}
use Rattle.plank_fact.specs.OwnSteps.{turn_at}
use Rattle.plank_fact.specs.Obligations.{AllHold}
use Rattle.plank_scene.specs.Scenes.{Scene}
use Rattle.plank_scene.specs.Worlds.{in_order, field_order, IsOrderlyWorld}
use Rattle.plank_scene.proofs.Steps.WorldSteps.{Ran, by_yes, by_no, ran, went}
use Rattle.plank_scene.proofs.Steps.QuietSteps.{IsQuiet, same_heap, grown_heap, quiet_shows}
use Rattle.plank_sound.specs.Sights.{bare_scene}
use Rattle.plank_sound.specs.Interference.{AreNowTrue}
use Rattle.plank_sound.specs.SeenSteps.{ActsAt}
use Rattle.plank_sound.proofs.Own.Stepping.{get_inserted, BlockStepped, yes_stepped, no_stepped, block_stepped}
use Rattle.plank_sound.proofs.Interference.OwnWrites.{WritesAt, orderly_after}
use Rattle.plank_sound.proofs.Others.StepViews.{StepView, at_site, quiet, site_block, claims_at}

-- ---- steps that write nothing

module _ (O : Outline) (header : is_lawful_header O.header ≡ true) (g : GhostWorld) (sound : IsSound O.header g) (orderly : IsOrderlyWorld O.header g) (thread : ℕ) (call : Call) (after : WorldState) (kept : Kept) where
  -- each key's walk visits what it visited
  abbrev of_one : Frame
  of_one = record { header = O.header; names = 1; root = None }

  abbrev scene_of : ℤ → ℕ → Scene
  scene_of j x = record (bare_scene g j) { named = λ i. Some x; unborn = λ z. call.key }

  visits_same : (j : ℤ) (x : ℕ) → IsQuiet g thread call after.heap kept.owners → walk_visits O.header g.world.heap j x ≡ walk_visits O.header after.heap j x
  visits_same j x is = ap (λ (p : Picture). p (Part.Visits KeyName.Any 0)) (quiet_shows of_one header g sound (scene_of j x) refl refl refl thread call refl after.heap kept.owners is)

  pub orderly_quietly : IsQuiet g thread call after.heap kept.owners → IsOrderlyWorld O.header (record { world = after; kept = kept })
  orderly_quietly (same_heap heap owners) = record {
    keeps = λ j x n node shared at. ap (λ w. option_map_or (λ q. value (view_of_node node j (walk_visits O.header w j x)) q.condition) (slice_get O.header.keeps n) true) heap
        ∙ orderly.keeps j x n node (ap (λ os. slice_get os x) (sym owners) ∙ shared) (ap (λ (w : Heap). slice_get w.nodes x) (sym heap) ∙ at);
    ordered = λ x f node next to at leads there. orderly.ordered x f node next to (ap (λ (w : Heap). slice_get w.nodes x) (sym heap) ∙ at) leads (ap (λ (w : Heap). slice_get w.nodes to.0) (sym heap) ∙ there);
  }
  orderly_quietly (grown_heap heap owners) = record {
    keeps = λ j x n node shared at. keeps_so j x n node shared
        (found_after_push g.kept.owners (Some thread) x None (ap (λ os. slice_get os x) (sym owners) ∙ shared)) (ap (λ (w : Heap). slice_get w.nodes x) (sym heap) ∙ at);
    ordered = λ x f node next to at leads there. ordered_so x f node next to leads
        (found_after_push g.world.heap.nodes (fresh_node call.key) x node (ap (λ (w : Heap). slice_get w.nodes x) (sym heap) ∙ at)) (ap (λ (w : Heap). slice_get w.nodes to.0) (sym heap) ∙ there);
  }
    where
      keeps_so : (j : ℤ) (x n : ℕ) (node : Node) → IsShared kept.owners x → (slice_get g.kept.owners x ≡ Some None) ⊎ ((x ≡ length g.kept.owners) × (Some thread ≡ None)) → slice_get (g.world.heap.nodes ++ fresh_node call.key ∷ []) x ≡ Some node
          → option_map_or (λ q. value (view_of_node node j (walk_visits O.header after.heap j x)) q.condition) (slice_get O.header.keeps n) true ≡ true
      keeps_so j x n node shared (inr fresh) at = absurd (none-some thread (sym fresh.1))
      keeps_so j x n node shared (inl old) at = elim (found_after_push g.world.heap.nodes (fresh_node call.key) x node at) [
        | inl found ↦ ap (λ b. option_map_or (λ q. value (view_of_node node j b) q.condition) (slice_get O.header.keeps n) true) (sym (visits_same j x (grown_heap heap owners))) ∙ orderly.keeps j x n node old found
        | inr fresh ↦ absurd (let within = slice_get_within g.kept.owners x None old in let same = sound.owned in let e = fresh.0 in omega (arith, within, same, e))
      ]

      none_led : (f : ℕ) (to : NodeId) → slice_get (fresh_node call.key).pointers f ≡ Some (Some to) → ⊥
      none_led zero to e = none-some to (same_Some None (Some to) e)
      none_led (suc zero) to e = none-some to (same_Some None (Some to) e)
      none_led (suc (suc f)) to e = none-some (Some to) e

      ordered_so : (x f : ℕ) (node next : Node) (to : NodeId) → slice_get node.pointers f ≡ Some (Some to) → (slice_get g.world.heap.nodes x ≡ Some node) ⊎ ((x ≡ length g.world.heap.nodes) × (fresh_node call.key ≡ node)) → slice_get (g.world.heap.nodes ++ fresh_node call.key ∷ []) to.0 ≡ Some next
          → in_order (field_order O.header f) node.key next.key ≡ true
      ordered_so x f node next to leads (inr fresh) there = absurd (none_led f to (ap (λ (z : Node). slice_get z.pointers f) fresh.1 ∙ leads))
      ordered_so x f node next to leads (inl old) there = elim (found_after_push g.world.heap.nodes (fresh_node call.key) to.0 next there) [
        | inl found ↦ orderly.ordered x f node next to old leads found
        | inr fresh ↦ absurd (let lt = sound.closed.pointers x node old f to leads in let e = fresh.0 in omega (arith, lt, e))
      ]

-- ---- all steps

module _ (O : Outline) (header : is_lawful_header O.header ≡ true) (methods : are_lawful_methods O.header O.methods ≡ true) (hold : AllHold O)
    (g : GhostWorld) (sound : IsSound O.header g) (sizes : HasSizes g.world) (orderly : IsOrderlyWorld O.header g) (claims : AreNowTrue O g)
    (thread : ThreadId) (after : WorldState) (kept : Kept) (sound_after : IsSound O.header (record { world = after; kept = kept })) (sizes_after : HasSizes after) where
  module _ (acts : ActsAt O g thread after kept) (b : Block) (same : acts.point.location.action ≡ Action.Block b) (w : Write) (ws : List Write) (writes : b.writes ≡ w ∷ ws) where
    step : performed O.methods g.world thread acts.call (Action.Block b) ≡ stepped acts.event after
    step = ap (λ a. performed O.methods g.world thread acts.call a) (sym same) ∙ acts.step

    sound_made : IsSound O.header (record { world = after; kept = kept_performed O.header g.world.heap after.heap thread acts.call acts.point.location.action g.kept })
    sound_made = subst (λ k. IsSound O.header (record { world = after; kept = k })) acts.kept_is sound_after

    abbrev its_change : Change
    its_change = change (turn_at O acts.point Exit.Yes) w ws

    change_is : change_of (turn_at O acts.point Exit.Yes) ≡ Some its_change
    change_is = ap (λ a. change_of (record (turn_at O acts.point Exit.Yes) { action = a })) same ∙ ap (λ vs. change_by (record (turn_at O acts.point Exit.Yes) { action = Action.Block b }) vs) writes

    module _ (later : Call) (now : get after.calls thread.0 ≡ Some later) where
      stepped_at : (j : ℤ) → BlockStepped O header methods g sound sizes orderly thread acts.call acts.pending acts.point acts.at (claims_at O g claims acts) j acts.event after acts.step sound_made sizes_after later now b
      stepped_at j = block_stepped O header methods g sound sizes orderly thread acts.call acts.pending acts.point acts.at (claims_at O g claims acts) j acts.event after acts.step sound_made sizes_after later now b same

      by_yes_exit : tests_value g.world.heap thread acts.call b.tests ≡ Some true → IsOrderlyWorld O.header (record { world = after; kept = kept_performed O.header g.world.heap after.heap thread acts.call acts.point.location.action g.kept })
      by_yes_exit passed =
          orderly_after O header methods g sound sizes orderly thread acts.call acts.pending acts.point acts.at (claims_at O g claims acts) acts.event after acts.step sound_made sizes_after later now hold its_change change_is (λ j. at_key j (stepped_at j))
        where
          at_key : (j : ℤ) → BlockStepped O header methods g sound sizes orderly thread acts.call acts.pending acts.point acts.at (claims_at O g claims acts) j acts.event after acts.step sound_made sizes_after later now b
              → WritesAt O header methods g sound sizes orderly thread acts.call acts.pending acts.point acts.at (claims_at O g claims acts) acts.event after acts.step sound_made sizes_after later now hold its_change change_is j
          at_key j (yes_stepped p own write wrote to comes) = (write, wrote its_change change_is)
          at_key j (no_stepped failed own to comes) = absurd (true≢false (same_Some true false (sym passed ∙ failed)))

    made_owners : kept.owners ≡ owners_written g.world.heap acts.call b.writes (tests_value g.world.heap thread acts.call b.tests) g.kept.owners
    made_owners = ap (λ (k : Kept). k.owners) acts.kept_is ∙ ap (λ a. owners_after g.world.heap thread acts.call a g.kept.owners) same

    by_ran : (a : After) → Ran g.world.heap thread acts.call b a → record { heap = a.heap; calls = insert g.world.calls thread.0 a.call } ≡ after → IsOrderlyWorld O.header (record { world = after; kept = kept })
    by_ran a (by_yes {next = heap} {variables = vars} passed binds wrote) made =
        subst (λ k. IsOrderlyWorld O.header (record { world = after; kept = k })) (sym acts.kept_is)
        (by_yes_exit _ (ap (λ (v : WorldState). get v.calls thread.0) (sym made) ∙ get_inserted g.world.calls thread.0 _) passed)
    by_ran a (by_no failed) made =
        orderly_quietly O header g sound orderly thread.0 acts.call after kept
        (same_heap (ap (λ (v : WorldState). v.heap) (sym made)) (made_owners ∙ ap (λ o. owners_written g.world.heap acts.call b.writes o g.kept.owners) failed))

    pub orderly_by_site : IsOrderlyWorld O.header (record { world = after; kept = kept })
    orderly_by_site =
        let made = went g.world thread (block_run g.world.heap thread acts.call b) acts.event after step in
        by_ran made.0 (ran g.world.heap thread acts.call b made.0 made.1) made.2

  by_writes : (acts : ActsAt O g thread after kept) (b : Block) → acts.point.location.action ≡ Action.Block b → (ws : List Write) → b.writes ≡ ws → is_site acts.point.location.action ≡ true → IsOrderlyWorld O.header (record { world = after; kept = kept })
  by_writes acts b same [] none writes = absurd (false≢true (sym (ap (λ vs. not (length vs == 0)) none) ∙ sym (ap is_site same) ∙ writes))
  by_writes acts b same (w ∷ ws) some writes = orderly_by_site acts b same w ws some

  pub orderly_then : StepView O g thread after kept → IsOrderlyWorld O.header (record { world = after; kept = kept })
  orderly_then (quiet call is) = orderly_quietly O header g sound orderly thread.0 call after kept is
  orderly_then (at_site acts writes) = let b = site_block acts.point.location.action writes in by_writes acts b.0 b.1 b.0.writes refl writes
