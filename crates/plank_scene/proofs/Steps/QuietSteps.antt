-- Steps that write nothing leave each picture as it was.
use Rattle.std.proofs.Common.{◌≡◌, ℕ, suc, Bool, true, false, not, List, [], ◌∷◌, ◌++◌, length, Option, Some, None, refl, sym, ◌∙◌, ap, subst, inl, arith}
use Rattle.std.specs.Prelude.{◌==◌}
use Rattle.std.specs.FinMap.{insert}
use Rattle.std.proofs.lemmas.Bool.{true≢false, ne_eqb}
use Rattle.std.proofs.lemmas.Option.{same_Some}
use Rattle.plank_base.specs.declared.keys.ThreadId.{ThreadId}
use Rattle.plank_prog.specs.declared.blocks.Block.{Block}
use Rattle.plank_prog.specs.declared.blocks.Write.{Write}
use Rattle.plank_prog.specs.declared.methods.Action.{Action}
use Rattle.plank_prog.specs.Headers.{is_lawful_header}
use Rattle.plank_prog.specs.Methods.{is_site}
use Rattle.plank_prog.specs.declared.methods.Method.{Method}
use Rattle.plank_heap.specs.declared.heaps.Heap.{Heap}
use Rattle.plank_heap.specs.Heaps.{IsClosed}
use Rattle.plank_heap.specs.Changes.{with_fresh_node}
use Rattle.plank_hist.specs.declared.events.Event.{Event}
use Rattle.plank_sem.specs.declared.calls.Call.{Call}
use Rattle.plank_sem.specs.Worlds.{WorldState}
use Rattle.plank_sem.specs.Actions.{After, block_run, copied, allocated, written}
use Rattle.plank_sem.specs.Steps.{stepped, performed, ended, went_on}
use Rattle.plank_sem.specs.Reads.{tests_value}
use Rattle.plank_sem.specs.Kept.{GhostWorld, owners_written, owners_after}
use Rattle.plank_sem.specs.Facts.{IsSound}
use Rattle.plank_sem.proofs.FitsKept.{world_of}
use Rattle.plank_pic.specs.Frames.{Frame}
use Rattle.plank_scene.specs.Scenes.{Scene, shown}
use Rattle.plank_scene.proofs.Steps.WorldSteps.{Ran, by_yes, by_no, ran, went}
use Rattle.plank_scene.proofs.Turns.Idle.{grown_shows}

-- the heap and its owners are as before, or have one node more
pub data IsQuiet (g : GhostWorld) (thread : ℕ) (call : Call) (heap : Heap) (owners : List (Option ℕ)) : Type 0 where
  same_heap : heap ≡ g.world.heap → owners ≡ g.kept.owners → IsQuiet g thread call heap owners
  grown_heap : heap ≡ with_fresh_node g.world.heap call.key → owners ≡ g.kept.owners ++ Some thread ∷ [] → IsQuiet g thread call heap owners

module _ (methods : List Method) (g : GhostWorld) (thread : ThreadId) (call : Call) (event : Option Event) (after : WorldState) where
  block_quiet : (b : Block) → b.writes ≡ [] → went_on g.world thread (block_run g.world.heap thread call b) ≡ stepped event after → IsQuiet g thread.0 call after.heap (owners_after g.world.heap thread call (Action.Block b) g.kept.owners)
  block_quiet b none e =
      let made = went g.world thread (block_run g.world.heap thread call b) event after e in
      by_ran made.0 (ran g.world.heap thread call b made.0 made.1) made.2
    where
      owners_same : (o : Option Bool) → owners_written g.world.heap call b.writes o g.kept.owners ≡ g.kept.owners
      owners_same None = refl
      owners_same (Some false) = refl
      owners_same (Some true) = ap (λ ws. owners_written g.world.heap call ws (Some true) g.kept.owners) none

      by_ran : (a : After) → Ran g.world.heap thread call b a → record { heap = a.heap; calls = insert g.world.calls thread.0 a.call } ≡ after → IsQuiet g thread.0 call after.heap (owners_after g.world.heap thread call (Action.Block b) g.kept.owners)
      by_ran a (by_yes {next} passed binds wrote) same =
          same_heap (ap (λ (w : WorldState). w.heap) (sym same) ∙ sym (same_Some g.world.heap next (sym (ap (written g.world.heap thread call) none) ∙ wrote))) (owners_same (tests_value g.world.heap thread call b.tests))
      by_ran a (by_no failed) same = same_heap (ap (λ (w : WorldState). w.heap) (sym same)) (owners_same (tests_value g.world.heap thread call b.tests))

  no_writes : (ws : List Write) → not (length ws == 0) ≡ false → ws ≡ []
  no_writes [] e = refl
  no_writes (w ∷ ws) e = absurd (true≢false (sym (ap not (ne_eqb (suc (length ws)) 0 (λ d. absurd (omega (arith, d))))) ∙ e))

  pub step_quiet : (a : Action) → is_site a ≡ false → performed methods g.world thread call a ≡ stepped event after → IsQuiet g thread.0 call after.heap (owners_after g.world.heap thread call a g.kept.owners)
  step_quiet (Action.Block b) none e = block_quiet b (no_writes b.writes none) e
  step_quiet (Action.Copy to from next) none e =
      let made = went g.world thread (Some (copied g.world.heap call to from next)) event after e in
      same_heap (ap (λ (w : WorldState). w.heap) (sym made.2) ∙ ap (λ (a : After). a.heap) (sym (same_Some _ made.0 made.1))) refl
  step_quiet (Action.New to next) none e =
      let made = went g.world thread (Some (allocated g.world.heap call to next)) event after e in
      grown_heap (ap (λ (w : WorldState). w.heap) (sym made.2) ∙ ap (λ (a : After). a.heap) (sym (same_Some _ made.0 made.1))) refl
  step_quiet (Action.Return answer) none e = same_heap (ap (λ (w : WorldState). w.heap) (sym (world_of _ event (ended g.world thread) after e))) refl

-- the scene before such a step, and the one after
abbrev pub scene_then : Scene → Heap → List (Option ℕ) → Scene
scene_then S heap owners = record S { heap = heap; owners = owners }

pub quiet_shows : (F : Frame) → is_lawful_header F.header ≡ true → (g : GhostWorld) → IsSound F.header g → (S : Scene) → S.heap ≡ g.world.heap → S.owners ≡ g.kept.owners → S.heap ≡ S.before
    → (thread : ℕ) (call : Call) → S.unborn (length g.world.heap.nodes) ≡ call.key → (heap : Heap) (owners : List (Option ℕ)) → IsQuiet g thread call heap owners → shown F S ≡ shown F (scene_then S heap owners)
quiet_shows F lawful g sound S is_heap is_owners is_before thread call unborn heap owners (same_heap heap_same owners_same) =
    ap (λ w. shown F (record S { heap = w })) (is_heap ∙ sym heap_same) ∙ ap (λ os. shown F (record S { heap = heap; owners = os })) (is_owners ∙ sym owners_same)
quiet_shows F lawful g sound S is_heap is_owners is_before thread call unborn heap owners (grown_heap heap_grown owners_grown) =
    grown_shows F S (record { lawful = lawful; closed = subst (λ w. IsClosed w) (sym is_heap) sound.closed; owned = ap length is_owners ∙ sound.owned ∙ ap (λ (w : Heap). length w.nodes) (sym is_heap); either = inl is_before }) call.key thread
    (ap (λ (w : Heap). S.unborn (length w.nodes)) is_heap ∙ unborn)
    ∙ ap (λ w. shown F (record S { heap = w; owners = S.owners ++ Some thread ∷ [] })) (ap (λ w. with_fresh_node w call.key) is_heap ∙ sym heap_grown)
    ∙ ap (λ os. shown F (record S { heap = heap; owners = os })) (ap (λ os. os ++ Some thread ∷ []) is_owners ∙ sym owners_grown)
