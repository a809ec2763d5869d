-- A block of another call, seen by pictures in which all names keep their nodes: its yes exit is a step of the other thread's
-- turn, and its no exit leaves the picture as it was.
use Rattle.std.proofs.Common.{◌≡◌, ◌⊎◌, ℕ, Bool, true, false, Option, Some, refl, sym, ◌∙◌, ap, subst, inl, inr}
use Rattle.std.specs.Prelude.{◌||◌, ◌&&◌}
use Rattle.std.specs.FinMap.{get, insert}
use Rattle.plank_base.specs.declared.keys.ThreadId.{ThreadId}
use Rattle.plank_prog.specs.declared.blocks.Reference.{Reference}
use Rattle.plank_prog.specs.declared.blocks.Block.{Block}
use Rattle.plank_prog.specs.declared.methods.Action.{Action}
use Rattle.plank_prog.specs.Headers.{is_lawful_header}
use Rattle.plank_prog.specs.Blocks.{block_reads, is_lawful_block}
use Rattle.plank_heap.specs.declared.heaps.Heap.{Heap}
use Rattle.plank_hist.specs.declared.events.Event.{Event}
use Rattle.plank_sem.specs.declared.calls.Call.{Call}
use Rattle.plank_sem.specs.Worlds.{WorldState}
use Rattle.plank_sem.specs.Reads.{tests_value}
use Rattle.plank_sem.specs.Actions.{After, gone_to, block_run}
use Rattle.plank_sem.specs.Steps.{stepped, went_on}
use Rattle.plank_sem.specs.Kept.{GhostWorld, owners_written, kept_performed, differs}
use Rattle.plank_sem.specs.Facts.{IsSound, HasSizes}
use Rattle.plank_pic.specs.declared.parts.KeyName.{KeyName}
use Rattle.plank_pic.specs.Frames.{Frame}
use Rattle.plank_pic.specs.Blocks.{Turn, IsWriteStep}
use Rattle.plank_scene.specs.Scenes.{Scene, shown}
use Rattle.plank_scene.specs.Turns.{Knows, IsTurnOf, KnowsBinds}
use Rattle.plank_scene.proofs.Turns.Turning.{yes_turn}
use Rattle.plank_scene.proofs.Steps.WorldSteps.{Ran, by_yes, by_no, ran, went, scene_before, scene_after, write_seen}

module _ (F : Frame) (lawful : is_lawful_header F.header ≡ true) (g : GhostWorld) (sound : IsSound F.header g) (sizes : HasSizes g.world) (thread : ThreadId) (call : Call) (pending : get g.world.calls thread.0 ≡ Some call)
    (t : Turn) (base : Scene) (is : IsTurnOf base t thread call) (other : t.mine ≡ false) (spent : Bool) where
  abbrev Here : Scene
  Here = scene_before base g g.world.heap false

  abbrev pub other_ghost : Action → WorldState → GhostWorld
  other_ghost action after = record { world = after; kept = kept_performed F.header g.world.heap after.heap thread call action g.kept }

  abbrev pub before_other : WorldState → Scene
  before_other after = scene_before base g after.heap spent

  abbrev pub after_other : Action → WorldState → Scene
  after_other action after = scene_after base g after.heap (other_ghost action after).kept.owners spent base.named

  abbrev gone : Heap → Call → WorldState
  gone heap later = record { heap = heap; calls = insert g.world.calls thread.0 later }

  -- the own call is spent by none of these
  still : (c : Bool) → spent ≡ (spent || (t.mine && c))
  still c = sym (ap (λ m. spent || (m && c)) other ∙ or_none spent)
    where
      or_none : (c : Bool) → (c || false) ≡ c
      or_none true = refl
      or_none false = refl

  module _ (b : Block) (variables locations : ℕ) (lawful_block : is_lawful_block F.header variables locations b ≡ true)
      (known : (r : Reference) → block_reads b r ≡ true → Knows F Here t call r) (reads : KnowsBinds F Here t call b.binds) where
    -- what the world after keeps
    pub record LeavesOther (after : WorldState) : Type 0 where
      pub sound_after : IsSound F.header (other_ghost (Action.Block b) after)
      pub sizes_after : HasSizes after
      pub root_named : (r : ℕ) → F.root ≡ Some r → base.named r ≡ Some after.heap.root.0

    abbrev pub OtherSeen : WorldState → Type 0
    OtherSeen after =
        ((tests_value g.world.heap thread call b.tests ≡ Some true) × IsWriteStep F (yes_turn t b) (shown F (before_other after)) (shown F (after_other (Action.Block b) after)))
        ⊎ ((tests_value g.world.heap thread call b.tests ≡ Some false) × (shown F (before_other after) ≡ shown F (after_other (Action.Block b) after)))

    by_ran : (a : After) → Ran g.world.heap thread call b a → (after : WorldState) → record { heap = a.heap; calls = insert g.world.calls thread.0 a.call } ≡ after → LeavesOther after → OtherSeen after
    by_ran a (by_yes {next} {variables = vars} passed binds wrote) after same leaves = subst (λ (w : WorldState). LeavesOther w → OtherSeen w) same from_yes leaves
      where
        owners_are : (other_ghost (Action.Block b) (gone next (gone_to call b.yes vars))).kept.owners ≡ owners_written g.world.heap call b.writes (Some true) g.kept.owners
        owners_are = ap (λ o. owners_written g.world.heap call b.writes o g.kept.owners) passed

        from_yes : LeavesOther (gone next (gone_to call b.yes vars)) → OtherSeen (gone next (gone_to call b.yes vars))
        from_yes left =
            let turn : IsTurnOf (scene_before base g next spent) t thread call = record { argument = is.argument; own = is.own; other = is.other } in
            inl (
              passed,
              subst (λ os. IsWriteStep F (yes_turn t b) (shown F (scene_before base g next spent)) (shown F (scene_after base g next os spent base.named))) (sym owners_are)
                  (write_seen F lawful g sound sizes thread call pending b variables locations lawful_block t base next vars passed binds wrote
                  (other_ghost (Action.Block b) (gone next (gone_to call b.yes vars))).kept (gone next (gone_to call b.yes vars)).calls owners_are left.sound_after left.sizes_after spent spent
                  (still (differs F.header g.world.heap next (base.walked KeyName.Own))) turn known reads left.root_named),
            )
    by_ran a (by_no failed) after same leaves = subst (λ (w : WorldState). OtherSeen w) same
        (inr (failed, ap (λ os. shown F (scene_after base g g.world.heap os spent base.named)) (sym (ap (λ o. owners_written g.world.heap call b.writes o g.kept.owners) failed))))

    -- a block of another call
    pub other_block_seen : (event : Option Event) (after : WorldState) → went_on g.world thread (block_run g.world.heap thread call b) ≡ stepped event after → LeavesOther after → OtherSeen after
    other_block_seen event after e leaves =
        let w = went g.world thread (block_run g.world.heap thread call b) event after e in
        by_ran w.0 (ran g.world.heap thread call b w.0 w.1) after w.2 leaves
