-- Steps of worlds, seen by pictures: a block, a copy and an allocation of the own call are steps of its turn. What a block
-- by its yes exit leaves is shown for a turn of either thread.
use Rattle.std.proofs.Common.{◌≡◌, ◌⊎◌, ℕ, ◌<◌, ◌==◌, ℤ, Bool, true, false, not, List, [], ◌∷◌, ◌++◌, length, Option, Some, None, refl, sym, ◌∙◌, ap, subst, inl, inr, arith}
use Rattle.std.specs.Prelude.{◌&&◌, ◌||◌, slice_set, option_map, if◌then◌else◌}
use Rattle.std.specs.Bool.{beq}
use Rattle.std.specs.List.{list_any, list_all}
use Rattle.std.specs.FinMap.{get, insert, get-insert}
use Rattle.std.specs.Ordering.{nat_cmp, eq_by_cmp}
use Rattle.std.specs.Cmp.{nat_cmp_total, unsigned_tied}
use Rattle.std.proofs.lemmas.Bool.{and_parts, and_right, or_left, or_right, eq-eqb, cond-true}
use Rattle.std.proofs.lemmas.Option.{same_Some, option_and_then_some}
use Rattle.std.proofs.Math.Bool.{or-false}
use Rattle.plank_base.specs.declared.keys.NodeId.{NodeId}
use Rattle.plank_base.specs.declared.keys.ThreadId.{ThreadId}
use Rattle.plank_base.specs.declared.limits.TheConstants.{VARIABLES_LIMIT}
use Rattle.plank_prog.specs.declared.headers.Header.{Header}
use Rattle.plank_prog.specs.declared.blocks.Reference.{Reference}
use Rattle.plank_prog.specs.declared.blocks.Value.{Value}
use Rattle.plank_prog.specs.declared.blocks.Block.{Block}
use Rattle.plank_prog.specs.declared.methods.Action.{Action}
use Rattle.plank_prog.specs.Headers.{is_lawful_header}
use Rattle.plank_prog.specs.Blocks.{value_reads, test_reads, same_reference, test_fits, block_reads, is_lawful_block}
use Rattle.plank_heap.specs.declared.heaps.Heap.{Heap}
use Rattle.plank_heap.specs.Changes.{with_fresh_node}
use Rattle.plank_heap.specs.Walks.{contains}
use Rattle.plank_hist.specs.declared.events.Event.{Event}
use Rattle.plank_sem.specs.declared.calls.Call.{Call}
use Rattle.plank_sem.specs.Worlds.{WorldState}
use Rattle.plank_sem.specs.Reads.{named, value_of, tests_value}
use Rattle.plank_sem.specs.Actions.{After, gone_to, bound, written, taken_yes, taken_no, block_run, copied, allocated}
use Rattle.plank_sem.specs.Steps.{stepped, went_on}
use Rattle.plank_sem.specs.Kept.{Kept, GhostWorld, owners_written, kept_performed, updated, differs}
use Rattle.plank_sem.specs.Facts.{IsSound, HasSizes}
use Rattle.plank_sem.proofs.FitsKept.{world_of}
use Rattle.plank_sem.proofs.NamedNodes.{value_in}
use Rattle.plank_sem.proofs.LawfulActions.{block_parts}
use Rattle.plank_pic.specs.declared.parts.KeyName.{KeyName}
use Rattle.plank_pic.specs.Frames.{Frame}
use Rattle.plank_pic.specs.Steps.{Change, Of, Fresh}
use Rattle.plank_pic.specs.Blocks.{Turn, change_by, has_name, bind_source, value_source, IsTurnStep, IsWriteStep}
use Rattle.plank_scene.specs.Scenes.{Scene, is_node, shown}
use Rattle.plank_scene.specs.Worlds.{IsScene, source_node}
use Rattle.plank_scene.specs.Turns.{Knows, IsTurnOf, VariablesSet, KnowsBinds}
use Rattle.plank_scene.specs.Writes.{WroteNode}
use Rattle.plank_scene.proofs.Scenes.Showing.{is_node_same}
use Rattle.plank_scene.proofs.Scenes.Possible.{shows_possible}
use Rattle.plank_scene.proofs.Turns.Turning.{wrote_by, sourced, same_names, copy_sourced, yes_turn, no_turn, yes_step, write_step, no_step, copy_turn, copy_step, unturned}
use Rattle.plank_scene.proofs.Turns.Idle.{new_sourced, new_turn, new_step, grown_set}
use Rattle.plank_scene.proofs.Steps.Inhabited.{in_world, is_scene}

-- ---- what a block that was run has done

pub data Ran (heap : Heap) (thread : ThreadId) (call : Call) (b : Block) : After → Type 0 where
  by_yes : {next : Heap} {variables : List (Option NodeId)} → tests_value heap thread call b.tests ≡ Some true → bound heap call b.binds call.variables ≡ Some variables → written heap thread call b.writes ≡ Some next
      → Ran heap thread call b (record { heap = next; call = gone_to call b.yes variables })
  by_no : tests_value heap thread call b.tests ≡ Some false → Ran heap thread call b (record { heap = heap; call = gone_to call b.no call.variables })

pub ran : (heap : Heap) (thread : ThreadId) (call : Call) (b : Block) (after : After) → block_run heap thread call b ≡ Some after → Ran heap thread call b after
ran heap thread call b after e =
    option_and_then_some (λ (passed : Bool). if passed then taken_yes heap thread call b else Some (taken_no heap call b)) (tests_value heap thread call b.tests) after e (λ passed is rest. by_exit passed is rest)
  where
    by_exit : (passed : Bool) → tests_value heap thread call b.tests ≡ Some passed → (if passed then taken_yes heap thread call b else Some (taken_no heap call b)) ≡ Some after → Ran heap thread call b after
    by_exit false is rest = subst (Ran heap thread call b) (same_Some _ after rest) (by_no is)
    by_exit true is rest =
        option_and_then_some (λ (variables : List (Option NodeId)). option_map (λ next. record { heap = next; call = gone_to call b.yes variables }) (written heap thread call b.writes)) (bound heap call b.binds call.variables) after rest
        (λ variables binds more. option_and_then_some (λ (next : Heap). Some (record { heap = next; call = gone_to call b.yes variables })) (written heap thread call b.writes) after more
        (λ next wrote same. subst (Ran heap thread call b) (same_Some _ after same) (by_yes is binds wrote)))

-- the world after a call went on
pub went : (w : WorldState) (thread : ThreadId) (made : Option After) (event : Option Event) (after : WorldState) → went_on w thread made ≡ stepped event after
    → (a : After) × (made ≡ Some a) × (record { heap = a.heap; calls = insert w.calls thread.0 a.call } ≡ after)
went w thread None event after e = absurd (cc)
went w thread (Some a) event after e = (a, refl, world_of _ event _ after e)

-- a function at the point where it was updated
updated_here : {X : Type 0} (f : ℕ → X) (at : ℕ) (value : X) → updated f at value at ≡ value
updated_here f at value = cond-true (at == at) value (f at) (eq-eqb at at refl)

-- ---- the scenes of a step

-- the scene of a call at a step from a ghost world to a heap, and the scene after it
abbrev pub scene_before : Scene → GhostWorld → Heap → Bool → Scene
scene_before base g after spent = record base { heap = g.world.heap; owners = g.kept.owners; before = g.world.heap; after = after; spent = spent }

abbrev pub scene_after : Scene → GhostWorld → Heap → List (Option ℕ) → Bool → (ℕ → Option ℕ) → Scene
scene_after base g after owners spent named = record base { heap = after; owners = owners; before = g.world.heap; after = after; spent = spent; named = named }

-- values are of nodes that are there
values_within : (h : Header) (g : GhostWorld) → IsSound h g → (thread : ℕ) (call : Call) → get g.world.calls thread ≡ Some call → (to : Value) (z : NodeId) → value_of g.world.heap call to ≡ Some z → z.0 < length g.kept.owners
values_within h g sound thread call pending to z e =
    let below : z.0 < length g.world.heap.nodes = value_in (λ x. x < length g.world.heap.nodes) g.world.heap call sound.closed.root (sound.variables_within thread call pending) to z e in
    let same = sound.owned in omega arith

-- ---- a block

module _ (F : Frame) (lawful : is_lawful_header F.header ≡ true) (g : GhostWorld) (sound : IsSound F.header g) (sizes : HasSizes g.world) (thread : ThreadId) (call : Call) (pending : get g.world.calls thread.0 ≡ Some call)
    (b : Block) (variables locations : ℕ) (lawful_block : is_lawful_block F.header variables locations b ≡ true) (t : Turn) (base : Scene) where
  abbrev H : Header
  H = F.header

  -- the heap after a yes exit
  module _ (next : Heap) (later : List (Option NodeId)) (passed : tests_value g.world.heap thread call b.tests ≡ Some true) (binds : bound g.world.heap call b.binds call.variables ≡ Some later) (wrote : written g.world.heap thread call b.writes ≡ Some next)
      (kept : Kept) (calls : _) (owners_are : kept.owners ≡ owners_written g.world.heap call b.writes (Some true) g.kept.owners)
      (sound_after : IsSound F.header (record { world = record { heap = next; calls = calls }; kept = kept })) (sizes_after : HasSizes (record { heap = next; calls = calls }))
      (was_spent now_spent : Bool) (spends : now_spent ≡ (was_spent || (t.mine && differs F.header g.world.heap next (base.walked KeyName.Own)))) where
    abbrev S : Scene
    S = scene_before base g next was_spent

    abbrev W : Scene
    W = scene_after base g next (owners_written g.world.heap call b.writes (Some true) g.kept.owners) now_spent base.named

    isS : IsScene F S
    isS = is_scene F g lawful sound sizes S was_spent (inl refl)

    abbrev made_owners : List (Option ℕ)
    made_owners = owners_written g.world.heap call b.writes (Some true) g.kept.owners

    -- the ghost world after, with its owners spelled out
    sound_made : IsSound H (record { world = record { heap = next; calls = calls }; kept = record kept { owners = made_owners } })
    sound_made = subst (λ os. IsSound H (record { world = record { heap = next; calls = calls }; kept = record kept { owners = os } })) owners_are sound_after

    isW : IsScene F W
    isW = is_scene F (record { world = record { heap = next; calls = calls }; kept = record kept { owners = made_owners } }) lawful sound_made sizes_after W now_spent (inr refl)

    module _ (is : IsTurnOf S t thread call) (known : (r : Reference) → block_reads b r ≡ true → Knows F S t call r) (reads : KnowsBinds F S t call b.binds)
        (root_named : (r : ℕ) → F.root ≡ Some r → base.named r ≡ Some next.root.0) where
      -- with the binds left out: the own call's block, or another's
      pub write_seen : IsWriteStep F (yes_turn t b) (shown F S) (shown F W)
      write_seen =
          write_step F S isS t thread call b variables locations lawful_block (record { argument = is.argument; own = is.own; other = is.other }) known sizes.nodes (values_within H g sound thread.0 call pending) next now_spent refl refl passed wrote isW spends reads later binds
          (shows_possible F W (in_world F (record { world = record { heap = next; calls = calls }; kept = record kept { owners = made_owners } }) lawful sound_made sizes_after W now_spent (inr refl) root_named))

      pub wrote_seen : (c : Change) → change_by (yes_turn t b) b.writes ≡ Some c → WroteNode F S next made_owners now_spent c
      wrote_seen =
          wrote_by F S isS t thread call b variables locations lawful_block (record { argument = is.argument; own = is.own; other = is.other }) known sizes.nodes (values_within H g sound thread.0 call pending) next now_spent refl refl passed wrote isW spends

      module _ (named_after : ℕ → Option ℕ) (set_so : VariablesSet F S t call.variables later named_after) (room : (v i : ℕ) → t.name_of (Reference.Variable v) ≡ Some i → v < length call.variables)
          (root_after : (r : ℕ) → F.root ≡ Some r → named_after r ≡ Some next.root.0) where
        abbrev A : Scene
        A = scene_after base g next made_owners now_spent named_after

        pub sources_seen : (i : ℕ) → i < F.names → named_after i ≡ source_node S 0 (bind_source (yes_turn t b) i b.binds)
        sources_seen =
            (sourced F S isS t thread call b variables locations lawful_block (record { argument = is.argument; own = is.own; other = is.other }) known sizes.nodes (values_within H g sound thread.0 call pending) next now_spent refl refl passed wrote isW spends reads later binds
            named_after (record { variable = set_so.variable; has_variable = set_so.has_variable; was = set_so.was; is = set_so.is; others = set_so.others }) room).sources

        pub yes_seen : IsTurnStep F (yes_turn t b) (shown F S) (shown F A)
        yes_seen =
            yes_step F S isS t thread call b variables locations lawful_block (record { argument = is.argument; own = is.own; other = is.other }) known sizes.nodes (values_within H g sound thread.0 call pending) next now_spent refl refl passed wrote isW spends reads later binds
            named_after (record { variable = set_so.variable; has_variable = set_so.has_variable; was = set_so.was; is = set_so.is; others = set_so.others }) room
            (shows_possible F A (in_world F (record { world = record { heap = next; calls = calls }; kept = record kept { owners = made_owners } }) lawful sound_made sizes_after A now_spent (inr refl) root_after))

-- ---- the own call's steps

-- a thread's own call may be seen by these names
pub record SeesCall (F : Frame) (base : Scene) (t : Turn) (thread : ThreadId) (call : Call) : Type 0 where
  pub mine : t.mine ≡ true
  pub own : base.own ≡ Some thread.0
  pub apart : is_node (Some thread.0) base.other ≡ false
  pub key : base.walked KeyName.Own ≡ call.key

turn_of : {F : Frame} {base : Scene} {t : Turn} {thread : ThreadId} {call : Call} → SeesCall F base t thread call → IsTurnOf base t thread call
turn_of {F} {base} {t} {thread} {call} sees = record {
  argument = ap (λ m. base.walked (if m then KeyName.Own else KeyName.Other)) sees.mine ∙ sees.key;
  own = ap (is_node (Some thread.0)) sees.own ∙ is_node_same thread.0 ∙ sym sees.mine;
  other = sees.apart ∙ ap not (sym sees.mine);
}

module _ (F : Frame) (lawful : is_lawful_header F.header ≡ true) (g : GhostWorld) (sound : IsSound F.header g) (sizes : HasSizes g.world) (thread : ThreadId) (call : Call) (pending : get g.world.calls thread.0 ≡ Some call)
    (t : Turn) (base : Scene) (sees : SeesCall F base t thread call) (named_after : ℕ → Option ℕ) where
  abbrev Here : Scene
  Here = scene_before base g g.world.heap false

  abbrev pub ghost_of : Action → WorldState → GhostWorld
  ghost_of action after = record { world = after; kept = kept_performed F.header g.world.heap after.heap thread call action g.kept }

  -- the scene before, the one after, and the one after in which each name keeps its node
  abbrev pub sees_before : WorldState → Scene
  sees_before after = scene_before base g after.heap (g.kept.has_changed thread.0)

  abbrev pub sees_after : Action → WorldState → (ℕ → Option ℕ) → Scene
  sees_after action after names = scene_after base g after.heap (ghost_of action after).kept.owners ((ghost_of action after).kept.has_changed thread.0) names

  -- what the step leaves: the world after is sound, and these are the names then
  pub record Leaves (action : Action) (after : WorldState) : Type 0 where
    pub sound_after : IsSound F.header (ghost_of action after)
    pub sizes_after : HasSizes after
    pub set_so : (later : Call) → get after.calls thread.0 ≡ Some later → VariablesSet F base t call.variables later.variables named_after
    pub root_before : (r : ℕ) → F.root ≡ Some r → base.named r ≡ Some after.heap.root.0
    pub root_after : (r : ℕ) → F.root ≡ Some r → named_after r ≡ Some after.heap.root.0

  spent_so : (action : Action) (after : WorldState) → (ghost_of action after).kept.has_changed thread.0 ≡ (g.kept.has_changed thread.0 || (t.mine && differs F.header g.world.heap after.heap (base.walked KeyName.Own)))
  spent_so action after =
      updated_here g.kept.has_changed thread.0 (g.kept.has_changed thread.0 || differs F.header g.world.heap after.heap call.key)
      ∙ ap (λ (j : ℤ). g.kept.has_changed thread.0 || differs F.header g.world.heap after.heap j) (sym sees.key)
      ∙ ap (λ m. g.kept.has_changed thread.0 || (m && differs F.header g.world.heap after.heap (base.walked KeyName.Own))) (sym sees.mine)

  get_inserted : (later : Call) → get (insert g.world.calls thread.0 later) thread.0 ≡ Some later
  get_inserted later =
      get-insert nat_cmp_total g.world.calls thread.0 later thread.0
      ∙ cond-true (eq_by_cmp nat_cmp thread.0 thread.0) (Some later) (get g.world.calls thread.0) (unsigned_tied thread.0 thread.0 ∙ eq-eqb thread.0 thread.0 refl)

  module _ (b : Block) (variables locations : ℕ) (lawful_block : is_lawful_block F.header variables locations b ≡ true)
      (known : (r : Reference) → block_reads b r ≡ true → Knows F Here t call r) (reads : tests_value g.world.heap thread call b.tests ≡ Some true → KnowsBinds F Here t call b.binds) (few : (v i : ℕ) → t.name_of (Reference.Variable v) ≡ Some i → v < VARIABLES_LIMIT) where
    abbrev block_action : Action
    block_action = Action.Block b

    abbrev pub BlockSeen : WorldState → Type 0
    BlockSeen after =
        ((tests_value g.world.heap thread call b.tests ≡ Some true) × IsTurnStep F (yes_turn t b) (shown F (sees_before after)) (shown F (sees_after block_action after named_after)) × IsWriteStep F (yes_turn t b) (shown F (sees_before after)) (shown F (sees_after block_action after base.named))
        × ((c : Change) → change_by (yes_turn t b) b.writes ≡ Some c → WroteNode F (sees_before after) after.heap (ghost_of block_action after).kept.owners ((ghost_of block_action after).kept.has_changed thread.0) c)
        × ((i : ℕ) → i < F.names → named_after i ≡ source_node (sees_before after) 0 (bind_source (yes_turn t b) i b.binds)))
        ⊎ ((tests_value g.world.heap thread call b.tests ≡ Some false) × IsTurnStep F (no_turn t b) (shown F (sees_before after)) (shown F (sees_after block_action after named_after)) × ((i : ℕ) → i < F.names → named_after i ≡ base.named i))

    same_call_room : (v i : ℕ) → t.name_of (Reference.Variable v) ≡ Some i → v < length call.variables
    same_call_room v i e = let below : v < VARIABLES_LIMIT = few v i e in let wide = sizes.calls thread.0 call pending in omega arith

    fits_tests : list_all (test_fits F.header variables) b.tests ≡ true
    fits_tests = (and_parts _ (list_all (test_fits F.header variables) b.tests) (and_parts _ _ (and_parts _ _ (block_parts F.header variables locations b lawful_block)).0).0).1

    in_tests : (r : Reference) → list_any (λ t. test_reads r t) b.tests ≡ true → Knows F Here t call r
    in_tests r e = known r (or_left _ _ (or_left _ _ (or_right (list_any (λ q. same_reference r q) b.with) _ e)))

    -- the world after the call went on
    abbrev gone : GhostWorld → Heap → Call → WorldState
    gone g heap later = record { heap = heap; calls = insert g.world.calls thread.0 later }

    by_ran : (a : After) → Ran g.world.heap thread call b a → (after : WorldState) → record { heap = a.heap; calls = insert g.world.calls thread.0 a.call } ≡ after → Leaves block_action after → BlockSeen after
    by_ran a (by_yes {next} {variables = vars} passed binds wrote) after same leaves = subst (λ (w : WorldState). Leaves block_action w → BlockSeen w) same from_yes leaves
      where
        owners_are : (ghost_of block_action (gone g next (gone_to call b.yes vars))).kept.owners ≡ owners_written g.world.heap call b.writes (Some true) g.kept.owners
        owners_are = ap (λ o. owners_written g.world.heap call b.writes o g.kept.owners) passed

        from_yes : Leaves block_action (gone g next (gone_to call b.yes vars)) → BlockSeen (gone g next (gone_to call b.yes vars))
        from_yes left =
            let is = turn_of {F = F} sees in
            let turn : IsTurnOf (scene_before base g next (g.kept.has_changed thread.0)) t thread call = record { argument = is.argument; own = is.own; other = is.other } in
            let set_so = left.set_so (gone_to call b.yes vars) (get_inserted (gone_to call b.yes vars)) in
            let made : VariablesSet F (scene_before base g next (g.kept.has_changed thread.0)) t call.variables vars named_after = record { variable = set_so.variable; has_variable = set_so.has_variable; was = set_so.was; is = set_so.is; others = set_so.others } in
            inl (
              passed,
              subst (λ os. IsTurnStep F (yes_turn t b) (shown F (sees_before (gone g next (gone_to call b.yes vars)))) (shown F (scene_after base g next os ((ghost_of block_action (gone g next (gone_to call b.yes vars))).kept.has_changed thread.0) named_after))) (sym owners_are)
                  (yes_seen F lawful g sound sizes thread call pending b variables locations lawful_block t base next vars passed binds wrote (ghost_of block_action (gone g next (gone_to call b.yes vars))).kept (gone g next (gone_to call b.yes vars)).calls owners_are left.sound_after left.sizes_after (g.kept.has_changed thread.0) ((ghost_of block_action (gone g next (gone_to call b.yes vars))).kept.has_changed thread.0) (spent_so block_action (gone g next (gone_to call b.yes vars))) turn known (reads passed) left.root_before named_after made same_call_room left.root_after),
              subst (λ os. IsWriteStep F (yes_turn t b) (shown F (sees_before (gone g next (gone_to call b.yes vars)))) (shown F (scene_after base g next os ((ghost_of block_action (gone g next (gone_to call b.yes vars))).kept.has_changed thread.0) base.named))) (sym owners_are)
                  (write_seen F lawful g sound sizes thread call pending b variables locations lawful_block t base next vars passed binds wrote (ghost_of block_action (gone g next (gone_to call b.yes vars))).kept (gone g next (gone_to call b.yes vars)).calls owners_are left.sound_after left.sizes_after (g.kept.has_changed thread.0) ((ghost_of block_action (gone g next (gone_to call b.yes vars))).kept.has_changed thread.0) (spent_so block_action (gone g next (gone_to call b.yes vars))) turn known (reads passed) left.root_before),
              λ c wrote_c. subst (λ os. WroteNode F (sees_before (gone g next (gone_to call b.yes vars))) next os ((ghost_of block_action (gone g next (gone_to call b.yes vars))).kept.has_changed thread.0) c) (sym owners_are)
                  (wrote_seen F lawful g sound sizes thread call pending b variables locations lawful_block t base next vars passed binds wrote (ghost_of block_action (gone g next (gone_to call b.yes vars))).kept (gone g next (gone_to call b.yes vars)).calls owners_are left.sound_after left.sizes_after (g.kept.has_changed thread.0) ((ghost_of block_action (gone g next (gone_to call b.yes vars))).kept.has_changed thread.0) (spent_so block_action (gone g next (gone_to call b.yes vars))) turn known (reads passed) left.root_before c wrote_c),
              sources_seen F lawful g sound sizes thread call pending b variables locations lawful_block t base next vars passed binds wrote (ghost_of block_action (gone g next (gone_to call b.yes vars))).kept (gone g next (gone_to call b.yes vars)).calls owners_are left.sound_after left.sizes_after (g.kept.has_changed thread.0) ((ghost_of block_action (gone g next (gone_to call b.yes vars))).kept.has_changed thread.0) (spent_so block_action (gone g next (gone_to call b.yes vars))) turn known (reads passed) left.root_before named_after made same_call_room left.root_after,
            )
    by_ran a (by_no failed) after same leaves = subst (λ (w : WorldState). Leaves block_action w → BlockSeen w) same from_no leaves
      where
        owners_are : (ghost_of block_action (gone g g.world.heap (gone_to call b.no call.variables))).kept.owners ≡ g.kept.owners
        owners_are = ap (λ o. owners_written g.world.heap call b.writes o g.kept.owners) failed

        unspent : (ghost_of block_action (gone g g.world.heap (gone_to call b.no call.variables))).kept.has_changed thread.0 ≡ g.kept.has_changed thread.0
        unspent =
            spent_so block_action (gone g g.world.heap (gone_to call b.no call.variables)) ∙ ap (λ c. g.kept.has_changed thread.0 || c) (and_right t.mine _ (unturned (contains F.header g.world.heap (base.walked KeyName.Own))))
            ∙ or-false (g.kept.has_changed thread.0)

        from_no : Leaves block_action (gone g g.world.heap (gone_to call b.no call.variables)) → BlockSeen (gone g g.world.heap (gone_to call b.no call.variables))
        from_no left =
            let is = turn_of {F = F} sees in
            let S : Scene = sees_before (gone g g.world.heap (gone_to call b.no call.variables)) in
            let turn : IsTurnOf S (no_turn t b) thread call = record { argument = is.argument; own = is.own; other = is.other } in
            let set_so = left.set_so (gone_to call b.no call.variables) (get_inserted (gone_to call b.no call.variables)) in
            let made : VariablesSet F S (no_turn t b) call.variables call.variables named_after = record { variable = set_so.variable; has_variable = set_so.has_variable; was = set_so.was; is = set_so.is; others = set_so.others } in
            let possible = shows_possible F (scene_after base g g.world.heap g.kept.owners (g.kept.has_changed thread.0) named_after)
            (in_world F g lawful sound sizes (scene_after base g g.world.heap g.kept.owners (g.kept.has_changed thread.0) named_after) (g.kept.has_changed thread.0) (inl refl) left.root_after) in
            inr (
              failed,
              subst (λ os. IsTurnStep F (no_turn t b) (shown F S) (shown F (scene_after base g g.world.heap os ((ghost_of block_action (gone g g.world.heap (gone_to call b.no call.variables))).kept.has_changed thread.0) named_after))) (sym owners_are)
                  (subst (λ c. IsTurnStep F (no_turn t b) (shown F S) (shown F (scene_after base g g.world.heap g.kept.owners c named_after))) (sym unspent)
                  (no_step F S (is_scene F g lawful sound sizes S (g.kept.has_changed thread.0) (inl refl)) t thread call b variables turn in_tests fits_tests failed named_after made possible)),
              same_names F S (is_scene F g lawful sound sizes S (g.kept.has_changed thread.0) (inl refl)) t thread call b variables turn in_tests fits_tests failed named_after made,
            )

    -- a block of the own call
    pub block_seen : (event : Option Event) (after : WorldState) → went_on g.world thread (block_run g.world.heap thread call b) ≡ stepped event after → Leaves block_action after → BlockSeen after
    block_seen event after e leaves =
        let w = went g.world thread (block_run g.world.heap thread call b) event after e in
        by_ran w.0 (ran g.world.heap thread call b w.0 w.1) after w.2 leaves

  no_change : (action : Action) (after : WorldState) → contains F.header after.heap (base.walked KeyName.Own) ≡ contains F.header g.world.heap (base.walked KeyName.Own) → (ghost_of action after).kept.has_changed thread.0 ≡ g.kept.has_changed thread.0
  no_change action after same =
      spent_so action after
      ∙ ap (λ c. g.kept.has_changed thread.0 || c) (and_right t.mine _ (ap (λ c. not (beq (contains F.header g.world.heap (base.walked KeyName.Own)) c)) same ∙ unturned (contains F.header g.world.heap (base.walked KeyName.Own))))
      ∙ or-false (g.kept.has_changed thread.0)

  room : (to : ℕ) → to < VARIABLES_LIMIT → to < length call.variables
  room to few = let wide = sizes.calls thread.0 call pending in omega arith

  abbrev went_to : Heap → Call → WorldState
  went_to heap later = record { heap = heap; calls = insert g.world.calls thread.0 later }

  module _ (to next : ℕ) (from : Value) (few : to < VARIABLES_LIMIT) (known : (r : Reference) → value_reads r from ≡ true → Knows F Here t call r) where
    abbrev CopySeen : WorldState → Type 0
    CopySeen after = IsTurnStep F (copy_turn t to from next) (shown F (sees_before after)) (shown F (sees_after (Action.Copy to from next) after named_after))

    copy_at : Leaves (Action.Copy to from next) (went_to g.world.heap (copied g.world.heap call to from next).call) → CopySeen (went_to g.world.heap (copied g.world.heap call to from next).call)
    copy_at left =
        let after : WorldState = went_to g.world.heap (copied g.world.heap call to from next).call in
        let S : Scene = sees_before after in
        let set_so = left.set_so (copied g.world.heap call to from next).call (get_inserted (copied g.world.heap call to from next).call) in
        let made : VariablesSet F S (copy_turn t to from next) call.variables (slice_set call.variables to (value_of g.world.heap call from)) named_after = record { variable = set_so.variable; has_variable = set_so.has_variable; was = set_so.was; is = set_so.is; others = set_so.others } in
        subst (λ c. IsTurnStep F (copy_turn t to from next) (shown F S) (shown F (scene_after base g g.world.heap g.kept.owners c named_after))) (sym (no_change (Action.Copy to from next) after refl))
        (copy_step F S (is_scene F g lawful sound sizes S (g.kept.has_changed thread.0) (inl refl)) t call to next from known (room to few) named_after made
        (shows_possible F (scene_after base g g.world.heap g.kept.owners (g.kept.has_changed thread.0) named_after)
        (in_world F g lawful sound sizes (scene_after base g g.world.heap g.kept.owners (g.kept.has_changed thread.0) named_after) (g.kept.has_changed thread.0) (inl refl) left.root_after)))

    copy_named : Leaves (Action.Copy to from next) (went_to g.world.heap (copied g.world.heap call to from next).call) → (i : ℕ) → i < F.names → named_after i ≡ source_node base 0 (if has_name t to i then value_source (copy_turn t to from next) from else Of i)
    copy_named left =
        let after : WorldState = went_to g.world.heap (copied g.world.heap call to from next).call in
        let S : Scene = sees_before after in
        let set_so = left.set_so (copied g.world.heap call to from next).call (get_inserted (copied g.world.heap call to from next).call) in
        let made : VariablesSet F S (copy_turn t to from next) call.variables (slice_set call.variables to (value_of g.world.heap call from)) named_after = record { variable = set_so.variable; has_variable = set_so.has_variable; was = set_so.was; is = set_so.is; others = set_so.others } in
        (copy_sourced F S (is_scene F g lawful sound sizes S (g.kept.has_changed thread.0) (inl refl)) t call to next from known (room to few) named_after made).sources

    pub copy_sources : (event : Option Event) (after : WorldState) → went_on g.world thread (Some (copied g.world.heap call to from next)) ≡ stepped event after → Leaves (Action.Copy to from next) after → (i : ℕ) → i < F.names → named_after i ≡ source_node base 0 (if has_name t to i then value_source (copy_turn t to from next) from else Of i)
    copy_sources event after e leaves =
        let w = went g.world thread (Some (copied g.world.heap call to from next)) event after e in
        copy_named (subst (λ (v : WorldState). Leaves (Action.Copy to from next) v) (sym (ap (λ (a : After). went_to a.heap a.call) (same_Some (copied g.world.heap call to from next) w.0 w.1) ∙ w.2)) leaves)

    -- a copy of the own call
    pub copy_seen : (event : Option Event) (after : WorldState) → went_on g.world thread (Some (copied g.world.heap call to from next)) ≡ stepped event after → Leaves (Action.Copy to from next) after → IsTurnStep F (copy_turn t to from next) (shown F (sees_before after)) (shown F (sees_after (Action.Copy to from next) after named_after))
    copy_seen event after e leaves =
        let w = went g.world thread (Some (copied g.world.heap call to from next)) event after e in
        subst (λ (v : WorldState). Leaves (Action.Copy to from next) v → CopySeen v)
        (ap (λ (a : After). went_to a.heap a.call) (same_Some (copied g.world.heap call to from next) w.0 w.1) ∙ w.2) copy_at leaves

  module _ (to next : ℕ) (few : to < VARIABLES_LIMIT) (unborn : base.unborn (length g.world.heap.nodes) ≡ call.key) (mine : base.mine (length g.world.heap.nodes) ≡ true)
      (there : (n x : ℕ) → n < F.names → base.named n ≡ Some x → x < length g.world.heap.nodes) where
    abbrev NewSeen : WorldState → Type 0
    NewSeen after = IsTurnStep F (new_turn t to next) (shown F (sees_before after)) (shown F (sees_after (Action.New to next) after named_after))

    abbrev grown_heap : Heap
    grown_heap = with_fresh_node g.world.heap call.key

    new_at : Leaves (Action.New to next) (went_to grown_heap (allocated g.world.heap call to next).call) → NewSeen (went_to grown_heap (allocated g.world.heap call to next).call)
    new_at left =
        let after : WorldState = went_to grown_heap (allocated g.world.heap call to next).call in
        let S : Scene = sees_before after in
        let isS = is_scene F g lawful sound sizes S (g.kept.has_changed thread.0) (inl refl) in
        let set_so = left.set_so (allocated g.world.heap call to next).call (get_inserted (allocated g.world.heap call to next).call) in
        let made : VariablesSet F S (new_turn t to next) call.variables (slice_set call.variables to (Some (record { 0 = length g.world.heap.nodes }))) named_after = record { variable = set_so.variable; has_variable = set_so.has_variable; was = set_so.was; is = set_so.is; others = set_so.others } in
        subst (λ c. IsTurnStep F (new_turn t to next) (shown F S) (shown F (scene_after base g grown_heap (g.kept.owners ++ Some thread.0 ∷ []) c named_after))) (sym (no_change (Action.New to next) after (grown_set F S isS call.key thread.0 unborn KeyName.Own)))
        (new_step F S isS t thread.0 call to next sees.key unborn mine there (room to few) named_after made
        (shows_possible F (scene_after base g grown_heap (g.kept.owners ++ Some thread.0 ∷ []) (g.kept.has_changed thread.0) named_after)
        (in_world F (ghost_of (Action.New to next) after) lawful left.sound_after left.sizes_after (scene_after base g grown_heap (g.kept.owners ++ Some thread.0 ∷ []) (g.kept.has_changed thread.0) named_after) (g.kept.has_changed thread.0) (inr refl) left.root_after)))

    new_named : Leaves (Action.New to next) (went_to grown_heap (allocated g.world.heap call to next).call) → (i : ℕ) → i < F.names → named_after i ≡ source_node base (length g.world.heap.nodes) (if has_name t to i then Fresh else Of i)
    new_named left =
        let after : WorldState = went_to grown_heap (allocated g.world.heap call to next).call in
        let S : Scene = sees_before after in
        let set_so = left.set_so (allocated g.world.heap call to next).call (get_inserted (allocated g.world.heap call to next).call) in
        let made : VariablesSet F S (new_turn t to next) call.variables (slice_set call.variables to (Some (record { 0 = length g.world.heap.nodes }))) named_after = record { variable = set_so.variable; has_variable = set_so.has_variable; was = set_so.was; is = set_so.is; others = set_so.others } in
        (new_sourced F S (is_scene F g lawful sound sizes S (g.kept.has_changed thread.0) (inl refl)) t thread.0 call to next sees.key unborn mine there (room to few) named_after made).sources

    pub new_sources : (event : Option Event) (after : WorldState) → went_on g.world thread (Some (allocated g.world.heap call to next)) ≡ stepped event after → Leaves (Action.New to next) after → (i : ℕ) → i < F.names → named_after i ≡ source_node base (length g.world.heap.nodes) (if has_name t to i then Fresh else Of i)
    new_sources event after e leaves =
        let w = went g.world thread (Some (allocated g.world.heap call to next)) event after e in
        new_named (subst (λ (v : WorldState). Leaves (Action.New to next) v) (sym (ap (λ (a : After). went_to a.heap a.call) (same_Some (allocated g.world.heap call to next) w.0 w.1) ∙ w.2)) leaves)

    -- an allocation of the own call
    pub new_seen : (event : Option Event) (after : WorldState) → went_on g.world thread (Some (allocated g.world.heap call to next)) ≡ stepped event after → Leaves (Action.New to next) after → IsTurnStep F (new_turn t to next) (shown F (sees_before after)) (shown F (sees_after (Action.New to next) after named_after))
    new_seen event after e leaves =
        let w = went g.world thread (Some (allocated g.world.heap call to next)) event after e in
        subst (λ (v : WorldState). Leaves (Action.New to next) v → NewSeen v)
        (ap (λ (a : After). went_to a.heap a.call) (same_Some (allocated g.world.heap call to next) w.0 w.1) ∙ w.2) new_at leaves
