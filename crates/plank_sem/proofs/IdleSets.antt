-- A step that writes nothing leaves the set as it is, so the set changes only by a block that writes and whose tests are true.
use Rattle.std.proofs.Common.{◌≡◌, ℕ, ◌<◌, ℤ, Bool, true, false, List, length, Option, Some, None, refl, sym, ap, ◌∙◌, subst, inl, inr, arith}
use Rattle.std.specs.Prelude.{slice_get, not, option_and_then, if◌then◌else◌}
use Rattle.std.specs.Bool.{beq}
use Rattle.std.specs.Option.{option_map_or}
use Rattle.std.specs.FinMap.{get}
use Rattle.std.proofs.lemmas.Option.{slice_get_cases}
use Rattle.plank_base.specs.declared.keys.ThreadId.{ThreadId}
use Rattle.plank_base.proofs.PathCounts.{path_stays}
use Rattle.plank_base.proofs.Digits.{same_tests}
use Rattle.plank_prog.specs.declared.headers.Header.{Header}
use Rattle.plank_prog.specs.declared.blocks.Block.{Block}
use Rattle.plank_prog.specs.declared.methods.Action.{Action}
use Rattle.plank_prog.specs.declared.methods.Method.{Method}
use Rattle.plank_prog.specs.Methods.{is_site}
use Rattle.plank_prog.specs.Views.{holds_at}
use Rattle.plank_heap.specs.declared.heaps.Heap.{Heap}
use Rattle.plank_heap.specs.Heaps.{IsClosed}
use Rattle.plank_heap.specs.Walks.{next_from, Contains, contains}
use Rattle.plank_heap.proofs.Walking.{walk_stays, contains_decides}
use Rattle.plank_hist.specs.declared.events.Event.{Event}
use Rattle.plank_sem.specs.declared.calls.Call.{Call}
use Rattle.plank_sem.specs.declared.steps.Act.{Act}
use Rattle.plank_sem.specs.declared.steps.Act.TheVariants.{Invoke, Go}
use Rattle.plank_sem.specs.declared.steps.Choice.{Choice}
use Rattle.plank_sem.specs.Worlds.{WorldState}
use Rattle.plank_sem.specs.Reads.{tests_value}
use Rattle.plank_sem.specs.Actions.{taken_yes, taken_no}
use Rattle.plank_sem.specs.Steps.{stepped, refused, went_on, performed, action_of, gone_on, acted, next}
use Rattle.plank_sem.specs.Kept.{differs, GhostWorld, ghost_after}
use Rattle.plank_sem.specs.Facts.{acts_on_writes, comes_to_writes, IsIdle}
use Rattle.plank_sem.proofs.FitsKept.{world_of}
use Rattle.plank_sem.proofs.IdleSteps.{idle_step}
use Rattle.plank_sem.specs.Facts.{IsWriting}

beq-same : (a b : Bool) → a ≡ b → not (beq a b) ≡ true → ⊥
beq-same true true same e = absurd (cc)
beq-same true false same e = cc
beq-same false true same e = cc
beq-same false false same e = absurd (cc)

module _ (h : Header) (before after : GhostWorld) (closed : IsClosed before.world.heap) (idle : IsIdle h before after) where
  same_node : (y : ℕ) → y < length before.world.heap.nodes → slice_get after.world.heap.nodes y ≡ slice_get before.world.heap.nodes y
  same_node y below =
      elim (slice_get_cases before.world.heap.nodes y).1 [
        | inl found ↦ idle.nodes y found.0 found.2 ∙ sym found.2
        | inr past ↦ absurd (let le = past.0 in omega arith)
      ]

  stays_in : (j : ℤ) → Contains h before.world.heap j → Contains h after.world.heap j
  stays_in j member =
      let below : member.0 < length before.world.heap.nodes = path_stays (walk_stays h before.world.heap j closed) closed.root member.1.0 in
      let same = same_node member.0 below in
      (member.0, ((idle.visits j member.0).0 member.1.0, ap (λ o. option_and_then (next_from h j) o) same ∙ member.1.1), ap (λ o. option_map_or (λ x. holds_at h x.key x.flags j) o false) same ∙ member.2)

  was_in : (j : ℤ) → Contains h after.world.heap j → Contains h before.world.heap j
  was_in j member =
      let path = (idle.visits j member.0).1 member.1.0 in
      let below : member.0 < length before.world.heap.nodes = path_stays (walk_stays h before.world.heap j closed) closed.root path in
      let same = same_node member.0 below in
      (member.0, (path, ap (λ o. option_and_then (next_from h j) o) (sym same) ∙ member.1.1), ap (λ o. option_map_or (λ x. holds_at h x.key x.flags j) o false) (sym same) ∙ member.2)

  pub idle_same_set : (j : ℤ) → contains h before.world.heap j ≡ contains h after.world.heap j
  idle_same_set j =
      let earlier = contains_decides h before.world.heap j in
      let later = contains_decides h after.world.heap j in
      same_tests (contains h before.world.heap j) (contains h after.world.heap j) (λ e. later.1 (stays_in j (earlier.0 e))) (λ e. earlier.1 (was_in j (later.0 e)))

-- ---- which steps can turn a key

module _ (h : Header) (methods : List Method) (w : WorldState) (thread : ThreadId) (key : ℤ) where
  same_heap : (event told : Option Event) (v after : WorldState) → v.heap ≡ w.heap → stepped event v ≡ stepped told after → differs h w.heap after.heap key ≡ true → ⊥
  same_heap event told v after same e turned =
      let there : w.heap ≡ after.heap = sym same ∙ ap (λ (u : WorldState). u.heap) (world_of event told v after e) in
      beq-same (contains h w.heap key) (contains h after.heap key) (ap (λ (k : Heap). contains h k key) there) turned

  module _ (call : Call) (pending : get w.calls thread.0 ≡ Some call) where
    block_writes : (b : Block) (passed : Option Bool) (event : Option Event) (after : WorldState) → action_of methods call ≡ Some (Action.Block b) → is_site (Action.Block b) ≡ true → tests_value w.heap thread call b.tests ≡ passed
        → went_on w thread (option_and_then (λ yes_exit. if yes_exit then taken_yes w.heap thread call b else Some (taken_no w.heap call b)) passed) ≡ stepped event after → differs h w.heap after.heap key ≡ true → IsWriting methods w thread
    block_writes b None event after here site tests e turned = absurd (cc)
    block_writes b (Some false) event after here site tests e turned = absurd (same_heap _ event _ after refl e turned)
    block_writes b (Some true) event after here site tests e turned = record { call = call; pending = pending; block = b; at = here; writes = site; passed = tests }

    action_writes : (action : Action) (event : Option Event) (after : WorldState) → action_of methods call ≡ Some action → is_site action ≡ true → performed methods w thread call action ≡ stepped event after → differs h w.heap after.heap key ≡ true → IsWriting methods w thread
    action_writes (Action.Block b) event after here site e turned = block_writes b (tests_value w.heap thread call b.tests) event after here site refl e turned
    action_writes (Action.Copy to from location) event after here site e turned = absurd (cc)
    action_writes (Action.New to location) event after here site e turned = absurd (cc)
    action_writes (Action.Return answer) event after here site e turned = absurd (cc)

    found_writes : (found : Option Action) (event : Option Event) (after : WorldState) → action_of methods call ≡ found → option_map_or (λ a. is_site a) found false ≡ true → option_map_or (performed methods w thread call) found refused ≡ stepped event after → differs h w.heap after.heap key ≡ true → IsWriting methods w thread
    found_writes None event after here site e turned = absurd (cc)
    found_writes (Some action) event after here site e turned = action_writes action event after here site e turned

  acted_writes : (act : Act) (pending : Option Call) (event : Option Event) (after : WorldState) → get w.calls thread.0 ≡ pending → acts_on_writes methods pending act ≡ true → acted methods w thread act ≡ stepped event after → differs h w.heap after.heap key ≡ true → IsWriting methods w thread
  acted_writes (Invoke m key) pending event after is site e turned = absurd (cc)
  acted_writes Go None event after is site e turned = absurd (cc)
  acted_writes Go (Some call) event after is site e turned =
      found_writes call is (action_of methods call) event after refl site (subst (λ o. gone_on methods w thread o ≡ stepped event after) is e) turned

-- a key is turned only where a block writes
pub turn_writes : (h : Header) (methods : List Method) (before : GhostWorld) (choice : Choice) (event : Option Event) (after : WorldState) → IsClosed before.world.heap → next methods before.world choice ≡ stepped event after
    → (key : ℤ) → differs h before.world.heap after.heap key ≡ true → IsWriting methods before.world choice.thread
turn_writes h methods before choice event after closed e key turned = go (comes_to_writes methods before.world choice) refl
  where
    go : (b : Bool) → comes_to_writes methods before.world choice ≡ b → IsWriting methods before.world choice.thread
    go true site = acted_writes h methods before.world choice.thread key choice.act (get before.world.calls choice.thread.0) event after refl site e turned
    go false none =
        let idle = idle_step h methods before choice event after closed none e in
        absurd (beq-same (contains h before.world.heap key) (contains h after.heap key) (idle_same_set h before (ghost_after h methods before choice after) closed idle key) turned)
