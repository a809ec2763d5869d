-- Steps that write nothing: the nodes that were there are as they were, with their owners, and walks visit what they did.
use Rattle.std.proofs.Common.{◌≡◌, ℕ, suc, ◌<◌, ℤ, Bool, true, false, eqb, List, [], ◌∷◌, ◌++◌, length, Option, Some, None, refl, sym, ap, ◌∙◌, subst, inl, inr, arith}
use Rattle.std.specs.Prelude.{slice_get, not, ◌==◌, option_and_then, option_map, if◌then◌else◌}
use Rattle.std.specs.Option.{option_map_or}
use Rattle.std.specs.FinMap.{get}
use Rattle.std.proofs.lemmas.Bool.{eqb-true, not-false}
use Rattle.std.proofs.lemmas.Option.{same_Some, slice_get_cases, option_and_then_some}
use Rattle.plank_base.specs.declared.keys.NodeId.{NodeId}
use Rattle.plank_base.specs.declared.keys.ThreadId.{ThreadId}
use Rattle.plank_base.specs.Paths.{Path, here, onward}
use Rattle.plank_prog.specs.declared.headers.Header.{Header}
use Rattle.plank_prog.specs.declared.blocks.Write.{Write}
use Rattle.plank_prog.specs.declared.blocks.Block.{Block}
use Rattle.plank_prog.specs.declared.methods.Action.{Action}
use Rattle.plank_prog.specs.declared.methods.Method.{Method}
use Rattle.plank_prog.specs.Methods.{is_site}
use Rattle.plank_heap.specs.declared.heaps.Heap.{Heap}
use Rattle.plank_heap.specs.Heaps.{IsClosed}
use Rattle.plank_heap.specs.Walks.{next_from, WalkVisits}
use Rattle.plank_heap.specs.Walks as walks
use Rattle.plank_heap.specs.Changes.{fresh_node}
use Rattle.plank_hist.specs.declared.events.Event.{Event}
use Rattle.plank_sem.specs.declared.calls.Call.{Call}
use Rattle.plank_sem.specs.declared.steps.Act.{Act}
use Rattle.plank_sem.specs.declared.steps.Act.TheVariants.{Invoke, Go}
use Rattle.plank_sem.specs.declared.steps.Choice.{Choice}
use Rattle.plank_sem.specs.Worlds.{WorldState}
use Rattle.plank_sem.specs.Reads.{tests_value}
use Rattle.plank_sem.specs.Actions.{After, gone_to, bound, written, taken_yes, taken_no, block_run, copied, allocated}
use Rattle.plank_sem.specs.Steps.{stepped, refused, begun, went_on, performed, action_of, gone_on, acted, next}
use Rattle.plank_sem.specs.Kept.{Kept, owners_written, owners_after, kept_performed, kept_gone_on, kept_acted, GhostWorld, ghost_after}
use Rattle.plank_sem.specs.Facts.{acts_on_writes, comes_to_writes, IsIdle}
use Rattle.plank_hist.proofs.Joined.{slice_get-append_left}
use Rattle.plank_sem.proofs.FitsKept.{world_of}
use Rattle.plank_sem.proofs.SoundHeaps.{next_points}

-- what is found in one list is found in the other
abbrev pub Extends : {X : Type 0} → List X → List X → Type 0
Extends {X} before after = (i : ℕ) (x : X) → slice_get before i ≡ Some x → slice_get after i ≡ Some x

-- heap and owners after a step that writes nothing
pub record Extended (before : Heap) (owners : List (Option ℕ)) (after : Heap) (later : List (Option ℕ)) : Type 0 where
  pub nodes : Extends before.nodes after.nodes
  pub owners_stay : Extends owners later
  pub same_root : after.root ≡ before.root

pub extended_none : (heap : Heap) (owners : List (Option ℕ)) → Extended heap owners heap owners
extended_none heap owners = record { nodes = λ i x at. at; owners_stay = λ i x at. at; same_root = refl }

some_writes : (n : ℕ) → not (eqb (suc n) 0) ≡ false → ⊥
some_writes n none = let e : suc n ≡ 0 = eqb-true (suc n) 0 (not-false (eqb (suc n) 0) none) in absurd (omega arith)

-- no writes
none_written : (heap : Heap) (thread : ThreadId) (call : Call) (ws : List Write) (after : Heap) → not (length ws == 0) ≡ false → written heap thread call ws ≡ Some after → heap ≡ after
none_written heap thread call [] after none e = same_Some heap after e
none_written heap thread call (w ∷ ws) after none e = absurd (some_writes (length ws) none)

none_shared : (heap : Heap) (call : Call) (ws : List Write) (passed : Option Bool) (owners : List (Option ℕ)) → not (length ws == 0) ≡ false → owners ≡ owners_written heap call ws passed owners
none_shared heap call [] (Some true) owners none = refl
none_shared heap call [] (Some false) owners none = refl
none_shared heap call [] None owners none = refl
none_shared heap call (w ∷ ws) passed owners none = absurd (some_writes (length ws) none)

module _ (heap : Heap) (owners : List (Option ℕ)) (thread : ThreadId) (call : Call) where
  yes_heap : (b : Block) (after : After) → not (length b.writes == 0) ≡ false → taken_yes heap thread call b ≡ Some after → heap ≡ after.heap
  yes_heap b after none e =
      option_and_then_some (λ (variables : List (Option NodeId)). option_map (λ next. record { heap = next; call = gone_to call b.yes variables }) (written heap thread call b.writes)) (bound heap call b.binds call.variables) after e
      (λ variables is rest. option_and_then_some (λ (next : Heap). Some (record { heap = next; call = gone_to call b.yes variables })) (written heap thread call b.writes) after rest
      (λ next is_written same. none_written heap thread call b.writes next none is_written ∙ ap (λ (a : After). a.heap) (same_Some _ after same)))

  exit_heap : (b : Block) (passed : Bool) (after : After) → not (length b.writes == 0) ≡ false → (if passed then taken_yes heap thread call b else Some (taken_no heap call b)) ≡ Some after → heap ≡ after.heap
  exit_heap b true after none e = yes_heap b after none e
  exit_heap b false after none e = ap (λ (a : After). a.heap) (same_Some (taken_no heap call b) after e)

  block_extended : (b : Block) (after : After) → not (length b.writes == 0) ≡ false → block_run heap thread call b ≡ Some after
      → Extended heap owners after.heap (owners_written heap call b.writes (tests_value heap thread call b.tests) owners)
  block_extended b after none e =
      let same : heap ≡ after.heap =
      option_and_then_some (λ (passed : Bool). if passed then taken_yes heap thread call b else Some (taken_no heap call b)) (tests_value heap thread call b.tests) after e
      (λ passed is rest. exit_heap b passed after none rest) in
      subst (λ o. Extended heap owners after.heap o) (none_shared heap call b.writes (tests_value heap thread call b.tests) owners none)
      (subst (λ (k : Heap). Extended heap owners k owners) same (extended_none heap owners))

  allocated_extended : (to next : ℕ) → Extended heap owners (allocated heap call to next).heap (owners ++ Some thread.0 ∷ [])
  allocated_extended to next = record {
    nodes = λ i x at. slice_get-append_left heap.nodes (fresh_node call.key ∷ []) i x at;
    owners_stay = λ i x at. slice_get-append_left owners (Some thread.0 ∷ []) i x at;
    same_root = refl;
  }

-- ---- worlds

module _ (h : Header) (methods : List Method) (w : WorldState) (kept : Kept) (thread : ThreadId) where
  went_on_extended : (made : Option After) (later : List (Option ℕ)) (event : Option Event) (after : WorldState)
      → ((a : After) → made ≡ Some a → Extended w.heap kept.owners a.heap later) → went_on w thread made ≡ stepped event after → Extended w.heap kept.owners after.heap later
  went_on_extended None later event after one e = absurd (cc)
  went_on_extended (Some a) later event after one e =
      subst (λ (v : WorldState). Extended w.heap kept.owners v.heap later) (world_of _ event _ after e) (one a refl)

  performed_extended : (call : Call) (action : Action) (event : Option Event) (after : WorldState) → is_site action ≡ false → performed methods w thread call action ≡ stepped event after
      → Extended w.heap kept.owners after.heap (owners_after w.heap thread call action kept.owners)
  performed_extended call (Action.Block b) event after none e =
      went_on_extended (block_run w.heap thread call b) (owners_after w.heap thread call (Action.Block b) kept.owners) event after
      (λ a is. block_extended w.heap kept.owners thread call b a none is) e
  performed_extended call (Action.Copy to from next) event after none e =
      went_on_extended (Some (copied w.heap call to from next)) kept.owners event after
      (λ a is. subst (λ (b : After). Extended w.heap kept.owners b.heap kept.owners) (same_Some (copied w.heap call to from next) a is) (extended_none w.heap kept.owners)) e
  performed_extended call (Action.New to next) event after none e =
      went_on_extended (Some (allocated w.heap call to next)) (kept.owners ++ Some thread.0 ∷ []) event after
      (λ a is. subst (λ (b : After). Extended w.heap kept.owners b.heap (kept.owners ++ Some thread.0 ∷ [])) (same_Some (allocated w.heap call to next) a is) (allocated_extended w.heap kept.owners thread call to next)) e
  performed_extended call (Action.Return answer) event after none e =
      subst (λ (v : WorldState). Extended w.heap kept.owners v.heap kept.owners) (world_of _ event _ after e) (extended_none w.heap kept.owners)

  begun_extended : (m : ℕ) (key : ℤ) (pending : Option Call) (method : Option Method) (event : Option Event) (after : WorldState)
      → begun w thread m key pending method ≡ stepped event after → Extended w.heap kept.owners after.heap kept.owners
  begun_extended m key None (Some method) event after e =
      subst (λ (v : WorldState). Extended w.heap kept.owners v.heap kept.owners) (world_of _ event _ after e) (extended_none w.heap kept.owners)
  begun_extended m key None None event after e = absurd (cc)
  begun_extended m key (Some call) method event after e = absurd (cc)

  at_extended : (call : Call) (action : Option Action) (event : Option Event) (after : WorldState) → option_map_or (λ a. is_site a) action false ≡ false
      → option_map_or (performed methods w thread call) action refused ≡ stepped event after
      → Extended w.heap kept.owners after.heap (option_map_or (λ a. kept_performed h w.heap after.heap thread call a kept) action kept).owners
  at_extended call None event after none e = absurd (cc)
  at_extended call (Some action) event after none e = performed_extended call action event after none e

  gone_on_extended : (pending : Option Call) (event : Option Event) (after : WorldState) → acts_on_writes methods pending Go ≡ false
      → gone_on methods w thread pending ≡ stepped event after
      → Extended w.heap kept.owners after.heap (kept_gone_on h methods w.heap after.heap thread pending kept).owners
  gone_on_extended None event after none e = absurd (cc)
  gone_on_extended (Some call) event after none e = at_extended call (action_of methods call) event after none e

  acted_extended : (act : Act) (event : Option Event) (after : WorldState) → acts_on_writes methods (get w.calls thread.0) act ≡ false
      → acted methods w thread act ≡ stepped event after → Extended w.heap kept.owners after.heap (kept_acted h methods w after thread act kept).owners
  acted_extended (Invoke m key) event after none e = begun_extended m key (get w.calls thread.0) (slice_get methods m) event after e
  acted_extended Go event after none e = gone_on_extended (get w.calls thread.0) event after none e

-- ---- walks

module _ (h : Header) (before after : Heap) (closed : IsClosed before) (nodes : Extends before.nodes after.nodes) (j : ℤ) where
  later_next : (x m : ℕ) → walks.next h before j x ≡ Some m → walks.next h after j x ≡ Some m
  later_next x m e =
      option_and_then_some (next_from h j) (slice_get before.nodes x) m e
      (λ node found leads. ap (λ o. option_and_then (next_from h j) o) (nodes x node found) ∙ leads)

  earlier_next : (x m : ℕ) → x < length before.nodes → walks.next h after j x ≡ Some m → walks.next h before j x ≡ Some m
  earlier_next x m below e =
      elim (slice_get_cases before.nodes x).1 [
        | inl found ↦ ap (λ o. option_and_then (next_from h j) o) (found.2 ∙ sym (nodes x found.0 found.2)) ∙ e
        | inr past ↦ absurd (let le = past.0 in omega arith)
      ]

  next_below : (x m : ℕ) → walks.next h before j x ≡ Some m → m < length before.nodes
  next_below x m e =
      let points = next_points h before j x m e in
      subst (λ k. k < length before.nodes) points.5 (closed.pointers x points.0 points.3 points.1 points.2 points.4)

  later_path : {x y : ℕ} → Path (walks.next h before j) x y → Path (walks.next h after j) x y
  later_path here = here
  later_path (onward {b} {m} {a} step rest) = onward (later_next a m step) (later_path rest)

  earlier_path : {x y : ℕ} → Path (walks.next h after j) x y → x < length before.nodes → Path (walks.next h before j) x y
  earlier_path here below = here
  earlier_path (onward {b} {m} {a} step rest) below =
      let same = earlier_next a m below step in onward same (earlier_path rest (next_below a m same))

-- a step that writes nothing, from a closed heap
pub idle_step : (h : Header) (methods : List Method) (before : GhostWorld) (choice : Choice) (event : Option Event) (after : WorldState) → IsClosed before.world.heap
    → comes_to_writes methods before.world choice ≡ false → next methods before.world choice ≡ stepped event after → IsIdle h before (ghost_after h methods before choice after)
idle_step h methods before choice event after closed none e =
    let extended = acted_extended h methods before.world before.kept choice.thread choice.act event after none e in
    record {
      nodes = extended.nodes;
      owners = extended.owners_stay;
      visits = λ j x. (
        λ path. subst (λ r. Path (walks.next h after.heap j) r x) (ap (λ (n : NodeId). n.0) (sym extended.same_root)) (later_path h before.world.heap after.heap closed extended.nodes j path),
        λ path. earlier_path h before.world.heap after.heap closed extended.nodes j (subst (λ r. Path (walks.next h after.heap j) r x) (ap (λ (n : NodeId). n.0) extended.same_root) path) closed.root,
      );
    }
