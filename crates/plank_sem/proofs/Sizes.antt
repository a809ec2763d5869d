-- Each node of every world has room for its pointers, and each call for its variables.
use Rattle.std.proofs.Common.{◌≡◌, ℕ, zero, suc, ℤ, Bool, true, false, List, [], ◌∷◌, map, length, length-set, Option, Some, None, refl, sym, ◌∙◌, ap, subst, inl, inr}
use Rattle.std.specs.Prelude.{slice_get, slice_set, option_map, if◌then◌else◌}
use Rattle.std.specs.Option.{option_map_or}
use Rattle.std.specs.Ordering.{nat_cmp}
use Rattle.std.specs.FinMap.{get, insert, get-empty}
use Rattle.std.proofs.lemmas.Option.{none-some, same_Some, option_and_then_some}
use Rattle.plank_base.specs.declared.limits.TheConstants.{POINTERS_LIMIT, VARIABLES_LIMIT}
use Rattle.plank_base.specs.declared.keys.NodeId.{NodeId}
use Rattle.plank_base.specs.declared.keys.ThreadId.{ThreadId}
use Rattle.plank_prog.specs.declared.headers.StartNode.{StartNode}
use Rattle.plank_prog.specs.declared.headers.Header.{Header}
use Rattle.plank_prog.specs.declared.blocks.Bind.{Bind}
use Rattle.plank_prog.specs.declared.blocks.Write.{Write}
use Rattle.plank_prog.specs.declared.blocks.Block.{Block}
use Rattle.plank_prog.specs.declared.methods.Action.{Action}
use Rattle.plank_prog.specs.declared.methods.Method.{Method}
use Rattle.plank_heap.specs.declared.nodes.Node.{Node}
use Rattle.plank_heap.specs.declared.heaps.Heap.{Heap}
use Rattle.plank_heap.specs.Heaps.{start_node}
use Rattle.plank_heap.specs.Changes.{with_node, fresh_node}
use Rattle.plank_hist.specs.declared.events.Event.{Event}
use Rattle.plank_sem.specs.declared.calls.Call.{Call}
use Rattle.plank_sem.specs.declared.steps.Act.{Act}
use Rattle.plank_sem.specs.declared.steps.Act.TheVariants.{Invoke, Go}
use Rattle.plank_sem.specs.declared.steps.Choice.{Choice}
use Rattle.plank_sem.specs.Worlds.{WorldState, start_world, fresh_call}
use Rattle.plank_sem.specs.Reads.{value_of, pointer_of, tests_value}
use Rattle.plank_sem.specs.Actions.{After, gone_to, bound, changed, changed_by, written, written_in, taken_yes, taken_no, block_run, copied, allocated}
use Rattle.plank_sem.specs.Steps.{stepped, refused, begun, went_on, performed, action_of, gone_on, acted, next}
use Rattle.plank_sem.proofs.Lists.{found_after_set, found_after_push}
use Rattle.plank_sem.proofs.CallMaps.{found_after_insert, found_after_remove}
use Rattle.plank_sem.proofs.FitsKept.{world_of}
use Rattle.plank_sem.specs.Kept.{GhostWorld, GhostRun}
use Rattle.plank_sem.specs.Facts.{HasSizes}
use Rattle.plank_sem.proofs.RunInduction.{of_every_world}

abbrev pub AreWide : List Node → Type 0
AreWide nodes = (x : ℕ) (node : Node) → slice_get nodes x ≡ Some node → length node.pointers ≡ POINTERS_LIMIT

module _ (heap : Heap) (thread : ThreadId) (call : Call) where
  changed_width : (w : Write) (node : Node) → length (changed heap thread call w node).pointers ≡ length node.pointers
  changed_width (Write.Flag q g to) node = refl
  changed_width (Write.Pointer q g to) node = length-set node.pointers g (value_of heap call to)
  changed_width (Write.TakeLock q) node = refl
  changed_width (Write.FreeLock q) node = refl

  changed_by_width : (ws : List Write) (node : Node) → length (changed_by heap thread call ws node).pointers ≡ length node.pointers
  changed_by_width [] node = refl
  changed_by_width (w ∷ ws) node = changed_by_width ws (changed heap thread call w node) ∙ changed_width w node

  written_wide : AreWide heap.nodes → (ws : List Write) (after : Heap) → written heap thread call ws ≡ Some after → AreWide after.nodes
  written_wide wide [] after e = subst (λ (G : Heap). AreWide G.nodes) (same_Some heap after e) wide
  written_wide wide (w ∷ ws) after e =
      option_and_then_some (λ (x : NodeId). option_map (λ node. with_node heap x.0 (changed_by heap thread call (w ∷ ws) node)) (slice_get heap.nodes x.0)) (written_in (w ∷ ws) heap call) after e
      (λ x is rest. option_and_then_some (λ (node : Node). Some (with_node heap x.0 (changed_by heap thread call (w ∷ ws) node))) (slice_get heap.nodes x.0) after rest
      (λ node found same. subst (λ (G : Heap). AreWide G.nodes) (same_Some _ after same) (λ y other at. elim (found_after_set heap.nodes x.0 (changed_by heap thread call (w ∷ ws) node) y other at) [
        | inl h ↦ ap (λ (n : Node). length n.pointers) (sym h.1) ∙ changed_by_width (w ∷ ws) node ∙ wide x.0 node found
        | inr h ↦ wide y other h.1
      ])))

  bound_size : (ds : List Bind) (vars after : List (Option NodeId)) → bound heap call ds vars ≡ Some after → length after ≡ length vars
  bound_size [] vars after e = ap (λ (xs : List (Option NodeId)). length xs) (sym (same_Some vars after e))
  bound_size (d ∷ ds) vars after e =
      option_and_then_some (λ (to : Option NodeId). bound heap call ds (slice_set vars d.to to)) (pointer_of heap call d.from d.pointer) after e
      (λ to at rest. bound_size ds (slice_set vars d.to to) after rest ∙ length-set vars d.to to)

  -- what a step makes of its heap and its call
  abbrev Fine : After → Type 0
  Fine a = AreWide a.heap.nodes × (length a.call.variables ≡ VARIABLES_LIMIT)

  module _ (wide : AreWide heap.nodes) (full : length call.variables ≡ VARIABLES_LIMIT) where
    yes_fine : (b : Block) (after : After) → taken_yes heap thread call b ≡ Some after → Fine after
    yes_fine b after e =
        option_and_then_some (λ (variables : List (Option NodeId)). option_map (λ next. record { heap = next; call = gone_to call b.yes variables }) (written heap thread call b.writes)) (bound heap call b.binds call.variables) after e
        (λ variables is rest. option_and_then_some (λ (next : Heap). Some (record { heap = next; call = gone_to call b.yes variables })) (written heap thread call b.writes) after rest
        (λ next is_written same. subst Fine (same_Some _ after same) (written_wide wide b.writes next is_written, bound_size b.binds call.variables variables is ∙ full)))

    exit_fine : (b : Block) (passed : Bool) (after : After) → (if passed then taken_yes heap thread call b else Some (taken_no heap call b)) ≡ Some after → Fine after
    exit_fine b true after e = yes_fine b after e
    exit_fine b false after e = subst Fine (same_Some (taken_no heap call b) after e) (wide, full)

    block_fine : (b : Block) (after : After) → block_run heap thread call b ≡ Some after → Fine after
    block_fine b after e =
        option_and_then_some (λ (passed : Bool). if passed then taken_yes heap thread call b else Some (taken_no heap call b)) (tests_value heap thread call b.tests) after e
        (λ passed is rest. exit_fine b passed after rest)

    new_fine : (to next : ℕ) → Fine (allocated heap call to next)
    new_fine to next = (
      λ x node at. elim (found_after_push heap.nodes (fresh_node call.key) x node at) [
        | inl h ↦ wide x node h
        | inr h ↦ ap (λ (n : Node). length n.pointers) (sym h.1)
      ],
      length-set call.variables to (Some (record { 0 = length heap.nodes })) ∙ full,
    )

module _ (methods : List Method) (w : WorldState) (sizes : HasSizes w) (thread : ThreadId) where
  goes_on : (a : After) → AreWide a.heap.nodes → length a.call.variables ≡ VARIABLES_LIMIT → HasSizes (record { heap = a.heap; calls = insert w.calls thread.0 a.call })
  goes_on a wide full = record {
    nodes = wide;
    calls = λ t call at. elim (found_after_insert w.calls thread.0 a.call t call at) [
      | inl h ↦ ap (λ (c : Call). length c.variables) (sym h.1) ∙ full
      | inr h ↦ sizes.calls t call h.1
    ];
  }

  went_on_sizes : (made : Option After) (event : Option Event) (after : WorldState) → ((a : After) → made ≡ Some a → AreWide a.heap.nodes × (length a.call.variables ≡ VARIABLES_LIMIT)) → went_on w thread made ≡ stepped event after → HasSizes after
  went_on_sizes None event after fine e = absurd (cc)
  went_on_sizes (Some a) event after fine e = let f = fine a refl in subst HasSizes (world_of _ event _ after e) (goes_on a f.0 f.1)

  performed_sizes : (call : Call) → length call.variables ≡ VARIABLES_LIMIT → (action : Action) (event : Option Event) (after : WorldState) → performed methods w thread call action ≡ stepped event after → HasSizes after
  performed_sizes call full (Action.Block b) event after e = went_on_sizes (block_run w.heap thread call b) event after (λ a is. block_fine w.heap thread call sizes.nodes full b a is) e
  performed_sizes call full (Action.Copy to from next) event after e =
      went_on_sizes (Some (copied w.heap call to from next)) event after (λ a is. subst (Fine w.heap thread call) (same_Some (copied w.heap call to from next) a is) (sizes.nodes, length-set call.variables to (value_of w.heap call from) ∙ full)) e
  performed_sizes call full (Action.New to next) event after e =
      went_on_sizes (Some (allocated w.heap call to next)) event after (λ a is. subst (Fine w.heap thread call) (same_Some (allocated w.heap call to next) a is) (new_fine w.heap thread call sizes.nodes full to next)) e
  performed_sizes call full (Action.Return answer) event after e =
      subst HasSizes (world_of _ event _ after e) (record { nodes = sizes.nodes; calls = λ t found at. sizes.calls t found (found_after_remove w.calls thread.0 t found at).1 })

  begun_sizes : (m : ℕ) (key : ℤ) (pending : Option Call) (method : Option Method) (event : Option Event) (after : WorldState) → begun w thread m key pending method ≡ stepped event after → HasSizes after
  begun_sizes m key None (Some method) event after e =
      subst HasSizes (world_of _ event _ after e) (record {
        nodes = sizes.nodes;
        calls = λ t call at. elim (found_after_insert w.calls thread.0 (fresh_call m key) t call at) [
          | inl h ↦ ap (λ (c : Call). length c.variables) (sym h.1)
          | inr h ↦ sizes.calls t call h.1
        ];
      })
  begun_sizes m key None None event after e = absurd (cc)
  begun_sizes m key (Some call) method event after e = absurd (cc)

  at_sizes : (call : Call) → length call.variables ≡ VARIABLES_LIMIT → (action : Option Action) (event : Option Event) (after : WorldState) → option_map_or (performed methods w thread call) action refused ≡ stepped event after → HasSizes after
  at_sizes call full None event after e = absurd (cc)
  at_sizes call full (Some action) event after e = performed_sizes call full action event after e

  gone_on_sizes : (pending : Option Call) → get w.calls thread.0 ≡ pending → (event : Option Event) (after : WorldState) → gone_on methods w thread pending ≡ stepped event after → HasSizes after
  gone_on_sizes None is event after e = absurd (cc)
  gone_on_sizes (Some call) is event after e = at_sizes call (sizes.calls thread.0 call is) (action_of methods call) event after e

  acted_sizes : (act : Act) (event : Option Event) (after : WorldState) → acted methods w thread act ≡ stepped event after → HasSizes after
  acted_sizes (Invoke m key) event after e = begun_sizes m key (get w.calls thread.0) (slice_get methods m) event after e
  acted_sizes Go event after e = gone_on_sizes (get w.calls thread.0) refl event after e

pub step_sizes : (methods : List Method) (w : WorldState) (choice : Choice) (event : Option Event) (after : WorldState) → HasSizes w → next methods w choice ≡ stepped event after → HasSizes after
step_sizes methods w choice event after sizes e = acted_sizes methods w sizes choice.thread choice.act event after e

start_wide : (ns : List StartNode) → AreWide (map start_node ns)
start_wide [] x node at = absurd (none-some node at)
start_wide (n ∷ ns) zero node at = ap (λ (z : Node). length z.pointers) (sym (same_Some (start_node n) node at))
start_wide (n ∷ ns) (suc x) node at = start_wide ns x node at

pub start_sizes : (h : Header) → HasSizes (start_world h)
start_sizes h = record { nodes = start_wide h.nodes; calls = λ thread call at. absurd (none-some call (sym (get-empty nat_cmp thread) ∙ at)) }

-- of each world of a run
pub run_sizes : {h : Header} {methods : List Method} {choices : List Choice} {told : List (Option Event)} {ghosts : List GhostWorld} → GhostRun h methods choices told ghosts → (i : ℕ) (g : GhostWorld) → slice_get ghosts i ≡ Some g → HasSizes g.world
run_sizes {h} {methods} run i g at =
    of_every_world (λ (k : GhostWorld). HasSizes k.world) (start_sizes h)
    (λ before choice event after sizes step. step_sizes methods before.world choice event after sizes step) run i g at
