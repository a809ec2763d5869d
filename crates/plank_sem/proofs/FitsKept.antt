-- A step of a lawful program leads from a world that fits to one that fits.
use Rattle.std.proofs.Common.{◌≡◌, ℕ, ◌<◌, ◌≤◌, Bool, true, false, List, [], ◌∷◌, length, replicate, ℤ, zero, suc, Option, Some, None, refl, sym, ap, ◌∙◌, subst, inl, inr, arith, length-append, length-set}
use Rattle.std.specs.Prelude.{slice_get, slice_set, option_map, if◌then◌else◌, Result, Ok, Err, IfOk, OnErr}
use Rattle.std.specs.Option.{option_map_or}
use Rattle.std.specs.FinMap.{get, insert, empty, get-empty}
use Rattle.std.specs.Ordering.{nat_cmp}
use Rattle.std.proofs.lemmas.Bool.{and_parts, ltb-true}
use Rattle.std.proofs.lemmas.Option.{none-some, same_Some, option_and_then_some}
use Rattle.plank_base.specs.declared.limits.TheConstants.{VARIABLES_LIMIT}
use Rattle.plank_base.specs.declared.keys.NodeId.{NodeId}
use Rattle.plank_base.specs.declared.keys.ThreadId.{ThreadId}
use Rattle.plank_prog.specs.declared.headers.Header.{Header}
use Rattle.plank_prog.specs.declared.blocks.Value.{Value}
use Rattle.plank_prog.specs.declared.blocks.Write.{Write}
use Rattle.plank_prog.specs.declared.blocks.Block.{Block}
use Rattle.plank_prog.specs.declared.methods.Action.{Action}
use Rattle.plank_prog.specs.declared.methods.Method.{Method}
use Rattle.plank_prog.specs.Methods.{are_lawful_methods, is_lawful_method}
use Rattle.plank_heap.specs.declared.nodes.Node.{Node}
use Rattle.plank_heap.specs.declared.heaps.Heap.{Heap}
use Rattle.plank_heap.specs.Heaps.{IsClosed, LeadsWithin}
use Rattle.plank_heap.specs.Changes.{with_node, with_fresh_node, fresh_node}
use Rattle.plank_hist.specs.declared.events.Event.{Event}
use Rattle.plank_sem.specs.declared.calls.Call.{Call}
use Rattle.plank_sem.specs.declared.steps.Act.{Act}
use Rattle.plank_sem.specs.declared.steps.Act.TheVariants.{Invoke, Go}
use Rattle.plank_sem.specs.declared.steps.Choice.{Choice}
use Rattle.plank_sem.specs.declared.steps.Stepped.{Stepped}
use Rattle.plank_sem.specs.declared.steps.StepFault.{StepFault}
use Rattle.plank_sem.specs.Worlds.{WorldState, Calls, fresh_call}
use Rattle.plank_sem.specs.Reads.{value_of, tests_value}
use Rattle.plank_sem.specs.Actions.{After, gone_to, bound, changed, changed_by, written, written_in, taken_yes, taken_no, block_run, copied, allocated}
use Rattle.plank_sem.specs.Steps.{stepped, refused, begun, went_on, ended, performed, action_of, gone_on, acted, next}
use Rattle.plank_sem.specs.Fits.{AllNamed, CallFits, Fits}
use Rattle.plank_prog.proofs.HeaderFacts.{list_all_at}
use Rattle.plank_sem.proofs.Lists.{found_after_set, found_after_push}
use Rattle.plank_sem.proofs.CallMaps.{found_after_insert, found_after_remove}
use Rattle.plank_sem.proofs.NamedNodes.{all_named_set, LeadsAlong, value_in, bound_in}
use Rattle.plank_sem.proofs.LawfulActions.{StandsAt, stands_at, block_yes, block_no}

-- ---- heaps

-- pointers of a closed heap lead from nodes to nodes
pub closed_leads : (heap : Heap) → IsClosed heap → LeadsAlong (λ x. x < length heap.nodes) heap
closed_leads heap closed x node f y below found leads = closed.pointers x node found f y leads

node_leads : (heap : Heap) (call : Call) (thread : ThreadId) → heap.root.0 < length heap.nodes → AllNamed (λ x. x < length heap.nodes) call.variables
    → (w : Write) (node : Node) → LeadsWithin (length heap.nodes) node → LeadsWithin (length heap.nodes) (changed heap thread call w node)
node_leads heap call thread root all (Write.Flag r flag to) node leads f y at = leads f y at
node_leads heap call thread root all (Write.Pointer r pointer to) node leads f y at =
    elim (found_after_set node.pointers pointer (value_of heap call to) f (Some y) at) [
      | inl h ↦ value_in (λ x. x < length heap.nodes) heap call root all to y h.1
      | inr h ↦ leads f y h.1
    ]
node_leads heap call thread root all (Write.TakeLock r) node leads f y at = leads f y at
node_leads heap call thread root all (Write.FreeLock r) node leads f y at = leads f y at

all_leads : (heap : Heap) (call : Call) (thread : ThreadId) → heap.root.0 < length heap.nodes → AllNamed (λ x. x < length heap.nodes) call.variables
    → (ws : List Write) (node : Node) → LeadsWithin (length heap.nodes) node → LeadsWithin (length heap.nodes) (changed_by heap thread call ws node)
all_leads heap call thread root all [] node leads = leads
all_leads heap call thread root all (w ∷ ws) node leads =
    all_leads heap call thread root all ws (changed heap thread call w node) (node_leads heap call thread root all w node leads)

-- a heap that is closed, and has at least the nodes of another
pub record Grown (before after : Heap) : Type 0 where
  pub closed : IsClosed after
  pub longer : length before.nodes ≤ length after.nodes

with_node_closed : (heap : Heap) (x : ℕ) (node : Node) → IsClosed heap → LeadsWithin (length heap.nodes) node → Grown heap (with_node heap x node)
with_node_closed heap x node closed leads =
    let same = length-set heap.nodes x node in
    record {
      closed = record {
        root = let root = closed.root in omega (arith, same);
        pointers = λ y other found f z at.
            let below : z.0 < length heap.nodes =
            elim (found_after_set heap.nodes x node y other found) [
              | inl h ↦ leads f z (subst (λ (o : Node). slice_get o.pointers f ≡ Some (Some z)) (sym h.1) at)
              | inr h ↦ closed.pointers y other h.1 f z at
            ] in
            omega (arith, same, below);
      };
      longer = omega (arith, same);
    }

pub written_grown : (heap : Heap) (call : Call) (thread : ThreadId) → IsClosed heap → AllNamed (λ x. x < length heap.nodes) call.variables
    → (ws : List Write) (after : Heap) → written heap thread call ws ≡ Some after → Grown heap after
written_grown heap call thread closed all [] after e = subst (Grown heap) (same_Some heap after e) (record { closed = closed; longer = omega arith })
written_grown heap call thread closed all (w ∷ ws) after e =
    option_and_then_some (λ (x : NodeId). option_map (λ node. with_node heap x.0 (changed_by heap thread call (w ∷ ws) node)) (slice_get heap.nodes x.0)) (written_in (w ∷ ws) heap call) after e
    (λ x is rest. option_and_then_some (λ (node : Node). Some (with_node heap x.0 (changed_by heap thread call (w ∷ ws) node))) (slice_get heap.nodes x.0) after rest
    (λ node found same. subst (Grown heap) (same_Some _ after same)
    (with_node_closed heap x.0 (changed_by heap thread call (w ∷ ws) node) closed
    (all_leads heap call thread closed.root all (w ∷ ws) node (closed.pointers x.0 node found)))))

fresh_leads : (key : ℤ) (n : ℕ) → LeadsWithin n (fresh_node key)
fresh_leads key n zero y at = absurd (none-some y (same_Some None (Some y) at))
fresh_leads key n (suc zero) y at = absurd (none-some y (same_Some None (Some y) at))
fresh_leads key n (suc (suc f)) y at = absurd (none-some (Some y) at)

pub fresh_grown : (heap : Heap) (key : ℤ) → IsClosed heap → Grown heap (with_fresh_node heap key)
fresh_grown heap key closed =
    let longer = length-append heap.nodes (fresh_node key ∷ []) in
    record {
      closed = record {
        root = let root = closed.root in omega (arith, longer);
        pointers = λ y other found f z at.
            let below : z.0 < length heap.nodes =
            elim (found_after_push heap.nodes (fresh_node key) y other found) [
              | inl h ↦ closed.pointers y other h f z at
              | inr h ↦ fresh_leads key (length heap.nodes) f z (subst (λ (o : Node). slice_get o.pointers f ≡ Some (Some z)) (sym h.1) at)
            ] in
            omega (arith, longer, below);
      };
      longer = omega (arith, longer);
    }

-- ---- calls

-- a call goes on in a heap that has grown
pub record GoesOn (methods : List Method) (before : Heap) (after : After) : Type 0 where
  pub grown : Grown before after.heap
  pub call : CallFits methods (length after.heap.nodes) after.call

all_named_below : (n m : ℕ) (variables : List (Option NodeId)) → n ≤ m → AllNamed (λ x. x < n) variables → AllNamed (λ x. x < m) variables
all_named_below n m variables le all v x at = let below : x.0 < n = all v x at in omega arith

pub call_fits_more : (methods : List Method) (n m : ℕ) (call : Call) → n ≤ m → CallFits methods n call → CallFits methods m call
call_fits_more methods n m call le fits = record {
  method = fits.method;
  called = fits.called;
  location = fits.location;
  variables = all_named_below n m call.variables le fits.variables;
}

-- an action of a lawful program, by a call that fits, in a closed heap
module _ (h : Header) (methods : List Method) (heap : Heap) (thread : ThreadId) (call : Call) (closed : IsClosed heap) (fits : CallFits methods (length heap.nodes) call) where
  call_goes_on : (method : Method) → slice_get methods call.method ≡ Some method → (location : ℕ) → location < length method.locations
      → (n : ℕ) (variables : List (Option NodeId)) → AllNamed (λ x. x < n) variables → CallFits methods n (gone_to call location variables)
  call_goes_on method called location below n variables all = record { method = method; called = called; location = below; variables = all }

  yes_goes_on : (b : Block) (after : After) → StandsAt h methods call (Action.Block b) → taken_yes heap thread call b ≡ Some after → GoesOn methods heap after
  yes_goes_on b after here e =
      option_and_then_some (λ (variables : List (Option NodeId)). option_map (λ next. record { heap = next; call = gone_to call b.yes variables }) (written heap thread call b.writes)) (bound heap call b.binds call.variables) after e
      (λ variables is rest. option_and_then_some (λ (next : Heap). Some (record { heap = next; call = gone_to call b.yes variables })) (written heap thread call b.writes) after rest
      (λ next is_written same. subst (GoesOn methods heap) (same_Some _ after same)
      (let grown = written_grown heap call thread closed fits.variables b.writes next is_written in
      record {
        grown = grown;
        call = call_goes_on here.method here.called b.yes (block_yes h (length here.method.variables) (length here.method.locations) b here.lawful) (length next.nodes) variables
            (all_named_below (length heap.nodes) (length next.nodes) variables grown.longer
            (bound_in (λ x. x < length heap.nodes) heap call closed.root fits.variables (closed_leads heap closed) b.binds call.variables variables fits.variables is));
      })))

  exit_goes_on : (b : Block) (passed : Bool) (after : After) → StandsAt h methods call (Action.Block b)
      → (if passed then taken_yes heap thread call b else Some (taken_no heap call b)) ≡ Some after → GoesOn methods heap after
  exit_goes_on b true after here e = yes_goes_on b after here e
  exit_goes_on b false after here e = subst (GoesOn methods heap) (same_Some _ after e) (record {
    grown = record { closed = closed; longer = omega arith };
    call = call_goes_on here.method here.called b.no (block_no h (length here.method.variables) (length here.method.locations) b here.lawful) (length heap.nodes) call.variables fits.variables;
  })

  pub block_goes_on : (b : Block) (after : After) → StandsAt h methods call (Action.Block b) → block_run heap thread call b ≡ Some after → GoesOn methods heap after
  block_goes_on b after here e =
      option_and_then_some (λ (passed : Bool). if passed then taken_yes heap thread call b else Some (taken_no heap call b)) (tests_value heap thread call b.tests) after e
      (λ passed is rest. exit_goes_on b passed after here rest)

  pub copied_goes_on : (to : ℕ) (from : Value) (next : ℕ) → StandsAt h methods call (Action.Copy to from next) → GoesOn methods heap (copied heap call to from next)
  copied_goes_on to from next here = record {
    grown = record { closed = closed; longer = omega arith };
    call = call_goes_on here.method here.called next (ltb-true next (length here.method.locations) (and_parts _ _ here.lawful).1) (length heap.nodes) (slice_set call.variables to (value_of heap call from))
        (all_named_set (λ x. x < length heap.nodes) call.variables to (value_of heap call from) fits.variables
        (λ x is. value_in (λ y. y < length heap.nodes) heap call closed.root fits.variables from x is));
  }

  pub allocated_goes_on : (to next : ℕ) → StandsAt h methods call (Action.New to next) → GoesOn methods heap (allocated heap call to next)
  allocated_goes_on to next here =
      let fresh : NodeId = record { 0 = length heap.nodes } in
      let longer = length-append heap.nodes (fresh_node call.key ∷ []) in
      let grown = fresh_grown heap call.key closed in
      record {
        grown = grown;
        call = call_goes_on here.method here.called next (ltb-true next (length here.method.locations) (and_parts _ _ here.lawful).1) (length (with_fresh_node heap call.key).nodes) (slice_set call.variables to (Some fresh))
            (all_named_set (λ x. x < length (with_fresh_node heap call.key).nodes) call.variables to (Some fresh)
            (all_named_below (length heap.nodes) (length (with_fresh_node heap call.key).nodes) call.variables grown.longer fits.variables)
            (λ x is. let same : length heap.nodes ≡ x.0 = ap (λ (y : NodeId). y.0) (same_Some fresh x is) in omega (arith, longer, same)));
      }

-- ---- worlds

pub world_of : (event told : Option Event) (w after : WorldState) → stepped event w ≡ stepped told after → w ≡ after
world_of event told w after e = cc

-- a call goes on, and the others stay
pub went_on_fits : (methods : List Method) (w : WorldState) (thread : ThreadId) (after : After) → Fits methods w → GoesOn methods w.heap after
    → Fits methods (record { heap = after.heap; calls = insert w.calls thread.0 after.call })
went_on_fits methods w thread after fits goes = record {
  heap = goes.grown.closed;
  calls = λ t call at.
      elim (found_after_insert w.calls thread.0 after.call t call at) [
        | inl h ↦ subst (CallFits methods (length after.heap.nodes)) h.1 goes.call
        | inr h ↦ call_fits_more methods (length w.heap.nodes) (length after.heap.nodes) call goes.grown.longer (fits.calls t call h.1)
      ];
}

ended_fits : (methods : List Method) (w : WorldState) (thread : ThreadId) → Fits methods w → Fits methods (ended w thread)
ended_fits methods w thread fits = record {
  heap = fits.heap;
  calls = λ t call at. fits.calls t call (found_after_remove w.calls thread.0 t call at).1;
}

pub none_named : (These : ℕ → Type 0) (n : ℕ) → AllNamed These (replicate n None)
none_named These zero v x at = absurd (none-some (Some x) at)
none_named These (suc n) zero x at = absurd (none-some x (same_Some None (Some x) at))
none_named These (suc n) (suc v) x at = none_named These n v x at

begun_fits : (methods : List Method) (w : WorldState) (thread : ThreadId) (m : ℕ) (key : ℤ) (method : Method) → Fits methods w
    → slice_get methods m ≡ Some method → 0 < length method.locations
    → Fits methods (record w { calls = insert w.calls thread.0 (fresh_call m key) })
begun_fits methods w thread m key method fits called some = record {
  heap = fits.heap;
  calls = λ t call at.
      elim (found_after_insert w.calls thread.0 (fresh_call m key) t call at) [
        | inl h ↦ subst (CallFits methods (length w.heap.nodes)) h.1
            (record { method = method; called = called; location = some; variables = none_named (λ x. x < length w.heap.nodes) VARIABLES_LIMIT })
        | inr h ↦ fits.calls t call h.1
      ];
}

-- a closed heap without calls
pub start_fits : (methods : List Method) (heap : Heap) (calls : Calls) → IsClosed heap → calls ≡ empty → Fits methods (record { heap = heap; calls = calls })
start_fits methods heap calls closed none = record {
  heap = closed;
  calls = λ thread call at. absurd (none-some call (sym (ap (λ (m : Calls). get m thread) none ∙ get-empty nat_cmp thread) ∙ at));
}

-- ---- steps

has_location : (h : Header) (methods : List Method) (m : ℕ) (method : Method) → are_lawful_methods h methods ≡ true → slice_get methods m ≡ Some method
    → 0 < length method.locations
has_location h methods m method lawful called =
    let one : is_lawful_method h method ≡ true = list_all_at (is_lawful_method h) methods m method (and_parts _ _ lawful).1 called in
    ltb-true 0 (length method.locations) (and_parts _ _ (and_parts _ _ one).0).1

module _ (h : Header) (methods : List Method) (lawful : are_lawful_methods h methods ≡ true) (w : WorldState) (thread : ThreadId) (fits : Fits methods w) where
  begun_kept : (m : ℕ) (key : ℤ) (pending : Option Call) (method : Option Method) (event : Option Event) (after : WorldState) → slice_get methods m ≡ method
      → begun w thread m key pending method ≡ stepped event after → Fits methods after
  begun_kept m key None (Some method) event after called e =
      subst (Fits methods) (world_of _ event _ after e) (begun_fits methods w thread m key method fits called (has_location h methods m method lawful called))
  begun_kept m key None None event after called e = absurd (cc)
  begun_kept m key (Some call) method event after called e = absurd (cc)

  went_on_kept : (made : Option After) (event : Option Event) (after : WorldState) → ((a : After) → made ≡ Some a → GoesOn methods w.heap a)
      → went_on w thread made ≡ stepped event after → Fits methods after
  went_on_kept None event after goes e = absurd (cc)
  went_on_kept (Some a) event after goes e =
      subst (Fits methods) (world_of _ event _ after e) (went_on_fits methods w thread a fits (goes a refl))

  performed_kept : (call : Call) (action : Action) (event : Option Event) (after : WorldState) → CallFits methods (length w.heap.nodes) call
      → StandsAt h methods call action → performed methods w thread call action ≡ stepped event after → Fits methods after
  performed_kept call (Action.Block b) event after one here e =
      went_on_kept (block_run w.heap thread call b) event after (λ a is. block_goes_on h methods w.heap thread call fits.heap one b a here is) e
  performed_kept call (Action.Copy to from next) event after one here e =
      went_on_kept (Some (copied w.heap call to from next)) event after
      (λ a is. subst (GoesOn methods w.heap) (same_Some _ a is) (copied_goes_on h methods w.heap thread call fits.heap one to from next here)) e
  performed_kept call (Action.New to next) event after one here e =
      went_on_kept (Some (allocated w.heap call to next)) event after
      (λ a is. subst (GoesOn methods w.heap) (same_Some _ a is) (allocated_goes_on h methods w.heap thread call fits.heap one to next here)) e
  performed_kept call (Action.Return answer) event after one here e =
      subst (Fits methods) (world_of _ event _ after e) (ended_fits methods w thread fits)

  at_kept : (call : Call) (action : Option Action) (event : Option Event) (after : WorldState) → CallFits methods (length w.heap.nodes) call
      → action_of methods call ≡ action → option_map_or (performed methods w thread call) action refused ≡ stepped event after → Fits methods after
  at_kept call None event after one at e = absurd (cc)
  at_kept call (Some action) event after one at e = performed_kept call action event after one (stands_at h methods call action lawful at) e

  gone_on_kept : (pending : Option Call) (event : Option Event) (after : WorldState) → get w.calls thread.0 ≡ pending
      → gone_on methods w thread pending ≡ stepped event after → Fits methods after
  gone_on_kept None event after is e = absurd (cc)
  gone_on_kept (Some call) event after is e = at_kept call (action_of methods call) event after (fits.calls thread.0 call is) refl e

  acted_kept : (act : Act) (event : Option Event) (after : WorldState) → acted methods w thread act ≡ stepped event after → Fits methods after
  acted_kept (Invoke m key) event after e = begun_kept m key (get w.calls thread.0) (slice_get methods m) event after refl e
  acted_kept Go event after e = gone_on_kept (get w.calls thread.0) event after refl e

pub fits_kept : (h : Header) (methods : List Method) → are_lawful_methods h methods ≡ true → (w : WorldState) (choice : Choice) (event : Option Event) (after : WorldState)
    → Fits methods w → next methods w choice ≡ stepped event after → Fits methods after
fits_kept h methods lawful w choice event after fits e = acted_kept h methods lawful w choice.thread fits choice.act event after e

-- whether the step was made or not
pub fits_after : (h : Header) (methods : List Method) → are_lawful_methods h methods ≡ true → (w : WorldState) (choice : Choice) (result : Result Stepped StepFault) (after : WorldState)
    → Fits methods w → IfOk result (λ s. next methods w choice ≡ stepped s.event after) → OnErr result (after ≡ w) → Fits methods after
fits_after h methods lawful w choice (Ok s) after fits made same = fits_kept h methods lawful w choice s.event after fits made
fits_after h methods lawful w choice (Err fault) after fits made same = subst (Fits methods) (sym same) fits
