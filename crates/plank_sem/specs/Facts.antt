-- Facts of every world of every run, by the steps alone: what nodes are named, pointed to and shared, and what never changes.
use Rattle.std.specs.Option.{option_map_or}
use Rattle.std.specs.Prelude.{◌≡◌, ◌⊎◌, ◌↔◌, ℕ, ◌<◌, ℤ, Bool, true, false, List, length, slice_get, Option, Some, None}
use Rattle.std.specs.FinMap.{get}
use Rattle.plank_base.specs.declared.limits.TheConstants.{POINTERS_LIMIT, VARIABLES_LIMIT}
use Rattle.plank_base.specs.declared.keys.Key.{Key}
use Rattle.plank_base.specs.declared.keys.NodeId.{NodeId}
use Rattle.plank_base.specs.declared.keys.ThreadId.{ThreadId}
use Rattle.plank_prog.specs.declared.methods.Method.{Method}
use Rattle.plank_prog.specs.Methods.{is_site}
use Rattle.plank_prog.specs.declared.headers.Header.{Header}
use Rattle.plank_prog.specs.declared.blocks.Block.{Block}
use Rattle.plank_prog.specs.declared.methods.Action.{Action}
use Rattle.plank_heap.specs.declared.nodes.Node.{Node}
use Rattle.plank_heap.specs.declared.heaps.Heap.{Heap}
use Rattle.plank_heap.specs.Heaps.{IsClosed, start_heap}
use Rattle.plank_heap.specs.Walks.{WalkVisits}
use Rattle.plank_sem.specs.declared.steps.Act.{Act}
use Rattle.plank_sem.specs.declared.steps.Choice.{Choice}
use Rattle.plank_sem.specs.Worlds.{WorldState}
use Rattle.plank_sem.specs.Steps.{action_of}
use Rattle.plank_sem.specs.declared.calls.Call.{Call}
use Rattle.plank_sem.specs.Fits.{AllNamed}
use Rattle.plank_sem.specs.Kept.{GhostWorld, IsShared, IsOwn}
use Rattle.plank_sem.specs.Reads.{tests_value}

-- every node is still there, with its key
abbrev pub KeysStay : Heap → Heap → Type 0
KeysStay before after = (x : ℕ) (node : Node) → slice_get before.nodes x ≡ Some node → (later : Node) × (slice_get after.nodes x ≡ Some later) × (later.key ≡ node.key)

-- a call may name a node: it is shared, or it is the thread's own and this very call allocated it
abbrev pub IsUsable : List (Option ℕ) → List ℕ → ℕ → ℕ → Type 0
IsUsable owners allocated thread x = IsShared owners x ⊎ (IsOwn owners x thread × ((k : ℕ) × (slice_get allocated k ≡ Some x)))

-- node y points to node z
abbrev pub PointsTo : Heap → ℕ → ℕ → Type 0
PointsTo heap y z = (node : Node) × (f : ℕ) × (to : NodeId) × (slice_get heap.nodes y ≡ Some node) × (slice_get node.pointers f ≡ Some (Some to)) × (to.0 ≡ z)

pub record IsSound (h : Header) (g : GhostWorld) : Type 0 where
  -- the root and each pointer that is not null name nodes, and so does each variable of a call
  pub closed : IsClosed g.world.heap
  pub variables_within : (thread : ℕ) (call : Call) → get g.world.calls thread ≡ Some call → AllNamed (λ x. x < length g.world.heap.nodes) call.variables
  -- each node is shared, or a thread's own
  pub owned : length g.kept.owners ≡ length g.world.heap.nodes
  -- the root is that of the start, and start nodes have their keys
  pub same_root : g.world.heap.root ≡ (start_heap h).root
  pub start_keys : KeysStay (start_heap h) g.world.heap
  -- a node that is not shared is not the root, and no other node points to it
  pub root_is_shared : IsShared g.kept.owners g.world.heap.root.0
  pub own_is_apart : (x thread y : ℕ) → IsOwn g.kept.owners x thread → PointsTo g.world.heap y x → y ≡ x
  -- a variable of a call names a shared node, or one of the thread's own that this very call allocated
  pub variables : (thread : ℕ) (call : Call) → get g.world.calls thread ≡ Some call → AllNamed (IsUsable g.kept.owners (g.kept.allocated thread) thread) call.variables
  -- pointers of shared nodes lead to shared nodes, and walks visit shared nodes alone
  pub shared_leads : (x y : ℕ) → IsShared g.kept.owners x → PointsTo g.world.heap x y → IsShared g.kept.owners y
  pub visited_is_shared : (j : ℤ) (x : ℕ) → WalkVisits h g.world.heap j x → IsShared g.kept.owners x

-- each node has room for its pointers, and each call for its variables
pub record HasSizes (w : WorldState) : Type 0 where
  pub nodes : (x : ℕ) (node : Node) → slice_get w.heap.nodes x ≡ Some node → length node.pointers ≡ POINTERS_LIMIT
  pub calls : (thread : ℕ) (call : Call) → get w.calls thread ≡ Some call → length call.variables ≡ VARIABLES_LIMIT

-- a node is of the start, or has a number as its key
abbrev pub HasNumber : Header → ℕ → Node → Type 0
HasNumber h x node = (x < length (start_heap h).nodes) ⊎ ((j : ℤ) × (node.key ≡ Key.Num j))

abbrev pub AreNumbered : Header → GhostWorld → Type 0
AreNumbered h g = (x : ℕ) (node : Node) → slice_get g.world.heap.nodes x ≡ Some node → HasNumber h x node

-- what stays from an earlier world of a run to a later one
pub record Stays (before after : GhostWorld) : Type 0 where
  pub same_root : after.world.heap.root ≡ before.world.heap.root
  pub keys : KeysStay before.world.heap after.world.heap
  pub shared : (x : ℕ) → IsShared before.kept.owners x → IsShared after.kept.owners x

-- ---- steps that write nothing

-- whether an act, by a thread with this pending call, comes to a block that writes
abbrev pub acts_on_writes : List Method → Option Call → Act → Bool
acts_on_writes methods pending (Act.Invoke m key) = false
acts_on_writes methods None Act.Go = false
acts_on_writes methods (Some call) Act.Go = option_map_or (λ action. is_site action) (action_of methods call) false

-- whether a choice does
abbrev pub comes_to_writes : List Method → WorldState → Choice → Bool
comes_to_writes methods w choice = acts_on_writes methods (get w.calls choice.thread.0) choice.act

-- the next step of the thread is a block that writes, and its tests are true
pub record IsWriting (methods : List Method) (w : WorldState) (thread : ThreadId) : Type 0 where
  pub call : Call
  pub pending : get w.calls thread.0 ≡ Some call
  pub block : Block
  pub at : action_of methods call ≡ Some (Action.Block block)
  pub writes : is_site (Action.Block block) ≡ true
  pub passed : tests_value w.heap thread call block.tests ≡ Some true

-- after such a step the nodes that were there are as they were, with their owners, and walks visit what they visited
pub record IsIdle (h : Header) (before after : GhostWorld) : Type 0 where
  pub nodes : (x : ℕ) (node : Node) → slice_get before.world.heap.nodes x ≡ Some node → slice_get after.world.heap.nodes x ≡ Some node
  pub owners : (x : ℕ) (owner : Option ℕ) → slice_get before.kept.owners x ≡ Some owner → slice_get after.kept.owners x ≡ Some owner
  pub visits : (j : ℤ) (x : ℕ) → WalkVisits h before.world.heap j x ↔ WalkVisits h after.world.heap j x
