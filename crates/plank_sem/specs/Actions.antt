-- What an action makes of the heap and of its call, from the values before it. None stands for a read or a write of a
-- field of null.
use Rattle.std.specs.Prelude.{ℕ, ◌<◌, List, [], ◌∷◌, length, slice_get, slice_set, Option, Some, None, option_map, option_and_then, if◌then◌else◌}
use Rattle.plank_base.specs.declared.keys.NodeId.{NodeId}
use Rattle.plank_base.specs.declared.keys.ThreadId.{ThreadId}
use Rattle.plank_base.specs.declared.limits.TheConstants.{FLAGS_LIMIT, POINTERS_LIMIT}
use Rattle.plank_prog.specs.Blocks.{written_node}
use Rattle.plank_prog.specs.declared.blocks.Value.{Value}
use Rattle.plank_prog.specs.declared.blocks.Bind.{Bind}
use Rattle.plank_prog.specs.declared.blocks.Write.{Write}
use Rattle.plank_prog.specs.declared.blocks.Block.{Block}
use Rattle.plank_heap.specs.declared.nodes.Node.{Node}
use Rattle.plank_heap.specs.declared.heaps.Heap.{Heap}
use Rattle.plank_heap.specs.Changes.{with_flag, with_pointer, with_lock, with_node, with_fresh_node}
use Rattle.plank_sem.specs.declared.calls.Call.{Call}
use Rattle.plank_sem.specs.Reads.{named, value_of, pointer_of, tests_value}

-- a heap, and the call that goes on in it
pub record After : Type 0 where
  pub heap : Heap
  pub call : Call

-- a call that goes on at a location with these variables
abbrev pub gone_to : Call → ℕ → List (Option NodeId) → Call
gone_to call location variables = record call { location = location; variables = variables }

-- ---- blocks

-- the variables after binds, which all read the call and the heap before
abbrev pub bound : Heap → Call → List Bind → List (Option NodeId) → Option (List (Option NodeId))
bound heap call [] variables = Some variables
bound heap call (d ∷ ds) variables =
    option_and_then (λ to. bound heap call ds (slice_set variables d.to to)) (pointer_of heap call d.from d.pointer)

-- a node after a write of it
abbrev pub changed : Heap → ThreadId → Call → Write → Node → Node
changed heap thread call (Write.Flag r flag to) x = with_flag x flag to
changed heap thread call (Write.Pointer r pointer to) x = with_pointer x pointer (value_of heap call to)
changed heap thread call (Write.TakeLock r) x = with_lock x (Some thread)
changed heap thread call (Write.FreeLock r) x = with_lock x None

-- a node has room for the field of a write
abbrev pub HasRoom : Write → Type 0
HasRoom (Write.Flag r flag to) = flag < FLAGS_LIMIT
HasRoom (Write.Pointer r pointer to) = pointer < POINTERS_LIMIT
HasRoom (Write.TakeLock r) = Unit {0}
HasRoom (Write.FreeLock r) = Unit {0}

-- a node after several
abbrev pub changed_by : Heap → ThreadId → Call → List Write → Node → Node
changed_by heap thread call [] x = x
changed_by heap thread call (w ∷ ws) x = changed_by heap thread call ws (changed heap thread call w x)

-- the node that a block writes, whose writes are all of one node
abbrev pub written_in : List Write → Heap → Call → Option NodeId
written_in [] heap call = None
written_in (w ∷ ws) heap call = named heap call (written_node w)

-- the heap after the writes of a block
abbrev pub written : Heap → ThreadId → Call → List Write → Option Heap
written heap thread call [] = Some heap
written heap thread call (w ∷ ws) =
    option_and_then (λ x. option_map (λ node. with_node heap x.0 (changed_by heap thread call (w ∷ ws) node)) (slice_get heap.nodes x.0)) (written_in (w ∷ ws) heap call)

-- where the tests are true: the binds and the writes
abbrev pub taken_yes : Heap → ThreadId → Call → Block → Option After
taken_yes heap thread call b =
    option_and_then (λ variables. option_map (λ after. record { heap = after; call = gone_to call b.yes variables }) (written heap thread call b.writes)) (bound heap call b.binds call.variables)

-- where one is false: nothing
abbrev pub taken_no : Heap → Call → Block → After
taken_no heap call b = record { heap = heap; call = gone_to call b.no call.variables }

abbrev pub block_run : Heap → ThreadId → Call → Block → Option After
block_run heap thread call b =
    option_and_then (λ passed. if passed then taken_yes heap thread call b else Some (taken_no heap call b)) (tests_value heap thread call b.tests)

-- ---- copies and allocations

abbrev pub copied : Heap → Call → ℕ → Value → ℕ → After
copied heap call to from next =
    record { heap = heap; call = gone_to call next (slice_set call.variables to (value_of heap call from)) }

-- the fresh node has the next number, and the argument as its key
abbrev pub allocated : Heap → Call → ℕ → ℕ → After
allocated heap call to next = record {
  heap = with_fresh_node heap call.key;
  call = gone_to call next (slice_set call.variables to (Some (record { 0 = length heap.nodes })));
}
