-- What a call reads: names, operands of tests, and tests. None stands for the read of a field of null.
use Rattle.std.specs.Prelude.{ℕ, Bool, true, false, ◌==◌, List, [], ◌∷◌, slice_get, Option, Some, None, is_none, option_map, option_and_then, if◌then◌else◌}
use Rattle.std.specs.Bool.{beq}
use Rattle.std.specs.Option.{option_flatten, option_map_or}
use Rattle.plank_base.specs.Keys.{is_at_most}
use Rattle.plank_base.specs.declared.keys.Key.{Key}
use Rattle.plank_base.specs.declared.keys.NodeId.{NodeId}
use Rattle.plank_base.specs.declared.keys.ThreadId.{ThreadId}
use Rattle.plank_prog.specs.Conditions.{compares}
use Rattle.plank_prog.specs.Views.{is_bit_set}
use Rattle.plank_prog.specs.declared.blocks.Reference.{Reference}
use Rattle.plank_prog.specs.declared.blocks.Value.{Value}
use Rattle.plank_prog.specs.declared.blocks.FlagOperand.{FlagOperand}
use Rattle.plank_prog.specs.declared.blocks.KeyOperand.{KeyOperand}
use Rattle.plank_prog.specs.declared.blocks.PointerOperand.{PointerOperand}
use Rattle.plank_prog.specs.declared.blocks.Test.{Test}
use Rattle.plank_heap.specs.declared.nodes.Node.{Node}
use Rattle.plank_heap.specs.declared.heaps.Heap.{Heap}
use Rattle.plank_sem.specs.declared.calls.Call.{Call}

-- the node that a name names, or null: here None is null itself
abbrev pub named : Heap → Call → Reference → Option NodeId
named heap call Reference.Root = Some heap.root
named heap call (Reference.Variable v) = option_flatten (slice_get call.variables v)

-- the node or null that a value is
abbrev pub value_of : Heap → Call → Value → Option NodeId
value_of heap call Value.Null = None
value_of heap call (Value.Node r) = named heap call r

-- ---- reads of fields

abbrev pub node_of : Heap → Call → Reference → Option Node
node_of heap call r = option_and_then (λ x. slice_get heap.nodes x.0) (named heap call r)

abbrev pub flag_of : Heap → Call → FlagOperand → Option Bool
flag_of heap call operand = option_map (λ x. is_bit_set x.flags operand.flag) (node_of heap call operand.node)

abbrev pub pointer_of : Heap → Call → Reference → ℕ → Option (Option NodeId)
pointer_of heap call r pointer = option_and_then (λ x. slice_get x.pointers pointer) (node_of heap call r)

abbrev pub key_of : Heap → Call → KeyOperand → Option Key
key_of heap call (KeyOperand.Node r) = option_map (λ x. x.key) (node_of heap call r)
key_of heap call KeyOperand.Argument = Some (Key.Num call.key)
key_of heap call KeyOperand.Min = Some Key.Min
key_of heap call KeyOperand.Max = Some Key.Max

abbrev pub target_of : Heap → Call → PointerOperand → Option (Option NodeId)
target_of heap call PointerOperand.Null = Some None
target_of heap call (PointerOperand.Node r) = Some (named heap call r)
target_of heap call (PointerOperand.Field r pointer) = pointer_of heap call r pointer

-- ---- tests

-- two values that are both read, compared
abbrev pub both : {A : Type 0} → (A → A → Bool) → Option A → Option A → Option Bool
both compare left right = option_and_then (λ a. option_map (λ b. compare a b) right) left

-- whether two pointers are equal
abbrev pub same_target : Option NodeId → Option NodeId → Bool
same_target None None = true
same_target None (Some y) = false
same_target (Some x) None = false
same_target (Some x) (Some y) = x.0 == y.0

-- whether the thread has the node's lock
abbrev pub has_lock : ThreadId → Node → Bool
has_lock thread x = option_map_or (λ holder. holder.0 == thread.0) x.lock false

abbrev pub test_value : Heap → ThreadId → Call → Test → Option Bool
test_value heap thread call (Test.Flag flag set) = option_map (λ has. beq has set) (flag_of heap call flag)
test_value heap thread call (Test.Flags left right equal) =
    both (λ a b. beq (beq a b) equal) (flag_of heap call left) (flag_of heap call right)
test_value heap thread call (Test.Keys left relation right) =
    both (compares is_at_most relation) (key_of heap call left) (key_of heap call right)
test_value heap thread call (Test.Pointers left right equal) =
    both (λ a b. beq (same_target a b) equal) (target_of heap call left) (target_of heap call right)
test_value heap thread call (Test.LockFree r) = option_map (λ x. is_none x.lock) (node_of heap call r)
test_value heap thread call (Test.LockOwn r) = option_map (has_lock thread) (node_of heap call r)

-- whether each test is true; nothing is read beyond the first that is false
abbrev pub tests_value : Heap → ThreadId → Call → List Test → Option Bool
tests_value heap thread call [] = Some true
tests_value heap thread call (t ∷ ts) =
    option_and_then (λ passed. if passed then tests_value heap thread call ts else Some false) (test_value heap thread call t)
