-- What every block keeps: its numbers name parts that are there, a bound variable occurs once, the writes are of one
-- node and of different fields, and locks are tested and written by lock and unlock statements alone.
use Rattle.std.specs.Prelude.{ℕ, zero, suc, ◌+◌, Bool, true, false, not, ◌&&◌, ◌||◌, ◌==◌, nat_lt, List, [], ◌∷◌, length, if◌then◌else◌}
use Rattle.std.specs.List.{list_any, list_all}
use Rattle.plank_base.specs.declared.limits.TheConstants.{VARIABLES_LIMIT}
use Rattle.plank_prog.specs.Names.{all_pairs}
use Rattle.plank_prog.specs.declared.headers.Header.{Header}
use Rattle.plank_prog.specs.declared.blocks.Reference.{Reference}
use Rattle.plank_prog.specs.declared.blocks.Value.{Value}
use Rattle.plank_prog.specs.declared.blocks.FlagOperand.{FlagOperand}
use Rattle.plank_prog.specs.declared.blocks.KeyOperand.{KeyOperand}
use Rattle.plank_prog.specs.declared.blocks.PointerOperand.{PointerOperand}
use Rattle.plank_prog.specs.declared.blocks.Test.{Test}
use Rattle.plank_prog.specs.declared.blocks.Bind.{Bind}
use Rattle.plank_prog.specs.declared.blocks.Write.{Write}
use Rattle.plank_prog.specs.declared.blocks.Block.{Block}

abbrev pub same_reference : Reference → Reference → Bool
same_reference Reference.Root Reference.Root = true
same_reference Reference.Root (Reference.Variable w) = false
same_reference (Reference.Variable v) Reference.Root = false
same_reference (Reference.Variable v) (Reference.Variable w) = v == w

-- ---- which names a part reads

abbrev pub value_reads : Reference → Value → Bool
value_reads r Value.Null = false
value_reads r (Value.Node q) = same_reference r q

abbrev pub key_reads : Reference → KeyOperand → Bool
key_reads r (KeyOperand.Node q) = same_reference r q
key_reads r KeyOperand.Argument = false
key_reads r KeyOperand.Min = false
key_reads r KeyOperand.Max = false

abbrev pub pointer_reads : Reference → PointerOperand → Bool
pointer_reads r PointerOperand.Null = false
pointer_reads r (PointerOperand.Node q) = same_reference r q
pointer_reads r (PointerOperand.Field q f) = same_reference r q

abbrev pub test_reads : Reference → Test → Bool
test_reads r (Test.Flag flag set) = same_reference r flag.node
test_reads r (Test.Flags left right equal) = same_reference r left.node || same_reference r right.node
test_reads r (Test.Keys left relation right) = key_reads r left || key_reads r right
test_reads r (Test.Pointers left right equal) = pointer_reads r left || pointer_reads r right
test_reads r (Test.LockFree q) = same_reference r q
test_reads r (Test.LockOwn q) = same_reference r q

-- the node that a write changes
abbrev pub written_node : Write → Reference
written_node (Write.Flag q flag to) = q
written_node (Write.Pointer q pointer to) = q
written_node (Write.TakeLock q) = q
written_node (Write.FreeLock q) = q

abbrev pub write_reads : Reference → Write → Bool
write_reads r (Write.Flag q flag to) = same_reference r q
write_reads r (Write.Pointer q pointer to) = same_reference r q || value_reads r to
write_reads r (Write.TakeLock q) = same_reference r q
write_reads r (Write.FreeLock q) = same_reference r q

-- whether a name stands in a block other than as the variable of a bind
abbrev pub block_reads : Block → Reference → Bool
block_reads b r =
    list_any (λ q. same_reference r q) b.with || list_any (λ t. test_reads r t) b.tests
    || list_any (λ d. same_reference r d.from) b.binds || list_any (λ w. write_reads r w) b.writes

-- whether a block binds a variable
abbrev pub block_binds : Block → ℕ → Bool
block_binds b v = list_any (λ d. d.to == v) b.binds

-- whether a name stands in a block
abbrev pub block_names : Block → Reference → Bool
block_names b Reference.Root = block_reads b Reference.Root
block_names b (Reference.Variable v) = block_reads b (Reference.Variable v) || block_binds b v

-- how many of the first so many variables stand in a block, and whether the root does
abbrev pub first_name_count : Block → ℕ → ℕ
first_name_count b zero = if block_names b Reference.Root then 1 else 0
first_name_count b (suc v) = first_name_count b v + (if block_names b (Reference.Variable v) then 1 else 0)

-- how many names stand in a block
unfoldable pub name_count : Block → ℕ
name_count b = first_name_count b VARIABLES_LIMIT

-- ---- numbers of parts that are there

abbrev pub reference_fits : ℕ → Reference → Bool
reference_fits variables Reference.Root = true
reference_fits variables (Reference.Variable v) = nat_lt v variables

abbrev pub value_fits : ℕ → Value → Bool
value_fits variables Value.Null = true
value_fits variables (Value.Node q) = reference_fits variables q

abbrev pub flag_fits : Header → ℕ → FlagOperand → Bool
flag_fits h variables operand = reference_fits variables operand.node && nat_lt operand.flag (length h.flags)

abbrev pub key_fits : ℕ → KeyOperand → Bool
key_fits variables (KeyOperand.Node q) = reference_fits variables q
key_fits variables KeyOperand.Argument = true
key_fits variables KeyOperand.Min = true
key_fits variables KeyOperand.Max = true

abbrev pub pointer_fits : Header → ℕ → PointerOperand → Bool
pointer_fits h variables PointerOperand.Null = true
pointer_fits h variables (PointerOperand.Node q) = reference_fits variables q
pointer_fits h variables (PointerOperand.Field q f) = reference_fits variables q && nat_lt f (length h.pointers)

abbrev pub is_field : PointerOperand → Bool
is_field PointerOperand.Null = false
is_field (PointerOperand.Node q) = false
is_field (PointerOperand.Field q f) = true

-- two pointer fields are not compared
abbrev pub test_fits : Header → ℕ → Test → Bool
test_fits h variables (Test.Flag flag set) = flag_fits h variables flag
test_fits h variables (Test.Flags left right equal) = flag_fits h variables left && flag_fits h variables right
test_fits h variables (Test.Keys left relation right) = key_fits variables left && key_fits variables right
test_fits h variables (Test.Pointers left right equal) =
    pointer_fits h variables left && pointer_fits h variables right && not (is_field left && is_field right)
test_fits h variables (Test.LockFree q) = h.has_lock && reference_fits variables q
test_fits h variables (Test.LockOwn q) = h.has_lock && reference_fits variables q

abbrev pub bind_fits : Header → ℕ → Bind → Bool
bind_fits h variables d =
    nat_lt d.to variables && reference_fits variables d.from && nat_lt d.pointer (length h.pointers)

abbrev pub write_fits : Header → ℕ → Write → Bool
write_fits h variables (Write.Flag q flag to) = reference_fits variables q && nat_lt flag (length h.flags)
write_fits h variables (Write.Pointer q pointer to) =
    reference_fits variables q && nat_lt pointer (length h.pointers) && value_fits variables to
write_fits h variables (Write.TakeLock q) = h.has_lock && reference_fits variables q
write_fits h variables (Write.FreeLock q) = h.has_lock && reference_fits variables q

-- ---- names that are written once

-- a bound variable occurs once
abbrev pub binds_stand_alone : Block → Bool
binds_stand_alone b =
    all_pairs (λ d e. not (d.to == e.to)) b.binds && not (list_any (λ d. block_reads b (Reference.Variable d.to)) b.binds)

-- whether two writes are of one field
abbrev pub same_field : Write → Write → Bool
same_field (Write.Flag q flag to) (Write.Flag r other too) = flag == other
same_field (Write.Pointer q pointer to) (Write.Pointer r other too) = pointer == other
same_field (Write.TakeLock q) (Write.TakeLock r) = true
same_field (Write.TakeLock q) (Write.FreeLock r) = true
same_field (Write.FreeLock q) (Write.TakeLock r) = true
same_field (Write.FreeLock q) (Write.FreeLock r) = true
same_field w v = false

-- two writes of one block are of one node, and of different fields
abbrev pub writes_agree : Write → Write → Bool
writes_agree w v = same_reference (written_node w) (written_node v) && not (same_field w v)

-- ---- locks

abbrev pub tests_lock : Test → Bool
tests_lock (Test.Flag flag set) = false
tests_lock (Test.Flags left right equal) = false
tests_lock (Test.Keys left relation right) = false
tests_lock (Test.Pointers left right equal) = false
tests_lock (Test.LockFree q) = true
tests_lock (Test.LockOwn q) = true

abbrev pub writes_lock : Write → Bool
writes_lock (Write.Flag q flag to) = false
writes_lock (Write.Pointer q pointer to) = false
writes_lock (Write.TakeLock q) = true
writes_lock (Write.FreeLock q) = true

-- a lock that is free is taken, or one's own is freed
abbrev pub moves_lock : Test → Write → Bool
moves_lock (Test.LockFree q) (Write.TakeLock r) = same_reference q r
moves_lock (Test.LockOwn q) (Write.FreeLock r) = same_reference q r
moves_lock t w = false

-- one test and one write that move a lock
abbrev pub move_lock : List Test → List Write → Bool
move_lock (t ∷ []) (w ∷ []) = moves_lock t w
move_lock ts ws = false

-- a lock or unlock statement
abbrev pub is_lock_statement : Block → Bool
is_lock_statement b = (length b.with == 0) && (length b.binds == 0) && move_lock b.tests b.writes

abbrev pub locks_stand_alone : Block → Bool
locks_stand_alone b =
    is_lock_statement b || not (list_any tests_lock b.tests || list_any writes_lock b.writes)

-- ---- the block

abbrev pub block_parts_fit : Header → ℕ → Block → Bool
block_parts_fit h variables b =
    list_all (reference_fits variables) b.with && list_all (test_fits h variables) b.tests
    && list_all (bind_fits h variables) b.binds && list_all (write_fits h variables) b.writes

-- a block of a method with so many variables and locations
abbrev pub is_lawful_block : Header → ℕ → ℕ → Block → Bool
is_lawful_block h variables locations b =
    block_parts_fit h variables b && nat_lt b.yes locations && nat_lt b.no locations
    && all_pairs (λ q r. not (same_reference q r)) b.with && binds_stand_alone b && all_pairs writes_agree b.writes
    && locks_stand_alone b
