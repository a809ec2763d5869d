-- The lines of a block: its tests, its binds and its writes, each as its statement stands in the canonical form of the
-- text. A `lock` or an `unlock` statement, which is a block of one test and one write, is one line.
use Rattle.std.specs.Prelude.{ℕ, Bool, true, false, List, [], ◌++◌, codes}
use Rattle.std.specs.List.{flat_map}
use Rattle.plank_prog.specs.declared.conditions.KeyRelation.{KeyRelation}
use Rattle.plank_prog.specs.declared.headers.Header.{Header}
use Rattle.plank_prog.specs.declared.blocks.Reference.{Reference}
use Rattle.plank_prog.specs.declared.blocks.FlagOperand.{FlagOperand}
use Rattle.plank_prog.specs.declared.blocks.KeyOperand.{KeyOperand}
use Rattle.plank_prog.specs.declared.blocks.PointerOperand.{PointerOperand}
use Rattle.plank_prog.specs.declared.blocks.Value.{Value}
use Rattle.plank_prog.specs.declared.blocks.Test.{Test}
use Rattle.plank_prog.specs.declared.blocks.Bind.{Bind}
use Rattle.plank_prog.specs.declared.blocks.Write.{Write}
use Rattle.plank_prog.specs.declared.blocks.Block.{Block}
use Rattle.plank_prog.specs.declared.methods.Action.{Action}
use Rattle.plank_prog.specs.declared.methods.Method.{Method}
use Rattle.plank_report.specs.Pieces.{inner_line}
use Rattle.plank_report.specs.Names.{node_name, flag_name, pointer_name}

-- ---- tests

abbrev pub flag_text : Header → Method → FlagOperand → List ℕ
flag_text h m operand = node_name m operand.node ++ codes "." ++ flag_name h operand.flag

abbrev pub key_text : Method → KeyOperand → List ℕ
key_text m (KeyOperand.Node q) = node_name m q ++ codes ".key"
key_text m KeyOperand.Argument = m.arg
key_text m KeyOperand.Min = codes "MIN"
key_text m KeyOperand.Max = codes "MAX"

abbrev pub pointer_text : Header → Method → PointerOperand → List ℕ
pointer_text h m PointerOperand.Null = codes "null"
pointer_text h m (PointerOperand.Node q) = node_name m q
pointer_text h m (PointerOperand.Field q p) = node_name m q ++ codes "." ++ pointer_name h p

abbrev pub relation_text : KeyRelation → List ℕ
relation_text KeyRelation.Equal = codes " == "
relation_text KeyRelation.NotEqual = codes " != "
relation_text KeyRelation.Less = codes " < "
relation_text KeyRelation.AtMost = codes " <= "

-- whether two are equal or differ
abbrev pub equality_text : Bool → List ℕ
equality_text true = codes " == "
equality_text false = codes " != "

abbrev pub negation_text : Bool → List ℕ
negation_text true = []
negation_text false = codes "!"

-- one test as a line; that of a lock has none, since its write tells of both
abbrev pub test_line : Header → Method → Test → List ℕ
test_line h m (Test.Flag operand set) = inner_line (codes "test " ++ negation_text set ++ flag_text h m operand ++ codes ";")
test_line h m (Test.Flags left right equal) =
    inner_line (codes "test " ++ flag_text h m left ++ equality_text equal ++ flag_text h m right ++ codes ";")
test_line h m (Test.Keys left relation right) =
    inner_line (codes "test " ++ key_text m left ++ relation_text relation ++ key_text m right ++ codes ";")
test_line h m (Test.Pointers left right equal) =
    inner_line (codes "test " ++ pointer_text h m left ++ equality_text equal ++ pointer_text h m right ++ codes ";")
test_line h m (Test.LockFree q) = []
test_line h m (Test.LockOwn q) = []

-- ---- binds and writes

abbrev pub bind_line : Header → Method → Bind → List ℕ
bind_line h m b =
    inner_line (node_name m (Reference.Variable b.to) ++ codes " = " ++ node_name m b.from ++ codes "." ++ pointer_name h b.pointer ++ codes ";")

abbrev pub truth_text : Bool → List ℕ
truth_text true = codes "true"
truth_text false = codes "false"

abbrev pub value_text : Method → Value → List ℕ
value_text m Value.Null = codes "null"
value_text m (Value.Node q) = node_name m q

-- a field of a node is written
abbrev pub put_line : Method → Reference → List ℕ → List ℕ → List ℕ
put_line m q field value = inner_line (codes "write " ++ node_name m q ++ codes "." ++ field ++ codes " = " ++ value ++ codes ";")

abbrev pub write_line : Header → Method → Write → List ℕ
write_line h m (Write.Flag q f value) = put_line m q (flag_name h f) (truth_text value)
write_line h m (Write.Pointer q p value) = put_line m q (pointer_name h p) (value_text m value)
write_line h m (Write.TakeLock q) = inner_line (codes "lock " ++ node_name m q ++ codes ";")
write_line h m (Write.FreeLock q) = inner_line (codes "unlock " ++ node_name m q ++ codes ";")

-- ---- blocks

abbrev pub block_lines : Header → Method → Block → List ℕ
block_lines h m b = flat_map (test_line h m) b.tests ++ flat_map (bind_line h m) b.binds ++ flat_map (write_line h m) b.writes

-- no other action writes, and so none has lines
abbrev pub action_lines : Header → Method → Action → List ℕ
action_lines h m (Action.Block b) = block_lines h m b
action_lines h m (Action.Copy to from next) = []
action_lines h m (Action.New to next) = []
action_lines h m (Action.Return answer) = []
