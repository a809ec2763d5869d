-- Turns: an action of the own or the other thread by one exit, with names for what it speaks of. Which exit its tests
-- allow in a picture, what it writes, where names come from, and the step that it makes. Facts after a step, effects and
-- obligations are said of turns.
use Rattle.std.specs.Prelude.{◌≡◌, ℕ, Bool, true, false, not, ◌&&◌, ◌||◌, ◌==◌, if◌then◌else◌, List, [], ◌∷◌, Option, Some, None, unwrap_or, option_map}
use Rattle.std.specs.Bool.{beq}
use Rattle.std.specs.Option.{option_map_or}
use Rattle.std.specs.List.{list_all}
use Rattle.plank_prog.specs.declared.blocks.Reference.{Reference}
use Rattle.plank_prog.specs.declared.blocks.Value.{Value}
use Rattle.plank_prog.specs.declared.blocks.KeyOperand.{KeyOperand}
use Rattle.plank_prog.specs.declared.blocks.PointerOperand.{PointerOperand}
use Rattle.plank_prog.specs.declared.blocks.Test.{Test}
use Rattle.plank_prog.specs.declared.blocks.Bind.{Bind}
use Rattle.plank_prog.specs.declared.blocks.Write.{Write}
use Rattle.plank_prog.specs.declared.blocks.Block.{Block}
use Rattle.plank_prog.specs.declared.methods.Action.{Action}
use Rattle.plank_prog.specs.Conditions.{compares}
use Rattle.plank_prog.specs.Blocks.{written_node}
use Rattle.plank_pic.specs.declared.parts.KeyName.{KeyName}
use Rattle.plank_pic.specs.declared.parts.Term.{Term}
use Rattle.plank_pic.specs.declared.parts.Place.{Place}
use Rattle.plank_pic.specs.declared.parts.Part.{Part}
use Rattle.plank_pic.specs.Frames.{Frame}
use Rattle.plank_pic.specs.Below.{some_below}
use Rattle.plank_pic.specs.Pictures.{Picture, place, holds_lock}
use Rattle.plank_pic.specs.Steps.{Change, Source, Of, Fresh, IsPictureStep}
use Rattle.plank_pic.specs.Steps as steps

-- what runs: an action by its yes or no exit, by the own or the other thread, and the names of what it speaks of
pub record Turn : Type 0 where
  pub action : Action
  pub yes : Bool
  pub mine : Bool
  -- a variable that is bound, copied or allocated may have no name
  pub name_of : Reference → Option ℕ
  -- the name of the node that the bind of a variable reads
  pub read_by : ℕ → ℕ

abbrev pub name : Turn → Reference → ℕ
name s r = unwrap_or (s.name_of r) 0

abbrev pub argument : Turn → KeyName
argument s = if s.mine then KeyName.Own else KeyName.Other

-- ---- tests

abbrev pub key_term : Turn → KeyOperand → Term
key_term s (KeyOperand.Node q) = Term.Node (name s q)
key_term s KeyOperand.Argument = Term.Walked (argument s)
key_term s KeyOperand.Min = Term.Min
key_term s KeyOperand.Max = Term.Max

-- a name or a pointer, as a value: null, or which names have it
pub record Pointed : Type 0 where
  pub null : Bool
  pub is : ℕ → Bool

abbrev pub no_node : Pointed
no_node = record { null = true; is = λ j. false }

abbrev pub name_value : Picture → ℕ → Pointed
name_value p i = record { null = p (Part.Null i); is = λ j. p (Part.Same i j) }

abbrev pub field_value : Picture → Place → Pointed
field_value p x = record { null = p (Part.PointerNull x); is = λ j. p (Part.Leads x j) }

abbrev pub pointed : Turn → Picture → PointerOperand → Pointed
pointed s p PointerOperand.Null = no_node
pointed s p (PointerOperand.Node q) = name_value p (name s q)
pointed s p (PointerOperand.Field q f) = field_value p (place (name s q) f)

-- two values are one, where at most one of them is a field
abbrev pub one_value : Frame → Pointed → Pointed → Bool
one_value F v w = (v.null && w.null) || some_below (λ j. v.is j && w.is j) F.names

abbrev pub test_holds : Frame → Turn → Picture → Test → Bool
test_holds F s p (Test.Flag flag set) = beq (p (Part.Flag (name s flag.node) flag.flag)) set
test_holds F s p (Test.Flags left right equal) = beq (beq (p (Part.Flag (name s left.node) left.flag)) (p (Part.Flag (name s right.node) right.flag))) equal
test_holds F s p (Test.Keys left relation right) = compares (λ a b. p (Part.AtMost a b)) relation (key_term s left) (key_term s right)
test_holds F s p (Test.Pointers left right equal) = beq (one_value F (pointed s p left) (pointed s p right)) equal
test_holds F s p (Test.LockFree q) = not (p (Part.Locked (name s q)))
test_holds F s p (Test.LockOwn q) = holds_lock p s.mine (name s q)

-- whether a test reads a field of null
abbrev pub is_null : Turn → Picture → Reference → Bool
is_null s p q = p (Part.Null (name s q))

abbrev pub key_reads_null : Turn → Picture → KeyOperand → Bool
key_reads_null s p (KeyOperand.Node q) = is_null s p q
key_reads_null s p KeyOperand.Argument = false
key_reads_null s p KeyOperand.Min = false
key_reads_null s p KeyOperand.Max = false

abbrev pub pointer_reads_null : Turn → Picture → PointerOperand → Bool
pointer_reads_null s p PointerOperand.Null = false
pointer_reads_null s p (PointerOperand.Node q) = false
pointer_reads_null s p (PointerOperand.Field q f) = is_null s p q

abbrev pub test_reads_null : Turn → Picture → Test → Bool
test_reads_null s p (Test.Flag flag set) = is_null s p flag.node
test_reads_null s p (Test.Flags left right equal) = is_null s p left.node || is_null s p right.node
test_reads_null s p (Test.Keys left relation right) = key_reads_null s p left || key_reads_null s p right
test_reads_null s p (Test.Pointers left right equal) = pointer_reads_null s p left || pointer_reads_null s p right
test_reads_null s p (Test.LockFree q) = is_null s p q
test_reads_null s p (Test.LockOwn q) = is_null s p q

-- each test holds; or the first that does not is reached
abbrev pub all_hold : Frame → Turn → Picture → List Test → Bool
all_hold F s p [] = true
all_hold F s p (t ∷ ts) = not (test_reads_null s p t) && (test_holds F s p t && all_hold F s p ts)

abbrev pub one_fails : Frame → Turn → Picture → List Test → Bool
one_fails F s p [] = false
one_fails F s p (t ∷ ts) = not (test_reads_null s p t) && (not (test_holds F s p t) || one_fails F s p ts)

-- ---- binds

-- a name is of the node to which a pointer leads, or null where that is
abbrev pub names_pointer : Picture → Place → ℕ → Bool
names_pointer p x i = if p (Part.PointerNull x) then p (Part.Null i) else p (Part.Leads x i)

-- what a bind reads has its name, where the variable has one
abbrev pub bind_is_read : Turn → Picture → Bind → Bool
bind_is_read s p d =
    not (is_null s p d.from)
    && option_map_or (λ i. names_pointer p (place (name s d.from) d.pointer) (s.read_by d.to)) (s.name_of (Reference.Variable d.to)) true

abbrev pub block_runs : Frame → Turn → Picture → Block → Bool
block_runs F s p b =
    if s.yes
    then all_hold F s p b.tests && list_all (bind_is_read s p) b.binds && list_all (λ w. not (is_null s p (written_node w))) b.writes
    else one_fails F s p b.tests

-- the action takes the exit, and reads no field of null
abbrev pub runs : Frame → Turn → Picture → Bool
runs F s p = elim s.action [
  | Action.Block b ↦ block_runs F s p b
  | Action.Copy to from next ↦ s.yes
  | Action.New to next ↦ s.yes
  | Action.Return answer ↦ false
]

-- ---- writes

-- what writes put into a flag, a pointer field and the lock
abbrev pub put_flag : ℕ → List Write → Option Bool
put_flag f [] = None
put_flag f (Write.Flag q g to ∷ ws) = if f == g then Some to else put_flag f ws
put_flag f (Write.Pointer q g to ∷ ws) = put_flag f ws
put_flag f (Write.TakeLock q ∷ ws) = put_flag f ws
put_flag f (Write.FreeLock q ∷ ws) = put_flag f ws

abbrev pub put_pointer : ℕ → List Write → Option Value
put_pointer f [] = None
put_pointer f (Write.Flag q g to ∷ ws) = put_pointer f ws
put_pointer f (Write.Pointer q g to ∷ ws) = if f == g then Some to else put_pointer f ws
put_pointer f (Write.TakeLock q ∷ ws) = put_pointer f ws
put_pointer f (Write.FreeLock q ∷ ws) = put_pointer f ws

abbrev pub put_lock : List Write → Option Bool
put_lock [] = None
put_lock (Write.Flag q g to ∷ ws) = put_lock ws
put_lock (Write.Pointer q g to ∷ ws) = put_lock ws
put_lock (Write.TakeLock q ∷ ws) = Some true
put_lock (Write.FreeLock q ∷ ws) = Some false

-- the name of a value, and None for null
abbrev pub value_name : Turn → Value → Option ℕ
value_name s Value.Null = None
value_name s (Value.Node q) = Some (name s q)

-- what is written by such writes, which are all of one node
abbrev pub change : Turn → Write → List Write → Change
change s w ws = record {
  at = name s (written_node w);
  flag = λ f. put_flag f (w ∷ ws);
  pointer = λ f. option_map (value_name s) (put_pointer f (w ∷ ws));
  lock = put_lock (w ∷ ws);
  own = s.mine;
}

abbrev pub change_by : Turn → List Write → Option Change
change_by s [] = None
change_by s (w ∷ ws) = Some (change s w ws)

abbrev pub change_of : Turn → Option Change
change_of s = elim s.action [
  | Action.Block b ↦ if s.yes then change_by s b.writes else None
  | Action.Copy to from next ↦ None
  | Action.New to next ↦ None
  | Action.Return answer ↦ None
]

-- ---- where names come from

-- whether a variable has this name
abbrev pub has_name : Turn → ℕ → ℕ → Bool
has_name s v i = option_map_or (λ n. n == i) (s.name_of (Reference.Variable v)) false

abbrev pub bind_source : Turn → ℕ → List Bind → Source
bind_source s i [] = Of i
bind_source s i (d ∷ ds) = if has_name s d.to i then Of (s.read_by d.to) else bind_source s i ds

abbrev pub value_source : Turn → Value → Source
value_source s Value.Null = steps.Null
value_source s (Value.Node q) = Of (name s q)

abbrev pub source : Turn → ℕ → Source
source s i = elim s.action [
  | Action.Block b ↦ if s.yes then bind_source s i b.binds else Of i
  | Action.Copy to from next ↦ if has_name s to i then value_source s from else Of i
  | Action.New to next ↦ if has_name s to i then Fresh else Of i
  | Action.Return answer ↦ Of i
]

-- ---- the step

-- a step of the turn, from a picture to a picture
pub record IsTurnStep (F : Frame) (s : Turn) (B A : Picture) : Type 0 where
  pub runs : runs F s B ≡ true
  pub step : IsPictureStep F (change_of s) (source s) B A

-- the same with the binds left out: each variable keeps its node
pub record IsWriteStep (F : Frame) (s : Turn) (B A : Picture) : Type 0 where
  pub runs : runs F s B ≡ true
  pub step : IsPictureStep F (change_of s) (λ i. Of i) B A

-- ---- null

-- a block comes to a read or a write of a field of null: it takes no exit, and would not take the yes exit whatever is named
abbrev pub reads_no_null : Turn → Picture → Block → Bool
reads_no_null s p b = list_all (λ d. not (is_null s p d.from)) b.binds && list_all (λ w. not (is_null s p (written_node w))) b.writes

abbrev pub comes_to_null : Frame → Turn → Picture → Block → Bool
comes_to_null F s p b = not (one_fails F s p b.tests) && not (all_hold F s p b.tests && reads_no_null s p b)
