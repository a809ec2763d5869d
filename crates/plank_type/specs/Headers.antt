-- The header of a text, with numbers in the place of names.
use Rattle.std.specs.Prelude.{ℕ, ◌+◌, ◌*◌, Bool, false, ◌&&◌, List, [], ◌∷◌, map, Option, Some, None, unwrap_or, if◌then◌else◌}
use Rattle.std.specs.List.{list_any}
use Rattle.std.specs.Option.{option_map}
use Rattle.plank_base.specs.declared.keys.Key.{Key}
use Rattle.plank_ast.specs.declared.header.Direction.{Direction}
use Rattle.plank_ast.specs.declared.header.PointerLine.{PointerLine}
use Rattle.plank_ast.specs.declared.header.RootLine.{RootLine}
use Rattle.plank_ast.specs.declared.header.StartKey.{StartKey}
use Rattle.plank_ast.specs.declared.header.StartValue.{StartValue}
use Rattle.plank_ast.specs.declared.header.StartItem.{StartItem}
use Rattle.plank_ast.specs.declared.header.StartLine.{StartLine}
use Rattle.plank_ast.specs.declared.header.ConditionLine.{ConditionLine}
use Rattle.plank_ast.specs.declared.header.NamedCondition.{NamedCondition}
use Rattle.plank_ast.specs.declared.texts.Text.{Text}
use Rattle.plank_prog.specs.declared.conditions.Condition.{Condition}
use Rattle.plank_prog.specs.declared.headers.KeyOrder.{KeyOrder}
use Rattle.plank_prog.specs.declared.headers.Pointer.{Pointer}
use Rattle.plank_prog.specs.declared.headers.StartNode.{StartNode}
use Rattle.plank_prog.specs.declared.headers.Keep.{Keep}
use Rattle.plank_prog.specs.declared.headers.Header.{Header}
use Rattle.plank_rules.specs.declared.names.Declared.{Declared}
use Rattle.plank_rules.specs.Declarations.{same_name, number_of}
use Rattle.plank_type.specs.Numbers.{names_of}
use Rattle.plank_type.specs.Conditions.{condition_of}

-- ---- pointer fields

abbrev pub order_of : Direction → KeyOrder
order_of Direction.Ascending = KeyOrder.Ascending
order_of Direction.Descending = KeyOrder.Descending
order_of Direction.Free = KeyOrder.Free

-- the condition of the first edge of a pointer field
abbrev pub edge_of : Declared → List NamedCondition → List ℕ → Option Condition
edge_of names [] pointer = None
edge_of names (line ∷ lines) pointer =
    if same_name pointer line.name.label then Some (condition_of names line.condition)
    else edge_of names lines pointer

abbrev pub pointer_of : Declared → List NamedCondition → PointerLine → Pointer
pointer_of names edges line =
    record { name = line.name.label; order = order_of line.direction; edge = edge_of names edges line.name.label }

-- ---- start nodes

abbrev pub start_key : StartKey → Key
start_key StartKey.Min = Key.Min
start_key StartKey.Max = Key.Max

abbrev pub is_set : StartValue → Bool
is_set (StartValue.Flag truth) = truth.value
is_set (StartValue.Null place) = false
is_set (StartValue.Node name) = false

-- whether a flag is given, and as true
abbrev pub starts_set : List StartItem → List ℕ → Bool
starts_set items flag = list_any (λ item. same_name flag item.field.label && is_set item.value) items

-- bit i for the i-th flag; a flag that is not given is false
abbrev pub start_flags : List StartItem → List (List ℕ) → ℕ
start_flags items [] = 0
start_flags items (flag ∷ flags) = (if starts_set items flag then 1 else 0) + 2 * start_flags items flags

-- the number of the start node that a value names
abbrev pub node_of : List (List ℕ) → StartValue → Option ℕ
node_of nodes (StartValue.Flag truth) = None
node_of nodes (StartValue.Null place) = None
node_of nodes (StartValue.Node name) = number_of name.label nodes

-- where a pointer field leads; one that is not given is null
abbrev pub start_pointer : List (List ℕ) → List StartItem → List ℕ → Option ℕ
start_pointer nodes [] pointer = None
start_pointer nodes (item ∷ items) pointer =
    if same_name pointer item.field.label then node_of nodes item.value else start_pointer nodes items pointer

abbrev pub start_node_of : Declared → StartLine → StartNode
start_node_of names line = record {
  name = line.name.label;
  key = start_key line.key;
  flags = start_flags line.items names.flags;
  pointers = map (start_pointer names.nodes line.items) names.pointers;
}

-- the number of the node that the first root line names
abbrev pub root_of : List (List ℕ) → List RootLine → ℕ
root_of nodes [] = 0
root_of nodes (line ∷ lines) = unwrap_or (number_of line.name.label nodes) 0

-- ---- the header

abbrev pub keep_of : Declared → NamedCondition → Keep
keep_of names line = record { name = line.name.label; condition = condition_of names line.condition }

abbrev pub freeze_of : Declared → Option ConditionLine → Option Condition
freeze_of names line = option_map (λ l. condition_of names l.condition) line

abbrev pub header_with : Declared → Text → Header
header_with names t = record {
  flags = names.flags;
  pointers = map (pointer_of names t.edges) t.pointers;
  has_lock = names.has_lock;
  nodes = map (start_node_of names) t.starts;
  root = root_of names.nodes t.roots;
  holds = condition_of names t.holds.condition;
  keeps = map (keep_of names) t.keeps;
  freeze = freeze_of names t.freeze;
}

-- the header of a text
abbrev pub header_of : Text → Header
header_of t = header_with (names_of t) t
