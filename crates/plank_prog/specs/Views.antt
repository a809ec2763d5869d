-- The values of a header's conditions at a node and a walked key.
use Rattle.std.specs.Prelude.{ℕ, ℤ, pos, Bool, false, ◌==◌, List, [], unwrap_or, slice_get}
use Rattle.std.specs.Option.{option_map_or}
use Rattle.std.specs.Int.{bit_at}
use Rattle.plank_base.specs.Keys.{is_at_most}
use Rattle.plank_base.specs.declared.keys.Key.{Key}
use Rattle.plank_prog.specs.declared.conditions.KeyTerm.{KeyTerm}
use Rattle.plank_prog.specs.declared.conditions.Condition.{Condition}
use Rattle.plank_prog.specs.declared.headers.Pointer.{Pointer}
use Rattle.plank_prog.specs.declared.headers.Header.{Header}
use Rattle.plank_prog.specs.declared.views.NodeView.{NodeView}
use Rattle.plank_prog.specs.Conditions.{View, value}

-- the key that a term stands for, at a node's key and a walked key
abbrev pub key_of_term : Key → Key → KeyTerm → Key
key_of_term key walked KeyTerm.Node = key
key_of_term key walked KeyTerm.Walked = walked
key_of_term key walked KeyTerm.Min = Key.Min
key_of_term key walked KeyTerm.Max = Key.Max

-- whether bit i of a number is set
abbrev pub is_bit_set : ℕ → ℕ → Bool
is_bit_set n i = bit_at n i == 1

-- the answers that a node gives, its pointers null as listed, at a walked key and whether its walk visits the node
abbrev pub view_of : Key → ℕ → List Bool → Key → Bool → View
view_of key flags nulls walked visited = record {
  at_most = λ a b. is_at_most (key_of_term key walked a) (key_of_term key walked b);
  flag = λ f. is_bit_set flags f;
  null = λ p. unwrap_or (slice_get nulls p) false;
  visited = visited;
}

-- the value of a condition that asks for keys and flags alone
abbrev pub value_at : Condition → Key → ℕ → ℤ → Bool
value_at c key flags j = value (view_of key flags [] (Key.Num j) false) c

-- whether a pointer field of a node with this key and these flags admits j
abbrev pub admits : Pointer → Key → ℕ → ℤ → Bool
admits p key flags j = option_map_or (λ c. value_at c key flags j) p.edge false

-- whether the f-th pointer field does
abbrev pub edge_admits : Header → ℕ → Key → ℕ → ℤ → Bool
edge_admits h f key flags j = option_map_or (λ p. admits p key flags j) (slice_get h.pointers f) false

-- whether a walk of j that ends at such a node ends at its key
abbrev pub holds_at : Header → Key → ℕ → ℤ → Bool
holds_at h key flags j = value_at h.holds key flags j

-- whether such a node is frozen; the condition does not ask for a walked key
abbrev pub is_frozen : Header → Key → ℕ → Bool
is_frozen h key flags = option_map_or (λ c. value_at c key flags (pos 0)) h.freeze false

-- whether a node meets the i-th keep for j
abbrev pub meets_keep : Header → ℕ → NodeView → ℤ → Bool → Bool
meets_keep h i node j visited =
    option_map_or (λ k. value (view_of node.key node.flags node.nulls (Key.Num j) visited) k.condition) (slice_get h.keeps i) false
