-- Which rules a frame has: what the indexes of each family run over, and lists of all rules.
use Rattle.std.specs.Prelude.{◌≡◌, ℕ, ◌≤◌, ◌<◌, ◌+◌, ◌*◌, ◌==◌, Bool, true, false, List, length, if◌then◌else◌}
use Rattle.std.specs.List.{Contains}
use Rattle.plank_pic.specs.Frames.{Frame}
use Rattle.plank_pic.specs.Lawful.{slot_count}
use Rattle.plank_lawful.specs.declared.families.NameRule.{NameRule}
use Rattle.plank_lawful.specs.declared.families.NodeRule.{NodeRule}
use Rattle.plank_lawful.specs.declared.families.PointerRule.{PointerRule}
use Rattle.plank_lawful.specs.declared.families.KeyRule.{KeyRule}
use Rattle.plank_lawful.specs.declared.families.WalkRule.{WalkRule}
use Rattle.plank_lawful.specs.declared.families.ChainRule.{ChainRule}
use Rattle.plank_lawful.specs.declared.families.KeptRule.{KeptRule}
use Rattle.plank_lawful.specs.declared.families.Family.{Family}
use Rattle.plank_lawful.specs.declared.families.Rule.{Rule}
use Rattle.plank_lawful.specs.declared.shapes.Index.{Index}
use Rattle.plank_lawful.specs.declared.shapes.Shape.{Shape}
use Rattle.plank_lawful.specs.Indexes.{fixed_count}

-- how many values an index has, where the first index of the rule is this
abbrev pub count : Frame → Index → ℕ → ℕ
count F Index.One a = 1
count F Index.Name a = F.names
count F Index.LockedName a = if F.header.has_lock then F.names else 0
count F Index.ChainedName a = if slot_count F == 0 then 0 else F.names
count F Index.Lower a = a
count F Index.UpTo a = a + 1
count F Index.Flag a = length F.header.flags
count F Index.Pointer a = length F.header.pointers
count F Index.Place a = length F.header.pointers * F.names
count F Index.Term a = F.names + fixed_count F
count F Index.Key a = 3
count F Index.Slot a = slot_count F

abbrev pub over : Index → Index → Index → Shape
over a b c = record { first = a; second = b; third = c }

abbrev pub name_shape : NameRule → Shape
name_shape NameRule.Itself = over Index.Name Index.One Index.One
name_shape NameRule.BothWays = over Index.Name Index.Lower Index.One
name_shape NameRule.Together = over Index.Name Index.Lower Index.One
name_shape NameRule.NullNode = over Index.Name Index.One Index.One
name_shape NameRule.NullFlag = over Index.Name Index.Flag Index.One
name_shape NameRule.NullPointer = over Index.Place Index.One Index.One
name_shape NameRule.Owned = over Index.Name Index.One Index.One
name_shape NameRule.Held = over Index.LockedName Index.One Index.One

abbrev pub node_shape : NodeRule → Shape
node_shape NodeRule.Node = over Index.Name Index.Lower Index.One
node_shape NodeRule.Flags = over Index.Name Index.Lower Index.Flag
node_shape NodeRule.Visits = over Index.Name Index.Lower Index.Key
node_shape NodeRule.Pointers = over Index.Name Index.Lower Index.Pointer
node_shape NodeRule.Chains = over Index.ChainedName Index.Lower Index.One
node_shape NodeRule.Picks = over Index.ChainedName Index.Lower Index.Key

abbrev pub pointer_shape : PointerRule → Shape
pointer_shape PointerRule.Somewhere = over Index.Place Index.One Index.One
pointer_shape PointerRule.Once = over Index.Place Index.One Index.One
pointer_shape PointerRule.OneTarget = over Index.Place Index.Name Index.One
pointer_shape PointerRule.BeyondItself = over Index.Place Index.One Index.One
pointer_shape PointerRule.BeyondBothWays = over Index.Place Index.Lower Index.One
pointer_shape PointerRule.BeyondTogether = over Index.Place Index.Lower Index.Pointer

abbrev pub key_shape : KeyRule → Shape
key_shape KeyRule.Total = over Index.Term Index.UpTo Index.One
key_shape KeyRule.InOrder = over Index.Term Index.Term Index.One
key_shape KeyRule.Ends = over Index.Term Index.One Index.One
key_shape KeyRule.Ordinary = over Index.Key Index.One Index.One

abbrev pub walk_shape : WalkRule → Shape
walk_shape WalkRule.Root = over Index.Name Index.One Index.One
walk_shape WalkRule.RootVisited = over Index.Key Index.Name Index.One
walk_shape WalkRule.Unvisited = over Index.Key Index.Name Index.One
walk_shape WalkRule.Unreached = over Index.Place Index.Name Index.One
walk_shape WalkRule.GoesOn = over Index.Key Index.Name Index.One
walk_shape WalkRule.Stops = over Index.Key Index.Slot Index.One

-- where nothing is frozen, a chain is one name for another of its node
abbrev pub chain_shape : ChainRule → Shape
chain_shape ChainRule.Itself = over Index.Name Index.Name Index.One
chain_shape ChainRule.Begins = over Index.Name Index.Name Index.One
chain_shape ChainRule.GoesOn = over Index.ChainedName Index.Name Index.One
chain_shape ChainRule.Grows = over Index.ChainedName Index.Name Index.One
chain_shape ChainRule.Picks = over Index.Key Index.ChainedName Index.Name

abbrev pub kept_shape : KeptRule → Shape
kept_shape KeptRule.Published = over Index.Place Index.Name Index.One
kept_shape KeptRule.Keeps = over Index.Key Index.Name Index.One
kept_shape KeptRule.StopKeeps = over Index.Key Index.Slot Index.One
kept_shape KeptRule.StopKeepsOn = over Index.Key Index.Slot Index.Key
kept_shape KeptRule.Edges = over Index.Place Index.Name Index.One
kept_shape KeptRule.Room = over Index.Place Index.One Index.One
kept_shape KeptRule.Chains = over Index.ChainedName Index.Name Index.One
kept_shape KeptRule.Picks = over Index.Key Index.ChainedName Index.Name

-- what the indexes of a family run over
abbrev pub shape_of : Family → Shape
shape_of (Family.Names rule) = name_shape rule
shape_of (Family.Nodes rule) = node_shape rule
shape_of (Family.Pointers rule) = pointer_shape rule
shape_of (Family.Keys rule) = key_shape rule
shape_of (Family.Walks rule) = walk_shape rule
shape_of (Family.Chains rule) = chain_shape rule
shape_of (Family.Kept rule) = kept_shape rule

-- a rule whose indexes are there
pub record IsWithin (F : Frame) (r : Rule) : Type 0 where
  pub first : r.first < count F (shape_of r.family).first 0
  pub second : r.second < count F (shape_of r.family).second r.first
  pub third : r.third < count F (shape_of r.family).third r.first

-- rules that possible pictures meet too
abbrev pub is_possible : Family → Bool
is_possible (Family.Names rule) = true
is_possible (Family.Nodes rule) = true
is_possible (Family.Pointers rule) = true
is_possible (Family.Keys rule) = true
is_possible (Family.Walks rule) = true
is_possible (Family.Chains rule) = true
is_possible (Family.Kept rule) = false

-- the rules of a frame, and no others
pub record ListsRules (F : Frame) (rules : List Rule) : Type 0 where
  pub each : (r : Rule) → IsWithin F r → Contains rules r
  pub within : (r : Rule) → Contains rules r → IsWithin F r

-- those of possible pictures, and no others
pub record ListsPossible (F : Frame) (rules : List Rule) : Type 0 where
  pub each : (r : Rule) → is_possible r.family ≡ true → IsWithin F r → Contains rules r
  pub within : (r : Rule) → Contains rules r → IsWithin F r
  pub possible : (r : Rule) → Contains rules r → is_possible r.family ≡ true

-- a structure and names within the limits, so that indexes are small
pub record IsSmall (F : Frame) : Type 0 where
  pub names : F.names ≤ 16
  pub pointers : length F.header.pointers ≤ 2
  pub flags : length F.header.flags ≤ 255
