-- Scenes of worlds: what is true of the heap and the owners of every world of a run, and of those in which every shared
-- node meets the keeps and pointers their order.
use Rattle.std.specs.Prelude.{◌≡◌, ◌⊎◌, ℕ, ℤ, Bool, true, false, ◌<◌, length, slice_get, Option, Some, None}
use Rattle.std.specs.Option.{option_map_or}
use Rattle.plank_base.specs.declared.keys.Key.{Key}
use Rattle.plank_base.specs.declared.keys.NodeId.{NodeId}
use Rattle.plank_base.specs.Keys.{is_less}
use Rattle.plank_base.specs.declared.limits.TheConstants.{POINTERS_LIMIT}
use Rattle.plank_prog.specs.declared.headers.Header.{Header}
use Rattle.plank_prog.specs.declared.headers.StartNode.{StartNode}
use Rattle.plank_prog.specs.declared.headers.KeyOrder.{KeyOrder}
use Rattle.plank_prog.specs.Conditions.{value}
use Rattle.plank_prog.specs.Headers.{is_lawful_header}
use Rattle.plank_heap.specs.declared.nodes.Node.{Node}
use Rattle.plank_heap.specs.Heaps.{IsClosed, view_of_node}
use Rattle.plank_heap.specs.Changes.{fresh_node}
use Rattle.plank_heap.specs.Walks.{walk_visits}
use Rattle.plank_sem.specs.Kept.{GhostWorld, IsShared}
use Rattle.plank_pic.specs.declared.parts.KeyName.{KeyName}
use Rattle.plank_pic.specs.Frames.{Frame}
use Rattle.plank_pic.specs.Lawful.{order_of}
use Rattle.plank_pic.specs.Steps.{Source, Of, Null, Fresh}
use Rattle.plank_scene.specs.Scenes.{Scene, node_at, leads, is_shared_in}

-- a scene that the rules of pictures hold of, as far as walks and chains go
pub record IsScene (F : Frame) (S : Scene) : Type 0 where
  pub lawful : is_lawful_header F.header ≡ true
  pub closed : IsClosed S.heap
  pub owned : length S.owners ≡ length S.heap.nodes
  -- it shows the heap before the step or the one after
  pub either : (S.heap ≡ S.before) ⊎ (S.heap ≡ S.after)

-- what is true in each world of a run
pub record IsInWorld (F : Frame) (S : Scene) : Type 0 where
  pub scene : IsScene F S
  pub root_named : (r : ℕ) → F.root ≡ Some r → S.named r ≡ Some S.heap.root.0
  pub root_key : (n : StartNode) → slice_get F.header.nodes F.header.root ≡ Some n → (node_at S S.heap.root.0).key ≡ n.key
  pub root_shared : is_shared_in S S.heap.root.0 ≡ true
  -- to a node that is not shared no other points, and no walk visits it
  pub own_apart : (x f y : ℕ) → leads S x f ≡ Some y → (is_shared_in S y ≡ true) ⊎ (x ≡ y)
  pub visited_shared : (k : KeyName) (x : ℕ) → walk_visits F.header S.heap (S.walked k) x ≡ true → is_shared_in S x ≡ true
  -- each node has room for two pointers
  pub wide : (x : ℕ) (node : Node) → slice_get S.heap.nodes x ≡ Some node → length node.pointers ≡ POINTERS_LIMIT
  pub shared_leads : (x f y : ℕ) → is_shared_in S x ≡ true → leads S x f ≡ Some y → is_shared_in S y ≡ true

-- a pointer of this order may lead from the one key to the other
abbrev pub in_order : KeyOrder → Key → Key → Bool
in_order KeyOrder.Ascending key to = is_less key to
in_order KeyOrder.Descending key to = is_less to key
in_order KeyOrder.Free key to = true

-- whether a node meets the c-th keep for a key
abbrev pub node_meets : Frame → Scene → KeyName → ℕ → Node → ℕ → Bool
node_meets F S k x node c =
    option_map_or (λ q. value (view_of_node node (S.walked k) (walk_visits F.header S.heap (S.walked k) x)) q.condition) (slice_get F.header.keeps c) true

-- what the obligations keep: every shared node meets the keeps, and pointers their order
pub record IsOrderly (F : Frame) (S : Scene) : Type 0 where
  pub keeps : (k : KeyName) (x : ℕ) (node : Node) (c : ℕ) → slice_get S.heap.nodes x ≡ Some node → is_shared_in S x ≡ true → node_meets F S k x node c ≡ true
  pub ordered : (x f y : ℕ) → leads S x f ≡ Some y → in_order (order_of F f) (node_at S x).key (node_at S y).key ≡ true

-- ---- other names

-- the same heap, with other names for its nodes
abbrev pub renamed_scene : Scene → (ℕ → Option ℕ) → Scene
renamed_scene S named = record S { named = named }

-- what a name names from now on, where this node is the one just allocated
abbrev pub source_node : Scene → ℕ → Source → Option ℕ
source_node S fresh (Of n) = S.named n
source_node S fresh Null = None
source_node S fresh Fresh = Some fresh

-- a node just allocated by the own thread: no name is of it yet, no pointer leads to it, and no walk visits it
pub record IsJustAllocated (F : Frame) (S : Scene) (x : ℕ) : Type 0 where
  pub fields : node_at S x ≡ fresh_node (S.walked KeyName.Own)
  pub own : is_shared_in S x ≡ false
  pub mine : S.mine x ≡ true
  pub unnamed : (n : ℕ) → n < F.names → S.named n ≡ Some x → ⊥
  pub unreached : (y f : ℕ) → leads S y f ≡ Some x → ⊥
  pub unvisited : (k : KeyName) → walk_visits F.header S.heap (S.walked k) x ≡ false

-- the names of a scene come from those of another as the sources say
pub record IsSourced (F : Frame) (S : Scene) (from : ℕ → Source) (named : ℕ → Option ℕ) (fresh : ℕ) : Type 0 where
  pub sources : (i : ℕ) → i < F.names → named i ≡ source_node S fresh (from i)
  pub within : (i n : ℕ) → i < F.names → from i ≡ Of n → n < F.names
  pub allocated : (i : ℕ) → i < F.names → from i ≡ Fresh → IsJustAllocated F S fresh

-- the order of a pointer field
abbrev pub field_order : Header → ℕ → KeyOrder
field_order h f = option_map_or (λ q. q.order) (slice_get h.pointers f) KeyOrder.Free

-- every shared node meets every keep for every ordinary key, and every pointer its order
pub record IsOrderlyWorld (h : Header) (g : GhostWorld) : Type 0 where
  pub keeps : (j : ℤ) (x n : ℕ) (node : Node) → IsShared g.kept.owners x → slice_get g.world.heap.nodes x ≡ Some node
      → option_map_or (λ q. value (view_of_node node j (walk_visits h g.world.heap j x)) q.condition) (slice_get h.keeps n) true ≡ true
  pub ordered : (x f : ℕ) (node next : Node) (to : NodeId) → slice_get g.world.heap.nodes x ≡ Some node → slice_get node.pointers f ≡ Some (Some to)
      → slice_get g.world.heap.nodes to.0 ≡ Some next → in_order (field_order h f) node.key next.key ≡ true
