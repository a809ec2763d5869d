-- Writes of worlds: what a change of a picture makes of the node that it names, and of the heap and the owners. Blocks write so,
-- and the laws on writes speak of it.
use Rattle.std.specs.Prelude.{◌≡◌, ℕ, Bool, not, ◌&&◌, ◌||◌, ◌<◌, ◌==◌, List, length, slice_get, Option, Some, None, is_some}
use Rattle.plank_prog.specs.Views.{is_bit_set}
use Rattle.plank_heap.specs.declared.heaps.Heap.{Heap}
use Rattle.plank_pic.specs.Frames.{Frame}
use Rattle.plank_pic.specs.Below.{some_below}
use Rattle.plank_pic.specs.Steps.{Change, or_else, spent_after}
use Rattle.plank_scene.specs.Scenes.{Scene, node_at, leads, is_node, is_shared_in, has_lock, has_others_lock, shown}

-- the scene with another heap and other owners
abbrev pub with_heap : Scene → Heap → List (Option ℕ) → Bool → Scene
with_heap S heap owners spent = record S { heap = heap; owners = owners; spent = spent }

-- where a written pointer leads
abbrev pub new_lead : Scene → Option (Option ℕ) → Option ℕ → Option ℕ
new_lead S None old = old
new_lead S (Some None) old = None
new_lead S (Some (Some v)) old = S.named v

-- the heap after is the heap before with the node that the change names changed so
pub record IsWritten (F : Frame) (S : Scene) (heap : Heap) (owners : List (Option ℕ)) (spent : Bool) (c : Change) (x : ℕ) : Type 0 where
  pub below : c.at < F.names
  pub named : S.named c.at ≡ Some x
  pub values : (f v : ℕ) → c.pointer f ≡ Some (Some v) → v < F.names
  pub elsewhere : (b : ℕ) → (b ≡ x → ⊥) → node_at (with_heap S heap owners spent) b ≡ node_at S b
  pub key : (node_at (with_heap S heap owners spent) x).key ≡ (node_at S x).key
  pub flag : (f : ℕ) → f < length F.header.flags → is_bit_set (node_at (with_heap S heap owners spent) x).flags f ≡ or_else (λ b. b) (c.flag f) (is_bit_set (node_at S x).flags f)
  pub pointer : (f : ℕ) → f < length F.header.pointers → leads (with_heap S heap owners spent) x f ≡ new_lead S (c.pointer f) (leads S x f)
  pub locked : is_some (node_at (with_heap S heap owners spent) x).lock ≡ or_else (λ taken. taken) c.lock (is_some (node_at S x).lock)
  pub lock_mine : has_lock S.own (node_at (with_heap S heap owners spent) x) ≡ or_else (λ taken. taken && c.own) c.lock (has_lock S.own (node_at S x))
  pub lock_others : has_others_lock S (node_at (with_heap S heap owners spent) x) ≡ or_else (λ taken. taken && not c.own) c.lock (has_others_lock S (node_at S x))

-- the node to which a written pointer leads
abbrev pub value_node : Scene → Option (Option ℕ) → Option ℕ
value_node S None = None
value_node S (Some None) = None
value_node S (Some (Some v)) = S.named v

-- the change was made to one node of the heap, and shared what it says
pub record WroteNode (F : Frame) (S : Scene) (heap : Heap) (owners : List (Option ℕ)) (spent : Bool) (c : Change) : Type 0 where
  pub x : ℕ
  pub is : IsWritten F S heap owners spent c x
  pub nodes : (b : ℕ) → (b ≡ x → ⊥) → slice_get heap.nodes b ≡ slice_get S.heap.nodes b
  pub root : heap.root.0 ≡ S.heap.root.0
  pub shares : (y : ℕ) → is_shared_in (with_heap S heap owners spent) y ≡ (is_shared_in S y || (not (y == x) && some_below (λ f. is_node (value_node S (c.pointer f)) (Some y)) (length F.header.pointers)))
  pub spends : spent ≡ spent_after (shown F S) (shown F (with_heap S heap owners spent)) c.own
