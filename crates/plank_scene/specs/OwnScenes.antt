-- The scenes of pending calls: their names are those of own pictures, the root, the variables, and what each bind of the block
-- reads. The laws on steps of calls speak of them.
use Rattle.std.specs.Prelude.{ℕ, zero, suc, ◌-◌, nat_lt, ℤ, Bool, not, List, [], ◌∷◌, slice_get, Option, Some, None, if◌then◌else◌}
use Rattle.std.specs.Option.{option_flatten}
use Rattle.plank_base.specs.declared.keys.NodeId.{NodeId}
use Rattle.plank_base.specs.declared.keys.ThreadId.{ThreadId}
use Rattle.plank_prog.specs.declared.blocks.Bind.{Bind}
use Rattle.plank_prog.specs.declared.methods.Action.{Action}
use Rattle.plank_heap.specs.declared.heaps.Heap.{Heap}
use Rattle.plank_sem.specs.declared.calls.Call.{Call}
use Rattle.plank_sem.specs.Reads.{pointer_of}
use Rattle.plank_sem.specs.Kept.{GhostWorld}
use Rattle.plank_pic.specs.declared.parts.KeyName.{KeyName}
use Rattle.plank_pic.specs.Calls.{binds_of}
use Rattle.plank_scene.specs.Scenes.{Scene, is_node}
use Rattle.plank_scene.specs.Turns.{number}

-- what the k-th bind reads, and null where it reads a field of null
abbrev pub read_at : Heap → Call → List Bind → ℕ → Option ℕ
read_at heap call [] k = None
read_at heap call (d ∷ ds) zero = number (option_flatten (pointer_of heap call d.from d.pointer))
read_at heap call (d ∷ ds) (suc k) = read_at heap call ds k

-- the names are of the root, of the variables, and of what each bind reads
abbrev pub own_named : Heap → Call → List Bind → ℕ → List (Option NodeId) → ℕ → Option ℕ
own_named heap call binds variables vars zero = Some heap.root.0
own_named heap call binds variables vars (suc i) = if nat_lt i variables then number (option_flatten (slice_get vars i)) else read_at heap call binds (i - variables)

-- whose a node counts as, where it is not shared: the own thread's, unless the other thread has it
abbrev pub counts_as_mine : List (Option ℕ) → Option ℕ → ℕ → Bool
counts_as_mine owners other x = not (is_node (option_flatten (slice_get owners x)) other)

-- the scene of a pending call: the names are those of its own pictures, and new nodes will have its key
abbrev pub own_scene : GhostWorld → ThreadId → Call → Action → ℕ → Option ℕ → (KeyName → ℤ) → Scene
own_scene g thread call action variables other walked = record {
  heap = g.world.heap;
  owners = g.kept.owners;
  before = g.world.heap;
  after = g.world.heap;
  named = own_named g.world.heap call (binds_of action) variables call.variables;
  walked = walked;
  unborn = λ x. call.key;
  mine = counts_as_mine g.kept.owners other;
  own = Some thread.0;
  other = other;
  spent = g.kept.has_changed thread.0;
}
