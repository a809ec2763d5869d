-- Turns of calls: the names of a turn are those of a call, and its thread has the turn's role.
use Rattle.std.specs.Prelude.{◌≡◌, ℕ, not, ◌<◌, List, slice_get, Option, Some, None, option_map}
use Rattle.std.specs.Option.{option_flatten}
use Rattle.plank_base.specs.declared.keys.NodeId.{NodeId}
use Rattle.plank_base.specs.declared.keys.ThreadId.{ThreadId}
use Rattle.plank_prog.specs.declared.blocks.Reference.{Reference}
use Rattle.plank_prog.specs.declared.blocks.Bind.{Bind}
use Rattle.plank_sem.specs.declared.calls.Call.{Call}
use Rattle.plank_sem.specs.Reads.{named, pointer_of}
use Rattle.plank_pic.specs.Frames.{Frame}
use Rattle.plank_pic.specs.Blocks.{Turn, name, argument}
use Rattle.plank_scene.specs.Scenes.{Scene, is_node}

abbrev pub number : Option NodeId → Option ℕ
number o = option_map (λ to. to.0) o

-- a name of the call has a name in the picture, of the same node or null
abbrev pub Knows : Frame → Scene → Turn → Call → Reference → Type 0
Knows F S s call r = (name s r < F.names) × (S.named (name s r) ≡ number (named S.heap call r))

-- the thread has the role of the turn, and the key of its call is the one that the turn's argument stands for
pub record IsTurnOf (S : Scene) (s : Turn) (thread : ThreadId) (call : Call) : Type 0 where
  pub argument : S.walked (argument s) ≡ call.key
  pub own : is_node (Some thread.0) S.own ≡ s.mine
  pub other : is_node (Some thread.0) S.other ≡ not s.mine

-- which names are of which variables, before and after a step that sets variables; the other names stay
pub record VariablesSet (F : Frame) (S : Scene) (s : Turn) (before after : List (Option NodeId)) (named : ℕ → Option ℕ) : Type 0 where
  pub variable : ℕ → Option ℕ
  pub has_variable : (v i : ℕ) → s.name_of (Reference.Variable v) ≡ Some i → variable i ≡ Some v
  pub was : (v i : ℕ) → i < F.names → variable i ≡ Some v → (s.name_of (Reference.Variable v) ≡ Some i) × (S.named i ≡ number (option_flatten (slice_get before v)))
  pub is : (v i : ℕ) → i < F.names → variable i ≡ Some v → named i ≡ number (option_flatten (slice_get after v))
  pub others : (i : ℕ) → i < F.names → variable i ≡ None → named i ≡ S.named i

-- what each of these binds reads has its name, where the variable has one
abbrev pub KnowsBinds : Frame → Scene → Turn → Call → List Bind → Type 0
KnowsBinds F S s call binds = (k i : ℕ) (d : Bind) (to : Option NodeId) → slice_get binds k ≡ Some d → s.name_of (Reference.Variable d.to) ≡ Some i
    → pointer_of S.heap call d.from d.pointer ≡ Some to → (s.read_by d.to < F.names) × (S.named (s.read_by d.to) ≡ number to)
