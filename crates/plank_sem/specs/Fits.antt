-- Worlds that fit a program: every number in them names a part that is there.
use Rattle.std.specs.Prelude.{◌≡◌, ℕ, ◌<◌, List, length, slice_get, Option, Some}
use Rattle.std.specs.FinMap.{get}
use Rattle.plank_base.specs.declared.keys.NodeId.{NodeId}
use Rattle.plank_prog.specs.declared.methods.Method.{Method}
use Rattle.plank_heap.specs.Heaps.{IsClosed}
use Rattle.plank_sem.specs.declared.calls.Call.{Call}
use Rattle.plank_sem.specs.Worlds.{WorldState}

-- each variable is null or names one of these nodes
abbrev pub AllNamed : (ℕ → Type 0) → List (Option NodeId) → Type 0
AllNamed These variables = (v : ℕ) (x : NodeId) → slice_get variables v ≡ Some (Some x) → These x.0

-- a call has a method, a location of it, and variables that are null or name one of so many nodes
pub record CallFits (methods : List Method) (nodes : ℕ) (call : Call) : Type 0 where
  pub method : Method
  pub called : slice_get methods call.method ≡ Some method
  pub location : call.location < length method.locations
  pub variables : AllNamed (λ x. x < nodes) call.variables

pub record Fits (methods : List Method) (w : WorldState) : Type 0 where
  pub heap : IsClosed w.heap
  pub calls : (thread : ℕ) (call : Call) → get w.calls thread ≡ Some call → CallFits methods (length w.heap.nodes) call
