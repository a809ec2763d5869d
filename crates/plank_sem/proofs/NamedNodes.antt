-- Names stay within any set of nodes that has the root and is closed along pointers: binds, copies and writes bring in no
-- other. Used with the nodes of a heap, and with the nodes that a call may name.
use Rattle.std.proofs.Common.{◌≡◌, ℕ, List, [], ◌∷◌, Option, Some, ap, ◌∙◌, subst, inl, inr}
use Rattle.std.specs.Prelude.{slice_get, slice_set}
use Rattle.std.proofs.lemmas.Option.{none-some, same_Some, option_and_then_some}
use Rattle.plank_base.specs.declared.keys.NodeId.{NodeId}
use Rattle.plank_prog.specs.declared.blocks.Reference.{Reference}
use Rattle.plank_prog.specs.declared.blocks.Value.{Value}
use Rattle.plank_prog.specs.declared.blocks.Bind.{Bind}
use Rattle.plank_heap.specs.declared.nodes.Node.{Node}
use Rattle.plank_heap.specs.declared.heaps.Heap.{Heap}
use Rattle.plank_sem.specs.declared.calls.Call.{Call}
use Rattle.plank_sem.specs.Reads.{named, value_of, node_of, pointer_of}
use Rattle.plank_sem.specs.Actions.{bound}
use Rattle.plank_sem.specs.Fits.{AllNamed}
use Rattle.plank_sem.proofs.Lists.{found_after_set, flattened}

-- one more variable is set
pub all_named_set : (These : ℕ → Type 0) (variables : List (Option NodeId)) (v : ℕ) (to : Option NodeId) → AllNamed These variables
    → ((x : NodeId) → to ≡ Some x → These x.0) → AllNamed These (slice_set variables v to)
all_named_set These variables v to all one k x at =
    elim (found_after_set variables v to k (Some x) at) [ inl h ↦ one x h.1 | inr h ↦ all k x h.1 ]

-- a read of a pointer, in parts
pub record PointerRead (heap : Heap) (call : Call) (r : Reference) (pointer : ℕ) (to : Option NodeId) : Type 0 where
  pub from : NodeId
  pub is : named heap call r ≡ Some from
  pub node : Node
  pub found : slice_get heap.nodes from.0 ≡ Some node
  pub leads : slice_get node.pointers pointer ≡ Some to

pub pointer_read : (heap : Heap) (call : Call) (r : Reference) (pointer : ℕ) (to : Option NodeId) → pointer_of heap call r pointer ≡ Some to
    → PointerRead heap call r pointer to
pointer_read heap call r pointer to e =
    option_and_then_some (λ (x : Node). slice_get x.pointers pointer) (node_of heap call r) to e (λ node found leads.
    option_and_then_some (λ (x : NodeId). slice_get heap.nodes x.0) (named heap call r) node found (λ from is at.
    record { from = from; is = is; node = node; found = at; leads = leads }))

-- pointers of these nodes lead to these nodes
abbrev pub LeadsAlong : (ℕ → Type 0) → Heap → Type 0
LeadsAlong These heap = (x : ℕ) (node : Node) (f : ℕ) (y : NodeId) → These x → slice_get heap.nodes x ≡ Some node → slice_get node.pointers f ≡ Some (Some y) → These y.0

module _ (These : ℕ → Type 0) (heap : Heap) (call : Call) (root : These heap.root.0) (variables : AllNamed These call.variables) where
  pub named_in : (r : Reference) (x : NodeId) → named heap call r ≡ Some x → These x.0
  named_in Reference.Root x e = subst (λ (y : NodeId). These y.0) (same_Some heap.root x e) root
  named_in (Reference.Variable v) x e = variables v x (flattened (slice_get call.variables v) x e)

  pub value_in : (to : Value) (x : NodeId) → value_of heap call to ≡ Some x → These x.0
  value_in Value.Null x e = absurd (none-some x e)
  value_in (Value.Node r) x e = named_in r x e

  pub pointer_in : LeadsAlong These heap → (r : Reference) (pointer : ℕ) (y : NodeId) → pointer_of heap call r pointer ≡ Some (Some y) → These y.0
  pointer_in along r pointer y e =
      let p = pointer_read heap call r pointer (Some y) e in
      along p.from.0 p.node pointer y (named_in r p.from p.is) p.found p.leads

  pub bound_in : LeadsAlong These heap → (binds : List Bind) (before after : List (Option NodeId)) → AllNamed These before
      → bound heap call binds before ≡ Some after → AllNamed These after
  bound_in along [] before after all e = subst (AllNamed These) (same_Some before after e) all
  bound_in along (d ∷ ds) before after all e =
      option_and_then_some (λ (to : Option NodeId). bound heap call ds (slice_set before d.to to)) (pointer_of heap call d.from d.pointer) after e
      (λ to is rest. bound_in along ds (slice_set before d.to to) after
      (all_named_set These before d.to to all (λ x same. pointer_in along d.from d.pointer x (is ∙ ap (λ o. Some o) same))) rest)
