-- Owners of nodes after writes: shared nodes stay shared, and a node that a pointer of another comes to lead to is shared.
use Rattle.std.proofs.Common.{◌≡◌, ℕ, ◌⊎◌, Bool, true, false, eqb, List, [], ◌∷◌, ◌++◌, length, set, Option, Some, None, refl, sym, ◌∙◌, subst, inl, inr, length-set}
use Rattle.std.specs.Prelude.{slice_get, slice_set, if◌then◌else◌}
use Rattle.std.proofs.lemmas.Bool.{eqb-true, cases_eq}
use Rattle.std.proofs.lemmas.Option.{none-some}
use Rattle.plank_base.specs.declared.keys.NodeId.{NodeId}
use Rattle.plank_base.specs.declared.keys.ThreadId.{ThreadId}
use Rattle.plank_prog.specs.declared.blocks.Write.{Write}
use Rattle.plank_heap.specs.declared.nodes.Node.{Node}
use Rattle.plank_heap.specs.declared.heaps.Heap.{Heap}
use Rattle.plank_sem.specs.declared.calls.Call.{Call}
use Rattle.plank_sem.specs.Reads.{value_of}
use Rattle.plank_sem.specs.Actions.{changed, changed_by}
use Rattle.plank_sem.specs.Kept.{IsShared, IsOwn, shared_from, shared_by, shared_by_all}
use Rattle.plank_hist.proofs.Joined.{slice_get-append_left}
use Rattle.plank_sem.proofs.Lists.{found_after_set, set_found, set_elsewhere}

-- owners after a step: shared stays shared, and a thread's own stays or becomes shared
pub record Moves (before after : List (Option ℕ)) : Type 0 where
  pub shared : (x : ℕ) → IsShared before x → IsShared after x
  pub own : (x t : ℕ) → IsOwn before x t → IsOwn after x t ⊎ IsShared after x

-- besides, none becomes a thread's own
pub record Shares (before after : List (Option ℕ)) : Type 0 where
  pub moves : Moves before after
  pub same_length : length after ≡ length before
  pub back : (x t : ℕ) → IsOwn after x t → IsOwn before x t

pub moves_none : (owners : List (Option ℕ)) → Moves owners owners
moves_none owners = record { shared = λ x s. s; own = λ x t o. inl o }

pub shares_none : (owners : List (Option ℕ)) → Shares owners owners
shares_none owners = record { moves = moves_none owners; same_length = refl; back = λ x t o. o }

shares_then : (a b c : List (Option ℕ)) → Shares a b → Shares b c → Shares a c
shares_then a b c first second = record {
  moves = record {
    shared = λ x s. second.moves.shared x (first.moves.shared x s);
    own = λ x t o. elim (first.moves.own x t o) [ inl p ↦ second.moves.own x t p | inr s ↦ inr (second.moves.shared x s) ];
  };
  same_length = second.same_length ∙ first.same_length;
  back = λ x t o. first.back x t (second.back x t o);
}

set_shared : (owners : List (Option ℕ)) (y x : ℕ) → IsShared owners x → IsShared (set owners y None) x
set_shared owners y x s =
    elim (cases_eq x y) [
      | inl same ↦ subst (λ z. IsShared (set owners y None) z) (sym same) (set_found owners y None None (subst (IsShared owners) same s))
      | inr apart ↦ set_elsewhere owners y None x apart ∙ s
    ]

set_own : (owners : List (Option ℕ)) (y x t : ℕ) → IsOwn owners x t → IsOwn (set owners y None) x t ⊎ IsShared (set owners y None) x
set_own owners y x t o =
    elim (cases_eq x y) [
      | inl same ↦ inr (subst (λ z. IsShared (set owners y None) z) (sym same) (set_found owners y None (Some t) (subst (λ z. IsOwn owners z t) same o)))
      | inr apart ↦ inl (set_elsewhere owners y None x apart ∙ o)
    ]

set_back : (owners : List (Option ℕ)) (y x t : ℕ) → IsOwn (set owners y None) x t → IsOwn owners x t
set_back owners y x t o =
    elim (found_after_set owners y None x (Some t) o) [ inl h ↦ absurd (none-some t h.1) | inr h ↦ h.1 ]

set_shares : (owners : List (Option ℕ)) (y : ℕ) → Shares owners (set owners y None)
set_shares owners y = record {
  moves = record { shared = set_shared owners y; own = set_own owners y };
  same_length = length-set owners y None;
  back = set_back owners y;
}

if_shares : (same : Bool) (y : ℕ) (owners : List (Option ℕ)) → Shares owners (if same then owners else slice_set owners y None)
if_shares true y owners = shares_none owners
if_shares false y owners = set_shares owners y

from_shares : (x : ℕ) (to : Option NodeId) (owners : List (Option ℕ)) → Shares owners (shared_from x to owners)
from_shares x None owners = shares_none owners
from_shares x (Some y) owners = if_shares (eqb y.0 x) y.0 owners

by_shares : (heap : Heap) (call : Call) (x : ℕ) (w : Write) (owners : List (Option ℕ)) → Shares owners (shared_by heap call x w owners)
by_shares heap call x (Write.Flag r flag to) owners = shares_none owners
by_shares heap call x (Write.Pointer r pointer to) owners = from_shares x (value_of heap call to) owners
by_shares heap call x (Write.TakeLock r) owners = shares_none owners
by_shares heap call x (Write.FreeLock r) owners = shares_none owners

pub by_all_shares : (heap : Heap) (call : Call) (x : ℕ) (ws : List Write) (owners : List (Option ℕ)) → Shares owners (shared_by_all heap call x ws owners)
by_all_shares heap call x [] owners = shares_none owners
by_all_shares heap call x (w ∷ ws) owners =
    shares_then owners (shared_by heap call x w owners) (shared_by_all heap call x ws (shared_by heap call x w owners)) (by_shares heap call x w owners) (by_all_shares heap call x ws (shared_by heap call x w owners))

-- ---- the node that is written

-- no pointer of this node, which is node x, leads to another that is a thread's own
abbrev pub PointsApart : ℕ → List (Option ℕ) → Node → Type 0
PointsApart x owners node = (f : ℕ) (to : NodeId) (t : ℕ) → slice_get node.pointers f ≡ Some (Some to) → IsOwn owners to.0 t → x ≡ to.0

if_target : (same : Bool) (x t : ℕ) (y : NodeId) (owners : List (Option ℕ)) → eqb y.0 x ≡ same → IsOwn (if same then owners else slice_set owners y.0 None) y.0 t → x ≡ y.0
if_target true x t y owners e o = sym (eqb-true y.0 x e)
if_target false x t y owners e o =
    elim (found_after_set owners y.0 None y.0 (Some t) o) [ inl h ↦ absurd (none-some t h.1) | inr h ↦ absurd (h.0 refl) ]

target_shared : (x t : ℕ) (y : NodeId) (owners : List (Option ℕ)) → IsOwn (shared_from x (Some y) owners) y.0 t → x ≡ y.0
target_shared x t y owners o = if_target (eqb y.0 x) x t y owners refl o

written_apart : (heap : Heap) (call : Call) (thread : ThreadId) (x : ℕ) (w : Write) (owners : List (Option ℕ)) (node : Node) → PointsApart x owners node
    → PointsApart x (shared_by heap call x w owners) (changed heap thread call w node)
written_apart heap call thread x (Write.Flag r flag to) owners node apart f z t at own = apart f z t at own
written_apart heap call thread x (Write.Pointer r pointer to) owners node apart f z t at own =
    elim (found_after_set node.pointers pointer (value_of heap call to) f (Some z) at) [
      | inl h ↦ target_shared x t z owners (subst (λ o. IsOwn (shared_from x o owners) z.0 t) h.1 own)
      | inr h ↦ apart f z t h.1 ((from_shares x (value_of heap call to) owners).back z.0 t own)
    ]
written_apart heap call thread x (Write.TakeLock r) owners node apart f z t at own = apart f z t at own
written_apart heap call thread x (Write.FreeLock r) owners node apart f z t at own = apart f z t at own

pub all_written_apart : (heap : Heap) (call : Call) (thread : ThreadId) (x : ℕ) (ws : List Write) (owners : List (Option ℕ)) (node : Node) → PointsApart x owners node
    → PointsApart x (shared_by_all heap call x ws owners) (changed_by heap thread call ws node)
all_written_apart heap call thread x [] owners node apart = apart
all_written_apart heap call thread x (w ∷ ws) owners node apart =
    all_written_apart heap call thread x ws (shared_by heap call x w owners) (changed heap thread call w node) (written_apart heap call thread x w owners node apart)

-- ---- a fresh node

pub push_moves : (owners : List (Option ℕ)) (o : Option ℕ) → Moves owners (owners ++ o ∷ [])
push_moves owners o = record {
  shared = λ x s. slice_get-append_left owners (o ∷ []) x None s;
  own = λ x t p. inl (slice_get-append_left owners (o ∷ []) x (Some t) p);
}
