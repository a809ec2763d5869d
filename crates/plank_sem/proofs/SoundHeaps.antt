-- Heaps with owners: no other node points to a node that is not shared. Kept by writes and by allocations.
use Rattle.std.proofs.Common.{◌≡◌, ℕ, zero, suc, ◌+◌, ◌<◌, ℤ, Bool, true, false, List, [], ◌∷◌, ◌++◌, length, set, Option, Some, None, refl, sym, ap, ◌∙◌, subst, inl, inr, arith, length-set, length-append}
use Rattle.std.specs.Prelude.{slice_get, option_map, if◌then◌else◌}
use Rattle.std.specs.Option.{option_map_or}
use Rattle.std.proofs.lemmas.Bool.{cases_eq}
use Rattle.std.proofs.lemmas.Option.{none-some, same_Some, slice_get_cases, option_and_then_some}
use Rattle.plank_base.specs.declared.keys.NodeId.{NodeId}
use Rattle.plank_base.specs.declared.keys.ThreadId.{ThreadId}
use Rattle.plank_base.specs.Paths.{Path, here, onward}
use Rattle.plank_prog.specs.declared.headers.Header.{Header}
use Rattle.plank_prog.specs.declared.headers.Pointer.{Pointer}
use Rattle.plank_prog.specs.declared.blocks.Write.{Write}
use Rattle.plank_prog.specs.Views.{admits}
use Rattle.plank_heap.specs.declared.nodes.Node.{Node}
use Rattle.plank_heap.specs.declared.heaps.Heap.{Heap}
use Rattle.plank_heap.specs.Heaps.{IsClosed, start_heap}
use Rattle.plank_heap.specs.Walks.{first_admitted, next_from, next}
use Rattle.plank_heap.specs.Changes.{with_node, with_fresh_node, fresh_node}
use Rattle.plank_sem.specs.declared.calls.Call.{Call}
use Rattle.plank_sem.specs.Actions.{changed, changed_by, written, written_in}
use Rattle.plank_sem.specs.Kept.{IsShared, IsOwn, shared_by_all, owners_written}
use Rattle.plank_sem.specs.Facts.{KeysStay, IsUsable, PointsTo}
use Rattle.plank_hist.proofs.Joined.{slice_get-append_left}
use Rattle.plank_sem.proofs.Lists.{found_after_set, set_found, set_elsewhere, found_after_push}
use Rattle.plank_sem.proofs.NamedNodes.{LeadsAlong}
use Rattle.plank_sem.proofs.Sharing.{Moves, moves_none, by_all_shares, PointsApart, all_written_apart, push_moves}

pub record HeapSound (h : Header) (owners : List (Option ℕ)) (heap : Heap) : Type 0 where
  pub owned : length owners ≡ length heap.nodes
  pub same_root : heap.root ≡ (start_heap h).root
  pub keys : KeysStay (start_heap h) heap
  pub root : (t : ℕ) → IsOwn owners heap.root.0 t → ⊥
  pub apart : (y : ℕ) (node : Node) → slice_get heap.nodes y ≡ Some node → PointsApart y owners node

-- ---- owners of nodes that are there

owner_cases : (owners : List (Option ℕ)) (x : ℕ) (P : Type 0) → x < length owners → (IsShared owners x → P) → ((t : ℕ) → IsOwn owners x t → P) → P
owner_cases owners x P below shared own =
    elim (slice_get_cases owners x).1 [
      | inl found ↦ by_owner found.0 found.2
      | inr past ↦ absurd (let le = past.0 in omega arith)
    ]
  where
    by_owner : (o : Option ℕ) → slice_get owners x ≡ Some o → P
    by_owner None e = shared e
    by_owner (Some t) e = own t e

module _ (h : Header) (owners : List (Option ℕ)) (heap : Heap) (closed : IsClosed heap) (sound : HeapSound h owners heap) where
  pub root_shared : IsShared owners heap.root.0
  root_shared =
      owner_cases owners heap.root.0 (IsShared owners heap.root.0) (let below = closed.root in let same = sound.owned in omega arith) (λ s. s) (λ t own. absurd (sound.root t own))

  target_below : (x : ℕ) (node : Node) (f : ℕ) (y : NodeId) → slice_get heap.nodes x ≡ Some node → slice_get node.pointers f ≡ Some (Some y) → y.0 < length owners
  target_below x node f y found leads = let below : y.0 < length heap.nodes = closed.pointers x node found f y leads in let same = sound.owned in omega arith

  -- a call that may name a node may name where its pointers lead
  pub usable_leads : (allocated : List ℕ) (thread : ℕ) → LeadsAlong (IsUsable owners allocated thread) heap
  usable_leads allocated thread x node f y usable found leads =
      owner_cases owners y.0 (IsUsable owners allocated thread y.0) (target_below x node f y found leads) (λ s. inl s)
      (λ t own. subst (IsUsable owners allocated thread) (sound.apart x node found f y t leads own) usable)

  pub shared_leads : (x y : ℕ) → IsShared owners x → PointsTo heap x y → IsShared owners y
  shared_leads x y shared points =
      subst (IsShared owners) points.5
      (owner_cases owners points.2.0 (IsShared owners points.2.0) (target_below x points.0 points.1 points.2 points.3 points.4) (λ s. s)
      (λ t own. subst (IsShared owners) (sound.apart x points.0 points.3 points.1 points.2 t points.4 own) shared))

-- ---- writes

changed_key : (heap : Heap) (thread : ThreadId) (call : Call) (w : Write) (node : Node) → (changed heap thread call w node).key ≡ node.key
changed_key heap thread call (Write.Flag r flag to) node = refl
changed_key heap thread call (Write.Pointer r pointer to) node = refl
changed_key heap thread call (Write.TakeLock r) node = refl
changed_key heap thread call (Write.FreeLock r) node = refl

changed_by_key : (heap : Heap) (thread : ThreadId) (call : Call) (ws : List Write) (node : Node) → (changed_by heap thread call ws node).key ≡ node.key
changed_by_key heap thread call [] node = refl
changed_by_key heap thread call (w ∷ ws) node = changed_by_key heap thread call ws (changed heap thread call w node) ∙ changed_key heap thread call w node

pub keys_same : (heap : Heap) → KeysStay heap heap
keys_same heap x node found = (node, found, refl)

pub keys_then : (a b c : Heap) → KeysStay a b → KeysStay b c → KeysStay a c
keys_then a b c first second x node found =
    let one = first x node found in let two = second x one.0 one.1 in (two.0, two.1, two.2 ∙ one.2)

-- one node is written
node_keys : (heap : Heap) (x : ℕ) (node after : Node) → slice_get heap.nodes x ≡ Some node → after.key ≡ node.key → KeysStay heap (with_node heap x after)
node_keys heap x node after at same y other found =
    elim (cases_eq y x) [
      | inl e ↦
          let old : node ≡ other = same_Some node other (sym at ∙ subst (λ z. slice_get heap.nodes z ≡ Some other) e found) in
          (after, subst (λ z. slice_get (set heap.nodes x after) z ≡ Some after) (sym e) (set_found heap.nodes x after node at), same ∙ ap (λ (n : Node). n.key) old)
      | inr apart ↦ (other, set_elsewhere heap.nodes x after y apart ∙ found, refl)
    ]

-- heap and owners after a step
pub record HeapMoves (h : Header) (owners after_owners : List (Option ℕ)) (heap after : Heap) : Type 0 where
  pub sound : HeapSound h after_owners after
  pub keys : KeysStay heap after
  pub moves : Moves owners after_owners
  pub same_root : after.root ≡ heap.root

pub heap_stays : (h : Header) (owners : List (Option ℕ)) (heap : Heap) → HeapSound h owners heap → HeapMoves h owners owners heap heap
heap_stays h owners heap sound = record { sound = sound; keys = keys_same heap; moves = moves_none owners; same_root = refl }

module _ (h : Header) (owners : List (Option ℕ)) (heap : Heap) (thread : ThreadId) (call : Call) (sound : HeapSound h owners heap) where
  node_moves : (x : ℕ) (node : Node) (ws : List Write) → slice_get heap.nodes x ≡ Some node
      → HeapMoves h owners (shared_by_all heap call x ws owners) heap (with_node heap x (changed_by heap thread call ws node))
  node_moves x node ws at =
      let after = changed_by heap thread call ws node in
      let shares = by_all_shares heap call x ws owners in
      let keys = node_keys heap x node after at (changed_by_key heap thread call ws node) in
      record {
        sound = record {
          owned = shares.same_length ∙ sound.owned ∙ sym (length-set heap.nodes x after);
          same_root = sound.same_root;
          keys = keys_then (start_heap h) heap (with_node heap x after) sound.keys keys;
          root = λ t own. sound.root t (shares.back heap.root.0 t own);
          apart = λ y other found.
              elim (found_after_set heap.nodes x after y other found) [
                | inl e ↦
                    subst (λ z. PointsApart z (shared_by_all heap call x ws owners) other) (sym e.0)
                    (subst (PointsApart x (shared_by_all heap call x ws owners)) e.1 (all_written_apart heap call thread x ws owners node (sound.apart x node at)))
                | inr e ↦ λ f to t leads own. sound.apart y other e.1 f to t leads (shares.back to.0 t own)
              ];
        };
        keys = keys;
        moves = shares.moves;
        same_root = refl;
      }

  pub writes_move : (ws : List Write) (after : Heap) → written heap thread call ws ≡ Some after → HeapMoves h owners (owners_written heap call ws (Some true) owners) heap after
  writes_move [] after e = subst (HeapMoves h owners owners heap) (same_Some heap after e) (heap_stays h owners heap sound)
  writes_move (w ∷ ws) after e =
      option_and_then_some (λ (x : NodeId). option_map (λ node. with_node heap x.0 (changed_by heap thread call (w ∷ ws) node)) (slice_get heap.nodes x.0)) (written_in (w ∷ ws) heap call) after e
      (λ x is rest. option_and_then_some (λ (node : Node). Some (with_node heap x.0 (changed_by heap thread call (w ∷ ws) node))) (slice_get heap.nodes x.0) after rest
      (λ node found same.
      subst (λ o. HeapMoves h owners (option_map_or (λ (y : NodeId). shared_by_all heap call y.0 (w ∷ ws) owners) o owners) heap after) (sym is)
      (subst (HeapMoves h owners (shared_by_all heap call x.0 (w ∷ ws) owners) heap) (same_Some _ after same) (node_moves x.0 node (w ∷ ws) found))))

-- ---- allocations

no_pointer : (key : ℤ) (f : ℕ) (to : NodeId) → slice_get (fresh_node key).pointers f ≡ Some (Some to) → ⊥
no_pointer key zero to at = none-some to (same_Some None (Some to) at)
no_pointer key (suc zero) to at = none-some to (same_Some None (Some to) at)
no_pointer key (suc (suc f)) to at = none-some (Some to) at

pub fresh_moves : (h : Header) (owners : List (Option ℕ)) (heap : Heap) (key : ℤ) (thread : ℕ) → IsClosed heap → HeapSound h owners heap
    → HeapMoves h owners (owners ++ Some thread ∷ []) heap (with_fresh_node heap key)
fresh_moves h owners heap key thread closed sound =
    let keys : KeysStay heap (with_fresh_node heap key) = λ x node found. (node, slice_get-append_left heap.nodes (fresh_node key ∷ []) x node found, refl) in
    -- an owner of a node that was there before is an old one
    let old : (x t : ℕ) → x < length heap.nodes → IsOwn (owners ++ Some thread ∷ []) x t → IsOwn owners x t =
    λ x t below own. elim (found_after_push owners (Some thread) x (Some t) own) [ inl was ↦ was | inr e ↦ absurd (let same = e.0 in let owned = sound.owned in omega arith) ] in
    record {
      sound = record {
        owned = length-append owners (Some thread ∷ []) ∙ ap (λ n. n + 1) sound.owned ∙ sym (length-append heap.nodes (fresh_node key ∷ []));
        same_root = sound.same_root;
        keys = keys_then (start_heap h) heap (with_fresh_node heap key) sound.keys keys;
        root = λ t own. sound.root t (old heap.root.0 t closed.root own);
        apart = λ y node found f to t leads own.
            elim (found_after_push heap.nodes (fresh_node key) y node found) [
              | inl was ↦ sound.apart y node was f to t leads (old to.0 t (closed.pointers y node was f to leads) own)
              | inr e ↦ absurd (no_pointer key f to (subst (λ (n : Node). slice_get n.pointers f ≡ Some (Some to)) (sym e.1) leads))
            ];
      };
      keys = keys;
      moves = push_moves owners (Some thread);
      same_root = refl;
    }

-- ---- walks

-- a pointer of a list leads to m
abbrev pub LeadsTo : List (Option NodeId) → ℕ → Type 0
LeadsTo targets m = (f : ℕ) × (to : NodeId) × (slice_get targets f ≡ Some (Some to)) × (to.0 ≡ m)

leads_later : (o : Option NodeId) (targets : List (Option NodeId)) (m : ℕ) → LeadsTo targets m → LeadsTo (o ∷ targets) m
leads_later o targets m rest = (suc rest.0, rest.1, rest.2, rest.3)

leads_first : (b : Bool) (to : NodeId) (targets : List (Option NodeId)) (others : Option ℕ) (m : ℕ) → (others ≡ Some m → LeadsTo targets m)
    → (if b then Some to.0 else others) ≡ Some m → LeadsTo (Some to ∷ targets) m
leads_first true to targets others m rest e = (0, to, refl, same_Some to.0 m e)
leads_first false to targets others m rest e = leads_later (Some to) targets m (rest e)

-- where a pointer that admits leads
admitted_leads : (admitting : Pointer → Bool) (ps : List Pointer) (targets : List (Option NodeId)) (m : ℕ) → first_admitted admitting ps targets ≡ Some m → LeadsTo targets m
admitted_leads admitting [] targets m e = absurd (none-some m e)
admitted_leads admitting (p ∷ ps) [] m e = absurd (none-some m e)
admitted_leads admitting (p ∷ ps) (None ∷ targets) m e = leads_later None targets m (admitted_leads admitting ps targets m e)
admitted_leads admitting (p ∷ ps) (Some to ∷ targets) m e =
    leads_first (admitting p) to targets (first_admitted admitting ps targets) m (admitted_leads admitting ps targets m) e

pub next_points : (h : Header) (heap : Heap) (j : ℤ) (x m : ℕ) → next h heap j x ≡ Some m → PointsTo heap x m
next_points h heap j x m e =
    option_and_then_some (next_from h j) (slice_get heap.nodes x) m e (λ node found leads.
    let to = admitted_leads (λ p. admits p node.key node.flags j) h.pointers node.pointers m leads in
    (node, to.0, to.1, found, to.2, to.3))

pub path_shared : (h : Header) (owners : List (Option ℕ)) (heap : Heap) (j : ℤ) → ((x y : ℕ) → IsShared owners x → PointsTo heap x y → IsShared owners y)
    → {x y : ℕ} → Path (next h heap j) x y → IsShared owners x → IsShared owners y
path_shared h owners heap j leads here shared = shared
path_shared h owners heap j leads (onward {b} {m} {a} step rest) shared =
    path_shared h owners heap j leads rest (leads a m shared (next_points h heap j a m step))
