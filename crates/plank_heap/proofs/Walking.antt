-- The walk of a key counted by moves, that it stays in a closed heap, and what tells where it ends.
use Rattle.std.proofs.Common.{◌≡◌, ◌↔◌, ◌≢◌, ℕ, zero, suc, ◌+◌, ◌-◌, ◌<◌, ◌||◌, ℤ, length, Option, Some, None, refl, sym, ◌∙◌, ap, subst, inl, inr, arith}
use Rattle.std.specs.Prelude.{option_and_then, slice_get, IsTrue, true, false}
use Rattle.std.specs.Option.{option_map_or}
use Rattle.std.proofs.lemmas.Bool.{false≢true, ne_eqb}
use Rattle.std.proofs.lemmas.Option.{none-some, same_Some, slice_get_past}
use Rattle.plank_base.specs.Paths.{EndsAt, NeverEnds, IsUndefinedFrom, StaysBelow, after, meets_within}
use Rattle.plank_base.proofs.Paths.{one_end, successor_cases}
use Rattle.plank_base.proofs.PathCounts.{after-more, meets-here, end_decides, endless_decides}
use Rattle.plank_base.specs.declared.keys.NodeId.{NodeId}
use Rattle.plank_prog.specs.declared.headers.Header.{Header}
use Rattle.plank_prog.specs.Views.{admits}
use Rattle.plank_heap.specs.declared.walks.WalkEnd.{WalkEnd}
use Rattle.plank_heap.specs.declared.nodes.Node.{Node}
use Rattle.plank_heap.specs.declared.heaps.Heap.{Heap}
use Rattle.plank_heap.specs.Heaps.{IsClosed}
use Rattle.plank_heap.specs.Walks.{next_from, next, walk_end, holds_of, contains, Contains}
use Rattle.plank_heap.proofs.Fields.{target_listed}

-- ---- one move more

one_move : (o : Option ℕ) → option_and_then (λ m. Some m) o ≡ o
one_move None = refl
one_move (Some m) = refl

-- one move after k moves
pub after-one_more : (f : ℕ → Option ℕ) (k a : ℕ) (b : ℕ) → after f k a ≡ Some b → after f (suc k) a ≡ f b
after-one_more f zero a b there = one_move (f a) ∙ ap f (same_Some a b there)
after-one_more f (suc k) a b there =
    elim (successor_cases (f a)) [
      | inl none ↦ absurd (none-some b (sym (ap (option_and_then (after f k)) none) ∙ there))
      | inr step ↦
          after-more f (suc k) step.1 ∙ after-one_more f k step.0 b (sym (after-more f k step.1) ∙ there)
    ]

-- ---- whether a point is met, move by move

module _ (f : ℕ → Option ℕ) (n i : ℕ) (within : i < n) where
  one_less : n - i ≡ suc (n - (i + 1))
  one_less = omega arith

  pub met_on : (a b m : ℕ) → a ≢ b → f a ≡ Some m → meets_within f (n - i) a b ≡ meets_within f (n - (i + 1)) m b
  met_on a b m apart step =
      ap (λ k. meets_within f k a b) one_less
      ∙ ap (λ t. t || option_map_or (λ m. meets_within f (n - (i + 1)) m b) (f a) false) (ne_eqb a b apart)
      ∙ ap (λ o. option_map_or (λ m. meets_within f (n - (i + 1)) m b) o false) step

  pub met_never : (a b : ℕ) → a ≢ b → f a ≡ None → meets_within f (n - i) a b ≡ false
  met_never a b apart step =
      ap (λ k. meets_within f k a b) one_less
      ∙ ap (λ t. t || option_map_or (λ m. meets_within f (n - (i + 1)) m b) (f a) false) (ne_eqb a b apart)
      ∙ ap (λ o. option_map_or (λ m. meets_within f (n - (i + 1)) m b) o false) step

pub met_here : (f : ℕ → Option ℕ) (k a b : ℕ) → a ≡ b → meets_within f k a b ≡ true
met_here f k a b same = subst (λ c. meets_within f k a c ≡ true) same (meets-here f k a)

-- ---- the walk stays in its heap

pub walk_undefined : (h : Header) (heap : Heap) (j : ℤ) → IsUndefinedFrom (next h heap j) (length heap.nodes)
walk_undefined h heap j a past = ap (option_and_then (next_from h j)) (slice_get_past heap.nodes a past)

-- where a move leads from a node that was read
moved : (h : Header) (heap : Heap) (j : ℤ) → IsClosed heap → (a m : ℕ) (o : Option Node) → slice_get heap.nodes a ≡ o → option_and_then (next_from h j) o ≡ Some m → m < length heap.nodes
moved h heap j closed a m None read step = absurd (none-some m step)
moved h heap j closed a m (Some x) read step =
    let listed = target_listed (λ p. admits p x.key x.flags j) h.pointers x.pointers m step in
    subst (λ n. n < length heap.nodes) listed.3 (closed.pointers a x read listed.0 listed.1 listed.2)

pub walk_stays : (h : Header) (heap : Heap) (j : ℤ) → IsClosed heap → StaysBelow (next h heap j) (length heap.nodes)
walk_stays h heap j closed a m within step = moved h heap j closed a m (slice_get heap.nodes a) refl step

-- ---- where it ends

module _ (f : ℕ → Option ℕ) (root : ℕ) where
  pub at_exactly : (at : NodeId) → EndsAt f root at.0 → (y : NodeId) → (WalkEnd.At at ≡ WalkEnd.At y) ↔ EndsAt f root y.0
  at_exactly at ends y = (
    λ same. let e : at ≡ y = cc in subst (λ (z : NodeId). EndsAt f root z.0) e ends,
    λ other. ap (λ n. WalkEnd.At (record { 0 = n })) (one_end ends.0 ends.1 other.0 other.1),
  )

  pub at_is_no_cycle : (at : NodeId) → EndsAt f root at.0 → (WalkEnd.At at ≡ WalkEnd.Cycles) ↔ NeverEnds f root
  at_is_no_cycle at ends = (λ same. cc, λ never. absurd (never at.0 ends.0 ends.1))

  pub cycle_is_no_end : NeverEnds f root → (y : NodeId) → (WalkEnd.Cycles ≡ WalkEnd.At y) ↔ EndsAt f root y.0
  cycle_is_no_end never y = (λ same. cc, λ ends. absurd (never y.0 ends.0 ends.1))

  pub cycle_exactly : NeverEnds f root → (WalkEnd.Cycles ≡ WalkEnd.Cycles) ↔ NeverEnds f root
  cycle_exactly never = (λ same. never, λ again. refl)

-- ---- the set

module _ (h : Header) (heap : Heap) (j : ℤ) where
  -- a walk that ends tells by holds whether its key is in the set
  pub contains-at : (y : ℕ) → EndsAt (next h heap j) heap.root.0 y → contains h heap j ≡ holds_of h heap j y
  contains-at y ends =
      let found : walk_end h heap j ≡ Some y = (end_decides heap.root.0 y (walk_undefined h heap j)).1 ends in
      ap (λ o. option_map_or (holds_of h heap j) o false) found

  -- the key of a walk that never ends is not in the set
  pub contains-cycle : NeverEnds (next h heap j) heap.root.0 → contains h heap j ≡ false
  contains-cycle never =
      let none : walk_end h heap j ≡ None = (endless_decides heap.root.0 (walk_undefined h heap j)).1 never in
      ap (λ o. option_map_or (holds_of h heap j) o false) none

  decided_by : (o : Option ℕ) → walk_end h heap j ≡ o → option_map_or (holds_of h heap j) o false ≡ true → Contains h heap j
  decided_by None end held = absurd (false≢true held)
  decided_by (Some y) end held = (y, (end_decides heap.root.0 y (walk_undefined h heap j)).0 end, held)

  -- the test of the set is the set
  pub contains_decides : IsTrue (contains h heap j) ↔ Contains h heap j
  contains_decides = (
    λ held. decided_by (walk_end h heap j) refl held,
    λ member. contains-at member.0 member.1 ∙ member.2,
  )
