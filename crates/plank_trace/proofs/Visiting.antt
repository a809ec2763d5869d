-- A path has the nodes that the walk visits, and no others.
use Rattle.std.proofs.Common.{◌≡◌, ◌⊎◌, ◌↔◌, ℕ, ℤ, zero, suc, ◌+◌, ◌<◌, ◌≤◌, ◌==◌, true, false, List, [], ◌∷◌, ◌++◌, length, Option, Some, None, refl, sym, ◌∙◌, ap, subst, inl, inr, arith, length-append}
use Rattle.std.proofs.lemmas.Bool.{cases_Bool, or_cases, or_parts, or_left, or_right, eq-eqb, eqb-true}
use Rattle.std.proofs.lemmas.List.Folds.{list_any-append}
use Rattle.plank_base.specs.declared.keys.NodeId.{NodeId}
use Rattle.plank_base.specs.Paths.{Path, here, onward, off, StaysBelow}
use Rattle.plank_base.proofs.Paths.{successor_cases, append, off-other}
use Rattle.plank_base.proofs.PathCounts.{points, points-le, points-off_less, points-end}
use Rattle.plank_prog.specs.declared.headers.Header.{Header}
use Rattle.plank_heap.specs.declared.heaps.Heap.{Heap}
use Rattle.plank_heap.specs.Heaps.{IsClosed}
use Rattle.plank_heap.specs.Walks.{next, WalkVisits}
use Rattle.plank_heap.proofs.Walking.{walk_stays}
use Rattle.plank_trace.specs.Paths.{path_from, path_of, is_on}
use Rattle.plank_trace.proofs.Pathing.{path_met, path_ends, path_goes}

-- ---- one node more

pushed : (a : ℕ) (met : List NodeId) (x : NodeId) → is_on (met ++ x ∷ []) a ≡ true → (is_on met a ≡ true) ⊎ (x.0 ≡ a)
pushed a met x h =
    elim (or_cases (is_on met a) (is_on (x ∷ []) a) (sym (list_any-append (λ (y : NodeId). y.0 == a) met (x ∷ [])) ∙ h)) [
      | inl old ↦ inl old
      | inr last ↦ elim (or_cases (x.0 == a) false last) [ inl same ↦ inr (eqb-true x.0 a same) | inr none ↦ absurd (cc) ]
    ]

kept : (a : ℕ) (met : List NodeId) (x : NodeId) → is_on met a ≡ true → is_on (met ++ x ∷ []) a ≡ true
kept a met x h = list_any-append (λ (y : NodeId). y.0 == a) met (x ∷ []) ∙ or_left (is_on met a) (is_on (x ∷ []) a) h

last_is_on : (a : ℕ) (met : List NodeId) (x : NodeId) → x.0 ≡ a → is_on (met ++ x ∷ []) a ≡ true
last_is_on a met x same =
    list_any-append (λ (y : NodeId). y.0 == a) met (x ∷ [])
    ∙ or_right (is_on met a) (is_on (x ∷ []) a) (or_left (x.0 == a) false (eq-eqb x.0 a same))

not_pushed : (a : ℕ) (met : List NodeId) (x : NodeId) → is_on (met ++ x ∷ []) a ≡ false → (is_on met a ≡ false) × (a ≡ x.0 → ⊥)
not_pushed a met x h =
    let parts = or_parts (is_on met a) (is_on (x ∷ []) a) (sym (list_any-append (λ (y : NodeId). y.0 == a) met (x ∷ [])) ∙ h) in
    let other = (or_parts (x.0 == a) false parts.1).0 in
    (parts.0, λ same. let is = eq-eqb x.0 a (sym same) in absurd (cc))

length-pushed : (met : List NodeId) (x : NodeId) → length (met ++ x ∷ []) ≡ suc (length met)
length-pushed met x = let e = length-append met (x ∷ []) in omega (arith, e)

-- ---- what is walked

module _ (f : ℕ → Option ℕ) (n root : ℕ) (stays : StaysBelow f n) where
  -- The nodes so far are met from the root, and none of them leads elsewhere than to one of them or to x. So many
  -- moves can still be made from other nodes: g makes these.
  record Walked (k : ℕ) (met : List NodeId) (x : NodeId) : Type 0 where
    g : ℕ → Option ℕ
    same : (a : ℕ) → is_on met a ≡ false → g a ≡ f a
    left : points g n + length met ≤ points f n
    room : k + length met ≡ n
    within : x.0 < n
    reached : (a : ℕ) → is_on met a ≡ true → Path f root a
    there : Path f root x.0
    closed : (a m : ℕ) → is_on met a ≡ true → f a ≡ Some m → (is_on met m ≡ true) ⊎ (m ≡ x.0)
    begun : (is_on met root ≡ true) ⊎ (root ≡ x.0)

  pub record Visited (nodes : List NodeId) : Type 0 where
    pub reached : (a : ℕ) → is_on nodes a ≡ true → Path f root a
    pub closed : (a m : ℕ) → is_on nodes a ≡ true → f a ≡ Some m → is_on nodes m ≡ true
    pub begun : is_on nodes root ≡ true

  -- it comes to a node again
  again : (k : ℕ) (met : List NodeId) (x : NodeId) → Walked k met x → is_on met x.0 ≡ true → Visited met
  again k met x w on = record {
    reached = w.reached;
    closed = λ a m h step. elim (w.closed a m h step) [ inl old_one ↦ old_one | inr same ↦ subst (λ (v : ℕ). is_on met v ≡ true) (sym same) on ];
    begun = elim w.begun [ inl old_one ↦ old_one | inr same ↦ subst (λ (v : ℕ). is_on met v ≡ true) (sym same) on ];
  }

  -- it comes to an end
  at_end : (k : ℕ) (met : List NodeId) (x : NodeId) → Walked k met x → f x.0 ≡ None → Visited (met ++ x ∷ [])
  at_end k met x w none = record {
    reached = λ a h. elim (pushed a met x h) [ inl old ↦ w.reached a old | inr same ↦ subst (λ (v : ℕ). Path f root v) same w.there ];
    closed = λ a m h step. elim (pushed a met x h) [
      | inl old ↦ elim (w.closed a m old step) [ inl old_one ↦ kept m met x old_one | inr same ↦ last_is_on m met x (sym same) ]
      | inr same ↦ absurd (let moves = ap f same ∙ step in cc)
    ];
    begun = elim w.begun [ inl old_one ↦ kept root met x old_one | inr same ↦ last_is_on root met x (sym same) ];
  }

  -- it goes on
  goes : (k : ℕ) (met : List NodeId) (x to : NodeId) → Walked (suc k) met x → is_on met x.0 ≡ false → f x.0 ≡ Some to.0 → Walked k (met ++ x ∷ []) to
  goes k met x to w new step =
      let longer = length-pushed met x in
      let fewer : points (off w.g x.0) n < points w.g n = points-off_less w.g x.0 n w.within (w.same x.0 new ∙ step) in
      let left = w.left in
      let room = w.room in
      record {
        g = off w.g x.0;
        same = λ a h. let other = not_pushed a met x h in off-other w.g x.0 a other.1 ∙ w.same a other.0;
        left = omega arith;
        room = omega arith;
        within = stays x.0 to.0 w.within step;
        reached = λ a h. elim (pushed a met x h) [ inl old ↦ w.reached a old | inr same ↦ subst (λ (v : ℕ). Path f root v) same w.there ];
        there = append w.there (onward step here);
        closed = λ a m h moves. elim (pushed a met x h) [
          | inl old ↦ elim (w.closed a m old moves) [ inl old_one ↦ inl (kept m met x old_one) | inr same ↦ inl (last_is_on m met x (sym same)) ]
          | inr same ↦ inr (let both : Some m ≡ Some to.0 = sym moves ∙ ap f (sym same) ∙ step in cc)
        ];
        begun = elim w.begun [ inl old_one ↦ inl (kept root met x old_one) | inr same ↦ inl (last_is_on root met x (sym same)) ];
      }

  -- all nodes are met: so it comes to one again
  all_met : (met : List NodeId) (x : NodeId) → Walked 0 met x → is_on met x.0 ≡ true
  all_met met x w =
      elim (cases_Bool (is_on met x.0)) [
        | inl on ↦ on
        | inr new ↦
            let left = w.left in
            let room = w.room in
            elim (successor_cases (f x.0)) [
              | inl none ↦ let few : points f n < n = points-end f n w.within none in absurd (omega arith)
              | inr step ↦
                  let fewer : points (off w.g x.0) n < points w.g n = points-off_less w.g x.0 n w.within (w.same x.0 new ∙ step.1) in
                  let most = points-le f n in
                  absurd (omega arith)
            ]
      ]

  visited : (k : ℕ) (met : List NodeId) (x : NodeId) → Walked k met x → Visited (path_from f met k x)
  visited zero met x w = again 0 met x w (all_met met x w)
  visited (suc k) met x w =
      elim (cases_Bool (is_on met x.0)) [
        | inl on ↦ subst Visited (sym (path_met f met (suc k) x (omega arith) on)) (again (suc k) met x w on)
        | inr new ↦ elim (successor_cases (f x.0)) [
          | inl none ↦ subst Visited (sym (path_ends f met (suc k) x (omega arith) new none)) (at_end (suc k) met x w none)
          | inr step ↦
              let to : NodeId = record { 0 = step.0 } in
              subst Visited (sym (path_goes f met (suc k) k x to refl new step.1)) (visited k (met ++ x ∷ []) to (goes k met x to w new step.1))
        ]
      ]

  pub all_visited : (x : NodeId) → x.0 ≡ root → root < n → Visited (path_from f [] n x)
  all_visited x same within =
      visited n [] x (record {
        g = f;
        same = λ a h. refl;
        left = omega arith;
        room = omega arith;
        within = subst (λ (v : ℕ). v < n) (sym same) within;
        reached = λ a h. absurd (cc);
        there = subst (λ (v : ℕ). Path f root v) (sym same) here;
        closed = λ a m h step. absurd (cc);
        begun = inr (sym same);
      })

  on_way : (nodes : List NodeId) → Visited nodes → (a b : ℕ) → is_on nodes a ≡ true → Path f a b → is_on nodes b ≡ true
  on_way nodes v a b on here = on
  on_way nodes v a b on (onward {m = m} step path) = on_way nodes v m b (v.closed a m on step) path

  pub visited_is_met : (nodes : List NodeId) → Visited nodes → (a : ℕ) → (is_on nodes a ≡ true) ↔ Path f root a
  visited_is_met nodes v a = (v.reached a, λ path. on_way nodes v root a v.begun path)

pub path_visits : (h : Header) (heap : Heap) (j : ℤ) (x : ℕ) → IsClosed heap → (is_on (path_of h heap j) x ≡ true) ↔ WalkVisits h heap j x
path_visits h heap j x closed =
    let f = next h heap j in
    let n = length heap.nodes in
    let stays : StaysBelow f n = λ a m below step. walk_stays h heap j closed a m below step in
    visited_is_met f n heap.root.0 stays (path_of h heap j) (all_visited f n heap.root.0 stays heap.root refl closed.root) x
