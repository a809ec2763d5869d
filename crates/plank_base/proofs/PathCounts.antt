-- Moves counted: after how many moves a walk ends at most, where a function is defined below a bound or stays below
-- one, and the tests of paths and ends that follow.
use Rattle.std.proofs.Common.{◌≡◌, ◌⊎◌, ◌↔◌, ℕ, zero, suc, ◌+◌, ◌<◌, ◌≤◌, ◌==◌, nat_lt, true, false, Option, Some, None, option_and_then, refl, sym, ◌∙◌, ap, subst, inl, inr, arith}
use Rattle.std.specs.Option.{option_map_or}
use Rattle.std.proofs.lemmas.Bool.{cases_eq, cases_lt, cond-true, cond-false, eq-eqb, eqb-true, or_cases, or_left, or_right, lt-ltb, le-ltb}
use Rattle.plank_base.specs.Paths.{Path, here, onward, EndsAt, NeverEnds, off, below, Extends, IsUndefinedFrom, StaysBelow, after, meets_within, end_within}
use Rattle.plank_base.proofs.Paths.{successor_cases, one_successor, end_or_successor, off-same, off-other, off-none, off-extends, wider, no_return, cycle_never_ends}

-- ---- moves counted

-- the first of one more move
pub after-more : (f : ℕ → Option ℕ) (k : ℕ) {a m : ℕ} → f a ≡ Some m → after f (suc k) a ≡ after f k m
after-more f k s = ap (option_and_then (after f k)) s

-- where no move can be made, no more can
pub after-none : (f : ℕ → Option ℕ) (k : ℕ) {a : ℕ} → f a ≡ None → after f (suc k) a ≡ None
after-none f k n = ap (option_and_then (after f k)) n

-- moves make a path
pub path_from_after : {f : ℕ → Option ℕ} (k : ℕ) {a b : ℕ} → after f k a ≡ Some b → Path f a b
path_from_after {f} zero {a} {b} e = subst (λ v. Path f a v) (one_successor refl e) here
path_from_after {f} (suc k) {a} {b} e =
    elim (successor_cases (f a)) [
      | inl n ↦ absurd (end_or_successor (after-none f k n) e)
      | inr w ↦ onward w.1 (path_from_after k (sym (after-more f k w.1) ∙ e))
    ]

-- a path has a number of moves
pub after_from_path : {f : ℕ → Option ℕ} {b a : ℕ} → Path f a b → (k : ℕ) × (after f k a ≡ Some b)
after_from_path here = (zero, refl)
after_from_path {f} (onward s p) =
    let w = after_from_path p in (suc w.0, after-more f w.0 s ∙ w.1)

-- after an end no move can be made
pub after_end : (f : ℕ → Option ℕ) (j k a : ℕ) {b : ℕ} → after f j a ≡ Some b → f b ≡ None → j < k → after f k a ≡ None
after_end f j zero a e n h = absurd (omega arith)
after_end f zero (suc k) a {b} e n h = after-none f k (subst (λ v. f v ≡ None) (one_successor e refl) n)
after_end f (suc j) (suc k) a e n h =
    elim (successor_cases (f a)) [
      | inl m ↦ after-none f k m
      | inr w ↦ after-more f k w.1 ∙ after_end f j k w.0 (sym (after-more f j w.1) ∙ e) n (omega arith)
    ]

-- moves that do not come to x are moves without x
pub after_off : (f : ℕ → Option ℕ) (x k a : ℕ) {b : ℕ} → after f k a ≡ Some b → (after (off f x) k a ≡ Some b) ⊎ Path (off f x) a x
after_off f x zero a e = inl e
after_off f x (suc k) a e =
    elim (cases_eq a x) [
      | inl s ↦ inr (subst (λ v. Path (off f x) v x) (sym s) here)
      | inr d ↦ elim (successor_cases (f a)) [
        | inl n ↦ absurd (end_or_successor (after-none f k n) e)
        | inr w ↦ elim (after_off f x k w.0 (sym (after-more f k w.1) ∙ e)) [
          | inl q ↦ inl (after-more (off f x) k (off-other f x a d ∙ w.1) ∙ q)
          | inr p ↦ inr (onward (off-other f x a d ∙ w.1) p)
        ]
      ]
    ]

-- ---- points of a function

-- 1 where a successor is there
abbrev pub point_count : Option ℕ → ℕ
point_count None = 0
point_count (Some m) = 1

-- how many numbers below n have a successor
abbrev pub points : (ℕ → Option ℕ) → ℕ → ℕ
points f zero = 0
points f (suc n) = points f n + point_count (f n)

one_point : (o : Option ℕ) → point_count o ≤ 1
one_point None = omega arith
one_point (Some m) = omega arith

point_there : {o : Option ℕ} {m : ℕ} → o ≡ Some m → point_count o ≡ 1
point_there s = ap point_count s

point_missing : {o : Option ℕ} → o ≡ None → point_count o ≡ 0
point_missing n = ap point_count n

point_off : (f : ℕ → Option ℕ) (x n : ℕ) → point_count (off f x n) ≤ point_count (f n)
point_off f x n =
    elim (cases_eq n x) [
      | inl e ↦ let k : point_count (off f x n) ≡ 0 = point_missing (subst (λ v. off f x v ≡ None) (sym e) (off-same f x)) in omega arith
      | inr d ↦ let k : point_count (off f x n) ≡ point_count (f n) = ap point_count (off-other f x n d) in omega arith
    ]

pub points-off_le : (f : ℕ → Option ℕ) (x n : ℕ) → points (off f x) n ≤ points f n
points-off_le f x zero = omega arith
points-off_le f x (suc n) =
    let p = points-off_le f x n in
    let q = point_off f x n in
    omega arith

-- without a point that had a successor, there is a point less
pub points-off_less : (f : ℕ → Option ℕ) (x n : ℕ) {m : ℕ} → x < n → f x ≡ Some m → points (off f x) n < points f n
points-off_less f x zero h s = absurd (omega arith)
points-off_less f x (suc n) {m} h s =
    elim (cases_eq n x) [
      | inl e ↦
          let p = points-off_le f x n in
          let q : point_count (off f x n) ≡ 0 = point_missing (subst (λ v. off f x v ≡ None) (sym e) (off-same f x)) in
          let r : point_count (f n) ≡ 1 = point_there (subst (λ v. f v ≡ Some m) (sym e) s) in
          omega arith
      | inr d ↦
          let p : points (off f x) n < points f n = points-off_less f x n (omega arith) s in
          let q = point_off f x n in
          omega arith
    ]

pub points-le : (f : ℕ → Option ℕ) (n : ℕ) → points f n ≤ n
points-le f zero = omega arith
points-le f (suc n) =
    let p = points-le f n in
    let q = one_point (f n) in
    omega arith

-- where an end lies below n, there are fewer points than numbers
pub points-end : (f : ℕ → Option ℕ) (n : ℕ) {b : ℕ} → b < n → f b ≡ None → points f n < n
points-end f zero h e = absurd (omega arith)
points-end f (suc n) {b} h e =
    elim (cases_eq n b) [
      | inl s ↦
          let p = points-le f n in
          let q : point_count (f n) ≡ 0 = point_missing (subst (λ v. f v ≡ None) (sym s) e) in
          omega arith
      | inr d ↦
          let p : points f n < n = points-end f n (omega arith) e in
          let q = one_point (f n) in
          omega arith
    ]

-- ---- where f is undefined from n on

-- a number with a successor lies below
pub defined_below : {f : ℕ → Option ℕ} {n a m : ℕ} → IsUndefinedFrom f n → f a ≡ Some m → a < n
defined_below {f} {n} {a} u s =
    elim (cases_lt a n) [ inl h ↦ h | inr h ↦ absurd (end_or_successor (u a h) s) ]

pub off-undefined : {f : ℕ → Option ℕ} {n : ℕ} (x : ℕ) → IsUndefinedFrom f n → IsUndefinedFrom (off f x) n
off-undefined {f} x u a h = off-none f x a (u a h)

-- the pigeonhole: a walk that ends makes at most as many moves as there are points
pub moves_to_end : {f : ℕ → Option ℕ} {n : ℕ} (k a : ℕ) {b : ℕ} → IsUndefinedFrom f n → after f k a ≡ Some b → f b ≡ None → k ≤ points f n
moves_to_end zero a u e z = omega arith
moves_to_end {f} {n} (suc k) a {b} u e z =
    elim (successor_cases (f a)) [
      | inl m ↦ absurd (end_or_successor (after-none f k m) e)
      | inr w ↦
          let rest : after f k w.0 ≡ Some b = sym (after-more f k w.1) ∙ e in
          elim (after_off f a k w.0 rest) [
            | inl q ↦
                let fewer : points (off f a) n < points f n = points-off_less f a n (defined_below u w.1) w.1 in
                let more : k ≤ points (off f a) n = moves_to_end {f = off f a} k w.0 (off-undefined a u) q (off-none f a b z) in
                omega arith
            | inr p ↦
                absurd (cycle_never_ends a (w.0, w.1, wider (off-extends f a) p) b (onward w.1 (path_from_after k rest)) z)
          ]
    ]

-- a walk of more moves than there are points never ends
pub endless_past_points : {f : ℕ → Option ℕ} {n : ℕ} (k : ℕ) {a c : ℕ} → IsUndefinedFrom f n → points f n < k → after f k a ≡ Some c → NeverEnds f a
endless_past_points {f} {n} k {a} u h e b p z =
    let w = after_from_path p in
    let few : w.0 ≤ points f n = moves_to_end w.0 a u w.1 z in
    end_or_successor (after_end f w.0 k a w.1 z (omega arith)) e

-- a walk of more moves than there are numbers below n never ends
pub endless_from_undefined : {f : ℕ → Option ℕ} {n a c : ℕ} → IsUndefinedFrom f n → after f (suc n) a ≡ Some c → NeverEnds f a
endless_from_undefined {f} {n} u e =
    let few = points-le f n in
    endless_past_points (suc n) u (omega arith) e

-- ---- tests of paths and ends, within any number of moves

pub path_from_meets : {f : ℕ → Option ℕ} (k : ℕ) {a b : ℕ} → meets_within f k a b ≡ true → Path f a b
path_from_meets {f} zero {a} {b} t = subst (λ v. Path f a v) (eqb-true a b t) here
path_from_meets {f} (suc k) {a} {b} t =
    elim (or_cases (a == b) (option_map_or (λ m. meets_within f k m b) (f a) false) t) [
      | inl e ↦ subst (λ v. Path f a v) (eqb-true a b e) here
      | inr r ↦ elim (successor_cases (f a)) [
        | inl n ↦ absurd (end_or_successor_test (subst (λ o. option_map_or (λ m. meets_within f k m b) o false ≡ true) n r))
        | inr w ↦ onward w.1 (path_from_meets k (subst (λ o. option_map_or (λ m. meets_within f k m b) o false ≡ true) w.1 r))
      ]
    ]
  where
    end_or_successor_test : false ≡ true → ⊥
    end_or_successor_test e = cc

pub meets-here : (f : ℕ → Option ℕ) (k a : ℕ) → meets_within f k a a ≡ true
meets-here f zero a = eq-eqb a a refl
meets-here f (suc k) a = or_left (a == a) _ (eq-eqb a a refl)

pub meets-onward : (f : ℕ → Option ℕ) (k a b : ℕ) {m : ℕ} → f a ≡ Some m → meets_within f k m b ≡ true → meets_within f (suc k) a b ≡ true
meets-onward f k a b {m} s t =
    or_right (a == b) _ (ap (λ o. option_map_or (λ m. meets_within f k m b) o false) s ∙ t)

-- more moves of one function are moves of a wider one
pub meets-wider : {f g : ℕ → Option ℕ} (k a b : ℕ) → Extends f g → meets_within f k a b ≡ true → meets_within g k a b ≡ true
meets-wider zero a b h t = t
meets-wider {f} {g} (suc k) a b h t =
    elim (or_cases (a == b) (option_map_or (λ m. meets_within f k m b) (f a) false) t) [
      | inl e ↦ or_left (a == b) _ e
      | inr r ↦ elim (successor_cases (f a)) [
        | inl n ↦ absurd (none_passes (subst (λ o. option_map_or (λ m. meets_within f k m b) o false ≡ true) n r))
        | inr w ↦ meets-onward g k a b (h a w.0 w.1) (meets-wider k w.0 b h (subst (λ o. option_map_or (λ m. meets_within f k m b) o false ≡ true) w.1 r))
      ]
    ]
  where
    none_passes : false ≡ true → ⊥
    none_passes e = cc

-- what is met is met within as many moves as there are points
pub meets_within_points : {f : ℕ → Option ℕ} {n : ℕ} (k : ℕ) {b a : ℕ} → IsUndefinedFrom f n → points f n ≤ k → Path f a b → meets_within f k a b ≡ true
meets_within_points {f} k u h here = meets-here f k _
meets_within_points {f} {n} zero {b} {a} u h (onward s p) =
    let fewer : points (off f a) n < points f n = points-off_less f a n (defined_below u s) s in
    absurd (omega arith)
meets_within_points {f} {n} (suc k) {b} {a} u h (onward s p) =
    elim (no_return a (onward s p)) [
      | inl e ↦ subst (λ v. meets_within f (suc k) a v ≡ true) (sym e) (meets-here f (suc k) a)
      | inr w ↦
          let fewer : points (off f a) n < points f n = points-off_less f a n (defined_below u s) s in
          meets-onward f k a b w.1 (meets-wider k w.0 b (off-extends f a) (meets_within_points {f = off f a} k (off-undefined a u) (omega arith) w.2))
    ]

-- an end that is found is an end
pub ends_from_test : {f : ℕ → Option ℕ} (k : ℕ) {a b : ℕ} → end_within f k a ≡ Some b → EndsAt f a b
ends_from_test {f} zero {a} {b} t =
    elim (successor_cases (f a)) [
      | inl n ↦
          let e : a ≡ b = one_successor (ap (λ o. option_map_or (λ m. None) o (Some a)) n) t in
          (subst (λ v. Path f a v) e here, subst (λ v. f v ≡ None) e n)
      | inr w ↦ absurd (end_or_successor (ap (λ o. option_map_or (λ m. None) o (Some a)) w.1) t)
    ]
ends_from_test {f} (suc k) {a} {b} t =
    elim (successor_cases (f a)) [
      | inl n ↦
          let e : a ≡ b = one_successor (ap (λ o. option_map_or (end_within f k) o (Some a)) n) t in
          (subst (λ v. Path f a v) e here, subst (λ v. f v ≡ None) e n)
      | inr w ↦
          let r = ends_from_test k (sym (ap (λ o. option_map_or (end_within f k) o (Some a)) w.1) ∙ t) in
          (onward w.1 r.0, r.1)
    ]

-- an end that is there is found, where enough moves are made
pub test_from_moves : (f : ℕ → Option ℕ) (j k a : ℕ) {b : ℕ} → j ≤ k → after f j a ≡ Some b → f b ≡ None → end_within f k a ≡ Some b
test_from_moves f zero zero a {b} h e z =
    let s : a ≡ b = one_successor refl e in
    ap (λ o. option_map_or (λ m. None) o (Some a)) (subst (λ v. f v ≡ None) (sym s) z) ∙ ap Some s
test_from_moves f zero (suc k) a {b} h e z =
    let s : a ≡ b = one_successor refl e in
    ap (λ o. option_map_or (end_within f k) o (Some a)) (subst (λ v. f v ≡ None) (sym s) z) ∙ ap Some s
test_from_moves f (suc j) zero a h e z = absurd (omega arith)
test_from_moves f (suc j) (suc k) a h e z =
    elim (successor_cases (f a)) [
      | inl n ↦ absurd (end_or_successor (after-none f j n) e)
      | inr w ↦
          ap (λ o. option_map_or (end_within f k) o (Some a)) w.1
          ∙ test_from_moves f j k w.0 (omega arith) (sym (after-more f j w.1) ∙ e) z
    ]

-- ---- decided below a bound: f is undefined from n on

pub meets_decides : {f : ℕ → Option ℕ} {n : ℕ} (a b : ℕ) → IsUndefinedFrom f n → (meets_within f n a b ≡ true) ↔ Path f a b
meets_decides {f} {n} a b u =
    (path_from_meets n, λ p. meets_within_points n u (points-le f n) p)

pub end_decides : {f : ℕ → Option ℕ} {n : ℕ} (a b : ℕ) → IsUndefinedFrom f n → (end_within f n a ≡ Some b) ↔ EndsAt f a b
end_decides {f} {n} a b u = (
  ends_from_test n,
  λ p.
      let w = after_from_path p.0 in
      let few = moves_to_end w.0 a u w.1 p.1 in
      let all = points-le f n in
      test_from_moves f w.0 n a (omega arith) w.1 p.1,
)

pub endless_decides : {f : ℕ → Option ℕ} {n : ℕ} (a : ℕ) → IsUndefinedFrom f n → (end_within f n a ≡ None) ↔ NeverEnds f a
endless_decides {f} {n} a u = (
  λ e b p z. end_or_successor e ((end_decides a b u).1 (p, z)),
  λ h. elim (successor_cases (end_within f n a)) [
    | inl e ↦ e
    | inr w ↦ let r = ends_from_test n w.1 in absurd (h w.0 r.0 r.1)
  ],
)

-- ---- decided below a bound: f stays below n, and the walk starts below n

pub below-same : (f : ℕ → Option ℕ) (n a : ℕ) → a < n → below f n a ≡ f a
below-same f n a h = cond-true (nat_lt a n) (f a) None (lt-ltb a n h)

pub below-undefined : (f : ℕ → Option ℕ) (n : ℕ) → IsUndefinedFrom (below f n) n
below-undefined f n a h = cond-false (nat_lt a n) (f a) None (le-ltb a n h)

pub below-extends : (f : ℕ → Option ℕ) (n : ℕ) → Extends (below f n) f
below-extends f n a m s = sym (below-same f n a (defined_below (below-undefined f n) s)) ∙ s

pub path_below : {f : ℕ → Option ℕ} {n b a : ℕ} → StaysBelow f n → a < n → Path f a b → Path (below f n) a b
path_below w h here = here
path_below {f} {n} {b} w h (onward {m} {a} s p) =
    onward (below-same f n a h ∙ s) (path_below w (w a m h s) p)

-- a path from below n stays below n
pub path_stays : {f : ℕ → Option ℕ} {n b a : ℕ} → StaysBelow f n → a < n → Path f a b → b < n
path_stays w h here = h
path_stays w h (onward {m} {a} s p) = path_stays w (w a m h s) p

pub after_below : {f : ℕ → Option ℕ} {n : ℕ} (k : ℕ) {a b : ℕ} → StaysBelow f n → a < n → after f k a ≡ Some b → after (below f n) k a ≡ Some b
after_below zero w h e = e
after_below {f} {n} (suc k) {a} {b} w h e =
    elim (successor_cases (f a)) [
      | inl z ↦ absurd (end_or_successor (after-none f k z) e)
      | inr v ↦
          after-more (below f n) k (below-same f n a h ∙ v.1)
          ∙ after_below k w (w a v.0 h v.1) (sym (after-more f k v.1) ∙ e)
    ]

-- a walk below n that makes n moves never ends
pub endless_below : {f : ℕ → Option ℕ} {n a c : ℕ} → StaysBelow f n → a < n → after f n a ≡ Some c → NeverEnds f a
endless_below {f} {n} {a} {c} w h e b p z =
    let v = after_from_path p in
    let in_range : b < n = path_stays w h p in
    let end : below f n b ≡ None = below-same f n b in_range ∙ z in
    let few : v.0 ≤ points (below f n) n = moves_to_end v.0 a (below-undefined f n) (after_below v.0 w h v.1) end in
    let fewer : points (below f n) n < n = points-end (below f n) n in_range end in
    end_or_successor (after_end f v.0 n a v.1 z (omega arith)) e

-- a walk below n that ends makes fewer than n moves
pub moves_below : {f : ℕ → Option ℕ} {n : ℕ} (k : ℕ) {a b : ℕ} → StaysBelow f n → a < n → after f k a ≡ Some b → f b ≡ None → k < n
moves_below {f} {n} k {a} {b} w h e z =
    let in_range : b < n = path_stays w h (path_from_after k e) in
    let end : below f n b ≡ None = below-same f n b in_range ∙ z in
    let few : k ≤ points (below f n) n = moves_to_end k a (below-undefined f n) (after_below k w h e) end in
    let fewer : points (below f n) n < n = points-end (below f n) n in_range end in
    omega arith

pub meets_decides_below : {f : ℕ → Option ℕ} {n : ℕ} (a b : ℕ) → StaysBelow f n → a < n → (meets_within f n a b ≡ true) ↔ Path f a b
meets_decides_below {f} {n} a b w h = (
  path_from_meets n,
  λ p. meets-wider n a b (below-extends f n) ((meets_decides a b (below-undefined f n)).1 (path_below w h p)),
)

pub end_decides_below : {f : ℕ → Option ℕ} {n : ℕ} (a b : ℕ) → StaysBelow f n → a < n → (end_within f n a ≡ Some b) ↔ EndsAt f a b
end_decides_below {f} {n} a b w h = (
  ends_from_test n,
  λ p.
      let v = after_from_path p.0 in
      let few = moves_below v.0 w h v.1 p.1 in
      test_from_moves f v.0 n a (omega arith) v.1 p.1,
)

pub endless_decides_below : {f : ℕ → Option ℕ} {n : ℕ} (a : ℕ) → StaysBelow f n → a < n → (end_within f n a ≡ None) ↔ NeverEnds f a
endless_decides_below {f} {n} a w h = (
  λ e b p z. end_or_successor e ((end_decides_below a b w h).1 (p, z)),
  λ k. elim (successor_cases (end_within f n a)) [
    | inl e ↦ e
    | inr v ↦ let r = ends_from_test n v.1 in absurd (k v.0 r.0 r.1)
  ],
)
