-- Laws of paths of a partial function: one line, one end, splits at a point, the visit formula, agreement off a
-- point, cycles, and paths of a function whose moves are those of another or stop.
use Rattle.std.proofs.Common.{◌≡◌, ◌≢◌, ◌⊎◌, ℕ, ◌==◌, Option, Some, None, refl, sym, ◌∙◌, subst, inl, inr}
use Rattle.std.proofs.lemmas.Option.{none-some, same_Some}
use Rattle.std.proofs.lemmas.Bool.{cases_eq, cond-true, cond-false, eq-eqb, ne_eqb}
use Rattle.plank_base.specs.Paths.{Path, here, onward, NeverEnds, IsOnCycle, off, MeetsBeyond, Visits, Extends, AgreeOff, FollowsOrStops, StopsBefore}

-- ---- one move

-- a successor is there, or it is not
pub successor_cases : (o : Option ℕ) → (o ≡ None) ⊎ ((m : ℕ) × (o ≡ Some m))
successor_cases None = inl refl
successor_cases (Some m) = inr (m, refl)

-- a number has one successor
pub one_successor : {o : Option ℕ} {m n : ℕ} → o ≡ Some m → o ≡ Some n → m ≡ n
one_successor {o} {m} {n} s t = same_Some m n (sym s ∙ t)

-- an end has no successor
pub end_or_successor : {o : Option ℕ} {m : ℕ} → o ≡ None → o ≡ Some m → ⊥
end_or_successor {o} {m} n s = none-some m (sym n ∙ s)

-- ---- the function without a point

pub off-same : (f : ℕ → Option ℕ) (x : ℕ) → off f x x ≡ None
off-same f x = cond-true (x == x) None (f x) (eq-eqb x x refl)

pub off-other : (f : ℕ → Option ℕ) (x a : ℕ) → a ≢ x → off f x a ≡ f a
off-other f x a n = cond-false (a == x) None (f a) (ne_eqb a x n)

-- without the point, an end stays an end
pub off-none : (f : ℕ → Option ℕ) (x a : ℕ) → f a ≡ None → off f x a ≡ None
off-none f x a n =
    elim (cases_eq a x) [
      | inl e ↦ subst (λ v. off f x v ≡ None) (sym e) (off-same f x)
      | inr d ↦ off-other f x a d ∙ n
    ]

-- the moves without the point are moves
pub off-extends : (f : ℕ → Option ℕ) (x : ℕ) → Extends (off f x) f
off-extends f x a m s =
    elim (cases_eq a x) [
      | inl e ↦ absurd (end_or_successor (off-same f x) (subst (λ v. off f x v ≡ Some m) e s))
      | inr d ↦ sym (off-other f x a d) ∙ s
    ]

-- functions that agree off a point are one function without it
pub off-agree : (f g : ℕ → Option ℕ) (x : ℕ) → AgreeOff f g x → (a : ℕ) → off f x a ≡ off g x a
off-agree f g x h a =
    elim (cases_eq a x) [
      | inl e ↦ subst (λ v. off f x v ≡ off g x v) (sym e) (off-same f x ∙ sym (off-same g x))
      | inr d ↦ off-other f x a d ∙ h a d ∙ sym (off-other g x a d)
    ]

-- ---- paths

pub append : {f : ℕ → Option ℕ} {b c a : ℕ} → Path f a b → Path f b c → Path f a c
append here q = q
append (onward s p) q = onward s (append p q)

-- a path of a function is one of each function that has its moves
pub wider : {f g : ℕ → Option ℕ} {b a : ℕ} → Extends f g → Path f a b → Path g a b
wider h here = here
wider h (onward {m} {a} s p) = onward (h a m s) (wider h p)

-- a path of a function is one of each function with the same values
pub same_paths : {f g : ℕ → Option ℕ} {b a : ℕ} → ((x : ℕ) → f x ≡ g x) → Path f a b → Path g a b
same_paths h p = wider (λ a m s. sym (h a) ∙ s) p

-- paths from one number lie on one line
pub one_line : {f : ℕ → Option ℕ} {b c a : ℕ} → Path f a b → Path f a c → Path f b c ⊎ Path f c b
one_line here q = inl q
one_line (onward s p) here = inr (onward s p)
one_line {f} {b} {c} (onward s p) (onward t q) = one_line p (subst (λ v. Path f v c) (one_successor t s) q)

-- from an end a path leads to the end alone
pub end_stays : {f : ℕ → Option ℕ} {b a : ℕ} → f a ≡ None → Path f a b → b ≡ a
end_stays n here = refl
end_stays n (onward s p) = absurd (end_or_successor n s)

-- a walk has one end
pub one_end : {f : ℕ → Option ℕ} {b c a : ℕ} → Path f a b → f b ≡ None → Path f a c → f c ≡ None → b ≡ c
one_end p n q m =
    elim (one_line p q) [ inl r ↦ sym (end_stays n r) | inr r ↦ end_stays m r ]

-- ---- visits of a point

-- the first visit: a path does not pass x, or it comes to x for the first time and goes on from there
pub first_visit : {f : ℕ → Option ℕ} {b a : ℕ} (x : ℕ) → Path f a b → Path (off f x) a b ⊎ (Path (off f x) a x × Path f x b)
first_visit x here = inl here
first_visit {f} {b} x (onward {m} {a} s p) =
    elim (cases_eq a x) [
      | inl e ↦ inr (subst (λ v. Path (off f x) v x) (sym e) here, subst (λ v. Path f v b) e (onward s p))
      | inr d ↦ elim (first_visit x p) [
        | inl q ↦ inl (onward (off-other f x a d ∙ s) q)
        | inr w ↦ inr (onward (off-other f x a d ∙ s) w.0, w.1)
      ]
    ]

-- the last visit: a path does not pass x, or it ends at x, or it leaves x for the last time
pub last_visit : {f : ℕ → Option ℕ} {b a : ℕ} (x : ℕ) → Path f a b → Path (off f x) a b ⊎ ((b ≡ x) ⊎ MeetsBeyond f x b)
last_visit x here = inl here
last_visit {f} {b} x (onward {m} {a} s p) =
    elim (last_visit x p) [
      | inl q ↦ elim (cases_eq a x) [
        | inl e ↦ inr (inr (m, subst (λ v. f v ≡ Some m) e s, q))
        | inr d ↦ inl (onward (off-other f x a d ∙ s) q)
      ]
      | inr w ↦ inr w
    ]

-- a path from x can be cut at its last visit of x
pub no_return : {f : ℕ → Option ℕ} {b : ℕ} (x : ℕ) → Path f x b → (b ≡ x) ⊎ MeetsBeyond f x b
no_return {f} x p =
    elim (last_visit x p) [ inl q ↦ inl (end_stays (off-same f x) q) | inr w ↦ w ]

pub beyond_is_met : {f : ℕ → Option ℕ} {b : ℕ} (x : ℕ) → MeetsBeyond f x b → Path f x b
beyond_is_met {f} x w = onward w.1 (wider (off-extends f x) w.2)

-- the visit formula: what is met is met before x is passed or beyond the last visit of x
pub visits_from_path : {f : ℕ → Option ℕ} {b a : ℕ} (x : ℕ) → Path f a b → Visits f x a b
visits_from_path {f} {b} {a} x p =
    elim (first_visit x p) [
      | inl q ↦ inl q
      | inr w ↦ elim (no_return x w.1) [
        | inl e ↦ inl (subst (λ v. Path (off f x) a v) (sym e) w.0)
        | inr v ↦ inr (w.0, v)
      ]
    ]

pub path_from_visits : {f : ℕ → Option ℕ} {b a : ℕ} (x : ℕ) → Visits f x a b → Path f a b
path_from_visits {f} x v =
    elim v [
      | inl q ↦ wider (off-extends f x) q
      | inr w ↦ append (wider (off-extends f x) w.0) (beyond_is_met x w.1)
    ]

-- ---- cycles

-- from a number of a cycle no end can be reached
cycle_stays : {f : ℕ → Option ℕ} {b z : ℕ} (x : ℕ) → IsOnCycle f x → Path f z b → Path f z x → f b ≢ None
cycle_stays x w here here n = end_or_successor n w.1
cycle_stays x w here (onward s p) n = end_or_successor n s
cycle_stays {f} x w (onward s p) here n =
    cycle_stays x w p (subst (λ v. Path f v x) (one_successor w.1 s) w.2) n
cycle_stays {f} x w (onward s p) (onward t q) n =
    cycle_stays x w p (subst (λ v. Path f v x) (one_successor t s) q) n

pub cycle_never_ends : {f : ℕ → Option ℕ} (x : ℕ) → IsOnCycle f x → NeverEnds f x
cycle_never_ends x w b p = cycle_stays x w p here

-- a walk that comes to a number from which no end can be reached never ends
pub never_ends_before : {f : ℕ → Option ℕ} {a : ℕ} (x : ℕ) → Path f a x → NeverEnds f x → NeverEnds f a
never_ends_before {f} x p h b q n =
    elim (one_line p q) [
      | inl r ↦ h b r n
      | inr r ↦ h b (subst (λ v. Path f v b) (sym (end_stays n r)) here) n
    ]

-- no end can be reached from what a walk without end comes to
pub never_ends_after : {f : ℕ → Option ℕ} {a : ℕ} (x : ℕ) → Path f a x → NeverEnds f a → NeverEnds f x
never_ends_after x p h b q = h b (append p q)

-- ---- a chain of one function along another

-- a path of a function whose moves are moves of e or stop there is a path of e, or e stops on it
pub chain_law : {c e : ℕ → Option ℕ} {q p : ℕ} → FollowsOrStops c e → Path c p q → Path e p q ⊎ StopsBefore c e p q
chain_law h here = inl here
chain_law h (onward {m} {a = p} s r) =
    elim (h p m s) [
      | inl t ↦ elim (chain_law h r) [
        | inl w ↦ inl (onward t w)
        | inr w ↦ inr (w.0, (onward t w.1.0, w.1.1), onward s w.2, w.3)
      ]
      | inr n ↦ inr (p, (here, n), here, (m, s, r))
    ]
