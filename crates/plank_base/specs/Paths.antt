-- Paths of a partial function on numbers: what a walk meets, where it ends, and tests that decide it.
use Rattle.std.specs.Prelude.{◌≡◌, ◌≢◌, ◌⊎◌, ℕ, zero, suc, ◌<◌, ◌≤◌, ◌==◌, ◌||◌, nat_lt, cond, Bool, false, Option, Some, None, option_and_then}
use Rattle.std.specs.Option.{option_map_or}

-- a path of f from a to b: zero or more moves, each from a number to its successor, lead from a to b
pub data Path (f : ℕ → Option ℕ) : ℕ → ℕ → Type 0 where
  here : {a : ℕ} → Path f a a
  onward : {b m a : ℕ} → f a ≡ Some m → Path f m b → Path f a b

-- the walk from a ends at b
abbrev pub EndsAt : (ℕ → Option ℕ) → ℕ → ℕ → Type 0
EndsAt f a b = Path f a b × (f b ≡ None)

-- no end can be reached from a
abbrev pub NeverEnds : (ℕ → Option ℕ) → ℕ → Type 0
NeverEnds f a = (b : ℕ) → Path f a b → f b ≢ None

-- x has a successor, and that successor is on a path back to x
abbrev pub IsOnCycle : (ℕ → Option ℕ) → ℕ → Type 0
IsOnCycle f x = (y : ℕ) × (f x ≡ Some y) × Path f y x

-- the function f without the point x
abbrev pub off : (ℕ → Option ℕ) → ℕ → ℕ → Option ℕ
off f x a = cond (a == x) None (f a)

-- the function f on the numbers below n
abbrev pub below : (ℕ → Option ℕ) → ℕ → ℕ → Option ℕ
below f n a = cond (nat_lt a n) (f a) None

-- b is met from the successor of x, without passing x again
abbrev pub MeetsBeyond : (ℕ → Option ℕ) → ℕ → ℕ → Type 0
MeetsBeyond f x b = (y : ℕ) × (f x ≡ Some y) × Path (off f x) y b

-- b is met from a before x is passed, or beyond the last visit of x: the visit formula
abbrev pub Visits : (ℕ → Option ℕ) → ℕ → ℕ → ℕ → Type 0
Visits f x a b = Path (off f x) a b ⊎ (Path (off f x) a x × MeetsBeyond f x b)

-- each move of f is one of g
abbrev pub Extends : (ℕ → Option ℕ) → (ℕ → Option ℕ) → Type 0
Extends f g = (a m : ℕ) → f a ≡ Some m → g a ≡ Some m

-- f and g agree at every point but x
abbrev pub AgreeOff : (ℕ → Option ℕ) → (ℕ → Option ℕ) → ℕ → Type 0
AgreeOff f g x = (a : ℕ) → a ≢ x → f a ≡ g a

-- each move of c is one of e, or starts where e ends
abbrev pub FollowsOrStops : (ℕ → Option ℕ) → (ℕ → Option ℕ) → Type 0
FollowsOrStops c e = (a m : ℕ) → c a ≡ Some m → (e a ≡ Some m) ⊎ (e a ≡ None)

-- the walk of e from p ends at a point of the path of c from p to q that lies before q
abbrev pub StopsBefore : (ℕ → Option ℕ) → (ℕ → Option ℕ) → ℕ → ℕ → Type 0
StopsBefore c e p q = (s : ℕ) × EndsAt e p s × Path c p s × ((t : ℕ) × (c s ≡ Some t) × Path c t q)

-- f has no successor for n and the numbers above it
abbrev pub IsUndefinedFrom : (ℕ → Option ℕ) → ℕ → Type 0
IsUndefinedFrom f n = (a : ℕ) → n ≤ a → f a ≡ None

-- f leads from numbers below n to numbers below n
abbrev pub StaysBelow : (ℕ → Option ℕ) → ℕ → Type 0
StaysBelow f n = (a m : ℕ) → a < n → f a ≡ Some m → m < n

-- where k moves from a lead, and None where fewer can be made
abbrev pub after : (ℕ → Option ℕ) → ℕ → ℕ → Option ℕ
after f zero a = Some a
after f (suc k) a = option_and_then (after f k) (f a)

-- whether at most k moves lead from a to b
abbrev pub meets_within : (ℕ → Option ℕ) → ℕ → ℕ → ℕ → Bool
meets_within f zero a b = a == b
meets_within f (suc k) a b = (a == b) || option_map_or (λ m. meets_within f k m b) (f a) false

-- the end that at most k moves reach from a, and None where they reach none
abbrev pub end_within : (ℕ → Option ℕ) → ℕ → ℕ → Option ℕ
end_within f zero a = option_map_or (λ m. None) (f a) (Some a)
end_within f (suc k) a = option_map_or (end_within f k) (f a) (Some a)
