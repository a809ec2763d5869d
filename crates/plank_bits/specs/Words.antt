-- Sets of numbers, as tests and as lists of words of 64 bits.
use Rattle.std.specs.Prelude.{◌≡◌, ℕ, zero, suc, ◌+◌, ◌/◌, ◌%◌, ◌<◌, ◌≤◌, ◌==◌, Bool, true, false, cond, List, slice_index}
use Rattle.std.specs.Int.{bit_at}

-- whether bit k of a word is set
abbrev pub is_set : ℕ → ℕ → Bool
is_set word k = bit_at word k == 1

-- whether i is in the set of the words: word i / 64 has the numbers from 64 (i / 64) on, the least in its lowest bit
abbrev pub has : List ℕ → ℕ → Bool
has words i = is_set (slice_index words (i / 64)) (i % 64)

-- each member of the first set is one of the second
abbrev pub IsWithin : (ℕ → Bool) → (ℕ → Bool) → Type 0
IsWithin a b = (i : ℕ) → a i ≡ true → b i ≡ true

-- how many numbers below n are in a set
unfoldable pub count_below : (ℕ → Bool) → ℕ → ℕ
count_below a zero = 0
count_below a (suc n) = count_below a n + cond (a n) 1 0

-- k is the least member of a set that is at least i
pub record IsLeastFrom (a : ℕ → Bool) (i k : ℕ) : Type 0 where
  pub from : i ≤ k
  pub member : a k ≡ true
  pub least : (j : ℕ) → i ≤ j → j < k → a j ≡ false
