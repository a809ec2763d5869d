-- The order of keys is total and transitive, and lies between its ends.
use Rattle.std.proofs.Common.{◌≡◌, ◌⊎◌, ℕ, ◌≤◌, ℤ, pos, negsuc, arith, true, false, not, refl, sym, ◌∙◌, ap, inl, inr}
use Rattle.std.proofs.lemmas.Bool.{false≢true, true≢false, cases_lt, le-ltb, ltb-false, cases_Bool, not-true}
use Rattle.std.specs.Prelude.{nat_lt, int_lt}
use Rattle.plank_base.specs.declared.keys.Key.{Key}
use Rattle.plank_base.specs.Keys.{is_at_most}

-- ---- numbers

-- no number lies below itself
pub not_below_itself : (j : ℤ) → int_lt j j ≡ false
not_below_itself (pos n) = le-ltb n n (omega arith)
not_below_itself (negsuc n) = le-ltb n n (omega arith)

-- a number lies at or below another, or the other at or below it
total_numbers : (m n : ℕ) → (not (nat_lt n m) ≡ true) ⊎ (not (nat_lt m n) ≡ true)
total_numbers m n =
    elim (cases_lt m n) [
      | inl below ↦ let most : m ≤ n = omega arith in inl (ap not (le-ltb n m most))
      | inr above ↦ inr (ap not (le-ltb m n above))
    ]

total_integers : (x y : ℤ) → (not (int_lt y x) ≡ true) ⊎ (not (int_lt x y) ≡ true)
total_integers (pos m) (pos n) = total_numbers m n
total_integers (pos m) (negsuc n) = inr refl
total_integers (negsuc m) (pos n) = inl refl
total_integers (negsuc m) (negsuc n) = total_numbers n m

transitive_numbers : (l m n : ℕ) → not (nat_lt m l) ≡ true → not (nat_lt n m) ≡ true → not (nat_lt n l) ≡ true
transitive_numbers l m n p q =
    let first : l ≤ m = ltb-false m l (not-true (nat_lt m l) p) in
    let second : m ≤ n = ltb-false n m (not-true (nat_lt n m) q) in
    let both : l ≤ n = omega arith in
    ap not (le-ltb n l both)

transitive_integers : (x y z : ℤ) → not (int_lt y x) ≡ true → not (int_lt z y) ≡ true → not (int_lt z x) ≡ true
transitive_integers (pos l) (pos m) (pos n) p q = transitive_numbers l m n p q
transitive_integers (pos l) (pos m) (negsuc n) p q = absurd (false≢true q)
transitive_integers (pos l) (negsuc m) z p q = absurd (false≢true p)
transitive_integers (negsuc l) (pos m) (pos n) p q = refl
transitive_integers (negsuc l) (pos m) (negsuc n) p q = absurd (false≢true q)
transitive_integers (negsuc l) (negsuc m) (pos n) p q = refl
transitive_integers (negsuc l) (negsuc m) (negsuc n) p q = transitive_numbers n m l q p

-- ---- keys

pub total_keys : (a b : Key) → (is_at_most a b ≡ true) ⊎ (is_at_most b a ≡ true)
total_keys Key.Min Key.Min = inl refl
total_keys Key.Min (Key.Num y) = inl refl
total_keys Key.Min Key.Max = inl refl
total_keys (Key.Num x) Key.Min = inr refl
total_keys (Key.Num x) (Key.Num y) = total_integers x y
total_keys (Key.Num x) Key.Max = inl refl
total_keys Key.Max b = inr refl

pub transitive_keys : (a b c : Key) → is_at_most a b ≡ true → is_at_most b c ≡ true → is_at_most a c ≡ true
transitive_keys a b Key.Max p q = refl
transitive_keys Key.Min b Key.Min p q = refl
transitive_keys Key.Min b (Key.Num z) p q = refl
transitive_keys (Key.Num x) Key.Min c p q = absurd (false≢true p)
transitive_keys (Key.Num x) (Key.Num y) Key.Min p q = absurd (false≢true q)
transitive_keys (Key.Num x) (Key.Num y) (Key.Num z) p q = transitive_integers x y z p q
transitive_keys (Key.Num x) Key.Max Key.Min p q = absurd (false≢true q)
transitive_keys (Key.Num x) Key.Max (Key.Num z) p q = absurd (false≢true q)
transitive_keys Key.Max Key.Min c p q = absurd (false≢true p)
transitive_keys Key.Max (Key.Num y) c p q = absurd (false≢true p)
transitive_keys Key.Max Key.Max Key.Min p q = absurd (false≢true q)
transitive_keys Key.Max Key.Max (Key.Num z) p q = absurd (false≢true q)

-- ---- ends

pub min_at_most : (a : Key) → is_at_most Key.Min a ≡ true
min_at_most Key.Min = refl
min_at_most (Key.Num x) = refl
min_at_most Key.Max = refl

pub at_most_max : (a : Key) → is_at_most a Key.Max ≡ true
at_most_max a = refl

-- a key that does not lie at or below another lies above it
pub above : (a b : Key) → is_at_most a b ≡ false → is_at_most b a ≡ true
above a b not_so = elim (total_keys a b) [ inl e ↦ absurd (true≢false (sym e ∙ not_so)) | inr e ↦ e ]

-- what lies strictly below lies below all that is at or above that
pub less_then : (a b c : Key) → is_at_most b a ≡ false → is_at_most b c ≡ true → is_at_most c a ≡ false
less_then a b c less most = elim (cases_Bool (is_at_most c a)) [
  | inl e ↦ absurd (true≢false (sym (transitive_keys b c a most e) ∙ less))
  | inr e ↦ e
]

-- two numbers that lie at or below each other are one
same_integers : (x y : ℤ) → not (int_lt y x) ≡ true → not (int_lt x y) ≡ true → x ≡ y
same_integers (pos m) (pos n) p q =
    let first : m ≤ n = ltb-false n m (not-true (nat_lt n m) p) in
    let second : n ≤ m = ltb-false m n (not-true (nat_lt m n) q) in
    ap pos (omega arith)
same_integers (pos m) (negsuc n) p q = absurd (false≢true p)
same_integers (negsuc m) (pos n) p q = absurd (false≢true q)
same_integers (negsuc m) (negsuc n) p q =
    let first : n ≤ m = ltb-false m n (not-true (nat_lt m n) p) in
    let second : m ≤ n = ltb-false n m (not-true (nat_lt n m) q) in
    ap negsuc (omega arith)

pub same_numbers : (x y : ℤ) → is_at_most (Key.Num x) (Key.Num y) ≡ true → is_at_most (Key.Num y) (Key.Num x) ≡ true → x ≡ y
same_numbers x y p q = same_integers x y p q
