-- What is known of the equality of names, the partitions that meet it, and facts that have all that follows.
use Rattle.std.specs.Prelude.{◌≡◌, ◌≢◌, ℕ, ◌<◌, ◌≤◌, true, List}
use Rattle.plank_order.specs.Rows.{relates}

-- known facts of so many names: a and b are the same, and a and b are apart
pub record PartitionFacts : Type 0 where
  pub names : ℕ
  pub same : List ℕ
  pub apart : List ℕ

-- a partition is a group for each name; it meets the facts where each holds of the groups
pub record Meets (k : PartitionFacts) (group : ℕ → ℕ) : Type 0 where
  pub same : (a b : ℕ) → relates k.same a b ≡ true → group a ≡ group b
  pub apart : (a b : ℕ) → relates k.apart a b ≡ true → group a ≢ group b

-- the facts have all that follows from them, and do not contradict one another
pub record AreClosed (k : PartitionFacts) : Type 0 where
  pub few : k.names ≤ 16
  pub reflexive : (a : ℕ) → a < 16 → relates k.same a a ≡ true
  pub symmetric : (a b : ℕ) → relates k.same a b ≡ true → relates k.same b a ≡ true
  pub transitive : (a b c : ℕ) → relates k.same a b ≡ true → relates k.same b c ≡ true → relates k.same a c ≡ true
  pub apart_symmetric : (a b : ℕ) → relates k.apart a b ≡ true → relates k.apart b a ≡ true
  pub apart_same : (a b c : ℕ) → relates k.apart a b ≡ true → relates k.same b c ≡ true → relates k.apart a c ≡ true
  pub named : (a b : ℕ) → relates k.apart a b ≡ true → relates k.same b b ≡ true
  pub irreflexive : (a : ℕ) → relates k.apart a a ≡ true → ⊥
