-- What is known of the order of terms, the orders that meet it, and facts that have all that follows.
use Rattle.std.specs.Prelude.{◌≡◌, ◌↔◌, ℕ, ◌<◌, ◌≤◌, true, List}
use Rattle.plank_order.specs.Rows.{relates}

-- known facts of so many terms: a is at most b, and a is less than b
pub record OrderFacts : Type 0 where
  pub terms : ℕ
  pub at_most : List ℕ
  pub less : List ℕ

-- an order in which any two terms are comparable is a rank for each term, and each fact holds of the ranks
pub record Meets (k : OrderFacts) (rank : ℕ → ℕ) : Type 0 where
  pub at_most : (a b : ℕ) → relates k.at_most a b ≡ true → rank a ≤ rank b
  pub less : (a b : ℕ) → relates k.less a b ≡ true → rank a < rank b

-- two ranks order the terms below n alike
abbrev pub AreSameOrder : ℕ → (ℕ → ℕ) → (ℕ → ℕ) → Type 0
AreSameOrder n rank other = (a b : ℕ) → a < n → b < n → (rank a ≤ rank b) ↔ (other a ≤ other b)

-- exactly one order of the terms meets the facts
abbrev pub HasOneOrder : OrderFacts → Type 0
HasOneOrder k =
    (rank : ℕ → ℕ) × Meets k rank × ((other : ℕ → ℕ) → Meets k other → AreSameOrder k.terms rank other)

-- two orders that are not the same meet the facts
abbrev pub HasTwoOrders : OrderFacts → Type 0
HasTwoOrders k =
    (rank : ℕ → ℕ) × (other : ℕ → ℕ) × Meets k rank × Meets k other × (AreSameOrder k.terms rank other → ⊥)

-- the facts have all that follows from them, and do not contradict one another
pub record AreClosed (k : OrderFacts) : Type 0 where
  pub few : k.terms ≤ 24
  pub within : (a b : ℕ) → relates k.at_most a b ≡ true → b < 24
  pub reflexive : (a : ℕ) → a < 24 → relates k.at_most a a ≡ true
  pub transitive : (a b c : ℕ) → relates k.at_most a b ≡ true → relates k.at_most b c ≡ true → relates k.at_most a c ≡ true
  pub weaker : (a b : ℕ) → relates k.less a b ≡ true → relates k.at_most a b ≡ true
  pub less_first : (a b c : ℕ) → relates k.less a b ≡ true → relates k.at_most b c ≡ true → relates k.less a c ≡ true
  pub less_last : (a b c : ℕ) → relates k.at_most a b ≡ true → relates k.less b c ≡ true → relates k.less a c ≡ true
  pub irreflexive : (a : ℕ) → relates k.less a a ≡ true → ⊥
