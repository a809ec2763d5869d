-- The terms so far are placed.
use Rattle.std.proofs.Common.{◌≡◌, ◌⊎◌, ℕ, ◌<◌, true}
use Rattle.plank_order.specs.Rows.{relates}
use Rattle.plank_order.proofs.orders.Preorder.is_total.Given as goal

abbrev pub invariant-loop-a : goal.invariant-loop-a
invariant-loop-a l = (a : ℕ) → a < l.a → (b : ℕ) → b < l.self-inside.terms →
    (relates l.self-inside.at_most a b ≡ true) ⊎ (relates l.self-inside.less b a ≡ true)
