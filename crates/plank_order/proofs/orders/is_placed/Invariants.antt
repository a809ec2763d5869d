-- The terms so far are placed.
use Rattle.std.proofs.Common.{◌≡◌, ◌⊎◌, ℕ, ◌<◌, true}
use Rattle.plank_order.specs.Rows.{relates}
use Rattle.plank_order.proofs.orders.is_placed.Given as goal

abbrev pub invariant-loop-b : goal.invariant-loop-b
invariant-loop-b l =
    (b : ℕ) → b < l.b → (relates l.at_most l.a b ≡ true) ⊎ (relates l.less b l.a ≡ true)
