-- Rows of the example order: what two known parts say of the third.
use Rattle.std.proofs.Common.{◌≡◌, ◌+◌, ◌*◌, ◌/◌, ◌%◌, ℕ, Bool, true, false}
use Rattle.std.specs.Prelude.{List, Option, Some, not, ◌&&◌, ◌||◌}
use Rattle.plank_search.specs.Assignments.{value_at, IsOpen, with_value, Narrows}
use Rattle.plank_search.specs.ExampleOrder.{order_row}
use Rattle.plank_search.proofs.Narrowing.{with_value-narrows}

third-follows : (a b c : Bool) → a ≡ true → b ≡ true → (not (a && b) || c) ≡ true → c ≡ true
third-follows true true c ha hb h = h
third-follows true false c ha hb h = cc
third-follows false b c ha hb h = cc

-- the third part of a row follows from the two others
module _ (row : ℕ) (values : List (Option Bool)) (first : value_at values (row / 12) ≡ Some true) (second : value_at values (row % 144) ≡ Some true) where
  pub row-puts : IsOpen values (row / 144 * 12 + row % 12) → Narrows (λ full. order_row row full ≡ true) values (with_value values (row / 144 * 12 + row % 12) true)
  row-puts open_part = with_value-narrows values (row / 144 * 12 + row % 12) true open_part
      (λ full meets agrees. third-follows (full (row / 12)) (full (row % 144)) (full (row / 144 * 12 + row % 12))
      (agrees.decided (row / 12) true first) (agrees.decided (row % 144) true second) meets)
