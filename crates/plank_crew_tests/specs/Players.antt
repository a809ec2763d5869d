-- Seats that have looked.
use Rattle.std.specs.Prelude.{◌≡◌, ℕ, List, length}
use Rattle.atomic_table.specs.Seated.{TableId}
use Rattle.plank_board.specs.Events.{IsWhole}
use Rattle.plank_board.specs.Seats.{Seated}

-- a seat of the table for one, whose look is these words
pub record HasLook (table : TableId) (words : ℕ) (seat : Seated) (found : List ℕ) : Type 0 where
  pub at : seat.table ≡ table
  pub parts : seat.view.parts ≡ 1
  pub whole : IsWhole words seat.view
  pub look : found ≡ seat.view.look
  pub size : length found ≡ words
