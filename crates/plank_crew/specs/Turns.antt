-- What a worker's seat has come to between its turns.
use Rattle.std.specs.Prelude.{◌≡◌, ℕ, ◌+◌, ◌<◌, ◌≤◌, List, slice_index}
use Rattle.plank_bits.specs.Words.{has, IsWithin}
use Rattle.plank_board.specs.declared.views.View.{View}
use Rattle.plank_board.specs.Events.{IsWhole}

-- the words are the seat's whole look, and nothing was posted since
pub record HasLooked (words : ℕ) (found : List ℕ) (v : View) : Type 0 where
  pub whole : IsWhole words v
  pub look : found ≡ v.look
  pub marks : found ≡ v.marks

-- a seat has seen no less than before
pub record SeesMore (methods : ℕ) (before after : View) : Type 0 where
  pub marks : IsWithin (has before.marks) (has after.marks)
  pub noted : (m : ℕ) → m < methods → slice_index before.noted m ≤ slice_index after.noted m

-- a seat has not noted that the method is settled at the epoch of its look
abbrev pub IsBehind : View → ℕ → Type 0
IsBehind v m = slice_index v.noted m < v.epoch + 1
