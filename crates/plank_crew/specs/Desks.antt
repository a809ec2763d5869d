-- The seats of a crew.
use Rattle.std.specs.Prelude.{◌≡◌, ◌<◌, Bool, true}
use Rattle.plank_board.specs.Seats.{Seated}

-- a seat that has left, where it is said to, did so after its last raise
abbrev pub HasLeft : Bool → Seated → Type 0
HasLeft left s = left ≡ true → s.view.raised < s.view.left
