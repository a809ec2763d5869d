-- What contracts see in a board and in a seat, and what holds of a seat between calls.
use Rattle.std.specs.Prelude.{◌≡◌, ℕ, ◌+◌, ◌*◌, ◌<◌, ◌≤◌, Bool, false, List, [], length, slice_index}
use Rattle.atomic_table.specs.Table.{Me}
use Rattle.atomic_table.specs.Seated.{TableId}
use Rattle.plank_bits.specs.Words.{has, IsWithin}
use Rattle.plank_board.specs.declared.views.View.{View}
use Rattle.plank_board.specs.Rule.{AreForced}

-- which board it is, and for how many seats
pub record Which : Type 0 where
  pub table : TableId
  pub seats : ℕ

-- of which board it is a seat, and what it has seen
pub record Seated : Type 0 where
  pub table : TableId
  pub view : View

-- a seat of the table, for one worker
abbrev pub IsSeatOfOne : TableId → Seated → Type 0
IsSeatOfOne table s = (s.table ≡ table) × (s.view.parts ≡ 1)

-- one list of words and one of settled words for each thing that is seen of them
abbrev pub IsShaped : ℕ → ℕ → View → Type 0
IsShaped methods words v =
    (length v.look ≡ words) × (length v.look_at ≡ words) × (length v.marks ≡ words) × (length v.reached ≡ words) × (length v.reached_at ≡ words) × (length v.noted ≡ methods) × (length v.noted_at ≡ methods)

-- what holds of all that a seat has seen, whatever the others do
pub record Sits (methods words : ℕ) (forces : ℕ → (ℕ → Bool) → ℕ → Type 0) (v : View) : Type 0 where
  pub parts : 0 < v.parts
  pub shape : IsShaped methods words v
  pub forced : AreForced methods words forces (has v.marks)
  pub looked : IsWithin (has v.look) (has v.marks)
  pub began : v.epoch ≤ v.found
  pub found : v.found ≤ 64 * words
  pub raised : v.raised ≤ 64 * words
  pub noted : (m : ℕ) → m < methods → slice_index v.noted m ≤ 64 * words + 1

-- the seat between calls: it is not in growth, and its fields are what its view says
abbrev pub IsIdle : (methods words : ℕ) → (ℕ → (ℕ → Bool) → ℕ → Type 0) → Me (Unit {0}) View → ℕ → List ℕ → List ℕ → Type 0
IsIdle methods words forces me epoch look noted =
    (me.1 ≡ []) × Sits methods words forces me.0 × (me.0.grows ≡ false) × (epoch ≡ me.0.epoch) × (look ≡ me.0.look) × (noted ≡ me.0.noted)
