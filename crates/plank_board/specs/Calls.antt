-- What the calls of a board tell: looks, posts, and whether all is quiet.
use Rattle.std.specs.Prelude.{◌≡◌, ℕ, ◌+◌, ◌/◌, ◌<◌, ◌≤◌, Bool, true, false, List, slice_index}
use Rattle.plank_bits.specs.Words.{has}
use Rattle.plank_board.specs.declared.views.View.{View}
use Rattle.plank_board.specs.declared.answers.Posted.{Posted}
use Rattle.plank_board.specs.declared.answers.Posted.TheVariants.{Grown, Known, Settled}
use Rattle.plank_board.specs.declared.answers.Quiet.{Quiet}
use Rattle.plank_board.specs.declared.answers.Quiet.TheVariants.{All, Still, Moved}
use Rattle.plank_board.specs.Events.{IsWhole}
use Rattle.plank_board.specs.Seats.{Seated, Sits}

-- the same seat, with its parts
abbrev pub StaysSeated : (methods words : ℕ) → (ℕ → (ℕ → Bool) → ℕ → Type 0) → Seated → Seated → Type 0
StaysSeated methods words forces before after = (after.table ≡ before.table) × (after.view.parts ≡ before.view.parts) × Sits methods words forces after.view

-- a whole look, of which each load was made in this call, and the epoch's first
pub record IsLook (words : ℕ) (before after : View) : Type 0 where
  pub begun : before.events < after.epoch_at
  pub whole : IsWhole words after

-- what a look leaves as it was
pub record KeepsBesideLook (before after : View) : Type 0 where
  pub noted : after.noted ≡ before.noted
  pub raised : after.raised ≡ before.raised
  pub left : after.left ≡ before.left

-- what posts and questions leave as it was: the look
pub record KeepsLook (before after : View) : Type 0 where
  pub epoch : after.epoch ≡ before.epoch
  pub epoch_at : after.epoch_at ≡ before.epoch_at
  pub look : after.look ≡ before.look
  pub look_at : after.look_at ≡ before.look_at

-- a mark beyond the look was set in this call, or was found to be set
abbrev pub IsReached : View → View → ℕ → Type 0
IsReached before after k = before.events < slice_index after.reached_at (k / 64)

-- What a post tells. Settled: its method's settled word was raised in this call. Known: each mark beyond the look was set
-- when this seat's step reached its word, and it raised no epoch. Grown: a step of this call set a mark that was clear, and then the epoch was raised
abbrev pub IsPosted : Posted → ℕ → List ℕ → View → View → Type 0
IsPosted Settled m found before after = (before.epoch + 1 ≤ slice_index after.noted m) × (before.events < slice_index after.noted_at m)
IsPosted Known m found before after = (after.raised ≡ before.raised) × ((k : ℕ) → has found k ≡ true → has before.look k ≡ false → IsReached before after k × (has after.reached k ≡ true))
IsPosted Grown m found before after = ((k : ℕ) × (has found k ≡ true) × IsReached before after k × (has after.reached k ≡ false) × (slice_index after.reached_at (k / 64) < after.raised_at)) × (0 < after.raised)

-- the settled word of m, as it was loaded in this call
abbrev pub IsNoted : View → View → ℕ → Type 0
IsNoted before after m = before.events < slice_index after.noted_at m

-- each of the first n methods was found to be settled at the epoch of the look, in this call and before the epoch was loaded
abbrev pub AreSettled : ℕ → View → View → Type 0
AreSettled n before after = (m : ℕ) → m < n → IsNoted before after m × (slice_index after.noted_at m < after.found_at) × (before.epoch + 1 ≤ slice_index after.noted m)

-- What a question tells. All: the epoch was the look's, and the seat has left there. Still: m is the first that was not settled.
-- Moved: the epoch is another. The three exclude each other
abbrev pub IsQuiet : Quiet → ℕ → View → View → Type 0
IsQuiet (All e) methods before after = (e ≡ before.epoch) × AreSettled methods before after × (after.found ≡ e) × (after.left ≡ e + 1) × (after.raised < after.left)
IsQuiet (Still m) methods before after = (m < methods) × IsNoted before after m × (slice_index after.noted m < before.epoch + 1) × ((j : ℕ) → j < m → IsNoted before after j × (before.epoch + 1 ≤ slice_index after.noted j))
IsQuiet (Moved f) methods before after = AreSettled methods before after × (after.found ≡ f) × (before.epoch < f)
