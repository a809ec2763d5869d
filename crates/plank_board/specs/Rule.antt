-- What holds of a board between any two events.
use Rattle.std.specs.Prelude.{◌≡◌, ℕ, ◌+◌, ◌*◌, ◌^◌, ◌<◌, ◌≤◌, Bool, true, false, cond, List, length, sum_by, slice_index}
use mathlib.Core.Option.{some}
use lib.ListN.{get_elem?}
use Rattle.plank_bits.specs.Words.{has, IsWithin, count_below}
use Rattle.plank_bits.specs.Forced.{IsClosed}
use Rattle.plank_board.specs.declared.views.View.{View}
use Rattle.plank_board.specs.Words.{epoch, settled, mark_word, marks}

-- how many seats have set clear marks and not yet raised the epoch
abbrev pub growing : List View → ℕ
growing vs = sum_by (λ (v : View). cond v.grows 1 0) vs

abbrev pub parts_of : List View → ℕ
parts_of vs = sum_by (λ (v : View). v.parts) vs

module _ (methods words : ℕ) (forces : ℕ → (ℕ → Bool) → ℕ → Type 0) where
  -- only marks of the least closed set are there
  abbrev pub AreForced : (ℕ → Bool) → Type 0
  AreForced a = (c : ℕ → Bool) → IsClosed forces methods c → IsWithin a c

  -- what a seat has seen, beside the words
  pub record Fits (ws : List ℕ) (growth : ℕ) (v : View) : Type 0 where
    pub marked : IsWithin (has v.marks) (marks methods ws)
    pub looked : IsWithin (has v.look) (marks methods ws)
    pub began : v.epoch ≤ v.found
    pub found : v.found ≤ epoch ws
    pub raised : v.raised ≤ epoch ws
    pub noted : (m : ℕ) → m < methods → slice_index v.noted m ≤ settled ws m
    pub left : (m : ℕ) → m < methods → v.left ≤ settled ws m
    pub shape : length v.look ≡ length v.look_at
    pub loaded : (i : ℕ) → slice_index v.look_at i ≤ v.events
    pub fresh : v.epoch ≡ epoch ws → growth ≡ 0 → (i : ℕ) → v.epoch_at < slice_index v.look_at i → slice_index v.look i ≡ mark_word methods ws i
    pub idle : v.parts ≡ 0 → (v.grows ≡ false) × (v.raised ≡ 0)

  module _ (still : ℕ → (ℕ → Bool) → Type 0) where
    -- the words, where so many seats are in growth
    pub record AreSound (ws : List ℕ) (growth : ℕ) : Type 0 where
      pub many : length ws ≡ methods + 1 + words
      pub few : words < 2 ^ 32
      pub forced : AreForced (marks methods ws)
      pub raises : epoch ws + growth ≤ count_below (marks methods ws) (64 * words)
      pub settles : (m : ℕ) → m < methods → settled ws m ≤ epoch ws + 1
      pub quiet : growth ≡ 0 → (m : ℕ) → m < methods → settled ws m ≡ epoch ws + 1 → still m (marks methods ws)

    -- The rule. The epoch is 0 or the last raise of some seat: nothing below it bounds all of them
    pub record IsKept (seats : ℕ) (ws : List ℕ) (vs : List View) : Type 0 where
      pub sound : AreSound ws (growing vs)
      pub raised : (bound : ℕ) → ((id : ℕ) (v : View) → get_elem? vs id ≡ some v → v.raised ≤ bound) → epoch ws ≤ bound
      pub shared : parts_of vs ≡ seats
      pub each : (id : ℕ) (v : View) → get_elem? vs id ≡ some v → Fits ws (growing vs) v

-- some seat has left, none is in growth, and none raised the epoch later than it left
pub record HaveLeft (vs : List View) : Type 0 where
  pub some_left : (id : ℕ) × (v : View) × (get_elem? vs id ≡ some v) × (0 < v.left)
  pub grown : growing vs ≡ 0
  pub later : (id : ℕ) (v : View) → get_elem? vs id ≡ some v → 0 < v.raised → v.raised < v.left
