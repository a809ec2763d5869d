-- How far the loops of the calls have come: what one seat has loaded, noted and set so far.
use Rattle.std.specs.Prelude.{◌≡◌, ℕ, ◌/◌, ◌<◌, ◌≤◌, Bool, true, false, List, slice_index}
use Rattle.plank_bits.specs.Words.{has, IsWithin}
use Rattle.plank_board.specs.declared.views.View.{View}
use Rattle.plank_board.specs.Seats.{Sits}
use Rattle.plank_board.specs.Calls.{IsReached, IsNoted}

module _ (methods words : ℕ) (forces : ℕ → (ℕ → Bool) → ℕ → Type 0) where
  -- the first n words of marks are loaded
  pub record AreLoaded (before after : View) (n : ℕ) : Type 0 where
    pub sits : Sits methods words forces after
    pub same : after ≡ record before { events = after.events; look = after.look; look_at = after.look_at; marks = after.marks }
    pub later : before.events ≤ after.events
    pub loaded : (i : ℕ) → i < n → before.events < slice_index after.look_at i
    pub marks : (i : ℕ) → i < n → slice_index after.marks i ≡ slice_index after.look i
    pub kept : IsWithin (has before.marks) (has after.marks)

  -- the first n settled words are noted
  pub record AreNoted (before after : View) (n : ℕ) : Type 0 where
    pub sits : Sits methods words forces after
    pub same : after ≡ record before { events = after.events; noted = after.noted; noted_at = after.noted_at }
    pub later : before.events ≤ after.events
    pub loaded : (m : ℕ) → m < n → IsNoted before after m × (slice_index after.noted_at m ≤ after.events)
    pub more : (m : ℕ) → m < methods → slice_index before.noted m ≤ slice_index after.noted m

  -- a mark that was clear when the seat's step reached its word
  pub record IsNew (found : List ℕ) (before after : View) (n k : ℕ) : Type 0 where
    pub word : k / 64 < n
    pub there : has found k ≡ true
    pub reached : IsReached before after k
    pub clear : has after.reached k ≡ false
    pub until : slice_index after.reached_at (k / 64) ≤ after.events

  -- the marks that were found in the first n words are set
  pub record AreSet (found : List ℕ) (before after : View) (n : ℕ) : Type 0 where
    pub sits : Sits methods words forces after
    pub same : after ≡ record before { events = after.events; marks = after.marks; reached = after.reached; reached_at = after.reached_at; grows = after.grows }
    pub later : before.events ≤ after.events
    pub seen : (k : ℕ) → k / 64 < n → has found k ≡ true → has after.marks k ≡ true
    pub reached : (k : ℕ) → k / 64 < n → has found k ≡ true → has before.look k ≡ false → IsReached before after k × (after.grows ≡ false → has after.reached k ≡ true)
    pub grown : after.grows ≡ true → (k : ℕ) × IsNew found before after n k
    pub kept : IsWithin (has before.marks) (has after.marks)
