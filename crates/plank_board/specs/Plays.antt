-- What one event tells the seat that makes it.
use Rattle.std.specs.Prelude.{◌≡◌, ℕ, ◌+◌, ◌<◌, ◌≤◌, Bool, [], slice_index}
use Rattle.atomic_table.specs.Table.{Me, Step, State}
use Rattle.atomic_table.specs.Seated.{TableId}
use Rattle.atomic_table.specs.declared.shared.Seat.{Seat}
use Rattle.plank_bits.specs.Words.{has, IsWithin}
use Rattle.plank_board.specs.declared.views.View.{View}
use Rattle.plank_board.specs.Events.{Event, begins, loads, sets, raises, notes, settles, asks, leaves, place, seen}
use Rattle.plank_board.specs.Rule.{IsKept}
use Rattle.plank_board.specs.Seats.{Sits}

-- the rule of the table whose words and views these are
abbrev pub Holds : (methods words : ℕ) → (ℕ → (ℕ → Bool) → ℕ → Type 0) → (ℕ → (ℕ → Bool) → Type 0) → ℕ → State (Unit {0}) View → Type 0
Holds methods words forces still seats s = IsKept methods words forces still seats s.words s.views

module _ (methods words : ℕ) (forces : ℕ → (ℕ → Bool) → ℕ → Type 0) where
  -- what a seat has seen only grows; at the epoch, which is word 0, it finds no less than it found or raised before
  pub record IsFurther (at : ℕ) (v : View) (n : ℕ) (w : View) : Type 0 where
    pub marks : IsWithin (has v.marks) (has w.marks)
    pub noted : (m : ℕ) → m < methods → slice_index v.noted m ≤ slice_index w.noted m
    pub found : v.found ≤ w.found
    pub raised : v.raised ≤ w.raised
    pub epoch : at ≡ 0 → (v.found ≤ n) × (v.raised ≤ n)

  -- of an event at which n was found: the seat has seen it
  pub record IsMade (e : Event) (before : Me (Unit {0}) View) (n : ℕ) (after : Me (Unit {0}) View) : Type 0 where
    pub seen : after ≡ (seen before.0 e n, [])
    pub sits : Sits methods words forces after.0
    pub further : IsFurther (place methods e) before.0 n after.0

  -- a seat of the table, ready for an event
  pub record IsReady (table : TableId) (seat : Seat (Unit {0}) View) : Type 0 where
    pub at : seat.table_id ≡ table
    pub bare : seat.me.1 ≡ []
    pub sits : Sits methods words forces seat.me.0

  -- what a table's step says of it
  abbrev pub Play : Type 1
  Play = Step (Unit {0}) → Me (Unit {0}) View → ℕ → Me (Unit {0}) View → Type 0

  abbrev pub begin_told : Play
  begin_told st = IsMade begins

  abbrev pub ask_told : Play
  ask_told st = IsMade asks

  abbrev pub leave_told : Play
  leave_told st = IsMade leaves

  abbrev pub raise_told : Play
  raise_told st = IsMade raises

  abbrev pub load_told : Play
  load_told st before n after = (i : ℕ) → st.word ≡ methods + 1 + i → IsMade (loads i) before n after

  abbrev pub set_told : Play
  set_told st before n after = (m i : ℕ) → st.word ≡ methods + 1 + i → IsMade (sets m i st.first) before n after

  abbrev pub note_told : Play
  note_told st before n after = (m : ℕ) → st.word ≡ m + 1 → IsMade (notes m) before n after

  abbrev pub settle_told : Play
  settle_told st before n after = (m : ℕ) → st.word ≡ m + 1 → IsMade (settles m) before n after
