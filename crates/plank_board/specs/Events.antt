-- The events of a board: each is one operation on one word, by one seat, and changes that word and what the seat has seen.
use Rattle.std.specs.Prelude.{◌≡◌, ◌≢◌, ℕ, suc, ◌+◌, ◌-◌, ◌*◌, ◌^◌, ◌<◌, ◌==◌, max, Bool, true, false, if◌then◌else◌, List, [], ◌∷◌, ◌++◌, replicate, slice_index, slice_set, bit_or}
use mathlib.Core.Option.{some}
use lib.ListN.{get_elem?}
use Rattle.plank_bits.specs.Words.{is_set, has}
use Rattle.plank_board.specs.declared.views.View.{View}
use Rattle.plank_board.specs.Words.{bits_of_both}

-- the look of a seat is whole: since it began, each of so many words of marks was loaded
pub record IsWhole (words : ℕ) (v : View) : Type 0 where
  pub begun : 0 < v.epoch_at
  pub loaded : (i : ℕ) → i < words → v.epoch_at < slice_index v.look_at i

-- What a seat does at a word: it begins a look by the epoch, loads a word of marks, sets bits of one, raises the epoch, loads
-- the settled word of a method or raises it. Where it asks whether it is done, it loads the epoch again, and leaves
-- where it has noted that all methods are settled
pub data Event : Type 0 where
  begins : Event
  loads : ℕ → Event
  sets : ℕ → ℕ → ℕ → Event
  raises : Event
  notes : ℕ → Event
  settles : ℕ → Event
  asks : Event
  leaves : Event

-- the word that it is at
abbrev pub place : ℕ → Event → ℕ
place methods (loads i) = methods + 1 + i
place methods (sets m i bits) = methods + 1 + i
place methods (notes m) = m + 1
place methods (settles m) = m + 1
place methods begins = 0
place methods raises = 0
place methods asks = 0
place methods leaves = 0

-- what becomes of that word, where it was n
abbrev pub written : View → Event → ℕ → ℕ
written v (sets m i bits) n = bit_or n bits
written v raises n = n + 1
written v (settles m) n = max n (v.epoch + 1)
written v begins n = n
written v (loads i) n = n
written v (notes m) n = n
written v asks n = n
written v leaves n = n

-- what the seat has seen then
abbrev pub seen : View → Event → ℕ → View
seen v begins n = record v { events = suc v.events; epoch = n; epoch_at = suc v.events; found = n; found_at = suc v.events }
seen v (loads i) n = record v { events = suc v.events; look = slice_set v.look i n; look_at = slice_set v.look_at i (suc v.events); marks = slice_set v.marks i n }
seen v (sets m i bits) n =
    record v {
      events = suc v.events;
      marks = slice_set v.marks i (bit_or n bits);
      reached = slice_set v.reached i n;
      reached_at = slice_set v.reached_at i (suc v.events);
      grows = (if bit_or n bits == n then v.grows else true);
    }
seen v raises n = record v { events = suc v.events; grows = false; raised = n + 1; raised_at = suc v.events }
seen v (notes m) n = record v { events = suc v.events; noted = slice_set v.noted m n; noted_at = slice_set v.noted_at m (suc v.events) }
seen v (settles m) n = record v { events = suc v.events; noted = slice_set v.noted m (max n (v.epoch + 1)); noted_at = slice_set v.noted_at m (suc v.events) }
seen v asks n = record v { events = suc v.events; found = n; found_at = suc v.events }
seen v leaves n = record v { events = suc v.events; found = n; found_at = suc v.events; left = (if n == v.epoch then v.epoch + 1 else v.left) }

-- a seat of so many parts, before its first event
abbrev pub newcomer : ℕ → ℕ → ℕ → View
newcomer methods words parts =
    record {
      parts = parts;
      events = 0;
      epoch = 0;
      epoch_at = 0;
      found = 0;
      found_at = 0;
      look = replicate words 0;
      look_at = replicate words 0;
      marks = replicate words 0;
      reached = replicate words 0;
      reached_at = replicate words 0;
      grows = false;
      raised = 0;
      raised_at = 0;
      noted = replicate methods 0;
      noted_at = replicate methods 0;
      left = 0;
    }

-- a seat that another took in: it has no parts
abbrev pub spent : View
spent = newcomer 0 0 0

-- a seat is cut in two: the new one has one part, and has seen the same
abbrev pub kept_part : View → View
kept_part v = record v { events = suc v.events; parts = v.parts - 1 }

abbrev pub given_part : View → View
given_part v = record v { parts = 1 }

-- a seat takes in another: it keeps its look, has the parts and the marks of both, and the later raise and leaving
abbrev pub joined : View → View → View
joined v w = record v { events = suc v.events; parts = v.parts + w.parts; marks = bits_of_both v.marks w.marks; raised = max v.raised w.raised; left = max v.left w.left }

-- methods, words, what each method forces, and where it is still
module _ (methods words : ℕ) (forces : ℕ → (ℕ → Bool) → ℕ → Type 0) (still : ℕ → (ℕ → Bool) → Type 0) where
  -- when a seat may do it: bits are marks that a method forces at its whole look; a method is settled where it is still there
  abbrev pub May : View → Event → Type 0
  May v (sets m i bits) = (i < words) × (m < methods) × (bits < 2 ^ 64) × IsWhole words v × ((j : ℕ) → is_set bits j ≡ true → forces m (has v.look) (64 * i + j))
  May v raises = v.grows ≡ true
  May v (settles m) = (m < methods) × IsWhole words v × still m (has v.look)
  May v begins = Unit {0}
  May v (loads i) = i < words
  May v (notes m) = m < methods
  May v asks = Unit {0}
  May v leaves = (m : ℕ) → m < methods → v.epoch < slice_index v.noted m

  -- one event leads from words and views to others
  pub data Happens (ws : List ℕ) (vs : List View) (us : List ℕ) (ns : List View) : Type 0 where
    at_word : (id : ℕ) (v : View) (e : Event) → get_elem? vs id ≡ some v → 0 < v.parts → slice_index ws (place methods e) < 2 ^ 64 → May v e → us ≡ slice_set ws (place methods e) (written v e (slice_index ws (place methods e))) → ns ≡ slice_set vs id (seen v e (slice_index ws (place methods e))) → Happens ws vs us ns
    by_split : (id : ℕ) (v : View) → get_elem? vs id ≡ some v → 1 < v.parts → v.grows ≡ false → us ≡ ws → ns ≡ slice_set vs id (kept_part v) ++ given_part v ∷ [] → Happens ws vs us ns
    by_join : (id other : ℕ) (v w : View) → get_elem? vs id ≡ some v → other ≢ id → get_elem? vs other ≡ some w → 0 < v.parts → v.grows ≡ false → w.grows ≡ false → us ≡ ws → ns ≡ slice_set (slice_set vs id (joined v w)) other spent → Happens ws vs us ns

  -- any events of any number of seats, from words of 0 and one seat
  pub data Follows (seats : ℕ) : List ℕ → List View → Type 0 where
    opened : (ws : List ℕ) (vs : List View) → ws ≡ replicate (methods + 1 + words) 0 → vs ≡ newcomer methods words seats ∷ [] → Follows seats ws vs
    after : (ws : List ℕ) (vs : List View) (us : List ℕ) (ns : List View) → Follows seats ws vs → Happens ws vs us ns → Follows seats us ns
