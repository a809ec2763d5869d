-- Partial and full assignments of two-valued parts: which full ones agree with a partial one.
use Rattle.std.specs.Prelude.{◌≡◌, ◌≤◌, ℕ, Bool, false, List, length, map, Option, Some, None, is_none, unwrap_or, slice_index_or, slice_set, count_by}

-- the value of a part, or None where it is open; a part past the last is no
abbrev pub value_at : List (Option Bool) → ℕ → Option Bool
value_at values part = slice_index_or values part (Some false)

-- the part has no value yet
abbrev pub IsOpen : List (Option Bool) → ℕ → Type 0
IsOpen values part = value_at values part ≡ None

-- how many parts have no value yet
abbrev pub open_count : List (Option Bool) → ℕ
open_count values = count_by is_none values

-- the values, with this value in the place of the part's
abbrev pub with_value : List (Option Bool) → ℕ → Bool → List (Option Bool)
with_value values part value = slice_set values part (Some value)

-- a full assignment that gives each decided part its value
pub record Agrees (values : List (Option Bool)) (full : ℕ → Bool) : Type 0 where
  pub decided : (part : ℕ) (value : Bool) → value_at values part ≡ Some value → full part ≡ value

-- the full assignment that a list spells, part by part; a part past the last is no
abbrev pub full_of : List Bool → ℕ → Bool
full_of found part = slice_index_or found part false

-- the values, with no for each open part
abbrev pub filled : List (Option Bool) → List Bool
filled values = map (λ value. unwrap_or value false) values

-- no full assignment of this kind agrees with the values
pub record NoneAgrees (meets : (ℕ → Bool) → Type 0) (values : List (Option Bool)) : Type 0 where
  pub contradicts : (full : ℕ → Bool) → meets full → Agrees values full → ⊥

-- each full assignment that agrees with the values is of this kind
pub record AllAgree (meets : (ℕ → Bool) → Type 0) (values : List (Option Bool)) : Type 0 where
  pub all : (full : ℕ → Bool) → Agrees values full → meets full

-- the new values follow from the old: none of this kind is lost, and none that disagreed is let in
pub record Narrows (meets : (ℕ → Bool) → Type 0) (old new : List (Option Bool)) : Type 0 where
  pub keeps : (full : ℕ → Bool) → meets full → Agrees old full → Agrees new full
  pub within : (full : ℕ → Bool) → Agrees new full → Agrees old full
  pub not_wider : open_count new ≤ open_count old
  pub same_length : length new ≡ length old
