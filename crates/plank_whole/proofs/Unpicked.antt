-- Of stop nodes that no chain has nothing is asked.
use Rattle.std.proofs.Common.{◌≡◌, ℕ, ◌+◌, ◌*◌, ◌<◌, Bool, true, false, not, refl, ◌∙◌, ap, subst, arith}
use Rattle.std.specs.Prelude.{◌&&◌, nat_lt, slice_index_or}
use Rattle.std.specs.List.{list_all}
use Rattle.std.proofs.lemmas.Bool.{true≢false, and_parts, and_from, ltb-true}
use Rattle.plank_pic.specs.declared.parts.KeyName.{KeyName}
use Rattle.plank_pic.specs.declared.parts.Part.{Part}
use Rattle.plank_pic.specs.Pictures.{is_picked, is_picked_from, picks_from}
use Rattle.plank_pic.specs.Lawful.{part_fits, slot_count}
use Rattle.plank_pic.proofs.Below.{none_there}
use Rattle.plank_lawful.specs.declared.families.WalkRule.{WalkRule}
use Rattle.plank_lawful.specs.declared.families.ChainRule.{ChainRule}
use Rattle.plank_lawful.specs.declared.families.KeptRule.{KeptRule}
use Rattle.plank_lawful.specs.declared.families.Family.{Family}
use Rattle.plank_lawful.specs.Indexes.{key_at}
use Rattle.plank_lawful.specs.Lists.{rules_by_third}
use Rattle.plank_lawful.proofs.Asked.{each_passes}
use Rattle.plank_lawful.proofs.Tests.{no_of}
use Rattle.plank_parts.specs.Codes.{part_code, key_digit, stop_digit}
use Rattle.plank_whole.specs.declared.wholes.Picture.{Picture}
use Rattle.plank_whole.specs.Wholes.{frame_of, shown}
use Rattle.plank_whole.specs.Judging.{meets}
use Rattle.plank_whole.specs.Cells.{is_unsaid, row_is_unsaid, are_unsaid, chain_picks_neither}
use Rattle.plank_whole.proofs.Meeting.{third_meets}
use Rattle.plank_whole.proofs.Idle.{off, row_code}

not_both_off : (a b : Bool) → a ≡ false → not (a && b) ≡ true
not_both_off true b e = absurd (true≢false e)
not_both_off false b e = refl

and_off : (a b : Bool) → (a ≡ true → b ≡ false) → (a && b) ≡ false
and_off true b h = h refl
and_off false b h = refl

key_digit_small : (k : KeyName) → key_digit k < 3
key_digit_small KeyName.Own = omega arith
key_digit_small KeyName.Other = omega arith
key_digit_small KeyName.Any = omega arith

pub picks_code_small : (k : KeyName) (i s : ℕ) → i < 256 → s < 256 → part_code (Part.Picks k i 0 s) < 500000
picks_code_small k i s hi hs = let few : key_digit k < 3 = key_digit_small k in omega arith

-- ---- one chain

module _ (w : Picture) (k : KeyName) (i s : ℕ) (none : row_is_unsaid w.said w.shape.names (part_code (Part.Picks k i 0 s)) ≡ true) where
  cell_unsaid : (j : ℕ) → j < w.shape.names → slice_index_or w.said (part_code (Part.Picks k i j s)) false ≡ false
  cell_unsaid j hj =
      ap (λ code. slice_index_or w.said code false) (row_code (11 + stop_digit k s) i j)
      ∙ no_of (slice_index_or w.said (part_code (Part.Picks k i 0 s) + j) false) (each_passes (is_unsaid w.said (part_code (Part.Picks k i 0 s))) w.shape.names none j hj)

  pub unsaid_from : (j : ℕ) → shown w (Part.Picks k i j s) ≡ false
  unsaid_from j =
      and_off (part_fits (frame_of w) (Part.Picks k i j s)) (slice_index_or w.said (part_code (Part.Picks k i j s)) false) (λ fits.
      let names = and_parts (nat_lt i (frame_of w).names && nat_lt j (frame_of w).names) (nat_lt s (slot_count (frame_of w))) fits in
      let both = and_parts (nat_lt i (frame_of w).names) (nat_lt j (frame_of w).names) names.0 in
      cell_unsaid j (ltb-true j (frame_of w).names both.1))

-- ---- all chains

first_code : (base i : ℕ) → (base * 16 + i) * 32 + 0 ≡ (base * 16 + 0) * 32 + 0 + 32 * i
first_code base i = omega arith

module _ (w : Picture) (k : KeyName) (s : ℕ) (none : are_unsaid w.said w.shape.names (part_code (Part.Picks k 0 0 s)) ≡ true) where
  row_unsaid : (i : ℕ) → i < w.shape.names → row_is_unsaid w.said w.shape.names (part_code (Part.Picks k i 0 s)) ≡ true
  row_unsaid i hi =
      ap (row_is_unsaid w.said w.shape.names) (first_code (11 + stop_digit k s) i)
      ∙ each_passes (λ i. row_is_unsaid w.said w.shape.names (part_code (Part.Picks k 0 0 s) + 32 * i)) w.shape.names none i hi

  pub unpicked : is_picked (frame_of w) (shown w) k s ≡ false
  unpicked =
      none_there (is_picked_from (frame_of w) (shown w) k s) (frame_of w).names (λ i hi.
      none_there (picks_from (shown w) k s i) (frame_of w).names (λ j hj. unsaid_from w k i s (row_unsaid i hi) j))

-- ---- what is asked of them

-- the key of an index
pub of_index : (w : Picture) (a b : ℕ) (k : KeyName) → k ≡ key_at a → are_unsaid w.said w.shape.names (part_code (Part.Picks k 0 0 b)) ≡ true → are_unsaid w.said w.shape.names (part_code (Part.Picks (key_at a) 0 0 b)) ≡ true
of_index w a b k same none = subst (λ key. are_unsaid w.said w.shape.names (part_code (Part.Picks key 0 0 b)) ≡ true) same none

module _ (w : Picture) (a b : ℕ) (none : are_unsaid w.said w.shape.names (part_code (Part.Picks (key_at a) 0 0 b)) ≡ true) where
  is_unpicked : is_picked (frame_of w) (shown w) (key_at a) b ≡ false
  is_unpicked = unpicked w (key_at a) b none

  pub stops_pass : list_all (meets w) (rules_by_third (frame_of w) (Family.Walks WalkRule.Stops) a b) ≡ true
  stops_pass = third_meets w (Family.Walks WalkRule.Stops) a b (λ c. off (is_picked (frame_of w) (shown w) (key_at a) b) _ is_unpicked)

  pub keeps_pass : list_all (meets w) (rules_by_third (frame_of w) (Family.Kept KeptRule.StopKeeps) a b) ≡ true
  keeps_pass = third_meets w (Family.Kept KeptRule.StopKeeps) a b (λ c. off (is_picked (frame_of w) (shown w) (key_at a) b) _ is_unpicked)

  pub keeps_on_pass : list_all (meets w) (rules_by_third (frame_of w) (Family.Kept KeptRule.StopKeepsOn) a b) ≡ true
  keeps_on_pass = third_meets w (Family.Kept KeptRule.StopKeepsOn) a b (λ c. off (is_picked (frame_of w) (shown w) (key_at a) b) _ is_unpicked)

-- both slots of a key, at one chain's beginning
pub chain_of_index : (w : Picture) (a i : ℕ) (k : KeyName) → k ≡ key_at a → chain_picks_neither w.said w.shape.names k i ≡ true → chain_picks_neither w.said w.shape.names (key_at a) i ≡ true
chain_of_index w a i k same none = subst (λ key. chain_picks_neither w.said w.shape.names key i ≡ true) same none

module _ (w : Picture) (a i : ℕ) (none : chain_picks_neither w.said w.shape.names (key_at a) i ≡ true) where
  no_first : (j : ℕ) → shown w (Part.Picks (key_at a) i j 0) ≡ false
  no_first = unsaid_from w (key_at a) i 0 (and_parts _ _ none).0

  no_second : (j : ℕ) → shown w (Part.Picks (key_at a) i j 1) ≡ false
  no_second = unsaid_from w (key_at a) i 1 (and_parts _ _ none).1

  pub picks_pass : list_all (meets w) (rules_by_third (frame_of w) (Family.Chains ChainRule.Picks) a i) ≡ true
  picks_pass =
      third_meets w (Family.Chains ChainRule.Picks) a i (λ j.
      and_from _ _
      (and_from _ _ (off (shown w (Part.Picks (key_at a) i j 0)) _ (no_first j)) (off (shown w (Part.Picks (key_at a) i j 1)) _ (no_second j)))
      (not_both_off (shown w (Part.Picks (key_at a) i j 0)) (shown w (Part.Picks (key_at a) i j 1)) (no_first j)))

  pub ordered_pass : list_all (meets w) (rules_by_third (frame_of w) (Family.Kept KeptRule.Picks) a i) ≡ true
  ordered_pass =
      third_meets w (Family.Kept KeptRule.Picks) a i (λ j.
      and_from _ _ (off (shown w (Part.Picks (key_at a) i j 0)) _ (no_first j))
      (off (shown w (Part.Picks (key_at a) i j 1)) _ (no_second j)))
