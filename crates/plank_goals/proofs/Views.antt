-- What conditions see of a node inside a chain is what they see of a node with a key and flags.
use Rattle.std.specs.Prelude.{◌≡◌, ℕ, zero, suc, ◌<◌, ◌≤◌, ◌^◌, pos, Bool, true, false, ◌&&◌, List, [], ◌∷◌, length, slice_get, unwrap_or, Option, Some, None, bit_and}
use Rattle.std.specs.Int.{bit_not, w8}
use Rattle.std.specs.Option.{option_map_or}
use Rattle.std.specs.List.{list_all}
use Rattle.std.specs.Cmp.{first_so, second_so}
use Rattle.std.proofs.Common.{refl, sym, ◌∙◌, ap, ap₂, subst, inl, inr, arith}
use Rattle.std.proofs.lemmas.Bool.{false≢true, cases_eq}
use Rattle.std.proofs.lemmas.Nat.{or_lt, and_le_l}
use Rattle.std.proofs.Math.Pow.{pow-lt}
use Rattle.plank_base.specs.Keys.{is_at_most}
use Rattle.plank_base.specs.declared.keys.Key.{Key}
use Rattle.plank_base.specs.declared.limits.TheConstants.{FLAGS_LIMIT}
use Rattle.plank_prog.specs.declared.conditions.KeyTerm.{KeyTerm}
use Rattle.plank_prog.specs.declared.conditions.Condition.{Condition}
use Rattle.plank_prog.specs.declared.headers.Keep.{Keep}
use Rattle.plank_prog.specs.declared.headers.Header.{Header}
use Rattle.plank_prog.specs.Conditions.{View, value}
use Rattle.plank_prog.specs.Scopes.{condition_fits, AgreeWithin}
use Rattle.plank_prog.specs.Headers.{is_lawful_header, walk_scope, freeze_scope, keep_scope, optional_fits}
use Rattle.plank_prog.specs.Views.{is_bit_set, key_of_term, view_of, value_at, is_frozen}
use Rattle.plank_prog.proofs.HeaderFacts.{lawful_freeze, lawful_conditions}
use Rattle.plank_prog.proofs.ScopeLaws.{scoped_value}
use Rattle.plank_heap.specs.Changes.{with_bit}
use Rattle.plank_heap.proofs.Flags.{written_flag, other_flag}
use Rattle.plank_pic.specs.declared.parts.KeyName.{KeyName}
use Rattle.plank_pic.specs.declared.parts.Term.{Term}
use Rattle.plank_pic.specs.Frames.{Frame}
use Rattle.plank_pic.specs.Pictures.{Picture, is_frozen_view}
use Rattle.plank_pic.specs.Lawful.{keeps_hold, IsPossible}
use Rattle.plank_pic.specs.Keeps.{Placed, placed_order}
use Rattle.plank_goals.specs.declared.spots.Spot.{Spot}
use Rattle.plank_goals.specs.Spots.{spot_key, inner_view}
use Rattle.plank_goals.proofs.Cuts.{spot_most, spot_least, spot_min, spot_max, LiesAt, itself, from_min, to_max, not_min, not_max, ends_apart}

-- ---- the order

abbrev pub key_order : Key → KeyTerm → KeyTerm → Bool
key_order key a b = is_at_most (key_of_term key (Key.Num (pos 0)) a) (key_of_term key (Key.Num (pos 0)) b)

most_so : (s : Spot) → spot_most s ≡ key_order (spot_key s) KeyTerm.Node KeyTerm.Walked
most_so Spot.AtMin = refl
most_so Spot.Lower = refl
most_so Spot.Equal = refl
most_so Spot.Higher = refl
most_so Spot.AtMax = refl

least_so : (s : Spot) → spot_least s ≡ key_order (spot_key s) KeyTerm.Walked KeyTerm.Node
least_so Spot.AtMin = refl
least_so Spot.Lower = refl
least_so Spot.Equal = refl
least_so Spot.Higher = refl
least_so Spot.AtMax = refl

min_so : (s : Spot) → spot_min s ≡ key_order (spot_key s) KeyTerm.Node KeyTerm.Min
min_so Spot.AtMin = refl
min_so Spot.Lower = refl
min_so Spot.Equal = refl
min_so Spot.Higher = refl
min_so Spot.AtMax = refl

max_so : (s : Spot) → spot_max s ≡ key_order (spot_key s) KeyTerm.Max KeyTerm.Node
max_so Spot.AtMin = refl
max_so Spot.Lower = refl
max_so Spot.Equal = refl
max_so Spot.Higher = refl
max_so Spot.AtMax = refl

from_min_so : (s : Spot) → true ≡ key_order (spot_key s) KeyTerm.Min KeyTerm.Node
from_min_so Spot.AtMin = refl
from_min_so Spot.Lower = refl
from_min_so Spot.Equal = refl
from_min_so Spot.Higher = refl
from_min_so Spot.AtMax = refl

to_max_so : (s : Spot) → true ≡ key_order (spot_key s) KeyTerm.Node KeyTerm.Max
to_max_so Spot.AtMin = refl
to_max_so Spot.Lower = refl
to_max_so Spot.Equal = refl
to_max_so Spot.Higher = refl
to_max_so Spot.AtMax = refl

itself_so : (s : Spot) → true ≡ key_order (spot_key s) KeyTerm.Node KeyTerm.Node
itself_so Spot.AtMin = refl
itself_so Spot.Lower = refl
itself_so Spot.Equal = refl
itself_so Spot.Higher = refl
itself_so Spot.AtMax = refl

module _ (F : Frame) (p : Picture) (possible : IsPossible F p) (k : KeyName) (at : Placed) (spot : Spot) (lies : LiesAt k at spot) where
  pub order_seen : (a b : KeyTerm) → placed_order p k at a b ≡ key_order (spot_key spot) a b
  order_seen KeyTerm.Node KeyTerm.Node = itself_so spot
  order_seen KeyTerm.Node KeyTerm.Walked = lies.most ∙ most_so spot
  order_seen KeyTerm.Node KeyTerm.Min = lies.min ∙ min_so spot
  order_seen KeyTerm.Node KeyTerm.Max = lies.to_max ∙ to_max_so spot
  order_seen KeyTerm.Walked KeyTerm.Node = lies.least ∙ least_so spot
  order_seen KeyTerm.Walked KeyTerm.Walked = itself F p possible (Term.Walked k) refl
  order_seen KeyTerm.Walked KeyTerm.Min = not_min F p possible k
  order_seen KeyTerm.Walked KeyTerm.Max = to_max F p possible (Term.Walked k) refl
  order_seen KeyTerm.Min KeyTerm.Node = lies.from_min ∙ from_min_so spot
  order_seen KeyTerm.Min KeyTerm.Walked = from_min F p possible (Term.Walked k) refl
  order_seen KeyTerm.Min KeyTerm.Min = from_min F p possible Term.Min refl
  order_seen KeyTerm.Min KeyTerm.Max = from_min F p possible Term.Max refl
  order_seen KeyTerm.Max KeyTerm.Node = lies.max ∙ max_so spot
  order_seen KeyTerm.Max KeyTerm.Walked = not_max F p possible k
  order_seen KeyTerm.Max KeyTerm.Min = ends_apart F p possible k
  order_seen KeyTerm.Max KeyTerm.Max = to_max F p possible Term.Max refl

-- ---- the flags, as bits of a number

abbrev pub bits : (ℕ → Bool) → ℕ → ℕ
bits flag zero = 0
bits flag (suc n) = with_bit (bits flag n) n (flag n)

few_bits : (x n : ℕ) (b : Bool) → x < 2 ^ FLAGS_LIMIT → n < FLAGS_LIMIT → with_bit x n b < 2 ^ FLAGS_LIMIT
few_bits x n true small within = or_lt FLAGS_LIMIT x (2 ^ n) small (pow-lt within)
few_bits x n false small within = (let le : bit_and x (bit_not w8 (2 ^ n)) ≤ x = and_le_l x (bit_not w8 (2 ^ n)) in omega (arith, le, small))

pub bits_few : (flag : ℕ → Bool) (n : ℕ) → n ≤ FLAGS_LIMIT → bits flag n < 2 ^ FLAGS_LIMIT
bits_few flag zero within = omega arith
bits_few flag (suc n) within = few_bits (bits flag n) n (flag n) (bits_few flag n (omega (arith, within))) (omega (arith, within))

pub bits_set : (flag : ℕ → Bool) (n f : ℕ) → n ≤ FLAGS_LIMIT → f < n → flag f ≡ is_bit_set (bits flag n) f
bits_set flag zero f within below = absurd (omega (arith, below))
bits_set flag (suc n) f within below =
    let n_small : n < 8 = omega (arith, within) in
    let f_small : f < 8 = omega (arith, within, below) in
    elim (cases_eq f n) [
      | inl same ↦ ap flag same ∙ sym (written_flag (bits flag n) n (flag n) n_small) ∙ ap (λ g. is_bit_set (bits flag (suc n)) g) (sym same)
      | inr other ↦ bits_set flag n f (omega (arith, within)) (omega (arith, below, other)) ∙ sym (other_flag (bits flag n) n f (flag n) n_small f_small other)
    ]

-- ---- a view that is one of a key and flags

pub record IsSeen (h : Header) (v : View) (key : Key) (flags : ℕ) : Type 0 where
  pub at_most : (a b : KeyTerm) → v.at_most a b ≡ key_order key a b
  pub flag : (f : ℕ) → f < length h.flags → v.flag f ≡ is_bit_set flags f
  pub null : v.null 0 ≡ false

module _ (h : Header) (lawful : is_lawful_header h ≡ true) (v : View) (key : Key) (flags : ℕ) (seen : IsSeen h v key flags) where
  frozen_by : (o : Option Condition) → optional_fits (freeze_scope h) o ≡ true → option_map_or (value v) o false ≡ option_map_or (λ c. value_at c key flags (pos 0)) o false
  frozen_by None fits = refl
  frozen_by (Some c) fits =
      scoped_value (freeze_scope h) v (view_of key flags [] (Key.Num (pos 0)) false)
      (record { at_most = λ a b fa fb. seen.at_most a b; flag = seen.flag; null = λ q below. absurd (omega (arith, below)); visited = λ e. absurd (false≢true e) })
      c fits

  pub frozen_seen : is_frozen_view h v ≡ is_frozen h key flags
  frozen_seen = frozen_by h.freeze (lawful_freeze h lawful)

  module _ (one : length h.pointers ≡ 1) (b : Bool) where
    abbrev w : View
    w = record v { visited = b }

    null_seen : (q : ℕ) → q < 1 → v.null q ≡ unwrap_or (slice_get (false ∷ false ∷ []) q) false
    null_seen zero below = seen.null
    null_seen (suc q) below = absurd (omega (arith, below))

    agree : AgreeWithin (keep_scope h) w (inner_view key flags b)
    agree = record { at_most = λ x y fx fy. seen.at_most x y; flag = seen.flag; null = λ q below. null_seen q (subst (λ n. q < n) one below); visited = λ e. refl }

    keeps_by : (ks : List Keep) → list_all (λ k. condition_fits (keep_scope h) k.condition) ks ≡ true
        → list_all (λ k. value w k.condition) ks ≡ list_all (λ k. value (inner_view key flags b) k.condition) ks
    keeps_by [] fits = refl
    keeps_by (k ∷ ks) fits =
        ap₂ (λ x y. x && y)
        (scoped_value (keep_scope h) w (inner_view key flags b) agree k.condition (first_so (condition_fits (keep_scope h) k.condition) (list_all (λ q. condition_fits (keep_scope h) q.condition) ks) fits))
        (keeps_by ks (second_so (condition_fits (keep_scope h) k.condition) (list_all (λ q. condition_fits (keep_scope h) q.condition) ks) fits))

    keeps_fit : list_all (λ k. condition_fits (keep_scope h) k.condition) h.keeps ≡ true
    keeps_fit =
        second_so (list_all (λ p. optional_fits (walk_scope h) p.edge) h.pointers && condition_fits (walk_scope h) h.holds) (list_all (λ k. condition_fits (keep_scope h) k.condition) h.keeps)
        (first_so (list_all (λ p. optional_fits (walk_scope h) p.edge) h.pointers && condition_fits (walk_scope h) h.holds && list_all (λ k. condition_fits (keep_scope h) k.condition) h.keeps) (optional_fits (freeze_scope h) h.freeze)
        (lawful_conditions h lawful))

    pub keeps_seen : keeps_hold h w ≡ keeps_hold h (inner_view key flags b)
    keeps_seen = keeps_by h.keeps keeps_fit
