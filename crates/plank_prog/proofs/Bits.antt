-- One bit of a number, as a mask tests it.
use Rattle.std.proofs.Common.{◌≡◌, ℕ, ◌*◌, ◌<◌, ◌≤◌, ◌^◌, ◌%◌, false, not, nat_eq, nat_lt, nat_le, sym, ◌∙◌, ap, arith}
use Rattle.std.specs.Int.{bit_at}
use Rattle.std.specs.Prelude.{bit_and}
use Rattle.std.proofs.lemmas.Bool.{le-leb, lt-ltb}
use Rattle.std.proofs.Math.Pow.{pow_mono}
use Rattle.std.proofs.lemmas.Nat.{pow_below, pow_pos}
use Rattle.std.proofs.lemmas.Nat.Bits.{and_pow, bit_at-lt, bit_at_above}
use Rattle.plank_base.proofs.Digits.{digit_times}
use Rattle.plank_prog.specs.Views.{is_bit_set}

-- the mask of a byte's bit
pub mask : (i : ℕ) → i < 8 → 1 * 2 ^ i % 256 ≡ 2 ^ i
mask i below = let small : 2 ^ i < 2 ^ 8 = pow_below i 8 below in omega arith

pub mask_tests_bit : (n i : ℕ) → i < 8 → not (nat_eq (bit_and n (1 * 2 ^ i % 256)) 0) ≡ is_bit_set n i
mask_tests_bit n i below =
    ap (λ m. not (nat_eq (bit_and n m) 0)) (mask i below) ∙ ap (λ m. not (nat_eq m 0)) (and_pow n i)
    ∙ digit_times (bit_at n i) (2 ^ i) (bit_at-lt n i) (pow_pos i)

pub no_bit_above : (n i : ℕ) → n < 2 ^ 8 → 8 ≤ i → is_bit_set n i ≡ false
no_bit_above n i small past = ap (λ b. nat_eq b 1) (bit_at_above n 8 i small past)

-- a byte is below each power of two from the eighth on
pub only_low_bits : (n count : ℕ) → n < 2 ^ 8 → 8 ≤ count → nat_le 8 count ≡ nat_lt n (2 ^ count)
only_low_bits n count small many =
    let wide : 2 ^ 8 ≤ 2 ^ count = pow_mono many in
    let below : n < 2 ^ count = omega arith in
    le-leb 8 count many ∙ sym (lt-ltb n (2 ^ count) below)
