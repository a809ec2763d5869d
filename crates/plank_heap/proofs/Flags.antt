-- A flag that is written, and the others.
use Rattle.std.proofs.Common.{◌≡◌, ◌≢◌, ℕ, ◌<◌, Bool, true, false, sym, ◌∙◌, ap, nat_eq, arith}
use Rattle.std.specs.Prelude.{bit_or, bit_and}
use Rattle.std.specs.Int.{bit_at, bit_not, w8}
use Rattle.std.proofs.lemmas.Nat.Bits.{bit_at_set_same, bit_at_set_other, bit_at_clear_same, bit_at_clear_other}
use Rattle.plank_base.specs.declared.limits.TheConstants.{FLAGS_LIMIT}
use Rattle.plank_prog.specs.Views.{is_bit_set}
use Rattle.plank_prog.proofs.Bits.{mask}
use Rattle.plank_heap.specs.Changes.{with_bit}

-- a flag that a header may declare is one of a byte's bits
pub of_byte : (f : ℕ) → f < FLAGS_LIMIT → f < 8
of_byte f within = omega arith

pub written_flag : (n f : ℕ) (to : Bool) → f < 8 → is_bit_set (with_bit n f to) f ≡ to
written_flag n f true within =
    ap (λ m. nat_eq (bit_at (bit_or n m) f) 1) (sym (mask f within)) ∙ ap (λ b. nat_eq b 1) (bit_at_set_same w8 n f within)
written_flag n f false within =
    ap (λ m. nat_eq (bit_at (bit_and n (bit_not w8 m)) f) 1) (sym (mask f within)) ∙ ap (λ b. nat_eq b 1) (bit_at_clear_same w8 n f within)

pub other_flag : (n f g : ℕ) (to : Bool) → f < 8 → g < 8 → g ≢ f → is_bit_set (with_bit n f to) g ≡ is_bit_set n g
other_flag n f g true within inside other =
    ap (λ m. nat_eq (bit_at (bit_or n m) g) 1) (sym (mask f within)) ∙ ap (λ b. nat_eq b 1) (bit_at_set_other w8 n f within g other)
other_flag n f g false within inside other =
    ap (λ m. nat_eq (bit_at (bit_and n (bit_not w8 m)) g) 1) (sym (mask f within)) ∙ ap (λ b. nat_eq b 1) (bit_at_clear_other w8 n f within g inside other)
