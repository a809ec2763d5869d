-- When a call of a set leaves it as it is.
use Rattle.std.proofs.Common.{◌≡◌, Bool, true, false, cond, ℤ, refl, sym, subst}
use Rattle.std.proofs.Math.Path.{fun_ext}
use Rattle.std.specs.Ordering.{int_eq}
use Rattle.std.proofs.lemmas.Bool.Decides.{Decides-int_eq}
use Rattle.plank_base.specs.declared.operations.Op.{Op}
use Rattle.plank_hist.specs.Sets.{present_after, set_of_keys}

pub set_kept : (holds : ℤ → Bool) (input : Op × ℤ) → present_after input.0 (holds input.1) ≡ holds input.1 → set_of_keys.after holds input ≡ holds
set_kept holds input same = fun_ext (λ key. each key (int_eq key input.1) refl)
  where
    each : (key : ℤ) (b : Bool) → int_eq key input.1 ≡ b → cond b (present_after input.0 (holds key)) (holds key) ≡ holds key
    each key true e = let at : key ≡ input.1 = (Decides-int_eq key input.1).0 e in subst (λ k. present_after input.0 (holds k) ≡ holds k) (sym at) same
    each key false e = refl
