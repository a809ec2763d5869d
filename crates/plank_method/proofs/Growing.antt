-- Sets of numbers that grow by one number after the other.
use Rattle.std.specs.Prelude.{◌≡◌, ℕ, ◌+◌, Bool, true, false, ◌||◌}
use Rattle.std.proofs.Common.{refl, sym, ◌∙◌, ap, add-one}
use Rattle.plank_pic.specs.Below.{some_below}
use Rattle.plank_pic.proofs.Below.{none_below}

pub below_more : (test : ℕ → Bool) (n : ℕ) → some_below test (n + 1) ≡ (some_below test n || test n)
unfolding some_below
below_more test n = ap (λ m. some_below test m) (add-one n)

or_nothing : (a : Bool) → a ≡ (a || false)
or_nothing true = refl
or_nothing false = refl

or_third : (a b c : Bool) → ((a || b) || c) ≡ (a || (b || c))
or_third true b c = refl
or_third false b c = refl

-- no number yet
pub none_yet : (test : ℕ → Bool) (x : Bool) → x ≡ false → x ≡ some_below test 0
none_yet test x e = e ∙ sym (none_below test)

pub none_more : (test : ℕ → Bool) (x : Bool) → x ≡ (x || some_below test 0)
none_more test x = or_nothing x ∙ ap (λ b. x || b) (sym (none_below test))

-- one more number
pub one_more : (test : ℕ → Bool) (n : ℕ) (x y added : Bool) → x ≡ some_below test n → added ≡ test n → y ≡ (x || added) → y ≡ some_below test (n + 1)
one_more test n x y added so is e =
    e ∙ ap (λ b. b || added) so ∙ ap (λ b. some_below test n || b) is ∙ sym (below_more test n)

pub one_more_put : (test : ℕ → Bool) (n : ℕ) (first x y added : Bool) → x ≡ (first || some_below test n) → added ≡ test n → y ≡ (x || added) → y ≡ (first || some_below test (n + 1))
one_more_put test n first x y added so is e =
    e ∙ ap (λ b. b || added) so ∙ ap (λ b. (first || some_below test n) || b) is ∙ or_third first (some_below test n) (test n)
    ∙ ap (λ b. first || b) (sym (below_more test n))
