-- Tests and the values that pass them.
use Rattle.std.proofs.Common.{◌≡◌, ◌⊎◌, ℕ, ◌<◌, Bool, true, false, not, refl, sym, ap, inl, inr, arith}
use Rattle.std.specs.Prelude.{◌&&◌, ◌||◌, is_some, if◌then◌else◌, Option, Some, None}
use Rattle.std.specs.Bool.{beq}
use Rattle.std.specs.Option.{option_map_or}
use Rattle.std.proofs.lemmas.Bool.{true≢false, cases_lt, cases_eq}
use Rattle.plank_pic.specs.Lawful.{◌⇒◌}

pub implied : (a b : Bool) → (a ≡ true → b ≡ true) → (a ⇒ b) ≡ true
implied true b h = h refl
implied false b h = refl

-- with the premise in two parts
pub implied_by : (a b c : Bool) → (a ≡ true → b ≡ true → c ≡ true) → ((a && b) ⇒ c) ≡ true
implied_by true true c h = h refl refl
implied_by true false c h = refl
implied_by false b c h = refl

pub told_by : (a b c : Bool) → ((a && b) ⇒ c) ≡ true → a ≡ true → b ≡ true → c ≡ true
told_by true true c e h k = e
told_by true false c e h k = absurd (true≢false (sym k))
told_by false b c e h k = absurd (true≢false (sym h))

pub itself : (a : Bool) → (a ⇒ a) ≡ true
itself true = refl
itself false = refl

pub level : (a b : Bool) → (a ≡ true → b ≡ true) → (b ≡ true → a ≡ true) → a ≡ b
level true b h k = sym (h refl)
level false true h k = k refl
level false false h k = refl

pub beq_of : (a b : Bool) → a ≡ b → beq a b ≡ true
beq_of true true e = refl
beq_of true false e = absurd (true≢false e)
beq_of false true e = absurd (true≢false (sym e))
beq_of false false e = refl

pub no_of : (b : Bool) → not b ≡ true → b ≡ false
no_of true e = absurd (true≢false (sym e))
no_of false e = refl

-- of two that are not both true
pub not_both : (a b : Bool) → not (a && b) ≡ true → a ≡ true → b ≡ false
not_both true b e h = no_of b e
not_both false b e h = absurd (true≢false (sym h))

pub never_both : (a b : Bool) → (a ≡ true → b ≡ false) → not (a && b) ≡ true
never_both true b h = ap not (h refl)
never_both false b h = refl

pub bare_of : (a b : Bool) → (a ≡ true → b ≡ false) → ((a && b) ⇒ false) ≡ true
bare_of true true h = absurd (true≢false (h refl))
bare_of true false h = refl
bare_of false b h = refl

pub bare_to : (a b : Bool) → ((a && b) ⇒ false) ≡ true → a ≡ true → b ≡ false
bare_to true true e h = absurd (true≢false (sym e))
bare_to true false e h = refl
bare_to false b e h = absurd (true≢false (sym h))

pub or_turned : (a b : Bool) → (a || b) ≡ true → (b || a) ≡ true
or_turned true true e = refl
or_turned true false e = refl
or_turned false true e = refl
or_turned false false e = e

pub same_branch : (b : Bool) (x : ℕ) → (if b then x else x) ≡ x
same_branch true x = refl
same_branch false x = refl

-- one number is below the other, or they are equal
pub tri : (i j : ℕ) → (j < i) ⊎ ((i ≡ j) ⊎ (i < j))
tri i j = elim (cases_lt j i) [ inl below ↦ inl below | inr above ↦ elim (cases_eq i j) [ inl same ↦ inr (inl same) | inr other ↦ inr (inr (omega arith)) ] ]

pub under : (b a n : ℕ) → b < a → a < n → b < n
under b a n h k = omega arith

pub one : 0 < 1
one = omega arith

-- a test that an option passes finds it given
pub given_if : {A : Type 0} (o : Option A) (test : A → Bool) → option_map_or test o false ≡ true → is_some o ≡ true
given_if None test e = e
given_if (Some x) test e = refl
