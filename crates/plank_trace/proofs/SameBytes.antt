-- What comparing bytes tells, and values in results.
use Rattle.std.proofs.Common.{◌≡◌, ℕ, Bool, true, false, not, eqb, List, [], ◌∷◌, Result, Ok, refl, sym, ap, ◌∙◌}
use Rattle.std.specs.Cmp.Lexicographic.{same_text}
use Rattle.std.proofs.lemmas.Bool.{and_from, eq-eqb}
use lib.Pointwise.{pointwise}

same_bytes : (a : List ℕ) → pointwise eqb a a ≡ true
same_bytes [] = refl
same_bytes (x ∷ xs) = and_from (eqb x x) (pointwise eqb xs xs) (eq-eqb x x refl) (same_bytes xs)

pub are_same : (a b w : List ℕ) (t : Bool) → t ≡ pointwise eqb a b → a ≡ w → t ≡ true → w ≡ b
are_same a b w t e is holds = sym is ∙ same_text a b (sym holds ∙ e)

pub tell_same : (a b w : List ℕ) (t : Bool) → t ≡ pointwise eqb a b → a ≡ w → w ≡ b → t ≡ true
tell_same a b w t e is same = e ∙ ap (pointwise eqb a) (sym (is ∙ same)) ∙ same_bytes a

pub are_other : (a b w : List ℕ) → false ≡ pointwise eqb a b → b ≡ w → a ≡ w → ⊥
are_other a b w e is same = let clash : false ≡ true = e ∙ ap (pointwise eqb a) (is ∙ sym same) ∙ same_bytes a in absurd (cc)

pub negated : (x : Bool) → true ≡ not x → false ≡ x
negated true e = absurd (cc)
negated false e = refl

pub one_value : {T E : Type 0} (r : Result T E) (x y : T) → r ≡ Ok x → r ≡ Ok y → x ≡ y
one_value r x y a b = let both = sym a ∙ b in cc
