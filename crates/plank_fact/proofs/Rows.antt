-- Places among the facts of a kind: rows of one first name, one after the other.
use Rattle.std.specs.Prelude.{◌≡◌, ℕ, zero, suc, ◌+◌, ◌*◌, ◌/◌, ◌%◌, ◌<◌}
use Rattle.std.proofs.Common.{refl, sym, ◌∙◌, ap, subst, arith}
use Rattle.std.proofs.Math.Nat.{div-lt_iff_lt-mul, mod-lt, mul-zero}
use Rattle.std.proofs.lemmas.Nat.{div-add-mod'}
use Rattle.plank_fact.specs.declared.layouts.Layout.{Layout}
use Rattle.plank_fact.specs.Places.{at, second_count, second_of, width, start, IsPlace}

pub start-zero : (L : Layout) → start L 0 ≡ 0
unfolding start
start-zero L = refl

pub start-next : (L : Layout) (i : ℕ) → start L (i + 1) ≡ start L i + width L i
unfolding start
start-next L i = ap (start L) (let one : i + 1 ≡ suc i = omega arith in one)

-- a product that is above a number has a positive factor
positive : (n c rest : ℕ) → rest < n * c → 0 < c
positive n zero rest h = absurd (let none : n * 0 ≡ 0 = mul-zero n in omega arith)
positive n (suc c) rest h = omega arith

pub place_in_row : (L : Layout) (i c rest second place : ℕ) → i < L.firsts → c ≡ second_count L i → rest < width L i → second ≡ second_of L.seconds i (rest % c)
    → place ≡ start L i + rest → IsPlace L (at i (rest / c) second) place
place_in_row L i c rest second place first is below named stands =
    let wide : rest < L.fields * c = subst (λ v. rest < L.fields * v) (sym is) below in
    let there : 0 < c = positive L.fields c rest wide in
    record {
      first = first;
      field = (div-lt_iff_lt-mul there).1 wide;
      rank = rest % c;
      listed = subst (λ v. rest % c < v) is (mod-lt rest there);
      second = named;
      is = stands ∙ ap (λ v. start L i + v) (sym (div-add-mod' rest c) ∙ ap (λ v. rest / c * v + rest % c) is);
    }

pub field_in_row : (L : Layout) (i c rest : ℕ) → c ≡ second_count L i → rest < width L i → rest / c < L.fields
field_in_row L i c rest is below =
    let wide : rest < L.fields * c = subst (λ v. rest < L.fields * v) (sym is) below in
    (div-lt_iff_lt-mul (positive L.fields c rest wide)).1 wide
