-- The numbers of pointer fields of named nodes, of keys and of terms: there and back.
use Rattle.std.proofs.Common.{◌≡◌, ◌⊎◌, inl, inr, eqb, ℕ, zero, suc, ◌+◌, ◌-◌, ◌*◌, ◌/◌, ◌%◌, ◌<◌, true, length, refl, sym, ◌∙◌, ap, subst, arith}
use Rattle.std.specs.Prelude.{nat_lt}
use Rattle.std.proofs.Math.Nat as nat
use Rattle.std.proofs.lemmas.Nat.{div-mul-add, mod-mul-add}
use Rattle.std.proofs.lemmas.Bool.{and_parts, and_from, lt-ltb, ltb-true, le-ltb, ne_eqb, cond-true, cond-false, cases_lt}
use Rattle.plank_pic.specs.declared.parts.KeyName.{KeyName}
use Rattle.plank_pic.specs.declared.parts.Term.{Term}
use Rattle.plank_pic.specs.declared.parts.Place.{Place}
use Rattle.plank_pic.specs.Frames.{Frame}
use Rattle.plank_pic.specs.Pictures.{place}
use Rattle.plank_pic.specs.Lawful.{place_fits, term_fits, slot_count}
use Rattle.plank_lawful.specs.Indexes.{key_at, place_at, fixed_term, fixed_count, term_at}

pub place_of_none : (n m : ℕ) → m ≡ 0 → place n 0 ≡ place (n % m) (n / m)
place_of_none n m e = subst (λ v. place n 0 ≡ place (n % v) (n / v)) (sym e) (ap (λ v. place v 0) (sym (nat.mod-zero n)) ∙ ap (place (n % 0)) (sym (nat.div-zero n)))

-- ---- keys

abbrev pub key_number : KeyName → ℕ
key_number KeyName.Own = 0
key_number KeyName.Other = 1
key_number KeyName.Any = 2

pub key_small : (k : KeyName) → key_number k < 3
key_small KeyName.Own = omega arith
key_small KeyName.Other = omega arith
key_small KeyName.Any = omega arith

pub key_back : (k : KeyName) → key_at (key_number k) ≡ k
key_back KeyName.Own = refl
key_back KeyName.Other = refl
key_back KeyName.Any = refl

-- ---- places

abbrev pub place_number : Frame → Place → ℕ
place_number F x = x.pointer * F.names + x.name

pub place_back : (F : Frame) (x : Place) → place_fits F x ≡ true → place_at F (place_number F x) ≡ x
place_back F x e =
    let small = ltb-true x.name F.names (and_parts _ _ e).0 in
    ap (λ v. place v ((x.pointer * F.names + x.name) / F.names)) (mod-mul-add x.pointer F.names x.name small) ∙ ap (place x.name) (div-mul-add x.pointer F.names x.name small)

below_product : (a b m i : ℕ) → a < b → i < m → a * m + i < b * m
below_product a b m i h l = (nat.div-lt_iff_lt-mul {k = m} {x = a * m + i} {y = b} (omega arith)).0 (subst (λ v. v < b) (sym (div-mul-add a m i l)) h)

pub place_small : (F : Frame) (x : Place) → place_fits F x ≡ true → place_number F x < length F.header.pointers * F.names
place_small F x e =
    let both = and_parts _ _ e in
    below_product x.pointer (length F.header.pointers) F.names x.name (ltb-true x.pointer (length F.header.pointers) both.1) (ltb-true x.name F.names both.0)

pub place_there : (F : Frame) (n : ℕ) → n < length F.header.pointers * F.names → place_fits F (place_at F n) ≡ true
place_there F n h = by_names F.names refl
  where
    by_names : (m : ℕ) → F.names ≡ m → place_fits F (place_at F n) ≡ true
    by_names zero e = let none : n < length F.header.pointers * 0 = subst (λ v. n < length F.header.pointers * v) e h in let no : n < 0 = subst (λ v. n < v) (nat.mul-zero (length F.header.pointers)) none in absurd (omega arith)
    by_names (suc m) e =
        let some : 0 < F.names = omega arith in
        and_from _ _ (lt-ltb (n % F.names) F.names (nat.mod-lt n some)) (lt-ltb (n / F.names) (length F.header.pointers) ((nat.div-lt_iff_lt-mul {k = F.names} {x = n} {y = length F.header.pointers} some).1 h))

-- ---- terms

abbrev pub term_number : Frame → Term → ℕ
term_number F (Term.Node i) = i
term_number F Term.Min = F.names + 0
term_number F Term.Max = F.names + 1
term_number F (Term.Walked k) = F.names + (key_number k + 2)
term_number F (Term.Stop k s) = F.names + (s * 3 + key_number k + 5)

after_five : (n : ℕ) → fixed_term (n + 5) ≡ Term.Stop (key_at (n % 3)) (n / 3)
after_five n =
    cond-false (eqb (n + 5) 0) _ _ (ne_eqb (n + 5) 0 (λ e. absurd (omega arith)))
    ∙ cond-false (eqb (n + 5) 1) _ _ (ne_eqb (n + 5) 1 (λ e. absurd (omega arith)))
    ∙ cond-false (nat_lt (n + 5) 5) _ _ (le-ltb (n + 5) 5 (omega arith))
    ∙ ap (λ v. Term.Stop (key_at (v % 3)) (v / 3)) (nat.add-sub_cancel n 5)

stop_back : (k : KeyName) (s : ℕ) → fixed_term (s * 3 + key_number k + 5) ≡ Term.Stop k s
stop_back k s =
    after_five (s * 3 + key_number k)
    ∙ ap (λ v. Term.Stop (key_at v) ((s * 3 + key_number k) / 3)) (mod-mul-add s 3 (key_number k) (key_small k))
    ∙ ap (Term.Stop (key_at (key_number k))) (div-mul-add s 3 (key_number k) (key_small k))
    ∙ ap (λ v. Term.Stop v s) (key_back k)

at_fixed : (F : Frame) (m : ℕ) → term_at F (F.names + m) ≡ fixed_term m
at_fixed F m = cond-false (nat_lt (F.names + m) F.names) _ _ (le-ltb (F.names + m) F.names (omega arith)) ∙ ap fixed_term (nat.add-sub_cancel_left F.names m)

pub term_back : (F : Frame) (t : Term) → term_fits F t ≡ true → term_at F (term_number F t) ≡ t
term_back F (Term.Node i) e = cond-true (nat_lt i F.names) _ _ e
term_back F Term.Min e = at_fixed F 0
term_back F Term.Max e = at_fixed F 1
term_back F (Term.Walked KeyName.Own) e = at_fixed F 2
term_back F (Term.Walked KeyName.Other) e = at_fixed F 3
term_back F (Term.Walked KeyName.Any) e = at_fixed F 4
term_back F (Term.Stop k s) e = at_fixed F (s * 3 + key_number k + 5) ∙ stop_back k s

fixed_small : (F : Frame) (k : KeyName) (s : ℕ) → s < slot_count F → s * 3 + key_number k + 5 < fixed_count F
fixed_small F k s h = let small : key_number k < 3 = key_small k in omega arith

pub term_small : (F : Frame) (t : Term) → term_fits F t ≡ true → term_number F t < F.names + fixed_count F
term_small F (Term.Node i) e = let small : i < F.names = ltb-true i F.names e in omega arith
term_small F Term.Min e = omega arith
term_small F Term.Max e = omega arith
term_small F (Term.Walked k) e = let small : key_number k < 3 = key_small k in omega arith
term_small F (Term.Stop k s) e = let small : s * 3 + key_number k + 5 < fixed_count F = fixed_small F k s (ltb-true s (slot_count F) e) in omega arith

first_five : (F : Frame) (m : ℕ) → m < 5 → term_fits F (fixed_term m) ≡ true
first_five F zero h = refl
first_five F (suc zero) h = refl
first_five F (suc (suc zero)) h = refl
first_five F (suc (suc (suc zero))) h = refl
first_five F (suc (suc (suc (suc zero)))) h = refl
first_five F (suc (suc (suc (suc (suc n))))) h = absurd (omega arith)

later_ones : (F : Frame) (n : ℕ) → n + 5 < fixed_count F → term_fits F (fixed_term (n + 5)) ≡ true
later_ones F n h =
    let few : n < slot_count F * 3 = omega arith in
    ap (term_fits F) (after_five n) ∙ lt-ltb (n / 3) (slot_count F) ((nat.div-lt_iff_lt-mul {k = 3} {x = n} {y = slot_count F} (omega arith)).1 few)

pub fixed_there : (F : Frame) (m : ℕ) → m < fixed_count F → term_fits F (fixed_term m) ≡ true
fixed_there F m h =
    elim (cases_lt m 5) [
      | inl few ↦ first_five F m few
      | inr more ↦ (let same : m - 5 + 5 ≡ m = omega arith in subst (λ v. term_fits F (fixed_term v) ≡ true) same (later_ones F (m - 5) (omega arith)))
    ]

pub fixed_at : (F : Frame) (t : Term) → term_fits F t ≡ true → ((i : ℕ) × (i < F.names) × (t ≡ Term.Node i)) ⊎ ((m : ℕ) × (m < fixed_count F) × (fixed_term m ≡ t))
fixed_at F (Term.Node i) e = inl (i, ltb-true i F.names e, refl)
fixed_at F Term.Min e = inr (0, omega arith, refl)
fixed_at F Term.Max e = inr (1, omega arith, refl)
fixed_at F (Term.Walked KeyName.Own) e = inr (2, omega arith, refl)
fixed_at F (Term.Walked KeyName.Other) e = inr (3, omega arith, refl)
fixed_at F (Term.Walked KeyName.Any) e = inr (4, omega arith, refl)
fixed_at F (Term.Stop k s) e = inr (s * 3 + key_number k + 5, fixed_small F k s (ltb-true s (slot_count F) e), stop_back k s)

pub term_there : (F : Frame) (n : ℕ) → n < F.names + fixed_count F → term_fits F (term_at F n) ≡ true
term_there F n h =
    elim (cases_lt n F.names) [
      | inl below ↦ subst (λ t. term_fits F t ≡ true) (sym (cond-true (nat_lt n F.names) (Term.Node n) (fixed_term (n - F.names)) (lt-ltb n F.names below))) (lt-ltb n F.names below)
      | inr above ↦ subst (λ t. term_fits F t ≡ true) (sym (cond-false (nat_lt n F.names) (Term.Node n) (fixed_term (n - F.names)) (le-ltb n F.names above))) (fixed_there F (n - F.names) (omega arith))
    ]
