-- Names of one node in a picture: each part says the same of both.
use Rattle.std.proofs.Common.{◌≡◌, ℕ, ◌<◌, ◌==◌, Bool, true, false, length, refl, sym, ◌∙◌, ap, subst, arith}
use Rattle.std.specs.Prelude.{◌&&◌, is_some, if◌then◌else◌}
use Rattle.std.proofs.lemmas.Bool.{and_parts, cond-true, cond-false, eq-eqb}
use Rattle.plank_pic.specs.declared.parts.Part.{Part}
use Rattle.plank_pic.specs.Frames.{Frame}
use Rattle.plank_pic.specs.Pictures.{Picture}
use Rattle.plank_pic.specs.Renaming.{rename_part, instead}
use Rattle.plank_pic.specs.Lawful.{part_fits, slot_count, speaks_of, chains_are_there, IsPicture}
use Rattle.plank_pic.proofs.EachName.{told, same_bits}
use Rattle.plank_lawful.proofs.Tests.{same_branch, bare_to}

pub instead_left : (i j : ℕ) → instead i j i ≡ i
instead_left i j = same_branch (i == j) i

pub instead_right : (i j : ℕ) → instead i j j ≡ i
instead_right i j = cond-true (j == j) i j (eq-eqb j j refl)

-- where an index of chains has a value, there are chains and two slots
pub record HasChains (F : Frame) : Type 0 where
  pub slots : slot_count F ≡ 2
  pub one_pointer : chains_are_there F ≡ true

pub chained : (F : Frame) (n i : ℕ) → i < (if slot_count F == 0 then 0 else n) → HasChains F × (i < n)
chained F n i h = by_bit (is_some F.header.freeze && (length F.header.pointers == 1)) refl
  where
    by_bit : (b : Bool) → (is_some F.header.freeze && (length F.header.pointers == 1)) ≡ b → HasChains F × (i < n)
    by_bit true e =
        let two : slot_count F ≡ 2 = cond-true (is_some F.header.freeze && (length F.header.pointers == 1)) 2 0 e in
        (record { slots = two; one_pointer = (and_parts _ _ e).1 }, subst (λ s. i < (if s == 0 then 0 else n)) two h)
    by_bit false e =
        let none : slot_count F ≡ 0 = cond-false (is_some F.header.freeze && (length F.header.pointers == 1)) 2 0 e in
        let no : i < 0 = subst (λ s. i < (if s == 0 then 0 else n)) none h in absurd (omega arith)

pub locked : (b : Bool) (n i : ℕ) → i < (if b then n else 0) → i < n
locked true n i h = h
locked false n i h = absurd (omega arith)

module _ (F : Frame) (p : Picture) (is : IsPicture F p) where
  -- nothing is said of a name that is null
  pub nothing_said : (i : ℕ) → i < F.names → p (Part.Null i) ≡ true → (part : Part) → speaks_of i part ≡ true → p part ≡ false
  nothing_said i bi null part speaks = by_fit (part_fits F part) refl
    where
      by_fit : (b : Bool) → part_fits F part ≡ b → p part ≡ false
      by_fit true e = bare_to (p (Part.Null i)) (p part) (is.bare i part bi e speaks) null
      by_fit false e = is.fits part e

  module _ (i j : ℕ) (bi : i < F.names) (bj : j < F.names) (same : p (Part.Same i j) ≡ true) where
    pub renamed : (part : Part) → part_fits F part ≡ true → p (rename_part (instead i j) part) ≡ p part
    renamed part fits = same_bits _ _ (told _ _ (is.one_node i j part bi bj fits) same)

    -- a part that speaks of one name
    pub only : (X : ℕ → Part) → ((n : ℕ) → rename_part (instead i j) (X n) ≡ X (instead i j n)) → part_fits F (X j) ≡ true → p (X i) ≡ p (X j)
    only X ren fits = ap (λ m. p (X m)) (sym (instead_right i j)) ∙ ap p (sym (ren j)) ∙ renamed (X j) fits

    -- or of none that fits
    pub only_or_none : (X : ℕ → Part) → ((n : ℕ) → rename_part (instead i j) (X n) ≡ X (instead i j n)) → part_fits F (X i) ≡ part_fits F (X j) → p (X i) ≡ p (X j)
    only_or_none X ren alike = by_fit (part_fits F (X j)) refl
      where
        by_fit : (b : Bool) → part_fits F (X j) ≡ b → p (X i) ≡ p (X j)
        by_fit true e = only X ren e
        by_fit false e = is.fits (X i) (alike ∙ e) ∙ sym (is.fits (X j) e)

    -- a part that speaks of two names, and the other one is the same
    pub first : (X : ℕ → ℕ → Part) → ((a b : ℕ) → rename_part (instead i j) (X a b) ≡ X (instead i j a) (instead i j b))
        → (n : ℕ) → part_fits F (X i n) ≡ true → part_fits F (X j n) ≡ true → p (X i n) ≡ p (X j n)
    first X ren n fi fj =
        sym (renamed (X i n) fi) ∙ ap p (ren i n) ∙ ap (λ m. p (X m (instead i j n))) (instead_left i j ∙ sym (instead_right i j))
        ∙ ap p (sym (ren j n)) ∙ renamed (X j n) fj
