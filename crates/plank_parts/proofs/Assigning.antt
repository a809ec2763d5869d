-- Two pictures are those of their assignment.
use Rattle.std.proofs.Common.{◌≡◌, ℕ, Bool, true, false, refl, sym, ◌∙◌, ap}
use Rattle.std.specs.Prelude.{not, ◌&&◌, ◌==◌}
use Rattle.std.proofs.lemmas.Bool.{eqb-true}
use Rattle.std.proofs.lemmas.Option.{slice_get_past}
use Rattle.plank_pic.specs.declared.parts.Part.{Part}
use Rattle.plank_pic.specs.Pictures.{Picture}
use Rattle.plank_pic.specs.Lawful.{part_fits}
use Rattle.plank_parts.specs.declared.sides.Side.{Side}
use Rattle.plank_parts.specs.Numbers.{Numbers, IsNumbering, IsWithin, IsAssignment, HasAssignments, AgreeUnmoved, number, assignment, said_by, picture_of}

module _ (N : Numbers) (is : IsNumbering N.frame N.table) (p r : Picture) (more : ℕ → Bool)
    (p_within : IsWithin N.frame p) (r_within : IsWithin N.frame r) (agree : AgreeUnmoved N p r) where
  abbrev pub full : ℕ → Bool
  full = assignment N.table p r more

  before_says : (part : Part) → part_fits N.frame part ≡ true → full (number N.table Side.Before part) ≡ p part
  before_says part fits = ap (said_by p r (more (number N.table Side.Before part))) (is.before part fits)

  after_says : (part : Part) → part_fits N.frame part ≡ true → full (number N.table Side.After part) ≡ r part
  after_says part fits = by_bit (number N.table Side.After part == number N.table Side.Before part) refl
    where
      by_bit : (b : Bool) → (number N.table Side.After part == number N.table Side.Before part) ≡ b → full (number N.table Side.After part) ≡ r part
      by_bit true e = ap full (eqb-true _ _ e) ∙ before_says part fits ∙ sym (agree part fits (ap not e))
      by_bit false e = ap (said_by p r (more (number N.table Side.After part))) (is.moved part fits (ap not e))

  by_fit : (q : Picture) → IsWithin N.frame q → (side : Side) → ((part : Part) → part_fits N.frame part ≡ true → full (number N.table side part) ≡ q part) →
      (part : Part) (b : Bool) → part_fits N.frame part ≡ b → picture_of N side full part ≡ q part
  by_fit q within side says part true e = ap (λ (b : Bool). b && full (number N.table side part)) e ∙ says part e
  by_fit q within side says part false e = ap (λ (b : Bool). b && full (number N.table side part)) e ∙ sym (within part e)

  shows : (q : Picture) → IsWithin N.frame q → (side : Side) → ((part : Part) → part_fits N.frame part ≡ true → full (number N.table side part) ≡ q part) →
      picture_of N side full ≡ q
  shows q within side says = λ i part. each part i
    where
      each : (part : Part) → picture_of N side full part ≡ q part
      each part = by_fit q within side says part (part_fits N.frame part) refl

  pub is_assignment : IsAssignment N p r more
  is_assignment = record {
    before = shows p p_within Side.Before before_says;
    after = shows r r_within Side.After after_says;
    more_values = λ n past. ap (said_by p r (more n)) (slice_get_past N.table.parts n past);
  }

pub has_assignments : (N : Numbers) → IsNumbering N.frame N.table → HasAssignments N
has_assignments N is = λ p r more p_within r_within agree. is_assignment N is p r more p_within r_within agree
