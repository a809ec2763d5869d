-- Which facts the table of a method has: of earlier moments only what may be past, and always those that answers need and
-- whether root is null.
use Rattle.std.specs.Prelude.{◌≡◌, ◌+◌, ◌<◌, ℕ, true, Some}
use Rattle.std.proofs.Common.{refl, arith}
use Rattle.std.proofs.lemmas.Option.{none-some}
use Rattle.plank_prog.specs.declared.headers.Header.{Header}
use Rattle.plank_prog.specs.declared.blocks.Reference.{Reference}
use Rattle.plank_prog.specs.declared.methods.Method.{Method}
use Rattle.plank_pic.specs.declared.literals.Literal.{Literal}
use Rattle.plank_fact.specs.declared.facts.Fact.{Fact}
use Rattle.plank_fact.specs.declared.kinds.FactKind.{FactKind}
use Rattle.plank_fact.specs.declared.layouts.Seconds.{Seconds}
use Rattle.plank_fact.specs.Literals.{can_be_past}
use Rattle.plank_fact.specs.Tables.{name_count, IsFactOf}
use Rattle.plank_fact.specs.Places.{at, kind_past, kind_of, parts_of, over, sizes_of, layout_of, facts_within, kind_number, IsPlace}
use Rattle.plank_fact.proofs.Rows.{start-zero}
use Rattle.plank_fact.proofs.Numbered.{stands_in, stands_by_kind, fact_found}

past_so : (L : Literal) (k : FactKind) → kind_past L ≡ Some k → can_be_past L ≡ true
past_so (Literal.Visited q) k e = refl
past_so (Literal.Flag q f) k e = refl
past_so (Literal.NoFlag q f) k e = refl
past_so Literal.InSet k e = refl
past_so Literal.NotInSet k e = refl
past_so L k e = absurd (none-some k e)

-- a past fact of the table says what may be past
pub past_kind : (h : Header) (m : Method) (L : Literal) → IsFactOf h m (Fact.Past L) → can_be_past L ≡ true
past_kind h m L is = let w = stands_in h m is.0 (Fact.Past L) is.1 in past_so L w.kind (stands_by_kind h m is.0 (Fact.Past L) w)

-- ---- what is in the table

first_place : (firsts : ℕ) → 0 < firsts → IsPlace (over firsts 1 Seconds.Absent) (at 0 0 0) 0
first_place firsts some = record {
  first = some;
  field = omega arith;
  rank = 0;
  listed = omega arith;
  second = refl;
  is = omega (arith, start-zero (over firsts 1 Seconds.Absent));
}

module _ (h : Header) (m : Method) where
  first_there : (x : Fact) (k : FactKind) → kind_of x ≡ Some k → IsPlace (layout_of (sizes_of h (name_count m)) k) (parts_of x) 0 → IsFactOf h m x
  first_there x k kind place = (facts_within (sizes_of h (name_count m)) (kind_number k) + 0, fact_found h m x k 0 kind place)

  pub unspent_there : IsFactOf h m (Fact.Now Literal.Unspent)
  unspent_there = first_there (Fact.Now Literal.Unspent) FactKind.Unspent refl (first_place 1 (omega arith))

  pub spent_there : IsFactOf h m (Fact.Now Literal.Spent)
  spent_there = first_there (Fact.Now Literal.Spent) FactKind.Spent refl (first_place 1 (omega arith))

  pub was_absent_there : IsFactOf h m (Fact.Past Literal.NotInSet)
  was_absent_there = first_there (Fact.Past Literal.NotInSet) FactKind.PastNotInSet refl (first_place 1 (omega arith))

  pub was_present_there : IsFactOf h m (Fact.Past Literal.InSet)
  was_present_there = first_there (Fact.Past Literal.InSet) FactKind.PastInSet refl (first_place 1 (omega arith))

  pub null_there : IsFactOf h m (Fact.Now (Literal.Null Reference.Root))
  null_there = first_there (Fact.Now (Literal.Null Reference.Root)) FactKind.Null refl (first_place (name_count m) (omega arith))

  pub not_null_there : IsFactOf h m (Fact.Now (Literal.NotNull Reference.Root))
  not_null_there = first_there (Fact.Now (Literal.NotNull Reference.Root)) FactKind.NotNull refl (first_place (name_count m) (omega arith))
