-- A fact is claimed where its number is in the table and the mark of this number is not set.
use Rattle.std.specs.Prelude.{◌≡◌, ◌↔◌, ℕ, ◌+◌, ◌*◌, ◌<◌, Bool, true, false, not, List, slice_get, Option, Some}
use Rattle.std.specs.Option.{option_and_then}
use Rattle.std.proofs.Common.{refl, sym, ◌∙◌, ap, arith}
use Rattle.std.proofs.lemmas.Bool.{false≢true}
use Rattle.plank_base.specs.declared.limits.TheConstants.{MARK_WORDS_PER_LOCATION}
use Rattle.plank_bits.specs.Words.{has}
use Rattle.plank_prog.specs.declared.methods.Method.{Method}
use Rattle.plank_prog.specs.declared.programs.Program.{Program}
use Rattle.plank_prog.proofs.HeaderFacts.{few_flags, few_pointers}
use Rattle.plank_fact.specs.declared.facts.Fact.{Fact}
use Rattle.plank_fact.specs.Tables.{facts_of, fact_at}
use Rattle.plank_fact.specs.Outlines.{Point, mark_number, IsClaimed, HasMark}
use Rattle.plank_fact.specs.Forced.{outline}
use Rattle.plank_fact.proofs.Counts.{number_within, facts_have_room}
use Rattle.plank_fact.proofs.Limits.{few_variables}
use Rattle.plank_fact.proofs.Numbered.{numbers_agree}

module _ (program : Program) (words : List ℕ) (m l first : ℕ) (first_is : first ≡ mark_number program.methods m l 0)
    (x : Point program.methods) (of_method : x.m ≡ m) (of_location : x.l ≡ l) (f : Fact) where
  called : slice_get program.methods m ≡ Some x.method
  called = ap (slice_get program.methods) (sym of_method) ∙ x.called

  same_table : (n : ℕ) → fact_at program.header program.methods m n ≡ slice_get (facts_of program.header x.method) n
  same_table n = ap (λ (o : Option Method). option_and_then (λ method. slice_get (facts_of program.header method) n) o) called

  same_mark : (n : ℕ) → first + n ≡ mark_number program.methods x.m x.l n
  same_mark n =
      let sum : first + n ≡ mark_number program.methods m l n = omega arith in
      sum ∙ ap (λ k. mark_number program.methods k l n) (sym of_method) ∙ ap (λ k. mark_number program.methods x.m k n) (sym of_location)

  pub number_has_room : (n : ℕ) → fact_at program.header program.methods m n ≡ Some f → n < 64 * MARK_WORDS_PER_LOCATION
  number_has_room n is =
      let within = number_within program.header x.method n f (sym (same_table n) ∙ is) in
      let few = facts_have_room program.header x.method (few_variables program.header program.methods program.methods_are_lawful m x.method called) (few_flags program.header program.header_is_lawful) (few_pointers program.header program.header_is_lawful) in
      omega arith

  pub mark_so : (set : Bool) (n : ℕ) → fact_at program.header program.methods m n ≡ Some f → has words (first + n) ≡ set → HasMark (outline program.header program.methods (has words)) x f set
  mark_so set n is e = record {
    mark = mark_number program.methods x.m x.l n;
    of_fact = record { number = n; fact = sym (same_table n) ∙ is; is = refl };
    is = ap (has words) (sym (same_mark n)) ∙ e;
  }

  pub so_mark : (set : Bool) (n : ℕ) → fact_at program.header program.methods m n ≡ Some f → HasMark (outline program.header program.methods (has words)) x f set → has words (first + n) ≡ set
  so_mark set n is w =
      let one = numbers_agree program.header x.method n w.of_fact.number f (sym (same_table n) ∙ is) w.of_fact.fact in
      ap (has words) (same_mark n ∙ ap (mark_number program.methods x.m x.l) one ∙ sym w.of_fact.is) ∙ w.is

  pub none_marked : (set : Bool) → ((n : ℕ) → fact_at program.header program.methods m n ≡ Some f → ⊥) → HasMark (outline program.header program.methods (has words)) x f set → ⊥
  none_marked set none w = none w.of_fact.number (same_table w.of_fact.number ∙ w.of_fact.fact)

  clear_from : (a b : Bool) → b ≡ not a → b ≡ true → a ≡ false
  clear_from true b e t = absurd (false≢true (sym e ∙ t))
  clear_from false b e t = refl

  from_clear : (a b : Bool) → b ≡ not a → a ≡ false → b ≡ true
  from_clear a b e f = e ∙ ap not f

  pub found_claimed : (n : ℕ) → fact_at program.header program.methods m n ≡ Some f → (b : Bool) → (n < 64 * MARK_WORDS_PER_LOCATION → b ≡ not (has words (first + n)))
      → (b ≡ true) ↔ IsClaimed (outline program.header program.methods (has words)) x f
  found_claimed n is b clear = (
    λ e. mark_so false n is (clear_from (has words (first + n)) b (clear (number_has_room n is)) e),
    λ w. from_clear (has words (first + n)) b (clear (number_has_room n is)) (so_mark false n is w),
  )
