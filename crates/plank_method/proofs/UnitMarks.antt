-- What the run of a unit finds: the marks that the unit forces; and where it finds no other marks, the unit is still.
use Rattle.std.specs.Prelude.{◌≡◌, ◌↔◌, ℕ, ◌+◌, ◌*◌, true, false, List, IsTrue}
use Rattle.std.proofs.Common.{sym, ◌∙◌, ap, subst, arith}
use Rattle.std.proofs.lemmas.Bool.{true≢false, false_from_ne_true}
use Rattle.plank_bits.specs.Words.{has, IsWithin}
use Rattle.plank_prog.specs.declared.programs.Program.{Program}
use Rattle.plank_fact.specs.declared.facts.Fact.{Fact}
use Rattle.plank_fact.specs.Outlines.{Outline, Point, location_number}
use Rattle.plank_unit.specs.Units.{IsRefutedBySteps, at_entry, after, IsHadBySteps, IsBrokenFact, IsKept, IsForcedThere, HoldsThere, UnitForces, by_steps, by_others, UnitIsStill}
use Rattle.plank_method.specs.Runs.{AreFound}

pub had_not_refuted : (O : Outline) (x : Point O.methods) (f : Fact) → IsHadBySteps O x f → IsRefutedBySteps O x f → ⊥
had_not_refuted O x f had (at_entry first lacks) = lacks (had.entry first)
had_not_refuted O x f had (after from e leads lacks) = lacks (had.after from e leads)

module _ (p : Program) (marks : List ℕ) (unit number : ℕ) (found : List ℕ) where
  holds_there : (Holds Refutes : (O : Outline) → Point O.methods → Fact → Type 0) → AreFound p marks number found Holds Refutes → IsWithin (has found) (has marks) → HoldsThere p.header p.methods Holds number (has marks)
  holds_there Holds Refutes are within x of_number f claimed =
      are.others x of_number f claimed.mark claimed.of_fact (false_from_ne_true (has found claimed.mark) (λ e. true≢false (sym (within claimed.mark e) ∙ claimed.is)))

  module _ (are : AreFound p marks number found (λ O x. IsHadBySteps O x) (λ O x. IsRefutedBySteps O x)) (is : unit ≡ 2 * number) where
    pub found_by_steps : (k : ℕ) → IsTrue (has found k) ↔ UnitForces p.header p.methods unit (has marks) k
    found_by_steps k = (λ e. by_steps number is ((are.forced k).0 e), so_found)
      where
        so_found : UnitForces p.header p.methods unit (has marks) k → has found k ≡ true
        so_found (by_steps other e w) =
            let one : other ≡ number = omega arith in
            (are.forced k).1 (subst (λ n. IsForcedThere p.header p.methods IsRefutedBySteps n (has marks) k) one w)
        so_found (by_others other e w) = absurd (omega arith)

    pub still_by_steps : IsWithin (has found) (has marks) → UnitIsStill p.header p.methods unit (has marks)
    still_by_steps within = record {
      steps = λ other e.
          let one : number ≡ other = omega arith in
          subst (λ n. HoldsThere p.header p.methods IsHadBySteps n (has marks)) one (holds_there (λ O x. IsHadBySteps O x) (λ O x. IsRefutedBySteps O x) are within);
      others = λ other e. absurd (omega arith);
    }

  module _ (are : AreFound p marks number found (λ O x. IsKept O x) (λ O x. IsBrokenFact O x)) (is : unit ≡ 2 * number + 1) where
    pub found_by_others : (k : ℕ) → IsTrue (has found k) ↔ UnitForces p.header p.methods unit (has marks) k
    found_by_others k = (λ e. by_others number is ((are.forced k).0 e), so_found)
      where
        so_found : UnitForces p.header p.methods unit (has marks) k → has found k ≡ true
        so_found (by_others other e w) =
            let one : other ≡ number = omega arith in
            (are.forced k).1 (subst (λ n. IsForcedThere p.header p.methods (λ O x. IsBrokenFact O x) n (has marks) k) one w)
        so_found (by_steps other e w) = absurd (omega arith)

    pub still_by_others : IsWithin (has found) (has marks) → UnitIsStill p.header p.methods unit (has marks)
    still_by_others within = record {
      steps = λ other e. absurd (omega arith);
      others = λ other e.
          let one : number ≡ other = omega arith in
          subst (λ n. HoldsThere p.header p.methods (λ O x. IsKept O x) n (has marks)) one (holds_there (λ O x. IsKept O x) (λ O x. IsBrokenFact O x) are within);
    }
