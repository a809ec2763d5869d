-- What the rules so far force.
use Rattle.std.proofs.Common.{◌≡◌, ◌↔◌, ℕ, true, length}
use Rattle.plank_bits.specs.Words.{has}
use Rattle.plank_crew_tests.specs.Rules.{IsForced}
use Rattle.plank_crew_tests.proofs.tables.TableForcing.force.Given as goal

abbrev pub invariant-loop-i : goal.invariant-loop-i
invariant-loop-i g l = record {
  size : length l.found ≡ l.self.words;
  marks : (k : ℕ) → (has l.found k ≡ true) ↔ IsForced l.self.rules.items l.self.words l.i l.m (has l.marks) k;
}
