-- What is kept so far, with what is kept of the facts that are left, is all that is kept.
use Rattle.std.specs.Prelude.{◌≡◌, ◌+◌, ◌++◌}
use Rattle.std.proofs.Common.{drop}
use Rattle.plank_bits.specs.Words.{has}
use Rattle.plank_fact.specs.ReportedEffects.{kept_from}
use Rattle.plank_verdict.specs.Kept.{table}
use Rattle.plank_verdict.proofs.kept.Kept.facts.Given as goal

abbrev pub invariant-loop-number : goal.invariant-loop-number
invariant-loop-number l =
    l.facts.items ++ kept_from (λ n. has l.self.marks.now (l.self.first + n)) l.self.block.now l.number (drop l.number (table l.self.program.now.header l.self.program.now.methods l.self.method))
    ≡ kept_from (λ n. has l.self.marks.now (l.self.first + n)) l.self.block.now 0 (table l.self.program.now.header l.self.program.now.methods l.self.method)
