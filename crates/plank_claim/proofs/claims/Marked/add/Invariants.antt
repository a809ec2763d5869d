-- The claims of the numbers so far are added.
use Rattle.std.specs.Prelude.{◌≡◌, ◌++◌}
use Rattle.plank_bits.specs.Words.{has}
use Rattle.plank_claim.specs.Claims.{claim_at, listed_below}
use Rattle.plank_claim.proofs.claims.Marked.add.Given as goal

abbrev pub invariant-loop-number : goal.invariant-loop-number
invariant-loop-number l =
    l.claims.items ≡ l.initial.claims.items ++ listed_below (claim_at l.self.program.now.header l.self.program.now.methods l.self.method (has l.self.marks.now) l.self.first l.speaker l.known) l.number
