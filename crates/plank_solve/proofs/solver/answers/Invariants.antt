use Rattle.std.proofs.Common.{◌≡◌, ◌+◌, [], length, replicate, None}
use Rattle.plank_bits.specs.Words.{count_below}
use Rattle.plank_solve.specs.Rulings.{is_left_out, AreSound}
use Rattle.plank_solve.proofs.solver.answers.Given as goal

-- the session stays, and what is marked is reached; each round leaves fewer goals
abbrev pub invariant-rounds : goal.invariant-rounds
invariant-rounds l = record {
  rules : l.session.rules ≡ l.ruling;
  clauses : l.session.clauses ≡ [];
  given : l.session.given ≡ replicate (length l.ruling.numbering.now.table.parts + length l.question.goals.now) None;
  count : length l.reached.items ≡ length l.question.goals.now;
  sound : AreSound l.question l.reached.items;
}

abbrev pub decreases-rounds : goal.decreases-rounds
decreases-rounds l = count_below (is_left_out l.reached.items) (length l.question.goals.now)
