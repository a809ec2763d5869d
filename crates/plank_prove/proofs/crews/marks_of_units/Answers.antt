-- No marks are the least of no units.
use Rattle.std.proofs.Common.{◌≡◌, true, sym, ◌∙◌, arith}
use Rattle.std.proofs.lemmas.Bool.{false≢true}
use Rattle.plank_prove.proofs.crews.marks_of_units.Goals as goal

pub returns-then-methods-eq0-clause-least : goal.returns-then-methods-eq0-clause-least
returns-then-methods-eq0-clause-least g c = record {
  closed = λ k w. absurd (omega (arith, w.1));
  within = λ b closed k e. absurd (false≢true (sym (c.in_ok-none.ensures.none k) ∙ e));
}

pub returns-then-methods-eq0-clause-still : goal.returns-then-methods-eq0-clause-still
returns-then-methods-eq0-clause-still g c = λ m below. absurd (omega (arith, below))
