use Rattle.std.proofs.Common.{refl, ◌∙◌, ap}
use Rattle.std.specs.Prelude.{◌&&◌, not}
use Rattle.plank_bits.specs.Words.{has}
use Rattle.plank_shown.proofs.Exact.{shown_exact}
use Rattle.plank_shown.proofs.arrivals.Arrivals.shown.Goals as goal

pub returns : goal.returns
returns g c = λ m called.
    shown_exact c.args.self.now.program.now c.args.self.now.method c.args.self.now.situation c.args.self.now.claims.now (has c.args.wanted.now)
    _ refl refl refl (c.as_slice.ensures.value ∙ c.new-after.ensures.items)
    c.as_slice-numbers.result.now (c.as_slice-numbers.ensures.value ∙ c.in_ok-list.ensures.numbers)
    (c.as_slice-2.ensures.value ∙ c.in_ok-asked.ensures)
    (has c.in_ok-failing.failing) c.in_ok-failing.ensures
    (has c.minus-places.result) (λ k. c.minus-places.ensures k ∙ ap (λ b. b && not (has c.in_ok-failing.failing k)) (c.numbers_below.ensures k))
    (has c.empty.result) (has c.spread.result) c.empty.ensures c.spread.ensures m called (c.args.self.now.own m called)
