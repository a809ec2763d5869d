use Rattle.std.proofs.Common.{true, sym, ◌∙◌}
use Rattle.std.proofs.lemmas.Bool.{true≢false}
use Rattle.plank_bits.specs.Words.{has}
use Rattle.plank_shown.specs.Shown.{Arrives}
use Rattle.plank_follow.proofs.Sorts.{are_of_kind}
use Rattle.plank_follow.proofs.Ends.{had_exact}
use Rattle.plank_follow.proofs.known.Following.known.Goals as goal

pub returns-in_ok-shown : goal.returns-in_ok-shown
returns-in_ok-shown g c = λ m called.
    let a = c.args.self.now.arrivals in
    let p = a.program.now in
    had_exact p c.args.self.now.marks.now m (Arrives p.header a.situation a.claims.now) (has c.of_kind-past.result) (has c.args.carried.now) (has c.meet-had.result) (has c.args.wanted.now)
    (has c.minus-open.result) (has c.in_ok-shown.shown) (has c.union.result) (are_of_kind p a.method true (has c.of_kind-past.result) c.of_kind-past.ensures m called) c.meet-had.ensures c.minus-open.ensures
    (λ n L is wants. true≢false (sym (c.wants_past.ensures m called n L is wants) ∙ c.if-wants_past.false)) (c.in_ok-shown.ensures m called) c.union.ensures
