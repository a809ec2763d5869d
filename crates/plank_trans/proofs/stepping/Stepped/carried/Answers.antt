use Rattle.std.proofs.Common.{sym, ◌∙◌, ap, inr}
use Rattle.std.specs.Prelude.{slice_get}
use Rattle.std.proofs.lemmas.Bool.{true≢false}
use Rattle.plank_bits.specs.Words.{has}
use Rattle.plank_method.specs.Deciding.{outline_of}
use Rattle.plank_trans.proofs.Kept.{kept_enough}
use Rattle.plank_trans.proofs.stepping.Stepped.carried.Goals as goal

pub returns-then-not-wants_past : goal.returns-then-not-wants_past
returns-then-not-wants_past g c = λ x t.
    let s = c.args.self.now in
    let called = ap (slice_get s.program.now.methods) (sym t.of_method) ∙ x.called in
    kept_enough (outline_of s.program.now s.marks.now) x s.turn.exit (has c.args.wanted.now) (has c.kept-kept.result) (has c.minus-open.result) (c.kept-kept.ensures x t) c.minus-open.ensures
    (λ n L is opened. true≢false (sym (c.wants_past.ensures x.method called n L is opened) ∙ c.if-not-wants_past.true))

pub returns : goal.returns
returns g c = λ x t. record { carried = λ n L is. (c.carried.ensures x t n L is).0; all = λ n L is wants. inr (c.carried.ensures x t) }
