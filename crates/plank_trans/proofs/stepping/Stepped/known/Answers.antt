use Rattle.std.proofs.Common.{sym, ap, ◌∙◌}
use Rattle.std.specs.Prelude.{slice_get}
use Rattle.std.proofs.lemmas.Result.{IfOk-weaker}
use Rattle.plank_bits.specs.Words.{has}
use Rattle.plank_trans.proofs.Steps.{after_exact}
use Rattle.plank_trans.proofs.stepping.Stepped.known.Goals as goal

pub returns : goal.returns
returns g c =
    let s = c.args.self.now in
    IfOk-weaker c.known.result _ _ (λ known w x t.
    after_exact s.program.now s.marks.now s.at.method s.at.location s.turn s.claims.now s.claims_are x t.of_method t.of_location s.turn.exit t.turn
    (has c.args.wanted.now) (has c.in_ok-carried.carried) (has known) (c.in_ok-carried.ensures x t) (w x.method (ap (slice_get s.program.now.methods) (sym t.of_method) ∙ x.called))) c.known.ensures
