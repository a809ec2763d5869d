use Rattle.std.proofs.Common.{sym, ap, ◌∙◌, not}
use Rattle.std.specs.Prelude.{◌&&◌}
use Rattle.plank_bits.specs.Words.{has}
use Rattle.plank_fact.specs.Forced.{outline}
use Rattle.plank_past.proofs.Exact.{left_exact}
use Rattle.plank_past.proofs.past.Past.hindsights.Goals as goal

pub returns-clause-exact : goal.returns-clause-exact
returns-clause-exact g c = λ m called k conclusion at.
    let O = outline c.args.program.now.header c.args.program.now.methods (has c.args.marks.now) in
    left_exact O m c.args.hinds.now (has c.minus.result) (has c.in_ok-refuted.refuted)
    (λ i. c.minus.ensures i ∙ ap (λ b. b && not (has c.in_ok-refuted.refuted i)) (c.numbers_below.ensures i))
    (c.in_ok-refuted.ensures m called) (sym c.may_be_now.ensures ∙ c.if-not-may_be_now.false) k conclusion at
