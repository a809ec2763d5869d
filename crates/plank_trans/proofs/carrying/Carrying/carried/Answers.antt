use Rattle.std.proofs.Common.{◌<◌, sym, ◌∙◌, ap, arith}
use Rattle.std.specs.Prelude.{slice_get}
use Rattle.plank_bits.specs.Words.{has}
use Rattle.plank_fact.specs.declared.facts.Fact.{Fact}
use Rattle.plank_method.specs.Deciding.{outline_of}
use Rattle.plank_shown.proofs.Exact.{same_table, room}
use Rattle.plank_trans.proofs.Carries.{one_within}
use Rattle.plank_trans.proofs.carrying.Carrying.carried.Goals as goal

pub loop-number-preserved : goal.loop-number-preserved
loop-number-preserved c = λ x w.
    let s = c.args.self.now in
    let n = c.loop-number.number in
    let called = ap (slice_get s.program.now.methods) (sym w.of_method) ∙ x.called in
    one_within (outline_of s.program.now s.marks.now) x s.turn.exit n (has c.loop-number.set) (has c.with_if-set.result) c.is_carried_fact-added.result (c.loop-number.invariant x w)
    (λ L at. c.is_carried_fact-added.ensures x L w (c.fact.ensures ∙ same_table s.program.now s.at.method x.method called n ∙ at) (n, at)) c.with_if-set.ensures

pub returns : goal.returns
returns c = λ x w n L at.
    let s = c.args.self.now in
    let called = ap (slice_get s.program.now.methods) (sym w.of_method) ∙ x.called in
    let so = c.loop-number.invariant x w n L at in
    let small = room s.program.now s.at.method x.method called n (Fact.Past L) at in
    let far = c.loop-number-test.false in
    let below : n < c.loop-number.number = omega (arith, small, far) in
    (λ e. (so.0 e).1, λ v. so.1 (below, v))
