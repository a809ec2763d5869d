use Rattle.std.proofs.Common.{◌<◌, subst, arith}
use Rattle.plank_bits.specs.Words.{has}
use Rattle.plank_fact.specs.Forced.{outline}
use Rattle.plank_past.specs.Refuting.{IsRefutedWithin, Grows}
use Rattle.plank_past.proofs.Growth.{one_method}
use Rattle.plank_past.proofs.past.Asked.more_of_all.Goals as goal

pub loop-method-preserved : goal.loop-method-preserved
loop-method-preserved g c = λ m called.
    let O = outline c.args.self.now.program.now.header c.args.self.now.program.now.methods (has c.args.self.now.marks.now) in
    one_method c.args.self.now.hinds.now.conclusions.now O m c.args.self.now.hinds.now c.args.present c.loop-method.method (has c.args.refuted.now) (has c.loop-method.found) _
    (c.loop-method.invariant m called) (c.in_ok-found.ensures m called)

pub returns : goal.returns
returns g c = λ m called.
    let O = outline c.args.self.now.program.now.header c.args.self.now.program.now.methods (has c.args.self.now.marks.now) in
    subst (λ n. Grows c.args.self.now.hinds.now.conclusions.now (IsRefutedWithin O m c.args.self.now.hinds.now c.args.present (λ k l. k < n)) (has c.args.refuted.now) (has c.loop-method.found))
    (let past = c.loop-method-test.false in let ends = c.loop-method.auto.method-end in omega arith) (c.loop-method.invariant m called)
