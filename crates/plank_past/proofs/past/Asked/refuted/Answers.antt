use Rattle.std.proofs.lemmas.Result.{IfOk-weaker}
use Rattle.plank_bits.specs.Words.{has}
use Rattle.plank_fact.specs.Forced.{outline}
use Rattle.plank_past.proofs.Refuted.{at_once_alone, and_later}
use Rattle.plank_past.proofs.past.Asked.refuted.Goals as goal

pub returns-in-None : goal.returns-in-None
returns-in-None g c = λ m called.
    let O = outline c.args.self.now.program.now.header c.args.self.now.program.now.methods (has c.args.self.now.marks.now) in
    at_once_alone O m c.args.self.now.hinds.now (has c.in_ok-at_once.at_once) c.in-None.is (c.in_ok-at_once.ensures m called)

pub returns-in-Some : goal.returns-in-Some
returns-in-Some g c =
    let O = outline c.args.self.now.program.now.header c.args.self.now.program.now.methods (has c.args.self.now.marks.now) in
    IfOk-weaker c.more_of_all.result _ _ (λ found w m called.
    and_later O m c.args.self.now.hinds.now c.in-Some.present (has c.in_ok-at_once.at_once) (has found) c.in-Some.is (c.in_ok-at_once.ensures m called) (w m called)) c.more_of_all.ensures
