use Rattle.std.proofs.Common.{subst}
use Rattle.plank_top.specs.Answers.{Answer}
use Rattle.plank_top.specs.Endings.{Ends, told}
use Rattle.plank_top.proofs.entry.end_refused.Goals as goal

pub returns-in-Ok : goal.returns-in-Ok
returns-in-Ok g c =
    subst (λ (answer : Answer). Ends (told (g.K.Sink.taken c.args.sink.now) (g.K.Sink.taken c.finish.new.sink) (g.K.Sink.faults c.args.sink.now) (g.K.Sink.faults c.finish.new.sink)) c.finish.result answer) c.in-Ok.ensures c.finish.ensures
