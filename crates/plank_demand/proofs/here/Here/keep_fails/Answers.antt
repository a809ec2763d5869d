use Rattle.std.specs.Prelude.{List}
use Rattle.std.proofs.Common.{sym, subst}
use Rattle.std.proofs.lemmas.Result.{IfOk-weaker}
use Rattle.plank_fact.specs.Writes.{BreaksKeep}
use Rattle.plank_query.specs.declared.goals.Goal.{Goal}
use Rattle.plank_query.specs.declared.situations.Situation.{Situation}
use Rattle.plank_query.specs.Situations.{names}
use Rattle.plank_goals.specs.Wrongs.{SayOfWrites}
use Rattle.plank_judge.specs.Verdicts.{outline_of}
use Rattle.plank_demand.proofs.Written.{sought_so}
use Rattle.plank_demand.proofs.here.Here.keep_fails.Goals as goal

pub returns : goal.returns
returns g c =
    let p = c.args.self.now.program.now in
    let O = outline_of p c.args.self.now.marks.now in
    let n = names (Situation.Write c.args.turn) in
    let say : SayOfWrites p.header n c.as_slice.result.now BreaksKeep = subst (λ (gs : List Goal). SayOfWrites p.header n gs BreaksKeep) (sym c.as_slice.ensures.value)
    (subst (λ k. SayOfWrites p.header k c.in_ok-goals.goals.items BreaksKeep) c.names.ensures c.in_ok-goals.ensures) in
    IfOk-weaker c.write_reaches.result _ _ (λ b so x xm xl at. sought_so O x c.args.turn at c.as_slice.result.now BreaksKeep say b (so x xm xl at)) c.write_reaches.ensures
