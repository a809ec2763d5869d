use Rattle.std.specs.Prelude.{◌≡◌, true, [], ◌∷◌}
use Rattle.std.proofs.lemmas.Result.{IfOk-weaker}
use Rattle.plank_fact.specs.Writes.{moves, is_apart}
use Rattle.plank_query.specs.declared.goals.Goal.{Goal}
use Rattle.plank_query.specs.declared.situations.Situation.{Situation}
use Rattle.plank_query.specs.Situations.{names}
use Rattle.plank_judge.specs.Verdicts.{outline_of}
use Rattle.plank_demand.proofs.Written.{sought_so, apart_said}
use Rattle.plank_demand.proofs.here.Here.footprint_fails.Goals as goal

pub returns : goal.returns
returns g c =
    let p = c.args.self.now.program.now in
    let O = outline_of p c.args.self.now.marks.now in
    IfOk-weaker c.write_reaches.result _ _ (λ b so x xm xl at.
    sought_so O x c.args.turn at (Goal.MovesApart ∷ []) (λ F d B A. is_apart (moves F d B) ≡ true) (apart_said p.header (names (Situation.Write c.args.turn))) b (so x xm xl at)) c.write_reaches.ensures
