use Rattle.std.specs.Prelude.{◌≡◌, ◌↔◌, true, [], ◌∷◌}
use Rattle.std.proofs.Common.{sym, subst}
use Rattle.std.proofs.lemmas.Result.{IfOk-weaker}
use Rattle.plank_fact.specs.OwnSteps.{own_frame}
use Rattle.plank_fact.specs.Writes.{SomeWrite, moves, turns_wrongly}
use Rattle.plank_query.specs.declared.goals.Goal.{Goal}
use Rattle.plank_query.specs.declared.situations.Situation.{Situation}
use Rattle.plank_query.specs.Situations.{names}
use Rattle.plank_judge.specs.Verdicts.{outline_of}
use Rattle.plank_demand.proofs.Written.{sought_so, turns_said}
use Rattle.plank_demand.proofs.here.Here.change_fails.Goals as goal

pub returns : goal.returns
returns g c =
    let p = c.args.self.now.program.now in
    let O = outline_of p c.args.self.now.marks.now in
    IfOk-weaker c.write_reaches.result _ _ (λ b so x xm xl at.
    subst (λ kind. (b ≡ true) ↔ SomeWrite O x (λ d B A. turns_wrongly kind B (moves (own_frame O x) d B) ≡ true)) (sym (c.kind.ensures x xm xl))
    (sought_so O x c.args.turn at (Goal.TurnsWrongly c.kind.result ∷ []) (λ F d B A. turns_wrongly c.kind.result B (moves F d B) ≡ true)
    (turns_said p.header (names (Situation.Write c.args.turn)) c.kind.result) b (so x xm xl at))) c.write_reaches.ensures
