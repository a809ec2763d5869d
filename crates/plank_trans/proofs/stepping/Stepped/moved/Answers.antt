use Rattle.std.proofs.Common.{List, refl, sym, ◌∙◌, subst}
use Rattle.std.proofs.lemmas.Result.{IfOk-weaker}
use Rattle.plank_bits.specs.Words.{has}
use Rattle.plank_query.specs.declared.goals.Goal.{Goal}
use Rattle.plank_query.specs.Situations.{turn_of_own}
use Rattle.plank_trans.specs.Carried.{AreMoveGoals}
use Rattle.plank_trans.proofs.Moved.{are_moves}
use Rattle.plank_trans.proofs.stepping.Stepped.moved.Goals as goal

pub returns : goal.returns
returns g c =
    let s = c.args.self.now in
    IfOk-weaker c.reached.result _ _ (λ moved w x t.
    are_moves s.program.now s.marks.now s.at.method s.at.location s.turn s.claims.now s.claims_are x t.of_method t.of_location s.turn.exit t.turn
    _ refl refl refl (c.as_slice.ensures.value ∙ c.new-after.ensures.items) c.args.names
    (subst (λ (gs : List Goal). AreMoveGoals (turn_of_own s.turn) c.args.names gs) (sym c.as_slice-2.ensures.value) c.in_ok-goals.ensures) (has moved) w) c.reached.ensures
