use Rattle.std.proofs.Common.{[], ◌∷◌, ◌++◌, ◌∙◌, ap}
use Rattle.plank_lawful.proofs.Joined.{joined_none, joined_more}
use Rattle.plank_solve.specs.Rulings.{reached_now}
use Rattle.plank_solve.proofs.views.Views.reached_now.Goals as goal

pub loop-number-init : goal.loop-number-init
loop-number-init c = λ full agrees.
    c.in_ok-now.ensures.items ∙ joined_none [] (reached_now c.args.self.numbering.now c.args.situation.now full c.args.goals.now c.args.reached.now)

pub loop-number-preserved : goal.loop-number-preserved
loop-number-preserved c = λ full agrees.
    c.in_ok-push.ensures.items ∙ ap (λ b. c.loop-number.now.items ++ b ∷ []) (c.is_reached_now.ensures full agrees)
    ∙ joined_more c.loop-number.now.items [] (reached_now c.args.self.numbering.now c.args.situation.now full c.args.goals.now c.args.reached.now) c.loop-number.number (c.loop-number.invariant full agrees)
