use Rattle.std.proofs.Common.{◌∙◌, ap}
use Rattle.plank_past.specs.Answered.{is_on}
use Rattle.plank_past.proofs.Reaching.{are_reached}
use Rattle.plank_past.proofs.answered.reached.Goals as goal

pub returns : goal.returns
returns g c = are_reached c.args.question.now c.in_ok-answers.answers.items _ c.in_ok-answers.ensures.count c.in_ok-answers.ensures.exact (λ k. c.set_of.ensures k ∙ ap (λ xs. is_on xs k) c.as_slice.ensures.value)
