-- No mark was set before.
use Rattle.std.proofs.Common.{ap, ◌∙◌}
use Rattle.std.specs.Prelude.{◌*◌, ◌||◌}
use Rattle.plank_base.specs.declared.limits.TheConstants.{MARK_WORDS_PER_LOCATION}
use Rattle.plank_pic.specs.Below.{some_below}
use Rattle.plank_bits.specs.Words.{has}
use Rattle.plank_method.specs.Marks.{is_put}
use Rattle.plank_method.proofs.runs.marks_of.Goals as goal

pub returns-clause-marks : goal.returns-clause-marks
returns-clause-marks c = λ k.
    c.put.ensures.marks k ∙ ap (λ b. b || some_below (is_put (has c.args.facts.now) c.args.first k) (64 * MARK_WORDS_PER_LOCATION)) (c.in_ok-found.ensures.none k)
