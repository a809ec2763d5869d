-- By the names on the walk.
use Rattle.std.proofs.Common.{sym, ◌∙◌}
use Rattle.plank_pic.specs.declared.parts.KeyName.{KeyName}
use Rattle.plank_pic.specs.Outcomes.{passes}
use Rattle.plank_step.proofs.TwoWalks.{passes_on}
use Rattle.plank_reach.proofs.Moving.{settles_as}
use Rattle.plank_reach.proofs.goals.passes.Goals as goal

pub returns : goal.returns
returns g c =
    settles_as _ (λ full. passes (g.S.Reader.frame c.args.source.now) (g.S.Reader.picture c.args.source.now full) KeyName.Any c.args.at c.args.name) (g.S.Reader.known c.args.source.now) c.is_on.result
    (λ full agrees. passes_on (g.S.Reader.frame c.args.source.now) (g.S.Reader.picture c.args.source.now full) KeyName.Any c.args.at c.args.name _ ((c.in_ok-walk.ensures full agrees).path ∙ sym c.as_slice.ensures.value)) c.is_on.ensures
