-- The scope is that of the line.
use Rattle.std.proofs.Common.{◌∙◌, ap}
use Rattle.plank_rules.specs.Faults.{after}
use Rattle.plank_rules.specs.Conditions.{condition_rules}
use Rattle.plank_rules.proofs.headers.add_freeze_rules.Goals as goal

pub returns : goal.returns
returns c =
    c.add_condition_rules.ensures
    ∙ ap (λ scope. after c.args.found.now.first (condition_rules c.args.header.now scope c.args.line.now.condition)) c.in_ok-scope.ensures
