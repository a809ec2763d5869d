use Rattle.std.proofs.Common.{sym, ap}
use Rattle.plank_query.specs.Situations.{turn}
use Rattle.plank_query.proofs.situations.Situation.actor.Goals as goal

pub returns-in-Effect : goal.returns-in-Effect
returns-in-Effect c = sym (ap turn c.in-Effect.is)
