use Rattle.std.proofs.Common.{ap, ◌∙◌}
use Rattle.std.specs.FinMap as map
use Rattle.plank_sem.proofs.HeldMaps.{held_more}
use Rattle.plank_sem.proofs.pending.Pending.insert.Goals as goal

pub returns-clause-ok : goal.returns-clause-ok
returns-clause-ok g c =
    held_more c.self.inside.held.entries c.insert.new.self.entries c.args.thread.0 c.args.call c.in_ok-insert.ensures.updates.0
    ∙ ap (λ m. map.insert m c.args.thread.0 c.args.call) c.self.view_is
