use Rattle.std.proofs.Common.{ap, ◌∙◌}
use Rattle.std.specs.FinMap as map
use Rattle.plank_sem.proofs.HeldMaps.{held_less}
use Rattle.plank_sem.proofs.pending.Pending.remove.Goals as goal

pub returns : goal.returns
returns g c =
    held_less c.self.inside.held.entries c.remove.new.self.entries c.args.thread.0 c.remove.ensures.updates.0
    ∙ ap (λ m. map.remove m c.args.thread.0) c.self.view_is
