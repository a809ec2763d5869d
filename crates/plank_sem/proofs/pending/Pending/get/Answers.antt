use Rattle.std.proofs.Common.{sym, ap, ◌∙◌}
use Rattle.std.specs.FinMap as map
use Rattle.plank_sem.proofs.HeldMaps.{get-held_at}
use Rattle.plank_sem.proofs.pending.Pending.get.Goals as goal

pub returns : goal.returns
returns g c =
    c.copied.ensures ∙ c.get.ensures.value
    ∙ sym (get-held_at c.self.inside.held.entries c.args.thread.0)
    ∙ ap (λ m. map.get m c.args.thread.0) c.self.view_is
