use Rattle.std.proofs.Common.{IsSome, sym, ap, subst, ◌∙◌}
use Rattle.std.specs.Option.{option_copied_mut}
use Rattle.std.specs.FinMap as map
use Rattle.std.proofs.lemmas.Bool.{false≢true}
use Rattle.plank_sem.proofs.HeldMaps.{held_at, held_more, get-held_at}
use Rattle.plank_sem.proofs.pending.Pending.replace.Goals as goal
use Rattle.plank_sem.proofs.pending.Pending.replace.Goals.{in-Some, in_default}

pub returns : goal.returns
returns g c =
    let entries = c.self.inside.held.entries in
    let present : IsSome (held_at entries c.args.thread.0) =
    subst IsSome (ap (λ m. map.get m c.args.thread.0) (sym c.self.view_is) ∙ get-held_at entries c.args.thread.0) c.requires in
    elim c.match-get_mut.branch [
      | in-Some w ↦
          rw w.self-inside-is
          (held_more entries (c.get_mut.follows.lender c.args.call).entries c.args.thread.0 c.args.call ((c.get_mut.follows.holds c.args.call).3 present).0
          ∙ ap (λ m. map.insert m c.args.thread.0 c.args.call) c.self.view_is)
      | in_default w ↦
          absurd (false≢true (subst IsSome (sym c.get_mut.ensures.value ∙ ap option_copied_mut w.in_default.is) present))
    ]
