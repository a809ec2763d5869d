use Rattle.std.proofs.Common.{ℕ, List, subst}
use Rattle.plank_top.specs.Commands.{Answers}
use Rattle.plank_top.specs.Endings.{Concludes, told, whole_text, too_long}
use Rattle.plank_top.proofs.entry.serve.Goals as goal

pub returns-in-Ok-Whole : goal.returns-in-Ok-Whole
returns-in-Ok-Whole g c =
    whole_text c.in-Ok-Whole.text.items (rw c.in-Ok-Whole.field-0-is at c.in-Ok-Whole.ensures.read)
    (subst (λ (text : List ℕ). Concludes (Answers c.args.command text) (told (g.K.Sink.taken c.args.sink.now) (g.K.Sink.taken c.conclude.new.sink) (g.K.Sink.faults c.args.sink.now) (g.K.Sink.faults c.conclude.new.sink)) c.conclude.result) c.deref.ensures.value c.conclude.ensures)

pub returns-in-Ok-Over : goal.returns-in-Ok-Over
returns-in-Ok-Over g c = too_long c.in-Ok-Over.field-0-0.items (rw c.in-Ok-Over.field-0-is at c.in-Ok-Over.ensures.read) c.end_refused.ensures
