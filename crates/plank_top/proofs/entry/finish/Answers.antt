use Rattle.std.proofs.Common.{refl, ℕ, ◌<◌, List, length, take, subst}
use Rattle.std.specs.Io.KnownBytes.{Appends}
use Rattle.plank_top.specs.Endings.{write_fault}
use Rattle.plank_top.proofs.entry.finish.Goals as goal

pub returns-in-Failed : goal.returns-in-Failed
returns-in-Failed g c =
    let taken = subst (λ (bytes : List ℕ). (c.in-Failed.field-0 < length bytes) × Appends (g.K.Sink.taken c.args.sink.now) (g.K.Sink.taken c.write_all.new.sink) (take c.in-Failed.field-0 bytes)) c.deref.ensures.value c.in-Failed.ensures.written in
    write_fault refl (c.in-Failed.ensures.failed tt) c.in-Failed.field-0 taken.0 taken.1
