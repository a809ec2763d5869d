-- What one step of a schedule makes of a run.
use Rattle.std.specs.Prelude.{◌≡◌, ℕ, ℤ, List, ◌++◌, Option}
use Rattle.plank_prog.specs.declared.headers.Header.{Header}
use Rattle.plank_prog.specs.declared.methods.Method.{Method}
use Rattle.plank_hist.specs.declared.events.Event.{Event}
use Rattle.plank_sem.specs.Steps.{next, stepped, refused, null_read}
use Rattle.plank_trace.specs.declared.lines.Line.{Line}
use Rattle.plank_trace.specs.declared.traces.Moved.{Moved}
use Rattle.plank_trace.specs.declared.traces.Moved.TheVariants.{On, Null, Refused}
use Rattle.plank_trace.specs.declared.traces.Play.{Play}
use Rattle.plank_trace.specs.Lines.{choice_of}
use Rattle.plank_trace.specs.Texts.{stands_at, thread_of, step_text, null_text, walks_text}

abbrev pub IsMoved : Header → List Method → List ℤ → ℕ → Line → Moved → Play → Play → Type 0
IsMoved h methods keys n line On before after =
    (event : Option Event) × (next methods before.world (choice_of methods line) ≡ stepped event after.world)
    × (after.out.items ≡ before.out.items ++ step_text n line (stands_at methods before.world (thread_of line)) event ++ walks_text h after.world.heap keys)
IsMoved h methods keys n line Null before after =
    (next methods before.world (choice_of methods line) ≡ null_read)
    × (after.out.items ≡ before.out.items ++ null_text n line (stands_at methods before.world (thread_of line)))
IsMoved h methods keys n line Refused before after = next methods before.world (choice_of methods line) ≡ refused
