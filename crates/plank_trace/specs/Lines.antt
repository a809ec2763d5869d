-- What the lines of a schedule choose.
use Rattle.std.specs.Prelude.{ℕ, Bool, ◌==◌, List}
use Rattle.std.specs.List.{position_or_len}
use lib.Pointwise.{pointwise}
use Rattle.plank_prog.specs.declared.methods.Method.{Method}
use Rattle.plank_sem.specs.declared.steps.Act.{Act}
use Rattle.plank_sem.specs.declared.steps.Choice.{Choice}
use Rattle.plank_trace.specs.declared.lines.Line.{Line}

abbrev pub has_name : List ℕ → Method → Bool
has_name name m = pointwise ◌==◌ m.name name

-- a call of the first method of the name, or a step; a name of no method chooses the number past them, which is no method's
abbrev pub choice_of : List Method → Line → Choice
choice_of methods (Line.Call thread name key) =
    record { thread = thread; act = Act.Invoke (position_or_len (has_name name) methods) key }
choice_of methods (Line.Go thread) = record { thread = thread; act = Act.Go }
