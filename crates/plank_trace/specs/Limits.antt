-- How much a schedule may have.
use Rattle.std.specs.Prelude.{List, length, nat_lt, Option, Some, None, if◌then◌else◌}
use Rattle.plank_trace.specs.declared.lines.Line.{Line}
use Rattle.plank_trace.specs.declared.limits.Measure.TheVariants.{Steps, Keys}
use Rattle.plank_trace.specs.declared.limits.Overrun.{Overrun}
use Rattle.plank_trace.specs.declared.limits.TheConstants.{STEPS_LIMIT, KEYS_LIMIT}
use Rattle.plank_trace.specs.Keys.{keys_of}

-- the lines of a schedule, and after them the different keys of its calls: the first of which there are too many
abbrev pub first_overrun : List Line → Option Overrun
first_overrun lines =
    if nat_lt STEPS_LIMIT (length lines) then Some (record { measure = Steps; count = length lines; limit = STEPS_LIMIT })
    else (if nat_lt KEYS_LIMIT (length (keys_of lines)) then Some (record { measure = Keys; count = length (keys_of lines); limit = KEYS_LIMIT })
    else None)
