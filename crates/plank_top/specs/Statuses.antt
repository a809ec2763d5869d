-- The numbers and exit statuses by which a call's end is known outside.
use Rattle.std.specs.Prelude.{ℕ}
use Rattle.plank_top.specs.declared.status.Status.{Status}
use Rattle.plank_top.specs.declared.status.Status.TheVariants.{Accepted, Rejected, Malformed, IllTyped, TooLarge, Usage, ReadFault, WriteFault, OutOfMemory, Done, TooLong, BadSchedule, BadStep}

-- each status has a number of its own, but that of too much is one
abbrev pub number_of : Status → ℕ
number_of Accepted = 0
number_of (Rejected o) = 1
number_of (Malformed p) = 2
number_of (IllTyped k p) = 3
number_of (TooLarge t count limit) = 4
number_of Usage = 5
number_of ReadFault = 6
number_of WriteFault = 7
number_of OutOfMemory = 8
number_of Done = 9
number_of (TooLong m count limit) = 4
number_of (BadSchedule i) = 12
number_of (BadStep i) = 13

-- a command that is done has succeeded
abbrev pub exit_of : Status → ℕ
exit_of Done = 0
exit_of Accepted = number_of Accepted
exit_of (Rejected o) = number_of (Rejected o)
exit_of (Malformed p) = number_of (Malformed p)
exit_of (IllTyped k p) = number_of (IllTyped k p)
exit_of (TooLarge t count limit) = number_of (TooLarge t count limit)
exit_of Usage = number_of Usage
exit_of ReadFault = number_of ReadFault
exit_of WriteFault = number_of WriteFault
exit_of OutOfMemory = number_of OutOfMemory
exit_of (TooLong m count limit) = number_of (TooLong m count limit)
exit_of (BadSchedule i) = number_of (BadSchedule i)
exit_of (BadStep i) = number_of (BadStep i)
