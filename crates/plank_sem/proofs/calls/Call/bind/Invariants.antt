use Rattle.std.proofs.Common.{◌≡◌, drop}
use Rattle.plank_sem.specs.Actions.{bound}
use Rattle.plank_sem.proofs.calls.Call.bind.Given as goal

abbrev pub invariant-loop-bind : goal.invariant-loop-bind
invariant-loop-bind l =
    bound l.heap l.self l.binds l.self.variables ≡ bound l.heap l.self (drop l.bind-index l.binds) l.variables
