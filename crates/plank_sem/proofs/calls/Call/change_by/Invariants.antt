use Rattle.std.proofs.Common.{◌≡◌, drop}
use Rattle.plank_sem.specs.Actions.{changed_by}
use Rattle.plank_sem.proofs.calls.Call.change_by.Given as goal

abbrev pub invariant-loop-write : goal.invariant-loop-write
invariant-loop-write l =
    changed_by l.heap l.thread l.self l.writes l.fn.node ≡ changed_by l.heap l.thread l.self (drop l.write-index l.writes) l.node
