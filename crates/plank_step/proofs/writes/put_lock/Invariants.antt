use Rattle.std.proofs.Common.{◌≡◌, drop}
use Rattle.plank_pic.specs.Blocks.{put_lock}
use Rattle.plank_step.proofs.writes.put_lock.Given as goal

-- what is left decides as the whole does
abbrev pub invariant-loop-write : goal.invariant-loop-write
invariant-loop-write l = put_lock (drop l.write-index l.writes) ≡ put_lock l.writes
