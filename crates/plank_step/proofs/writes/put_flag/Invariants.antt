use Rattle.std.proofs.Common.{◌≡◌, drop}
use Rattle.plank_pic.specs.Blocks.{put_flag}
use Rattle.plank_step.proofs.writes.put_flag.Given as goal

-- what is left decides as the whole does
abbrev pub invariant-loop-write : goal.invariant-loop-write
invariant-loop-write l = put_flag l.flag (drop l.write-index l.writes) ≡ put_flag l.flag l.writes
