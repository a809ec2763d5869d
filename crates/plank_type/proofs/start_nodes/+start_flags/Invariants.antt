use Rattle.std.proofs.Common.{length}
use Rattle.plank_type.proofs.start_nodes.+start_flags.Given as goal

abbrev pub decreases-start_flags : goal.decreases-start_flags
decreases-start_flags l = length l.flags.now
