use Rattle.plank_prog.proofs.Bits.{only_low_bits}
use Rattle.plank_prog.proofs.header_rules.has_only_flags.Goals as goal

pub returns-then-count : goal.returns-then-count
returns-then-count c = only_low_bits c.args.flags c.args.count c.ranges.flags.fits c.if-count.true
