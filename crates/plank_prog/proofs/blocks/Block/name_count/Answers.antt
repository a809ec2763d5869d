use Rattle.std.proofs.Common.{◌≡◌, ap, ◌∙◌, arith}
use Rattle.plank_base.specs.declared.limits.TheConstants.{VARIABLES_LIMIT}
use Rattle.plank_prog.specs.Blocks.{name_count, first_name_count}
use Rattle.plank_prog.proofs.blocks.Block.name_count.Goals as goal

pub returns-clause-count : goal.returns-clause-count
unfolding name_count
returns-clause-count c =
    let last : c.loop-variable.variable ≡ VARIABLES_LIMIT = omega arith in
    c.loop-variable.invariant.count ∙ ap (first_name_count c.args.self.now) last
