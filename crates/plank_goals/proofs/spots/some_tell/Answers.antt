use Rattle.std.specs.Prelude.{◌^◌}
use Rattle.std.proofs.Common.{◌<◌, sym, ap, ◌∙◌, arith}
use Rattle.plank_base.specs.declared.limits.TheConstants.{FLAGS_LIMIT}
use Rattle.plank_pic.specs.Below.{some_below}
use Rattle.plank_pic.proofs.Below.{none_below, some_more, some_there}
use Rattle.plank_goals.specs.Spots.{tells}
use Rattle.plank_goals.proofs.spots.some_tell.Goals as goal

pub loop-flags-init : goal.loop-flags-init
loop-flags-init c = none_below (tells c.args.program.now.header c.key-key.result)

pub loop-flags-preserved : goal.loop-flags-preserved
loop-flags-preserved c =
    some_more (tells c.args.program.now.header c.key-key.result) c.loop-flags.flags (sym c.tells.ensures ∙ c.if-tells.false) c.loop-flags.invariant

pub returns-then-tells : goal.returns-then-tells
returns-then-tells c =
    let h = c.args.program.now.header in
    let within : c.loop-flags.flags < 2 ^ FLAGS_LIMIT = omega arith in
    sym (ap (λ key. some_below (tells h key) (2 ^ FLAGS_LIMIT)) (sym c.key-key.ensures)
    ∙ some_there (tells h c.key-key.result) (2 ^ FLAGS_LIMIT) c.loop-flags.flags within (sym c.tells.ensures ∙ c.if-tells.true))
