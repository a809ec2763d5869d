use Rattle.std.proofs.Common.{arith}
use Rattle.plank_past.proofs.Claims.{adds_true, all_passed}
use Rattle.plank_past.proofs.adding.add_true.Goals as goal

pub returns : goal.returns
returns c =
    adds_true c.args.claims.now.items c.loop-literal.claims.items c.args.literals.now
    (all_passed c.args.literals.now c.loop-literal.literal-index c.args.claims.now.items c.loop-literal.claims.items c.loop-literal.invariant (let past = c.loop-literal-test.false in omega arith))
