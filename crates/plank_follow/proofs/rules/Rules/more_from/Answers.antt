use Rattle.std.proofs.Common.{arith}
use Rattle.std.proofs.lemmas.Option.{slice_get-get_or}
use Rattle.plank_bits.specs.Words.{has}
use Rattle.plank_method.specs.Deciding.{outline_of}
use Rattle.plank_follow.proofs.Additions.{alone_first, one_present, all_presents}
use Rattle.plank_follow.proofs.rules.Rules.more_from.Goals as goal

pub loop-i-init : goal.loop-i-init
loop-i-init g c = λ m called.
    alone_first (outline_of c.args.self.now.program.now c.args.self.now.marks.now) m c.args.self.now.lasting.now c.args.self.now.presents.now c.args.past (has c.args.known.now) (has c.in_ok-more.more) (c.in_ok-more.ensures m called)

pub loop-i-preserved : goal.loop-i-preserved
loop-i-preserved g c = λ m called.
    one_present (outline_of c.args.self.now.program.now c.args.self.now.marks.now) m c.args.self.now.lasting.now c.args.self.now.presents.now c.args.past c.loop-i.i _
    (slice_get-get_or c.args.self.now.presents.now c.loop-i.i _ (let below = c.loop-i-test.true in omega arith))
    (has c.args.known.now) (has c.loop-i.more) _ (c.loop-i.invariant m called) (c.in_ok-more-2.ensures m called)

pub returns : goal.returns
returns g c = λ m called.
    all_presents (outline_of c.args.self.now.program.now c.args.self.now.marks.now) m c.args.self.now.lasting.now c.args.self.now.presents.now c.args.past c.loop-i.i
    (let far = c.loop-i-test.false in omega arith) (has c.args.known.now) (has c.loop-i.more) (c.loop-i.invariant m called)
