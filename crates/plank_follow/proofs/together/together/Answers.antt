use Rattle.std.proofs.Common.{◌≡◌, ◌*◌, subst, arith}
use Rattle.plank_base.specs.declared.limits.TheConstants.{MARK_WORDS_PER_LOCATION}
use Rattle.plank_bits.specs.Words.{has}
use Rattle.plank_follow.specs.Together.{AreTogether}
use Rattle.plank_follow.proofs.Joined.{none_of_numbers, one_number}
use Rattle.plank_follow.proofs.together.together.Goals as goal

pub loop-number-init : goal.loop-number-init
loop-number-init c = λ m called.
    none_of_numbers c.args.program.now.header m c.args.lasting.now c.args.presents.now (has c.args.known.now) c.in_ok-all.all.items c.in_ok-all.ensures.lasting c.in_ok-all.ensures.presents

pub loop-number-preserved : goal.loop-number-preserved
loop-number-preserved c = λ m called.
    one_number c.args.program.now.header m c.args.lasting.now c.args.presents.now (has c.args.known.now) c.loop-number.number c.loop-number.all.items c.add_number.new.all.items
    (c.loop-number.invariant m called) c.in_ok-add_number.ensures.grows (c.in_ok-add_number.ensures.said m called)

pub returns : goal.returns
returns c = λ m called.
    let near = c.loop-number.auto.number-end in
    let far = c.loop-number-test.false in
    let all : c.loop-number.number ≡ 64 * MARK_WORDS_PER_LOCATION = omega arith in
    subst (λ n. AreTogether c.args.program.now.header m c.args.lasting.now c.args.presents.now (has c.args.known.now) n c.loop-number.all.items) all (c.loop-number.invariant m called)
