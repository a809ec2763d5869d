use Rattle.std.proofs.Common.{◌≡◌, ◌<◌, ◌≤◌, ◌∙◌, sym, subst, false, nat_lt}
use Rattle.std.proofs.lemmas.Bool.{le-ltb}
use Rattle.plank_prog.proofs.Bits.{mask_tests_bit, no_bit_above}
use Rattle.plank_prog.proofs.views.has_flag.Goals as goal

pub returns-then-from-lt-BITS : goal.returns-then-from-lt-BITS
returns-then-from-lt-BITS c =
    mask_tests_bit c.args.flags c.args.flag (subst (λ n. n < 8) c.from.ensures c.if-from-lt-BITS.true)

pub returns-else-from-lt-BITS : goal.returns-else-from-lt-BITS
returns-else-from-lt-BITS c =
    let past : nat_lt c.from.result 8 ≡ false = le-ltb c.from.result 8 c.if-from-lt-BITS.false in
    past ∙ sym (no_bit_above c.args.flags c.args.flag c.ranges.flags.fits (subst (λ n. 8 ≤ n) c.from.ensures c.if-from-lt-BITS.false))
