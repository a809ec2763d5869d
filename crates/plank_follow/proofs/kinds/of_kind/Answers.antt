use Rattle.std.proofs.Common.{◌*◌, ap, sym, ◌∙◌}
use Rattle.std.specs.Prelude.{◌&&◌, ◌==◌, is_some}
use Rattle.plank_base.specs.declared.limits.TheConstants.{MARK_WORDS_PER_LOCATION}
use Rattle.plank_bits.specs.Words.{has}
use Rattle.plank_method.proofs.Growing.{none_yet, one_more}
use Rattle.plank_follow.specs.Kinds.{is_of_kind, is_kind_at}
use Rattle.plank_follow.proofs.Sorts.{kind_ended}
use Rattle.plank_follow.proofs.kinds.of_kind.Goals as goal

pub loop-number-init : goal.loop-number-init
loop-number-init c = λ k. none_yet (is_kind_at c.args.program.now.header c.args.program.now.methods c.args.method c.args.past k) (has c.empty-set.result k) (c.empty-set.ensures k)

pub loop-number-preserved : goal.loop-number-preserved
loop-number-preserved c = λ k.
    let n = c.loop-number.number in
    one_more (is_kind_at c.args.program.now.header c.args.program.now.methods c.args.method c.args.past k) n (has c.loop-number.set k) (has c.with_if-set.result k) (c.is_of_kind.result && (k == n))
    (c.loop-number.invariant k) (ap (λ b. b && (k == n)) (c.is_of_kind.ensures ∙ ap (is_of_kind c.args.past) c.fact-found.ensures)) (c.with_if-set.ensures k)

pub returns-then-is_none : goal.returns-then-is_none
returns-then-is_none c = λ k.
    c.loop-number.invariant k
    ∙ kind_ended c.args.program.now.header c.args.program.now.methods c.args.method c.args.past c.loop-number.number (64 * MARK_WORDS_PER_LOCATION) k c.loop-number.auto.number-end
    (ap is_some (sym c.fact-found.ensures) ∙ c.if-is_none.ensures)
