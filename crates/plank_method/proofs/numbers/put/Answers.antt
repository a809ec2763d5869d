use Rattle.std.proofs.Common.{◌==◌, ◌+◌, ◌&&◌, refl, ap, ◌∙◌}
use Rattle.plank_bits.specs.Words.{has}
use Rattle.plank_method.specs.Marks.{is_put}
use Rattle.plank_method.proofs.Growing.{none_more, one_more_put}
use Rattle.plank_method.proofs.numbers.put.Goals as goal

pub loop-number-init : goal.loop-number-init
loop-number-init c = record {
  same_length = refl;
  set = λ k. none_more (is_put (has c.args.facts.now) c.args.first k) (has c.args.marks.now k);
}

pub loop-number-preserved : goal.loop-number-preserved
loop-number-preserved c = record {
  same_length = c.set_if.ensures.length ∙ c.loop-number.invariant.same_length;
  set = λ k.
      let n = c.loop-number.number in
      one_more_put (is_put (has c.args.facts.now) c.args.first k) n (has c.args.marks.now k) (has c.loop-number.marks k) (has c.set_if.new.marks k) (c.has-is_set.result && (k == (c.args.first + n)))
      (c.loop-number.invariant.set k) (ap (λ b. b && (k == (c.args.first + n))) c.has-is_set.ensures.value) (c.set_if.ensures.marks k);
}
