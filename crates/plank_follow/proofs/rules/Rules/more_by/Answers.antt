use Rattle.std.proofs.Common.{◌∙◌, true}
use Rattle.plank_bits.specs.Words.{has}
use Rattle.plank_method.specs.Deciding.{outline_of}
use Rattle.plank_follow.specs.Following.{IsGiven}
use Rattle.plank_follow.proofs.Sorts.{are_of_kind}
use Rattle.plank_follow.proofs.Additions.{adds_given}
use Rattle.plank_follow.proofs.rules.Rules.more_by.Goals as goal

pub returns : goal.returns
returns g c = λ m called.
    let p = c.args.self.now.program.now in
    let O = outline_of p c.args.self.now.marks.now in
    adds_given p c.args.self.now.method m called (IsGiven O m c.args.self.now.lasting.now c.args.past c.args.present)
    (has c.args.self.now.past.now) (has c.args.known.now) (has c.minus-open.result) (are_of_kind p c.args.self.now.method true (has c.args.self.now.past.now) c.args.self.now.past_is m called) c.minus-open.ensures
    c.as_slice-numbers.result.now (c.as_slice-numbers.ensures.value ∙ c.in_ok-list.ensures.numbers)
    c.as_slice.result.now (c.as_slice.ensures.value ∙ c.in_ok-conclusions.ensures)
    (has c.in_ok-found.found) (c.in_ok-found.ensures.exact m called)
    (has c.spread.result) c.spread.ensures
