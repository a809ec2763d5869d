use Rattle.std.proofs.Common.{◌∙◌, true}
use Rattle.std.proofs.lemmas.Bool.{and_from}
use Rattle.plank_bits.specs.Words.{has}
use Rattle.plank_follow.proofs.Sorts.{are_of_kind, member_some}
use Rattle.plank_follow.proofs.kinds.wants_past.Goals as goal

pub returns : goal.returns
returns c = λ m called n L is wants.
    c.is_some.ensures ∙ member_some (has c.meet-past.result) c.next_from.result c.next_from.ensures.none n
    (c.meet-past.ensures n ∙ and_from (has c.of_kind.result n) (has c.args.wanted.now n) ((are_of_kind c.args.program.now c.args.method true (has c.of_kind.result) c.of_kind.ensures m called n).1 (L, is)) wants)
