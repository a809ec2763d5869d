use Rattle.std.proofs.Common.{sym, ◌∙◌}
use Rattle.plank_bits.specs.Words.{has}
use Rattle.plank_method.specs.Deciding.{outline_of}
use Rattle.plank_follow.proofs.Additions.{unfit_gives_none}
use Rattle.plank_follow.proofs.rules.Rules.more_with.Goals as goal

pub returns-else-may_be_now : goal.returns-else-may_be_now
returns-else-may_be_now g c = λ m called.
    unfit_gives_none (outline_of c.args.self.now.program.now c.args.self.now.marks.now) m c.args.self.now.lasting.now c.args.self.now.presents.now c.args.past c.args.present (has c.args.known.now)
    (sym c.may_be_now.ensures ∙ c.if-may_be_now.false)
