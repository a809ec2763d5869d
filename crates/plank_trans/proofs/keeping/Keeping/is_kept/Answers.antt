use Rattle.std.proofs.Common.{sym, ◌∙◌}
use Rattle.plank_method.specs.Deciding.{outline_of}
use Rattle.plank_trans.proofs.Carries.{nameless_carried}
use Rattle.plank_trans.proofs.keeping.Keeping.is_kept.Goals as goal

pub returns-in-Some : goal.returns-in-Some
returns-in-Some c = λ x w is e. c.is_kept_of.ensures x w is (sym c.past_name.ensures ∙ c.in-Some.is) e

pub returns-in-None : goal.returns-in-None
returns-in-None c = λ x w is e.
    let s = c.args.self.now in
    (nameless_carried (outline_of s.program.now s.marks.now) x s.turn.exit c.args.literal is (sym c.past_name.ensures ∙ c.in-None.is)).0 ((c.is_claimed.ensures x w.of_method w.of_location).0 e)
