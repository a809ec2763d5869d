use Rattle.std.proofs.Common.{◌<◌, subst}
use Rattle.std.specs.Prelude.{◌≡◌}
use Rattle.plank_pic.specs.Steps.{Of}
use Rattle.plank_pic.specs.Blocks.{source}
use Rattle.plank_query.specs.Situations.{turn_of_own}
use Rattle.plank_method.specs.Deciding.{outline_of}
use Rattle.plank_trans.proofs.Kept.{kept_from}
use Rattle.plank_trans.proofs.keeping.Keeping.is_kept_of.Goals as goal

pub returns-in-Some : goal.returns-in-Some
returns-in-Some c = λ x w fact names e.
    let s = c.args.self.now in
    kept_from (outline_of s.program.now s.marks.now) x s.turn s.turn.exit w.turn c.args.literal fact c.args.name names c.in-Some.from
    (subst (λ n. c.in-Some.from < n) (s.names_are x w) (c.is_claimed_of.ensures.below e))
    (subst (λ n. source (turn_of_own s.turn) n ≡ Of c.in-Some.from) c.number_of-to.ensures c.in-Some.ensures) (c.is_claimed_of.ensures.claimed x w e)
