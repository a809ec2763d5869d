use Rattle.std.proofs.Common.{◌∙◌, ap, subst}
use Rattle.std.specs.Prelude.{◌↔◌, IsTrue}
use Rattle.plank_fact.specs.declared.facts.Fact.{Fact}
use Rattle.plank_fact.specs.Literals.{said_of}
use Rattle.plank_fact.specs.Outlines.{IsClaimed}
use Rattle.plank_method.specs.Deciding.{outline_of}
use Rattle.plank_trans.proofs.keeping.Keeping.is_claimed_of.Goals as goal

pub returns-clause-claimed : goal.returns-clause-claimed
returns-clause-claimed c = λ x w e.
    let s = c.args.self.now in
    let O = outline_of s.program.now s.marks.now in
    let claimed = subst (λ L. IsTrue c.is_claimed.result ↔ IsClaimed O x (Fact.Past L)) (c.said_of.ensures ∙ ap (λ q. said_of q c.args.literal) c.name_at.ensures) (c.is_claimed.ensures x w.of_method w.of_location) in
    claimed.0 e
