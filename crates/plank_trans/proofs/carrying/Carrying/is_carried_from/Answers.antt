use Rattle.std.proofs.Common.{sym, ◌∙◌, ap, subst}
use Rattle.std.specs.Prelude.{◌↔◌, IsTrue}
use Rattle.plank_fact.specs.declared.facts.Fact.{Fact}
use Rattle.plank_fact.specs.Literals.{said_of}
use Rattle.plank_fact.specs.Outlines.{IsClaimed}
use Rattle.plank_method.specs.Deciding.{outline_of}
use Rattle.plank_trans.proofs.carrying.Carrying.is_carried_from.Goals as goal

pub returns : goal.returns
returns c = λ x w.
    let s = c.args.self.now in
    let O = outline_of s.program.now s.marks.now in
    let stays = (s.moves x w c.args.from c.args.to c.requires.from c.requires.to).0 (sym c.has.ensures.value ∙ c.if-has.false) in
    let claimed = subst (λ L. IsTrue c.is_claimed.result ↔ IsClaimed O x (Fact.Past L)) (c.said_of.ensures ∙ ap (λ q. said_of q c.args.literal) c.name_at.ensures) (c.is_claimed.ensures x w.of_method w.of_location) in
    (λ e. (claimed.0 e, stays), λ v. claimed.1 v.0)
