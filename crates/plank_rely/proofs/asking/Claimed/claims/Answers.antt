use Rattle.plank_claim.specs.declared.known.Known.{Known}
use Rattle.plank_rely.proofs.Said.{said_together}
use Rattle.plank_rely.proofs.asking.Claimed.claims.Goals as goal

pub returns : goal.returns
returns g c = λ x s xm xl em el.
    said_together c.args.self.now.program.now c.args.self.now.marks.now c.args.self.now.at.method c.args.self.now.at.location c.args.site.method c.args.site.location c.args.names (Known.Read c.args.block)
    c.new-claims.result.items c.add_claims.new.claims.items c.add_usable.new.claims.items c.add_claims-2.new.claims.items
    c.new-claims.ensures.items c.in_ok-add_claims.ensures c.in_ok-add_usable.ensures c.in_ok-add_claims-2.ensures x s xm xl em el
