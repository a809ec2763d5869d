use Rattle.plank_demand.proofs.Own.{says_all}
use Rattle.plank_demand.proofs.here.Here.claims.Goals as goal

pub returns : goal.returns
returns g c =
    says_all c.args.self.now.program.now c.args.self.now.marks.now c.args.self.now.at c.new-claims.result.items c.add_claims.new.claims.items c.new-claims.ensures.items c.in_ok-add_claims.ensures
