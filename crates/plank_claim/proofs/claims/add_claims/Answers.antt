use Rattle.plank_claim.proofs.Added.{adds_claims}
use Rattle.plank_claim.proofs.claims.add_claims.Goals as goal

pub returns : goal.returns
returns c = λ x of_method of_location.
    adds_claims c.args.program.now c.args.marks.now c.args.at.method c.args.at.location c.first_mark.result c.args.speaker c.args.known.now c.first_mark.ensures.first x of_method of_location
    c.args.claims.now.items c.add.new.claims.items c.in_ok-add.ensures
