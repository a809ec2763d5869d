use Rattle.std.proofs.Common.{refl, false}
use Rattle.plank_fact.specs.Outlines.{mark_number}
use Rattle.std.proofs.lemmas.Bool.{false≢true}
use Rattle.plank_claim.proofs.Claimed.{found_claimed, none_marked}
use Rattle.plank_claim.proofs.claims.is_claimed.Goals as goal

pub returns-in-Some : goal.returns-in-Some
returns-in-Some c = λ x of_method of_location.
    found_claimed c.args.program.now c.args.marks.now c.args.at.method c.args.at.location c.first_mark.result c.first_mark.ensures.first x of_method of_location c.args.fact.now c.in-Some.number c.in-Some.ensures.found c.is_clear.result c.is_clear.ensures

pub returns-in-None : goal.returns-in-None
returns-in-None c = λ x of_method of_location. (
  λ e. absurd (false≢true e),
  λ w. absurd (none_marked c.args.program.now c.args.marks.now c.args.at.method c.args.at.location (mark_number c.args.program.now.methods c.args.at.method c.args.at.location 0) refl x of_method of_location c.args.fact.now false (c.in-None.ensures.none refl) w),
)
