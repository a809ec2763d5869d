use Rattle.std.proofs.Common.{sym, ◌∙◌, refl}
use Rattle.std.proofs.lemmas.Bool.{false≢true}
use Rattle.plank_marks.proofs.Rooms.{point_at}
use Rattle.plank_judge.specs.Verdicts.{outline_of}
use Rattle.plank_verdict.proofs.Reaching.{no_effect, is_effect_there}
use Rattle.plank_verdict.proofs.effects.Locations.is_effect.Goals as goal

pub returns-then-not-is_site : goal.returns-then-not-is_site
returns-then-not-is_site g c =
    let O = outline_of c.args.self.now.program.now c.args.self.now.marks.now in
    no_effect O c.args.at.method c.args.at.location c.in-Some.turn c.in-Some.ensures.found (sym c.is_site.ensures ∙ c.if-not-is_site.true)

pub returns-in_ok-reached-in-Some : goal.returns-in_ok-reached-in-Some
returns-in_ok-reached-in-Some g c =
    let p = c.args.self.now.program.now in
    let O = outline_of p c.args.self.now.marks.now in
    is_effect_there O c.args.at.method c.args.at.location c.in-Some.turn c.in-Some.ensures.found
    (point_at p.methods c.args.at.method c.args.at.location c.requires.method c.requires.location) (sym c.is_site.ensures ∙ c.if-not-is_site.false) c.in_ok-reached-in-Some.reached c.in_ok-reached-in-Some.ensures

pub returns-in-None : goal.returns-in-None
returns-in-None g c = (λ e. absurd (false≢true e), λ v. absurd (c.in-None.ensures.none refl v.at v.of_method v.of_location))
