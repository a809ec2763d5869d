-- There is one pointer field, and the rest is one rule.
use Rattle.std.proofs.Common.{◌≡◌, length, sym, ◌∙◌, ap, arith}
use Rattle.std.specs.Prelude.{◌&&◌}
use Rattle.std.proofs.lemmas.Bool.{eq-eqb}
use Rattle.plank_whole.specs.Wholes.{frame_of, shown, leads_on}
use Rattle.plank_whole.proofs.Sure.{sure}
use Rattle.plank_whole.proofs.wholes.Picture.extends.Goals as goal

pub returns : goal.returns
returns c =
    let on = leads_on (frame_of c.args.self.now) (shown c.args.self.now) c.args.to c.args.next in
    let one : length (frame_of c.args.self.now).header.pointers ≡ 1 = omega arith in
    c.is_true.ensures ∙ sure on c.leads_on.result c.leads_on.ensures
    ∙ sym (ap (λ b. b && on) (eq-eqb (length (frame_of c.args.self.now).header.pointers) 1 one))
