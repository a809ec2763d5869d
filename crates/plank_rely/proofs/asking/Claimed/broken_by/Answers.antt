use Rattle.std.proofs.Common.{sym, ap, ◌∙◌, refl}
use Rattle.std.specs.Prelude.{slice_get}
use Rattle.std.proofs.lemmas.Bool.{true≢false}
use Rattle.plank_rely.proofs.asking.Claimed.broken_by.Goals as goal

pub returns-in_ok-found-in-Block : goal.returns-in_ok-found-in-Block
returns-in_ok-found-in-Block g c = λ x s xm xl em el.
    let at = c.in-Some.ensures.found x.method s (ap (λ k. slice_get c.args.self.now.program.now.methods k) (sym xm) ∙ x.called) em el in
    c.in_ok-found-in-Block.ensures x s xm xl em el at (sym at.action ∙ c.in-Block.is)

pub returns-in-None : goal.returns-in-None
returns-in-None g c = λ x s xm xl em el n f is w. (
  λ e. absurd (true≢false (sym e ∙ c.empty-in-None.ensures n)),
  λ v. absurd (c.in-None.ensures.none refl x.method s (ap (λ k. slice_get c.args.self.now.program.now.methods k) (sym xm) ∙ x.called) em el v.2.effect.writes),
)
