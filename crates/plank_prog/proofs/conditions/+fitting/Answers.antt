use Rattle.std.proofs.Common.{map, sym, ap, ◌∙◌}
use Rattle.plank_prog.specs.Conditions.{all_true}
use Rattle.plank_prog.specs.Scopes.{condition_fits}
use Rattle.plank_prog.proofs.Values.{condition_fits-All, condition_fits-Any, all_stops, all_goes_on, all_ends}
use Rattle.plank_prog.proofs.conditions.+fitting.Goals as goal

pub Condition::fits-returns-in-All : goal.Condition::fits-returns-in-All
Condition::fits-returns-in-All t c =
    c.all_fit.ensures ∙ ap (λ ps. all_true (map (condition_fits c.args.scope) ps)) c.as_slice.ensures
    ∙ sym (condition_fits-All c.args.scope c.in-All.parts) ∙ ap (condition_fits c.args.scope) (sym c.in-All.is)

pub Condition::fits-returns-in-Any : goal.Condition::fits-returns-in-Any
Condition::fits-returns-in-Any t c =
    c.all_fit-in-Any.ensures ∙ ap (λ ps. all_true (map (condition_fits c.args.scope) ps)) c.as_slice-in-Any.ensures
    ∙ sym (condition_fits-Any c.args.scope c.in-Any.parts) ∙ ap (condition_fits c.args.scope) (sym c.in-Any.is)

pub all_fit-returns-then-not-fits : goal.all_fit-returns-then-not-fits
all_fit-returns-then-not-fits t c =
    all_stops (condition_fits c.args.scope) c.args.parts.now c.loop-part.part-index c.part-item.result c.loop-part-test.true c.part-item.is
    (sym c.fits.ensures ∙ c.if-not-fits.true) c.loop-part.invariant

pub all_fit-loop-part-preserved : goal.all_fit-loop-part-preserved
all_fit-loop-part-preserved t c =
    all_goes_on (condition_fits c.args.scope) c.args.parts.now c.loop-part.part-index c.part-item.result c.loop-part-test.true c.part-item.is
    (sym c.fits.ensures ∙ c.if-not-fits.false) c.loop-part.invariant

pub all_fit-returns : goal.all_fit-returns
all_fit-returns t c =
    all_ends (condition_fits c.args.scope) c.args.parts.now c.loop-part.part-index c.loop-part-test.false c.loop-part.invariant
