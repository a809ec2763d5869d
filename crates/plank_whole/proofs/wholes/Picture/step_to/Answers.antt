-- The action takes its exit, and the rest is one step.
use Rattle.std.proofs.Common.{sym, ◌∙◌}
use Rattle.std.proofs.lemmas.Bool.{true≢false}
use Rattle.plank_whole.proofs.wholes.Picture.step_to.Goals as goal

pub returns-then-not-runs : goal.returns-then-not-runs
returns-then-not-runs g c = λ frame inside.
    ((λ no_way. absurd (true≢false (sym no_way))), λ step. absurd (true≢false (sym step.runs ∙ sym c.runs.ensures ∙ c.if-not-runs.true)))

pub returns : goal.returns
returns g c = λ frame inside.
    let both = c.leads_to.ensures frame inside in
    ((λ leads. record { runs = sym c.runs.ensures ∙ c.if-not-runs.false; step = both.0 leads }), λ step. both.1 step.step)
