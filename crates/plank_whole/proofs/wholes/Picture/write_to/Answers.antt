-- The action takes its exit, and the rest is one step; each name comes from itself.
use Rattle.std.proofs.Common.{ℕ, ◌<◌, sym, ◌∙◌, ap, subst}
use Rattle.std.proofs.lemmas.Bool.{true≢false}
use Rattle.plank_pic.specs.Frames.{Frame}
use Rattle.plank_pic.specs.Steps.{Source, Of, Null, Fresh}
use Rattle.plank_pic.specs.TestedSteps.{ComesFromNames}
use Rattle.plank_whole.specs.Wholes.{frame_of}
use Rattle.plank_whole.proofs.wholes.Picture.write_to.Goals as goal

from_itself : (F : Frame) → ComesFromNames F Of
from_itself F i n below same = subst (λ m. m < F.names) (ap name same) below
  where
    name : Source → ℕ
    name (Of m) = m
    name Null = 0
    name Fresh = 0

pub returns-then-not-runs : goal.returns-then-not-runs
returns-then-not-runs g c = λ frame.
    ((λ no_way. absurd (true≢false (sym no_way))), λ step. absurd (true≢false (sym step.runs ∙ sym c.runs.ensures ∙ c.if-not-runs.true)))

pub returns : goal.returns
returns g c = λ frame.
    let both = c.leads_to.ensures frame (from_itself (frame_of c.args.self.now)) in
    ((λ leads. record { runs = sym c.runs.ensures ∙ c.if-not-runs.false; step = both.0 leads }), λ step. both.1 step.step)
