-- Each test is one of a step, and all together are a step.
use Rattle.std.proofs.Common.{sym, ◌∙◌, subst}
use Rattle.std.proofs.lemmas.Bool.{true≢false}
use Rattle.plank_pic.specs.Lawful.{IsPossible}
use Rattle.plank_pic.specs.Blocks.{change_of}
use Rattle.plank_step.specs.Sources.{sources}
use Rattle.plank_whole.specs.Wholes.{frame_of, shown}
use Rattle.plank_whole.proofs.Stepped.{step_from, is_writable_so, all_agree_so}
use Rattle.plank_whole.proofs.wholes.Picture.leads_to.Goals as goal

pub returns-then-not-is_writable : goal.returns-then-not-is_writable
returns-then-not-is_writable g c = λ frame inside.
    let w = c.args.self.now in (
      (λ no_way. absurd (true≢false (sym no_way))),
      λ step.
          absurd (true≢false (sym (is_writable_so (frame_of w) w.shape.few_names w.shape.few_pointers w.shape.few_flags (change_of (g.T.TakesTurn.turn c.args.turn.now)) (sources (g.T.TakesTurn.turn c.args.turn.now) c.args.kept) (shown w) (shown c.args.after.now) inside step)
          ∙ sym c.is_writable.ensures ∙ c.if-not-is_writable.true)),
    )

pub returns-then-not-all_agree : goal.returns-then-not-all_agree
returns-then-not-all_agree g c = λ frame inside.
    let w = c.args.self.now in (
      (λ no_way. absurd (true≢false (sym no_way))),
      λ step.
          absurd (true≢false (sym (all_agree_so (frame_of w) w.shape.few_names w.shape.few_pointers w.shape.few_flags (change_of (g.T.TakesTurn.turn c.args.turn.now)) (sources (g.T.TakesTurn.turn c.args.turn.now) c.args.kept) (shown w) (shown c.args.after.now) inside step)
          ∙ sym c.all_agree.ensures ∙ c.if-not-all_agree.true)),
    )

pub returns : goal.returns
returns g c = λ frame inside.
    let w = c.args.self.now in (
      (λ possible.
          step_from (frame_of w) w.shape.few_names w.shape.few_pointers w.shape.few_flags (change_of (g.T.TakesTurn.turn c.args.turn.now)) (sources (g.T.TakesTurn.turn c.args.turn.now) c.args.kept) (shown w) (shown c.args.after.now) inside
          (sym c.is_writable.ensures ∙ c.if-not-is_writable.false) (sym c.all_agree.ensures ∙ c.if-not-all_agree.false)
          (subst (λ F. IsPossible F (shown c.args.after.now)) frame (c.possible.ensures.0 possible))),
      λ step. c.possible.ensures.1 (subst (λ F. IsPossible F (shown c.args.after.now)) (sym frame) step.possible),
    )
