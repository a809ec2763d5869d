-- One part more, or one that does not agree.
use Rattle.std.proofs.Common.{sym, ◌∙◌, arith}
use Rattle.plank_pic.specs.Blocks.{change_of}
use Rattle.plank_step.specs.Sources.{sources}
use Rattle.plank_lawful.proofs.Asked.{one_fails}
use Rattle.plank_whole.specs.Wholes.{frame_of, shown}
use Rattle.plank_whole.specs.Stepping.{coded_agrees}
use Rattle.plank_whole.proofs.wholes.Picture.all_agree.Goals as goal

pub returns-then-not-agrees : goal.returns-then-not-agrees
returns-then-not-agrees g c =
    sym (one_fails (coded_agrees (frame_of c.args.self.now) (change_of (g.T.TakesTurn.turn c.args.turn.now)) (sources (g.T.TakesTurn.turn c.args.turn.now) c.args.kept) (shown c.args.self.now) (shown c.args.after.now))
    8704 c.loop-code.code (omega arith) (sym c.agrees.ensures ∙ c.if-not-agrees.true))
