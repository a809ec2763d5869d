use Rattle.std.proofs.Common.{sym, ◌∙◌}
use Rattle.std.proofs.lemmas.Bool.{false≢true}
use Rattle.std.proofs.lemmas.Option.{slice_get-get_or}
use Rattle.plank_judge.specs.Verdicts.{outline_of}
use Rattle.plank_judge.proofs.Firsts.{none_yet, one_more}
use Rattle.plank_judge.proofs.verdicts.first_failing.Goals as goal

pub loop-i-init : goal.loop-i-init
loop-i-init g c = none_yet (outline_of (g.D.Demands.program c.args.demands.now) c.args.marks.now) c.args.list.now

pub loop-i-preserved : goal.loop-i-preserved
loop-i-preserved g c =
    one_more (outline_of (g.D.Demands.program c.args.demands.now) c.args.marks.now) c.args.list.now c.loop-i.i _ (slice_get-get_or c.args.list.now c.loop-i.i _ c.loop-i-test.true)
    (λ fails. false≢true (sym c.if-fails.false ∙ c.in_ok-fails.ensures.1 fails)) c.loop-i.invariant
