use Rattle.std.proofs.Common.{refl, sym, ◌∙◌}
use Rattle.std.proofs.lemmas.Bool.{false≢true}
use Rattle.std.proofs.lemmas.Option.{slice_get-get_or}
use Rattle.plank_fact.specs.Obligations.{needed_for}
use Rattle.plank_judge.specs.Verdicts.{outline_of}
use Rattle.plank_demand.proofs.Marked.{one_more, one_lacks, none_lacks}
use Rattle.plank_demand.proofs.here.Here.lacks.Goals as goal

pub returns-then-is_marked : goal.returns-then-is_marked
returns-then-is_marked g c = λ x xm xl. (
  (λ e. one_lacks (outline_of c.args.self.now.program.now c.args.self.now.marks.now) x c.needed_for-fact-items.result.now (needed_for c.args.op c.args.answer) c.needed_for-fact-items.ensures c.loop-fact.fact-index _
      (slice_get-get_or c.needed_for-fact-items.result.now c.loop-fact.fact-index _ c.loop-fact-test.true) ((c.is_marked.ensures x xm xl).0 c.if-is_marked.true)),
  (λ w. refl),
)

pub loop-fact-preserved : goal.loop-fact-preserved
loop-fact-preserved g c = λ x xm xl.
    one_more (outline_of c.args.self.now.program.now c.args.self.now.marks.now) x c.needed_for-fact-items.result.now c.loop-fact.fact-index _
    (slice_get-get_or c.needed_for-fact-items.result.now c.loop-fact.fact-index _ c.loop-fact-test.true)
    (λ marked. false≢true (sym c.if-is_marked.false ∙ (c.is_marked.ensures x xm xl).1 marked)) (c.loop-fact.invariant x xm xl)

pub returns : goal.returns
returns g c = λ x xm xl. (
  (λ e. absurd (false≢true e)),
  (λ w. absurd (none_lacks (outline_of c.args.self.now.program.now c.args.self.now.marks.now) x c.needed_for-fact-items.result.now (needed_for c.args.op c.args.answer) c.needed_for-fact-items.ensures c.loop-fact.fact-index
      c.loop-fact-test.false (c.loop-fact.invariant x xm xl) w)),
)
