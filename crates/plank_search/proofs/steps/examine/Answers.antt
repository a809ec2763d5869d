use Rattle.std.proofs.Common.{◌∙◌, sym}
use Rattle.plank_search.proofs.Standings.{broken-literal, more-false, more-open}
use Rattle.plank_search.proofs.steps.examine.Goals as goal
use Rattle.plank_search.proofs.steps.examine.Goals.{in-Some+else-value-literal, in-None+else-is_some}

pub loop-literal-preserved : goal.loop-literal-preserved
loop-literal-preserved c =
    elim c.match-get.branch [
      | in-Some+else-value-literal w ↦ rw w.open-is (record {
        one_open = c.loop-literal.invariant.one_open;
        others = λ full agrees. more-false full c.args.clause.now c.loop-literal.literal-index _ c.loop-literal.open c.loop-literal-test.true
            (c.loop-literal.invariant.others full agrees)
            (broken-literal c.args.values.now _ w.in-Some.value (sym c.get.ensures ∙ w.in-Some.is) w.if-value-literal.false full agrees);
      })
      | in-None+else-is_some w ↦ rw w.open-is (record {
        one_open = sym c.get.ensures ∙ w.in-None.is;
        others = λ full agrees. more-open full c.args.clause.now c.loop-literal.literal-index _ c.loop-literal.open c.loop-literal-test.true
            (c.loop-literal.invariant.others full agrees) (sym w.is_some.ensures ∙ w.if-is_some.false);
      })
    ]
