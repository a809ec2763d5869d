-- Each turn of the loop is a move of the walk, or its last.
use Rattle.std.proofs.Common.{◌≡◌, ℕ, ◌+◌, ◌<◌, ◌≤◌, Bool, true, false, List, [], ◌∷◌, ◌++◌, length, refl, sym, ◌∙◌, ap, subst, arith}
use Rattle.std.proofs.lemmas.List.{length-append}
use Rattle.plank_pic.specs.declared.parts.Target.{Target}
use Rattle.plank_pic.specs.declared.parts.Outcome.{Outcome}
use Rattle.plank_pic.specs.Pictures.{target}
use Rattle.plank_pic.specs.Outcomes.{first_name, outcome_after, enters_after}
use Rattle.plank_walk.specs.Settles.{Agrees}
use Rattle.plank_walk.specs.Walks.{path_after}
use Rattle.plank_walk.proofs.Walking.{IsWalking, walk_goes, walk_jumps, path_whole, end_whole, not_entered, now_entered, path_over, end_over, entered_over}
use Rattle.plank_walk.proofs.walks.walk_from.Goals as goal
use Rattle.plank_walk.proofs.walks.walk_from.Goals.{in-Ends, in-Out, in-Stops}

pub loop-moved-preserved-in-To : goal.loop-moved-preserved-in-To
loop-moved-preserved-in-To g c = record {
  counted = omega (arith, c.push.ensures.len, c.loop-moved.invariant.counted);
  walking = λ full agrees.
      subst (λ path. IsWalking (target (g.S.Reader.frame c.args.source.now) (g.S.Reader.picture c.args.source.now full) c.args.key) (g.S.Reader.frame c.args.source.now).names (first_name (g.S.Reader.frame c.args.source.now) (g.S.Reader.picture c.args.source.now full) c.args.name) (c.loop-moved.moved + 1) c.in-To.next path c.loop-moved.entered)
      (sym c.push.ensures.items)
      (walk_goes _ _ _ _ _ _ _ (c.loop-moved.invariant.walking full agrees) (omega arith) c.in-To.next (c.in_ok-next.ensures full agrees ∙ c.in-To.is));
}

pub loop-moved-preserved : goal.loop-moved-preserved
loop-moved-preserved g c = record {
  counted = omega (arith, c.push.ensures.len, c.loop-moved.invariant.counted);
  walking = λ full agrees.
      subst (λ path. IsWalking (target (g.S.Reader.frame c.args.source.now) (g.S.Reader.picture c.args.source.now full) c.args.key) (g.S.Reader.frame c.args.source.now).names (first_name (g.S.Reader.frame c.args.source.now) (g.S.Reader.picture c.args.source.now full) c.args.name) (c.loop-moved.moved + 1) c.in-Jumps.next path true)
      (sym c.push.ensures.items)
      (walk_jumps _ _ _ _ _ _ _ (c.loop-moved.invariant.walking full agrees) (omega arith) c.in-Jumps.next (c.in_ok-next.ensures full agrees ∙ c.in-Jumps.is));
}

pub returns-in-loop-moved : goal.returns-in-loop-moved
returns-in-loop-moved g c = λ full agrees.
    let n = (g.S.Reader.frame c.args.source.now).names in
    let walking = c.loop-moved.invariant.walking full agrees in
    let more : c.loop-moved.moved < (g.S.Reader.frame c.args.source.now).names = omega arith in
    let at = c.in_ok-next.ensures full agrees in
    elim c.match-branch-3.branch [
      | in-Ends w ↦ let e = at ∙ w.in-Ends.is in record {
        path = path_whole _ _ _ _ _ _ _ walking more (ap (path_after _ _) e) ∙ sym c.push.ensures.items;
        end = end_whole _ _ _ _ _ _ _ walking more _ (ap (outcome_after _ _) e) ∙ sym w.end-is;
        entered = not_entered _ _ _ _ _ _ _ walking more (ap (enters_after _) e) ∙ sym w.entered-is;
      }
      | in-Out w ↦ let e = at ∙ w.in-Out.is in record {
        path = path_whole _ _ _ _ _ _ _ walking more (ap (path_after _ _) e) ∙ sym c.push.ensures.items;
        end = end_whole _ _ _ _ _ _ _ walking more _ (ap (outcome_after _ _) e) ∙ sym w.end-is;
        entered = not_entered _ _ _ _ _ _ _ walking more (ap (enters_after _) e) ∙ sym w.entered-is;
      }
      | in-Stops w ↦ let e = at ∙ w.in-Stops.is in record {
        path = path_whole _ _ _ _ _ _ _ walking more (ap (path_after _ _) e) ∙ sym c.push.ensures.items;
        end = end_whole _ _ _ _ _ _ _ walking more _ (ap (outcome_after _ _) e) ∙ sym w.end-is;
        entered = now_entered _ _ _ _ _ _ _ walking more (ap (enters_after _) e) ∙ sym w.entered-is;
      }
    ]

pub returns : goal.returns
returns g c = λ full agrees.
    let walking = c.loop-moved.invariant.walking full agrees in
    let over : (g.S.Reader.frame c.args.source.now).names ≤ c.loop-moved.moved = omega arith in record {
      path = path_over _ _ _ _ _ _ _ walking over;
      end = end_over _ _ _ _ _ _ _ walking over;
      entered = entered_over _ _ _ _ _ _ _ walking over;
    }
