use Rattle.std.proofs.Common.{◌∙◌, ap, true}
use Rattle.std.specs.Prelude.{◌||◌}
use Rattle.std.proofs.lemmas.Result.{IfOk-weaker}
use Rattle.plank_bits.specs.Words.{has}
use Rattle.plank_shown.specs.Shown.{Arrives}
use Rattle.plank_follow.proofs.Sorts.{are_of_kind, in_all}
use Rattle.plank_follow.proofs.Lists.{presents_are, lasting_are}
use Rattle.plank_follow.proofs.Ends.{followed_exact}
use Rattle.plank_follow.proofs.known.Following.followed.Goals as goal

pub returns : goal.returns
returns g c =
    let a = c.args.self.now.arrivals in
    let p = a.program.now in
    let shown = has c.in_ok-shown.shown in
    let past = has c.of_kind-past.result in
    let all = has c.union-all.result in
    IfOk-weaker c.follow.result _ _ (λ found w m called.
    followed_exact p c.args.self.now.marks.now m (Arrives p.header a.situation a.claims.now) past all shown (has c.args.carried.now) (has c.union-start.result)
    (are_of_kind p a.method true past c.of_kind-past.ensures m called)
    (in_all p a.method (has c.of_kind.result) past all c.of_kind.ensures c.of_kind-past.ensures c.union-all.ensures m called)
    (c.in_ok-shown.ensures m called)
    (λ k. c.union-start.ensures k ∙ ap (λ b. shown k || b) (c.meet.ensures k))
    c.as_slice.result.now c.as_slice-2.result.now
    (lasting_are p a.method m called shown c.as_slice.result.now (c.as_slice.ensures.value ∙ c.in_ok-lasting.ensures))
    (presents_are p a.method m called shown c.as_slice-2.result.now (c.as_slice-2.ensures.value ∙ c.in_ok-presents.ensures))
    (has c.args.wanted.now) (has c.meet-2.result) (has found) c.meet-2.ensures (w m called)) c.follow.ensures
