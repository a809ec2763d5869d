use Rattle.std.proofs.Common.{◌+◌, ◌&&◌, sym, ap, ◌∙◌}
use Rattle.plank_hist.proofs.Presence.{rest_legal, rest_legal-step}
use Rattle.plank_hist.proofs.calls.is_legal.Goals as goal

pub returns-then-not-is_allowed : goal.returns-then-not-is_allowed
returns-then-not-is_allowed c =
    let calls = c.args.calls.now in
    let place = c.loop-place.place in
    let step = rest_legal-step calls place c.is_allowed.result c.loop-place-test.true c.is_allowed.ensures in
    sym (ap (λ b. b && rest_legal calls (place + 1)) c.if-not-is_allowed.true) ∙ sym step ∙ c.loop-place.invariant

pub loop-place-preserved : goal.loop-place-preserved
loop-place-preserved c =
    let calls = c.args.calls.now in
    let place = c.loop-place.place in
    let step = rest_legal-step calls place c.is_allowed.result c.loop-place-test.true c.is_allowed.ensures in
    sym (ap (λ b. b && rest_legal calls (place + 1)) c.if-not-is_allowed.false) ∙ sym step ∙ c.loop-place.invariant
