use Rattle.std.proofs.Common.{◌-◌, length, take, sym, ap, ◌∙◌, to_z, of_z, w64, arith, rules, SFits}
use Rattle.std.proofs.lemmas.List.{length-take}
use Rattle.std.specs.Option.{unwrap_or}
use Rattle.std.proofs.lemmas.Int.{to_z-of_z}
use Rattle.plank_hist.specs.Sets.{holds_after}
use Rattle.plank_hist.proofs.Presence.{holds_after-settled}
use Rattle.plank_hist.proofs.calls.is_present.Goals as goal

pub returns-in-Some : goal.returns-in-Some
returns-in-Some c =
    let calls = c.loop-calls.calls.now in
    let key = to_z w64 (of_z w64 c.args.key) in
    let settled = holds_after-settled calls key c.settled.result c.in-len1-up.len_at_least c.settled.ensures in
    let fits : SFits w64 c.args.key = search rules in
    sym (ap (λ o. unwrap_or o (holds_after (take (length calls - 1) calls) key)) c.in-Some.is)
    ∙ sym settled ∙ c.loop-calls.invariant.same ∙ ap (holds_after c.args.calls.now) (to_z-of_z w64 c.args.key fits)

pub loop-calls-preserved : goal.loop-calls-preserved
loop-calls-preserved c =
    let calls = c.loop-calls.calls.now in
    let key = to_z w64 (of_z w64 c.args.key) in
    let settled = holds_after-settled calls key c.settled.result c.in-len1-up.len_at_least c.settled.ensures in
    record {
      within = let shorter = length-take (length calls - 1) calls in let within = c.loop-calls.invariant.within in omega arith;
      same = sym (ap (λ o. unwrap_or o (holds_after (take (length calls - 1) calls) key)) c.in_default-settled.is) ∙ sym settled ∙ c.loop-calls.invariant.same;
    }
