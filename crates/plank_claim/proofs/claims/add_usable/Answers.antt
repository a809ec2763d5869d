use Rattle.std.proofs.Common.{◌≡◌, refl, ap, ◌∙◌, ◌++◌, arith}
use Rattle.plank_claim.specs.Claims.{listed_below}
use Rattle.plank_claim.proofs.Added.{none_listed, one_listed, usable_at, adds_usable}
use Rattle.plank_claim.proofs.claims.add_usable.Goals as goal

pub loop-name-init : goal.loop-name-init
loop-name-init c = none_listed usable_at c.args.claims.now.items

pub loop-name-preserved : goal.loop-name-preserved
loop-name-preserved c = one_listed usable_at c.loop-name.name c.args.claims.now.items c.loop-name.claims.items c.push.new.claims.items (usable_at c.loop-name.name) c.loop-name.invariant refl c.in_ok-push.ensures

pub returns : goal.returns
returns c = λ h.
    let near = c.loop-name.auto.name-end in
    let far = c.loop-name-test.false in
    let all : c.loop-name.name ≡ c.args.names = omega arith in
    adds_usable h c.args.names c.args.claims.now.items c.loop-name.claims.items (c.loop-name.invariant ∙ ap (λ n. c.args.claims.now.items ++ listed_below usable_at n) all)
