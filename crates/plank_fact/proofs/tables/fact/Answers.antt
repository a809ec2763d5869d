use Rattle.std.proofs.Common.{◌≡◌, ◌+◌, ◌<◌, get_or, Some, ap, subst, ◌∙◌, arith}
use Rattle.plank_fact.specs.declared.kinds.FactKind.{FactKind}
use Rattle.plank_fact.specs.declared.kinds.TheConstants.{FACT_KINDS}
use Rattle.plank_fact.specs.Places.{layout_of, fact_of, size_of, facts_within, IsPlace}
use Rattle.plank_fact.proofs.Lookups.{looked_up, looked_past, kind_at, facts_within-next}
use Rattle.plank_fact.proofs.tables.fact.Goals as goal

pub returns-in-Ok : goal.returns-in-Ok
returns-in-Ok c =
    let i = c.loop-kind.kind-index in
    let kind = get_or FACT_KINDS i FactKind.Same in
    let below : i < 32 = c.loop-kind-test.true in
    let laid : c.layout.result ≡ layout_of c.in_ok-sizes.sizes kind = c.layout.ensures in
    let place : IsPlace (layout_of c.in_ok-sizes.sizes kind) c.in-Ok.parts c.loop-kind.rest = subst (λ v. IsPlace v c.in-Ok.parts c.loop-kind.rest) laid c.in-Ok.ensures.found in
    let made : c.fact.result ≡ fact_of kind c.in-Ok.parts = c.fact.ensures in
    ap (λ v. Some v) made
    ∙ looked_up c.args.program.now.header c.args.program.now.methods c.args.method c.in_ok-sizes.sizes c.in_ok-sizes.ensures i c.loop-kind.rest c.args.number kind c.in-Ok.parts (kind_at i below) place c.loop-kind.invariant

pub loop-kind-preserved : goal.loop-kind-preserved
loop-kind-preserved c =
    let i = c.loop-kind.kind-index in
    let kind = get_or FACT_KINDS i FactKind.Same in
    let below : i < 32 = c.loop-kind-test.true in
    let laid : c.layout.result ≡ layout_of c.in_ok-sizes.sizes kind = c.layout.ensures in
    let past : c.loop-kind.rest ≡ size_of (layout_of c.in_ok-sizes.sizes kind) + c.in-Err.left = c.in-Err.ensures.past ∙ ap (λ v. size_of v + c.in-Err.left) laid in
    let so : c.args.number ≡ facts_within c.in_ok-sizes.sizes i + c.loop-kind.rest = c.loop-kind.invariant in
    let next = facts_within-next c.in_ok-sizes.sizes i below in
    let all : c.args.number ≡ facts_within c.in_ok-sizes.sizes (i + 1) + c.in-Err.left = omega arith in
    all

pub returns : goal.returns
returns c =
    let far = c.loop-kind-test.false in
    let near = c.loop-kind.auto.kind-index-end in
    let all : c.loop-kind.kind-index ≡ 32 = omega arith in
    let so : c.args.number ≡ facts_within c.in_ok-sizes.sizes c.loop-kind.kind-index + c.loop-kind.rest = c.loop-kind.invariant in
    looked_past c.args.program.now.header c.args.program.now.methods c.args.method c.in_ok-sizes.sizes c.in_ok-sizes.ensures c.loop-kind.rest c.args.number
    (so ∙ ap (λ i. facts_within c.in_ok-sizes.sizes i + c.loop-kind.rest) all)
