-- Each answer from its lemma.
use Rattle.std.proofs.Common.{◌≡◌, ◌+◌, Some, None, refl, ap, subst, sym, ◌∙◌}
use Rattle.plank_fact.specs.Tables.{fact_at}
use Rattle.plank_fact.specs.Places.{kind_of, parts_of, layout_of, facts_within, kind_number, IsPlace}
use Rattle.plank_fact.proofs.Lookups.{number_found, no_kind, no_place}
use Rattle.plank_fact.proofs.tables.number.Goals as goal

pub returns-in_err-kind-clause-none : goal.returns-in_err-kind-clause-none
returns-in_err-kind-clause-none c = λ none n there.
    let no : kind_of c.args.fact.now ≡ None = sym c.in_err-kind.ensures in
    no_kind c.args.program.now.header c.args.program.now.methods c.args.method c.in_ok-sizes.sizes c.in_ok-sizes.ensures c.args.fact.now n no there

pub returns-in_err-place-clause-none : goal.returns-in_err-place-clause-none
returns-in_err-place-clause-none c = λ none n there.
    let kind : kind_of c.args.fact.now ≡ Some c.in_ok-kind.kind = sym c.in_ok-kind.ensures in
    let laid : c.layout.result ≡ layout_of c.in_ok-sizes.sizes c.in_ok-kind.kind = c.layout.ensures in
    let parts : c.parts.result ≡ parts_of c.args.fact.now = c.parts.ensures in
    no_place c.args.program.now.header c.args.program.now.methods c.args.method c.in_ok-sizes.sizes c.in_ok-sizes.ensures c.args.fact.now c.in_ok-kind.kind n kind
    (λ place w. c.in_err-place.ensures.none refl place (subst (λ v. IsPlace v c.parts.result place) (sym laid) (subst (λ v. IsPlace (layout_of c.in_ok-sizes.sizes c.in_ok-kind.kind) v place) (sym parts) w)))
    there

pub returns-clause-found : goal.returns-clause-found
returns-clause-found c =
    let kind : kind_of c.args.fact.now ≡ Some c.in_ok-kind.kind = sym c.in_ok-kind.ensures in
    let laid : c.layout.result ≡ layout_of c.in_ok-sizes.sizes c.in_ok-kind.kind = c.layout.ensures in
    let parts : c.parts.result ≡ parts_of c.args.fact.now = c.parts.ensures in
    let place : IsPlace c.layout.result c.parts.result c.in_ok-place.place = c.in_ok-place.ensures.found in
    let here : IsPlace (layout_of c.in_ok-sizes.sizes c.in_ok-kind.kind) (parts_of c.args.fact.now) c.in_ok-place.place =
    subst (λ v. IsPlace (layout_of c.in_ok-sizes.sizes c.in_ok-kind.kind) v c.in_ok-place.place) parts (subst (λ v. IsPlace v c.parts.result c.in_ok-place.place) laid place) in
    let before : c.facts_before.result ≡ facts_within c.in_ok-sizes.sizes (kind_number c.in_ok-kind.kind) = c.facts_before.ensures.count in
    ap (λ v. fact_at c.args.program.now.header c.args.program.now.methods c.args.method (v + c.in_ok-place.place)) before
    ∙ number_found c.args.program.now.header c.args.program.now.methods c.args.method c.in_ok-sizes.sizes c.in_ok-sizes.ensures c.args.fact.now c.in_ok-kind.kind c.in_ok-place.place kind here
