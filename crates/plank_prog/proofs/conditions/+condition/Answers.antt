use Rattle.std.proofs.Common.{map, sym, ap, ◌∙◌}
use Rattle.plank_prog.specs.Conditions.{value, all_true, some_true}
use Rattle.plank_prog.specs.Views.{view_of}
use Rattle.plank_prog.proofs.Values.{value-All, value-Any, all_stops, all_goes_on, all_ends, some_stops, some_goes_on, some_ends}
use Rattle.plank_prog.proofs.conditions.+condition.Goals as goal

pub Condition::value-returns-in-All : goal.Condition::value-returns-in-All
Condition::value-returns-in-All t c =
    let v = view_of c.args.key c.args.flags c.args.nulls.now c.args.walked c.args.visited in
    c.all_hold.ensures ∙ ap (λ ps. all_true (map (value v) ps)) c.as_slice.ensures ∙ sym (value-All v c.in-All.parts)
    ∙ ap (value v) (sym c.in-All.is)

pub Condition::value-returns-in-Any : goal.Condition::value-returns-in-Any
Condition::value-returns-in-Any t c =
    let v = view_of c.args.key c.args.flags c.args.nulls.now c.args.walked c.args.visited in
    c.one_holds.ensures ∙ ap (λ ps. some_true (map (value v) ps)) c.as_slice-in-Any.ensures ∙ sym (value-Any v c.in-Any.parts)
    ∙ ap (value v) (sym c.in-Any.is)

pub all_hold-returns-then-not-value : goal.all_hold-returns-then-not-value
all_hold-returns-then-not-value t c =
    let v = view_of c.args.key c.args.flags c.args.nulls.now c.args.walked c.args.visited in
    all_stops (value v) c.args.parts.now c.loop-part.part-index c.part-item.result c.loop-part-test.true c.part-item.is
    (sym c.value.ensures ∙ c.if-not-value.true) c.loop-part.invariant

pub all_hold-loop-part-preserved : goal.all_hold-loop-part-preserved
all_hold-loop-part-preserved t c =
    let v = view_of c.args.key c.args.flags c.args.nulls.now c.args.walked c.args.visited in
    all_goes_on (value v) c.args.parts.now c.loop-part.part-index c.part-item.result c.loop-part-test.true c.part-item.is
    (sym c.value.ensures ∙ c.if-not-value.false) c.loop-part.invariant

pub all_hold-returns : goal.all_hold-returns
all_hold-returns t c =
    let v = view_of c.args.key c.args.flags c.args.nulls.now c.args.walked c.args.visited in
    all_ends (value v) c.args.parts.now c.loop-part.part-index c.loop-part-test.false c.loop-part.invariant

pub one_holds-returns-then-value : goal.one_holds-returns-then-value
one_holds-returns-then-value t c =
    let v = view_of c.args.key c.args.flags c.args.nulls.now c.args.walked c.args.visited in
    some_stops (value v) c.args.parts.now c.loop-part.part-index c.part-item.result c.loop-part-test.true c.part-item.is
    (sym c.value.ensures ∙ c.if-value.true) c.loop-part.invariant

pub one_holds-loop-part-preserved : goal.one_holds-loop-part-preserved
one_holds-loop-part-preserved t c =
    let v = view_of c.args.key c.args.flags c.args.nulls.now c.args.walked c.args.visited in
    some_goes_on (value v) c.args.parts.now c.loop-part.part-index c.part-item.result c.loop-part-test.true c.part-item.is
    (sym c.value.ensures ∙ c.if-value.false) c.loop-part.invariant

pub one_holds-returns : goal.one_holds-returns
one_holds-returns t c =
    let v = view_of c.args.key c.args.flags c.args.nulls.now c.args.walked c.args.visited in
    some_ends (value v) c.args.parts.now c.loop-part.part-index c.loop-part-test.false c.loop-part.invariant
