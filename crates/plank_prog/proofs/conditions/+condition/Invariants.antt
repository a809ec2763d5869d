use Rattle.std.proofs.Common.{◌≡◌, map, drop}
use Rattle.plank_prog.specs.Conditions.{value, all_true, some_true}
use Rattle.plank_prog.specs.Views.{view_of}
use Rattle.plank_prog.proofs.conditions.+condition.Given as goal

abbrev pub invariant-all_hold-loop-part : goal.invariant-all_hold-loop-part
invariant-all_hold-loop-part l =
    all_true (map (value (view_of l.key l.flags l.nulls l.walked l.visited)) (drop l.part-index l.parts))
    ≡ all_true (map (value (view_of l.key l.flags l.nulls l.walked l.visited)) l.parts)

abbrev pub invariant-one_holds-loop-part : goal.invariant-one_holds-loop-part
invariant-one_holds-loop-part l =
    some_true (map (value (view_of l.key l.flags l.nulls l.walked l.visited)) (drop l.part-index l.parts))
    ≡ some_true (map (value (view_of l.key l.flags l.nulls l.walked l.visited)) l.parts)
