use Rattle.std.proofs.Common.{◌≡◌, map, drop}
use Rattle.plank_prog.specs.Conditions.{all_true}
use Rattle.plank_prog.specs.Scopes.{condition_fits}
use Rattle.plank_prog.proofs.conditions.+fitting.Given as goal

abbrev pub invariant-all_fit-loop-part : goal.invariant-all_fit-loop-part
invariant-all_fit-loop-part l =
    all_true (map (condition_fits l.scope) (drop l.part-index l.parts)) ≡ all_true (map (condition_fits l.scope) l.parts)
