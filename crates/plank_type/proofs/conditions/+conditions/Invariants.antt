use Rattle.std.proofs.Common.{◌≡◌, ◌++◌, map, drop}
use Rattle.plank_prog.specs.declared.conditions.Condition.TheVariants.{All, Any}
use Rattle.plank_type.specs.Conditions.{condition_of, conjunction_of, literal_of}
use Rattle.plank_type.proofs.conditions.+conditions.Given as goal

-- the conditions so far and those of the parts that are left make the whole
abbrev pub invariant-condition_of-loop-conjunction : goal.invariant-condition_of-loop-conjunction
invariant-condition_of-loop-conjunction l =
    Any (l.parts ++ map (conjunction_of l.names) (drop l.conjunction-index l.conjunction-items))
    ≡ condition_of l.names l.condition

abbrev pub invariant-conjunction_of-loop-literal : goal.invariant-conjunction_of-loop-literal
invariant-conjunction_of-loop-literal l =
    All (l.parts ++ map (literal_of l.names) (drop l.literal-index l.literal-items))
    ≡ conjunction_of l.names l.conjunction
