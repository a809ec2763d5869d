use Rattle.std.proofs.Common.{◌≡◌, drop, map}
use Rattle.std.specs.List.{flat_map}
use Rattle.plank_rules.specs.Conditions.{condition_rules, conjunction_rules, literal_rules}
use Rattle.plank_rules.specs.Faults.{after}
use Rattle.plank_rules.proofs.conditions.+conditions.Given as goal

-- the broken rules so far, with those of the conjunctions that are left, are those of the whole condition
abbrev pub invariant-add_condition_rules-loop-conjunction : goal.invariant-add_condition_rules-loop-conjunction
invariant-add_condition_rules-loop-conjunction l =
    after l.found.first (flat_map (λ rules. rules) (map (conjunction_rules l.header l.scope) (drop l.conjunction-index l.conjunction-items)))
    ≡ after l.fn.found.first (condition_rules l.header l.scope l.fn.condition)

-- the same of the literals of a conjunction
abbrev pub invariant-add_conjunction_rules-loop-literal : goal.invariant-add_conjunction_rules-loop-literal
invariant-add_conjunction_rules-loop-literal l =
    after l.found.first (flat_map (λ rules. rules) (map (literal_rules l.header l.scope) (drop l.literal-index l.literal-items)))
    ≡ after l.fn.found.first (conjunction_rules l.header l.scope l.fn.conjunction)
