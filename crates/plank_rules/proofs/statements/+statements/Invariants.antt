use Rattle.std.proofs.Common.{◌≡◌, drop, map}
use Rattle.std.specs.List.{flat_map}
use Rattle.plank_rules.specs.StatementRules.{body_rules, statement_rules}
use Rattle.plank_rules.specs.Faults.{after}
use Rattle.plank_rules.proofs.statements.+statements.Given as goal

-- the broken rules so far, with those of the statements that are left, are those of the whole body
abbrev pub invariant-add_body_rules-loop-statement : goal.invariant-add_body_rules-loop-statement
invariant-add_body_rules-loop-statement l =
    after l.found.first (flat_map (λ rules. rules) (map (statement_rules l.header l.scope) (drop l.statement-index l.statement-items)))
    ≡ after l.fn.found.first (body_rules l.header l.scope l.fn.body)
