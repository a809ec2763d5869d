use Rattle.std.proofs.Common.{◌≡◌, drop}
use Rattle.std.specs.List.{flat_map}
use Rattle.plank_rules.specs.StatementRules.{statement_rules}
use Rattle.plank_rules.specs.Faults.{after}
use Rattle.plank_rules.proofs.method_rules.add_each_statement.Given as goal

-- the broken rules so far, with those of the parts that are left, are those of all parts
abbrev pub invariant-loop-statement : goal.invariant-loop-statement
invariant-loop-statement l =
    after l.found.first (flat_map (statement_rules l.header l.scope) (drop l.statement-index l.statements))
    ≡ after l.fn.found.first (flat_map (statement_rules l.header l.scope) l.statements)
