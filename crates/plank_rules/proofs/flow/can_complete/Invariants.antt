use Rattle.std.proofs.Common.{◌≡◌, drop, map}
use Rattle.std.specs.Prelude.{fold}
use Rattle.plank_rules.specs.Flow.{then, list_flow, statement_flow}
use Rattle.plank_rules.proofs.flow.can_complete.Given as goal

-- the flow so far, with that of the statements that are left, is that of all
abbrev pub invariant-loop-statement : goal.invariant-loop-statement
invariant-loop-statement l =
    fold then l.flow (map statement_flow (drop l.statement-index l.statements)) ≡ list_flow (map statement_flow l.statements)
