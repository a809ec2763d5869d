use Rattle.std.proofs.Common.{◌≡◌, drop, map}
use Rattle.std.specs.Prelude.{fold}
use Rattle.plank_rules.specs.Flow.{then, body_flow, statement_flow}
use Rattle.plank_rules.proofs.flow.+flow.Given as goal

-- the flow so far, with that of the statements that are left, is that of the whole body
abbrev pub invariant-body_flow-loop-statement : goal.invariant-body_flow-loop-statement
invariant-body_flow-loop-statement l = fold then l.flow (map statement_flow (drop l.statement-index l.statement-items)) ≡ body_flow l.fn.body
