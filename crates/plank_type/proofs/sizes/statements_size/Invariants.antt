use Rattle.std.proofs.Common.{◌≡◌, ◌≤◌, ◌+◌, drop}
use Rattle.plank_type.specs.Limits.{told}
use Rattle.plank_type.specs.Statements.{statements_size}
use Rattle.plank_type.proofs.sizes.statements_size.Given as goal

-- the size so far and that of the statements that are left make the whole
abbrev pub invariant-loop-statement : goal.invariant-loop-statement
invariant-loop-statement l = record {
  whole : told (l.size + statements_size (drop l.statement-index l.statements)) ≡ told (statements_size l.statements);
  fits : l.size ≤ 4294967295;
}
