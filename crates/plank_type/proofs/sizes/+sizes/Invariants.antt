use Rattle.std.proofs.Common.{◌≡◌, ◌≤◌, ◌+◌, drop}
use Rattle.plank_type.specs.Limits.{told}
use Rattle.plank_type.specs.Statements.{statements_size, body_part}
use Rattle.plank_type.proofs.sizes.+sizes.Given as goal

-- the size so far and that of the statements that are left make the whole
abbrev pub invariant-body_size-loop-statement : goal.invariant-body_size-loop-statement
invariant-body_size-loop-statement l = record {
  whole : told (l.size + statements_size (drop l.statement-index l.statement-items)) ≡ told (body_part l.body).size;
  fits : l.size ≤ 4294967295;
}
