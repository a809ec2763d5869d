use Rattle.std.proofs.Common.{◌≡◌, ◌≤◌, ◌+◌}
use Rattle.plank_prog.specs.Blocks.{first_name_count}
use Rattle.plank_prog.proofs.blocks.Block.name_count.Given as goal

abbrev pub invariant-loop-variable : goal.invariant-loop-variable
invariant-loop-variable l = record {
  count : l.count ≡ first_name_count l.self l.variable;
  few : l.count ≤ l.variable + 1;
}
