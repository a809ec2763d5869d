use Rattle.std.proofs.Common.{◌≡◌, ◌≤◌, ◌+◌, ◌++◌, drop}
use Rattle.plank_type.specs.Statements.{statements_size, statements_locations}
use Rattle.plank_type.proofs.statements.+statements.Given as goal

-- the locations so far and those of the statements that are left are all locations, and there is room for them
abbrev pub invariant-add_statements-loop-i : goal.invariant-add_statements-loop-i
invariant-add_statements-loop-i l = record {
  whole : l.out.items ++ statements_locations (drop l.i l.statements) l.setting.names.now l.setting.variables.now l.setting.locations l.at l.exits
      ≡ l.fn.out.items ++ statements_locations l.statements l.setting.names.now l.setting.variables.now l.setting.locations l.fn.at l.exits;
  room : l.at + statements_size (drop l.i l.statements) ≤ l.setting.locations;
}
