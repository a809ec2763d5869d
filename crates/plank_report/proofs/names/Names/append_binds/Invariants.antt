-- What is written and what is to come.
use Rattle.std.proofs.Common.{◌≡◌, ◌++◌, drop}
use Rattle.std.specs.List.{flat_map}
use Rattle.plank_report.specs.Steps.{bind_line}
use Rattle.plank_report.proofs.names.Names.append_binds.Given as goal

abbrev pub invariant-loop-bind : goal.invariant-loop-bind
invariant-loop-bind l =
    l.out.items ++ flat_map (bind_line l.self.header.now l.self.method.now) (drop l.bind-index l.binds)
    ≡ l.initial.out.items ++ flat_map (bind_line l.self.header.now l.self.method.now) l.binds
