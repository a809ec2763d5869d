-- What is written and what is to come.
use Rattle.std.proofs.Common.{◌≡◌, ◌++◌, drop}
use Rattle.std.specs.List.{flat_map}
use Rattle.plank_report.specs.Steps.{write_line}
use Rattle.plank_report.proofs.names.Names.append_writes.Given as goal

abbrev pub invariant-loop-write : goal.invariant-loop-write
invariant-loop-write l =
    l.out.items ++ flat_map (write_line l.self.header.now l.self.method.now) (drop l.write-index l.writes)
    ≡ l.initial.out.items ++ flat_map (write_line l.self.header.now l.self.method.now) l.writes
