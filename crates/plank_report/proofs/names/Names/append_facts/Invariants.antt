-- What is written and what is to come.
use Rattle.std.proofs.Common.{◌≡◌, ◌++◌, drop}
use Rattle.std.specs.List.{flat_map}
use Rattle.plank_report.specs.Facts.{fact_line}
use Rattle.plank_report.proofs.names.Names.append_facts.Given as goal

abbrev pub invariant-loop-fact : goal.invariant-loop-fact
invariant-loop-fact l =
    l.out.items ++ flat_map (fact_line l.self.header.now l.self.method.now) (drop l.fact-index l.facts)
    ≡ l.initial.out.items ++ flat_map (fact_line l.self.header.now l.self.method.now) l.facts
