use Rattle.plank_trans.specs.Entry.{AreOfEntry}
use Rattle.plank_trans.proofs.entering.entry_claims.Given as goal

abbrev pub invariant-loop-variable : goal.invariant-loop-variable
invariant-loop-variable l = AreOfEntry l.variable l.claims.items
