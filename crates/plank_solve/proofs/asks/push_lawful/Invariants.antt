use Rattle.std.proofs.Common.{◌≡◌, ◌++◌, map, drop}
use Rattle.plank_solve.specs.declared.asks.Ask.{Ask}
use Rattle.plank_solve.proofs.asks.push_lawful.Given as goal

-- the asks so far and those of what is left are all
abbrev pub invariant-loop-rule : goal.invariant-loop-rule
invariant-loop-rule l = l.asks.items ++ map Ask.Lawful (drop l.rule-index l.rules) ≡ l.fn.asks.items ++ map Ask.Lawful l.rules
