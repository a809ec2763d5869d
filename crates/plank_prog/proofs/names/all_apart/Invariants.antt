use Rattle.std.proofs.Common.{◌≡◌, drop}
use Rattle.plank_prog.specs.Names.{all_pairs}
use Rattle.plank_prog.proofs.names.all_apart.Given as goal

abbrev pub invariant-loop-i : goal.invariant-loop-i
invariant-loop-i g l = all_pairs g.T.Apart.is_apart (drop l.i l.items) ≡ all_pairs g.T.Apart.is_apart l.items
