use Rattle.std.proofs.Common.{◌-◌}
use Rattle.plank_parse.specs.Readers.{is_name}
use Rattle.plank_parse.proofs.Turns.{GoesOn}
use Rattle.plank_parse.proofs.lists.many_named.Given as goal

abbrev pub invariant-loop-turn : goal.invariant-loop-turn
invariant-loop-turn g l = GoesOn is_name g.T.Part.reader l.tokens l.parts (l._turn-end - l._turn) l.rest
