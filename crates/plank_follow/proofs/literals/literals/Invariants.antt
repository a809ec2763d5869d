use Rattle.std.specs.Prelude.{◌≡◌, map, take}
use Rattle.plank_follow.specs.Literals.{literal_at}
use Rattle.plank_follow.proofs.literals.literals.Given as goal

abbrev pub invariant-loop-number : goal.invariant-loop-number
invariant-loop-number l = l.literals.items ≡ map (literal_at l.program.header l.program.methods l.method) (take l.number-index l.numbers)
