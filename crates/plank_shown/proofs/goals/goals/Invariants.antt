use Rattle.std.specs.Prelude.{◌≡◌, map, take}
use Rattle.plank_shown.specs.Shown.{goal_at}
use Rattle.plank_shown.proofs.goals.goals.Given as goal

abbrev pub invariant-loop-number : goal.invariant-loop-number
invariant-loop-number l = l.goals.items ≡ map (goal_at l.program.header l.program.methods l.method) (take l.number-index l.numbers)
