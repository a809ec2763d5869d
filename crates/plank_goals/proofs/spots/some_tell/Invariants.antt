-- No flags so far tell.
use Rattle.std.specs.Prelude.{◌≡◌, false}
use Rattle.plank_pic.specs.Below.{some_below}
use Rattle.plank_goals.specs.Spots.{tells}
use Rattle.plank_goals.proofs.spots.some_tell.Given as goal

abbrev pub invariant-loop-flags : goal.invariant-loop-flags
invariant-loop-flags l = some_below (tells l.program.header l.key) l.flags ≡ false
