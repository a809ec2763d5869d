use Rattle.std.proofs.Common.{◌≡◌, ℕ, Bool, true}
use Rattle.plank_lawful.specs.Asked.{all_below, passes}
use Rattle.plank_walk.specs.Settles.{Agrees}
use Rattle.plank_lawful.proofs.asking.all_below.Given as goal

-- each passes so far
abbrev pub invariant-loop-number : goal.invariant-loop-number
invariant-loop-number g l = (full : ℕ → Bool) → Agrees (g.S.Reader.known l.source) full → all_below (passes (g.S.Reader.picture l.source full) l.asked) l.number ≡ true
