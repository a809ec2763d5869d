-- The finds so far.
use Rattle.std.proofs.Common.{◌≡◌, ◌++◌}
use Rattle.plank_large.specs.Texts.{finds_text}
use Rattle.plank_large.proofs.texts.append_finds.Given as goal

abbrev pub invariant-loop-before : goal.invariant-loop-before
invariant-loop-before l = l.out.items ≡ l.initial.out.items ++ finds_text l.before
