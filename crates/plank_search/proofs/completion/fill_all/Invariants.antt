-- The values so far let in none that disagreed at the start.
use Rattle.plank_search.specs.Answers.{IsWithin}
use Rattle.plank_search.proofs.completion.fill_all.Given as goal

abbrev pub invariant-loop-part : goal.invariant-loop-part
invariant-loop-part g l = IsWithin l.initial.values l.values
