-- The union, word by word.
use Rattle.std.proofs.Common.{◌||◌, refl, arith}
use Rattle.plank_bits.proofs.WordLemmas.{is_set-or}
use Rattle.plank_bits.proofs.SetLemmas.{combined_none, combined_more, combined_all}
use Rattle.plank_bits.proofs.words.unite.Goals as goal

pub loop-i-init : goal.loop-i-init
loop-i-init c = combined_none ◌||◌ _ _

pub loop-i-preserved : goal.loop-i-preserved
loop-i-preserved c = combined_more ◌||◌ _ _ _ _ _ c.loop-i.invariant (omega arith) (λ j. is_set-or _ _ j)

pub returns : goal.returns
returns c = combined_all ◌||◌ _ _ _ _ refl c.requires (omega arith) c.loop-i.invariant
