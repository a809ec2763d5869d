-- The difference, word by word.
use Rattle.std.proofs.Common.{◌&&◌, not, refl, arith}
use Rattle.plank_bits.proofs.WordLemmas.{is_set-without}
use Rattle.plank_bits.proofs.SetLemmas.{combined_none, combined_more, combined_all}
use Rattle.plank_bits.proofs.words.subtract.Goals as goal

pub loop-i-init : goal.loop-i-init
loop-i-init c = combined_none (λ x y. x && not y) _ _

pub loop-i-preserved : goal.loop-i-preserved
loop-i-preserved c = combined_more (λ x y. x && not y) _ _ _ _ _ c.loop-i.invariant (omega arith) (λ j. is_set-without _ _ j (omega arith) (omega arith))

pub returns : goal.returns
returns c = combined_all (λ x y. x && not y) _ _ _ _ refl c.requires (omega arith) c.loop-i.invariant
