-- How a key moves at a write, by its two walks, and what its walk passes.
use Rattle.std.proofs.Common.{◌≡◌, ℕ, ◌<◌, Bool, false, not, List, [], ◌∷◌, length, refl, sym, ◌∙◌, ap, inl, inr, arith}
use Rattle.std.specs.Prelude.{◌&&◌, Option, Some, None, Result, Ok, Err}
use Rattle.std.specs.Bool.{beq}
use Rattle.std.specs.Option.{option_map_or, option_and_then}
use Rattle.plank_prog.specs.declared.blocks.Write.{Write}
use Rattle.plank_pic.specs.declared.parts.KeyName.{KeyName}
use Rattle.plank_pic.specs.declared.parts.Part.{Part}
use Rattle.plank_pic.specs.declared.moves.Moved.{Moved}
use Rattle.plank_pic.specs.Frames.{Frame}
use Rattle.plank_pic.specs.Pictures.{Picture}
use Rattle.plank_pic.specs.Steps.{Change, mixed, movement, spent_after}
use Rattle.plank_pic.specs.Blocks.{Turn, change_by, change_of}
use Rattle.plank_walk.specs.Settles.{Agrees, Settles}
use Rattle.plank_step.specs.declared.footprints.Footprint.{Footprint}
use Rattle.plank_step.specs.Turns.{change_over, written_name}
use Rattle.plank_step.specs.Footprints.{IsOpenIn, SettlesBoth, IsFootprint, moved_along}
use Rattle.plank_step.proofs.TwoWalks.{movement_is}
use Rattle.plank_query.specs.declared.situations.Situation.{Situation}
use Rattle.plank_query.specs.Situations.{turn}
use Rattle.plank_query.specs.Goals.{writes_so}
use Rattle.plank_reach.specs.Steps.{writes_rightly, writes_over, written_so}

-- an answer that means the same
pub settles_as : {A : Type 0} (meaning other : (ℕ → Bool) → A) (known : ℕ → Option Bool) (r : Result A ℕ) → ((full : ℕ → Bool) → Agrees known full → other full ≡ meaning full) → Settles meaning known r → Settles other known r
settles_as meaning other known (Ok a) alike is = λ full agrees. alike full agrees ∙ is full agrees
settles_as meaning other known (Err n) alike is = is

one_open : (known : ℕ → Option Bool) (n : ℕ) → IsOpenIn known known n → known n ≡ None
one_open known n is = elim is [ inl x ↦ x | inr x ↦ x ]

both_settle : {A : Type 0} (meaning : (ℕ → Bool) → A) (known : ℕ → Option Bool) (r : Result A ℕ) → SettlesBoth meaning known known r → Settles meaning known r
both_settle meaning known (Ok a) is = λ full agrees. is full agrees agrees
both_settle meaning known (Err n) is = one_open known n is

pub moves_settle : (F : Frame) (picture : (ℕ → Bool) → Picture) (known : ℕ → Option Bool) (c : Change) (k : KeyName) (at : ℕ) → at ≡ c.at → (w : Footprint) → ((full : ℕ → Bool) → Agrees known full → IsFootprint F (picture full) (mixed (picture full) c) k at w)
    → (r : Result Moved ℕ) → SettlesBoth (λ full. moved_along F (picture full) (mixed (picture full) c) k at w) known known r → Settles (λ full. movement F (picture full) (mixed (picture full) c) k c.at) known r
moves_settle F picture known c k at same w walks r is =
    settles_as (λ full. moved_along F (picture full) (mixed (picture full) c) k at w) (λ full. movement F (picture full) (mixed (picture full) c) k c.at) known r
    (λ full agrees. ap (movement F (picture full) (mixed (picture full) c) k) (sym same) ∙ movement_is F (picture full) (mixed (picture full) c) k at w (walks full agrees))
    (both_settle (λ full. moved_along F (picture full) (mixed (picture full) c) k at w) known r is)

-- what a situation writes, by the turn's list of writes
so_by : (s : Turn) (ws : List Write) (test : Change → Bool) → option_map_or test (change_by s ws) false ≡ written_so s ws test
so_by s [] test = refl
so_by s (w ∷ ws) test = refl

pub writes_are : (S : Situation) (s : Turn) (ws : List Write) (test : Change → Bool) → turn S ≡ Some s → change_by s ws ≡ change_of s → writes_so S test ≡ written_so s ws test
writes_are S s ws test is of = ap (λ o. option_map_or test (option_and_then change_of o) false) is ∙ ap (λ o. option_map_or test o false) (sym of) ∙ so_by s ws test

pub rightly_over : (s : Turn) (ws : List Write) (B A : Picture) → change_by s ws ≡ change_of s → writes_rightly (change_of s) B A ≡ writes_over s ws B A
rightly_over s ws B A of = ap (λ o. writes_rightly o B A) (sym of) ∙ by_list ws
  where
    by_list : (ws : List Write) → writes_rightly (change_by s ws) B A ≡ writes_over s ws B A
    by_list [] = refl
    by_list (w ∷ ws) = refl

-- where there is a write
pub some_over : (s : Turn) (ws : List Write) (B A : Picture) → 0 < length ws → writes_over s ws B A ≡ (not (B (Part.Null (written_name s ws))) && beq (A Part.Spent) (spent_after B A s.mine))
some_over s [] B A some = absurd (omega arith)
some_over s (w ∷ ws) B A some = refl

pub some_so : (s : Turn) (ws : List Write) (test : Change → Bool) → 0 < length ws → written_so s ws test ≡ test (change_over s ws)
some_so s [] test some = absurd (omega arith)
some_so s (w ∷ ws) test some = refl
