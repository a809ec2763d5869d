-- What is left of a key's bits by its two walks is what a write leaves of them.
use Rattle.std.proofs.Common.{◌≡◌, ◌⊎◌, ℕ, ◌<◌, Bool, List, [], ◌∷◌, length, Option, Some, None, sym, ◌∙◌, ap, inl, inr, arith}
use Rattle.std.specs.Prelude.{Result, Ok, Err}
use Rattle.plank_prog.specs.declared.blocks.Write.{Write}
use Rattle.plank_pic.specs.declared.parts.KeyName.{KeyName}
use Rattle.plank_pic.specs.declared.parts.Part.{Part}
use Rattle.plank_pic.specs.declared.moves.Moved.{Moved}
use Rattle.plank_pic.specs.Frames.{Frame}
use Rattle.plank_pic.specs.Pictures.{Picture}
use Rattle.plank_pic.specs.Steps.{Change, mixed, movement, visit_after, stop_after, set_after, written}
use Rattle.plank_pic.specs.Blocks.{Turn, change_by, change_of}
use Rattle.plank_pic.specs.TestedSteps.{left_of}
use Rattle.plank_walk.specs.Settles.{Agrees, Settles}
use Rattle.plank_step.specs.Turns.{change_over, chain_left, pick_left, stop_flag_left}
use Rattle.plank_step.specs.declared.footprints.Footprint.{Footprint}
use Rattle.plank_step.specs.Footprints.{IsOpenIn, SettlesBoth, IsFootprint, moved_along, visit_left, stop_left}
use Rattle.plank_step.proofs.TwoWalks.{movement_is, visit_is, stop_is}

-- what is open in one of two that are one is open there
one_open : (known : ℕ → Option Bool) (n : ℕ) → IsOpenIn known known n → known n ≡ None
one_open known n is = elim is [ inl x ↦ x | inr x ↦ x ]

-- an answer of two readers of one thing, of something that means the same
both_settle : {A : Type 0} (meaning other : (ℕ → Bool) → A) (known : ℕ → Option Bool) (r : Result A ℕ) → ((full : ℕ → Bool) → Agrees known full → other full ≡ meaning full) → SettlesBoth meaning known known r → Settles other known r
both_settle meaning other known (Ok a) alike is = λ full agrees. alike full agrees ∙ is full agrees agrees
both_settle meaning other known (Err n) alike is = one_open known n is

-- the same of one reader
one_settles : {A : Type 0} (meaning other : (ℕ → Bool) → A) (known : ℕ → Option Bool) (r : Result A ℕ) → ((full : ℕ → Bool) → Agrees known full → other full ≡ meaning full) → Settles meaning known r → Settles other known r
one_settles meaning other known (Ok a) alike is = λ full agrees. alike full agrees ∙ is full agrees
one_settles meaning other known (Err n) alike is = is

module _ (F : Frame) (picture : (ℕ → Bool) → Picture) (known : ℕ → Option Bool) (c : Change) (k : KeyName) (at : ℕ) (same : at ≡ c.at) (w : Footprint) (m : Moved)
    (walks : (full : ℕ → Bool) → Agrees known full → IsFootprint F (picture full) (mixed (picture full) c) k at w)
    (moves : (full : ℕ → Bool) → Agrees known full → moved_along F (picture full) (mixed (picture full) c) k at w ≡ m) where
  movement_there : (full : ℕ → Bool) → Agrees known full → movement F (picture full) (mixed (picture full) c) k c.at ≡ m
  movement_there full agrees =
      ap (λ a. movement F (picture full) (mixed (picture full) c) k a) (sym same)
      ∙ movement_is F (picture full) (mixed (picture full) c) k at w (walks full agrees) ∙ moves full agrees

  pub visit_settles : (i : ℕ) (r : Result (Option Bool) ℕ) → SettlesBoth (λ full. visit_left F (picture full) (mixed (picture full) c) k i m w) known known r → Settles (λ full. written F (picture full) c (Part.Visits k i)) known r
  visit_settles i r = both_settle (λ full. visit_left F (picture full) (mixed (picture full) c) k i m w) (λ full. written F (picture full) c (Part.Visits k i)) known r (λ full agrees.
      ap (λ n. visit_after F (picture full) (mixed (picture full) c) k c.at i n) (movement_there full agrees)
      ∙ ap (λ a. visit_after F (picture full) (mixed (picture full) c) k a i m) (sym same)
      ∙ visit_is F (picture full) (mixed (picture full) c) k at w (walks full agrees) i m)

  pub stop_settles : (s : ℕ) (r : Result (Option Bool) ℕ) → Settles (λ full. stop_left F (picture full) k at s m w) known r → Settles (λ full. written F (picture full) c (Part.StopVisited k s)) known r
  stop_settles s r = one_settles (λ full. stop_left F (picture full) k at s m w) (λ full. written F (picture full) c (Part.StopVisited k s)) known r (λ full agrees.
      ap (λ n. stop_after F (picture full) (mixed (picture full) c) k c.at s n) (movement_there full agrees)
      ∙ ap (λ a. stop_after F (picture full) (mixed (picture full) c) k a s m) (sym same)
      ∙ stop_is F (picture full) (mixed (picture full) c) k at w (walks full agrees) s m)

  pub set_settles : (r : Result (Option Bool) ℕ) → Settles (λ full. set_after (picture full) k m) known r → Settles (λ full. written F (picture full) c (Part.InSet k)) known r
  set_settles r = one_settles (λ full. set_after (picture full) k m) (λ full. written F (picture full) c (Part.InSet k)) known r (λ full agrees. ap (set_after (picture full) k) (movement_there full agrees))

-- what is left of a part where the turn writes
pub left_some : (F : Frame) (B : Picture) (s : Turn) (ws : List Write) (part : Part) → change_by s ws ≡ change_of s → 0 < length ws → left_of F B (change_of s) part ≡ written F B (change_over s ws) part
left_some F B s [] part e some = absurd (omega arith)
left_some F B s (w ∷ ws) part e some = ap (λ o. left_of F B o part) (sym e)

pub settles_as : {A : Type 0} (meaning other : (ℕ → Bool) → A) (known : ℕ → Option Bool) (r : Result A ℕ) → ((full : ℕ → Bool) → Agrees known full → other full ≡ meaning full) → Settles meaning known r → Settles other known r
settles_as meaning other known r alike is = one_settles meaning other known r alike is

-- parts that are left by the written name alone
module _ (F : Frame) (picture : (ℕ → Bool) → Picture) (known : ℕ → Option Bool) (c : Change) (at : ℕ) (same : at ≡ c.at) (part : Part) where
  pub chain_settles : (i j : ℕ) → part ≡ Part.Chain i j → (r : Result (Option Bool) ℕ) → Settles (λ full. chain_left F (picture full) at i j) known r → Settles (λ full. written F (picture full) c part) known r
  chain_settles i j e r = one_settles (λ full. chain_left F (picture full) at i j) (λ full. written F (picture full) c part) known r (λ full agrees.
      ap (written F (picture full) c) e ∙ ap (λ a. chain_left F (picture full) a i j) (sym same))

  pub pick_settles : (k : KeyName) (i j s : ℕ) → part ≡ Part.Picks k i j s → (r : Result (Option Bool) ℕ) → Settles (λ full. pick_left F (picture full) at k i j s) known r → Settles (λ full. written F (picture full) c part) known r
  pick_settles k i j s e r = one_settles (λ full. pick_left F (picture full) at k i j s) (λ full. written F (picture full) c part) known r (λ full agrees.
      ap (written F (picture full) c) e ∙ ap (λ a. pick_left F (picture full) a k i j s) (sym same))

  pub stop_flag_settles : (k : KeyName) (s f : ℕ) → part ≡ Part.StopFlag k s f → (r : Result (Option Bool) ℕ) → Settles (λ full. stop_flag_left F (picture full) at k s f) known r → Settles (λ full. written F (picture full) c part) known r
  stop_flag_settles k s f e r = one_settles (λ full. stop_flag_left F (picture full) at k s f) (λ full. written F (picture full) c part) known r (λ full agrees.
      ap (written F (picture full) c) e ∙ ap (λ a. stop_flag_left F (picture full) a k s f) (sym same))
