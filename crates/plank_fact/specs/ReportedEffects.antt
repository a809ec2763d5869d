-- The effects of a program at marks, as a report lists them: each site that a call may come to, with what it keeps of its
-- claims.
use Rattle.std.specs.Prelude.{◌≡◌, ℕ, suc, Bool, true, false, not, ◌&&◌, List, [], ◌∷◌, if◌then◌else◌}
use Rattle.plank_prog.specs.declared.blocks.Block.{Block}
use Rattle.plank_prog.specs.declared.methods.Action.{Action}
use Rattle.plank_prog.specs.Blocks.{block_names}
use Rattle.plank_prog.specs.Methods.{is_site}
use Rattle.plank_pic.specs.Pictures.{Picture}
use Rattle.plank_fact.specs.declared.facts.Fact.{Fact}
use Rattle.plank_fact.specs.Literals.{is_over, is_of_call}
use Rattle.plank_fact.specs.Tables.{facts_of}
use Rattle.plank_fact.specs.Outlines.{Outline, Point, mark_number}
use Rattle.plank_fact.specs.OwnSteps.{IsOwnPicture}

-- whether an effect keeps the fact: it is of names that stand in the block, and of what other calls may know
abbrev pub is_kept : Block → Fact → Bool
is_kept b (Fact.Now L) = not (is_of_call L) && is_over (block_names b) L
is_kept b (Fact.Past L) = false

-- those of the facts from the n-th on whose mark is not set and that an effect keeps
abbrev pub kept_from : (ℕ → Bool) → Block → ℕ → List Fact → List Fact
kept_from is_marked b n [] = []
kept_from is_marked b n (f ∷ fs) = if not (is_marked n) && is_kept b f then f ∷ kept_from is_marked b (suc n) fs else kept_from is_marked b (suc n) fs

-- the location is an effect with these facts: it writes, and a call may come to it
pub record IsEffectOf (O : Outline) (x : Point O.methods) (facts : List Fact) : Type 0 where
  pub writes : is_site x.location.action ≡ true
  pub block : Block
  pub here : x.location.action ≡ Action.Block block
  pub picture : Picture
  pub reached : IsOwnPicture O x picture
  pub are : facts ≡ kept_from (λ n. O.marks (mark_number O.methods x.m x.l n)) block 0 (facts_of O.header x.method)
