-- Truth values, and parts of pictures that are there.
use Rattle.std.specs.Prelude.{◌≡◌, Bool, true, false, not, ◌||◌}
use Rattle.std.proofs.Common.{refl, sym, ◌∙◌}
use Rattle.std.proofs.lemmas.Bool.{false≢true, true≢false}
use Rattle.plank_pic.specs.declared.parts.Part.{Part}
use Rattle.plank_pic.specs.Frames.{Frame}
use Rattle.plank_pic.specs.Pictures.{Picture}
use Rattle.plank_pic.specs.Lawful.{part_fits}

pub implied : (a b : Bool) → (not a || b) ≡ true → a ≡ true → b ≡ true
implied true b e t = e
implied false b e t = absurd (false≢true t)

pub not_so : (a b : Bool) → (a ≡ true → b ≡ true) → b ≡ false → a ≡ false
not_so true b h e = absurd (false≢true (sym e ∙ h refl))
not_so false b h e = refl

pub implies_false : (a b : Bool) → (not a || b) ≡ false → (a ≡ true) × (b ≡ false)
implies_false true false e = (refl, refl)
implies_false true true e = absurd (true≢false e)
implies_false false b e = absurd (true≢false e)

pub from_not : (b : Bool) → not b ≡ true → b ≡ false
from_not true e = absurd (false≢true e)
from_not false e = refl

-- what is true is of a part that is there
pub there : (F : Frame) (p : Picture) → ((part : Part) → part_fits F part ≡ false → p part ≡ false) → (part : Part) → p part ≡ true → part_fits F part ≡ true
there F p fits part e = by_fit (part_fits F part) refl
  where
    by_fit : (b : Bool) → part_fits F part ≡ b → part_fits F part ≡ true
    by_fit true is = is
    by_fit false is = absurd (false≢true (sym (fits part is) ∙ e))
