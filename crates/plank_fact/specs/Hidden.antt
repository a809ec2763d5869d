-- Nodes inside a chain that the walk of a key enters: no name names them, and whether the walk visits them may change. The
-- obligation keep asks for them.
use Rattle.std.specs.Prelude.{◌≡◌, ℕ, ◌<◌, Bool, true, false, not, ◌||◌, length}
use Rattle.plank_prog.specs.Conditions.{View}
use Rattle.plank_pic.specs.declared.parts.KeyName.{KeyName}
use Rattle.plank_pic.specs.Frames.{Frame}
use Rattle.plank_pic.specs.Pictures.{Picture}
use Rattle.plank_pic.specs.Lawful.{keep_holds}
use Rattle.plank_pic.specs.Steps.{Change, mixed}
use Rattle.plank_pic.specs.Keeps.{Placed, IsInner, MeetsAll, enters_chain}

-- A walk of the key enters a chain by the change, and a frozen node that may stand inside the chain meets every keep where
-- the walk visits it and breaks one where it does not, or the other way round.
pub record HiddenKeepFails (F : Frame) (c : Change) (k : KeyName) (p : Picture) : Type 0 where
  pub first : ℕ
  pub last : ℕ
  pub enters : (enters_chain F p k c.at first last || enters_chain F (mixed p c) k c.at first last) ≡ true
  pub view : View
  pub place : Placed
  pub inner : IsInner F p k first last view place
  pub visited : Bool
  pub kept : MeetsAll F view visited
  pub broken : ℕ
  pub there : broken < length F.header.keeps
  pub breaks : keep_holds F.header (record view { visited = not visited }) broken ≡ false
