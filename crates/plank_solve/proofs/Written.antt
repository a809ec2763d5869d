-- What is asked of a turn's list of writes, where there is one.
use Rattle.std.proofs.Common.{◌≡◌, ◌<◌, List, [], ◌∷◌, length, refl, arith}
use Rattle.plank_prog.specs.declared.blocks.Write.{Write}
use Rattle.plank_pic.specs.Frames.{Frame}
use Rattle.plank_pic.specs.Pictures.{Picture}
use Rattle.plank_pic.specs.Blocks.{Turn}
use Rattle.plank_step.specs.Turns.{change_over, written_name}
use Rattle.plank_stay.specs.declared.ways.Way.{Way}
use Rattle.plank_stay.specs.Stays.{stays_at}
use Rattle.plank_solve.specs.Asks.{stays_over}

pub some_stays : (F : Frame) (s : Turn) (ws : List Write) (B A : Picture) (w : Way) → 0 < length ws → stays_over F s ws B A w ≡ stays_at F B A (change_over s ws) (written_name s ws) w
some_stays F s [] B A w some = absurd (omega arith)
some_stays F s (x ∷ xs) B A w some = refl
