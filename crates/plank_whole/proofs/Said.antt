-- A whole picture says nothing of parts that its frame does not have.
use Rattle.std.proofs.Common.{Bool, false, List, ap}
use Rattle.std.specs.Prelude.{◌&&◌, slice_index_or}
use Rattle.plank_pic.specs.Frames.{Frame}
use Rattle.plank_parts.specs.Codes.{part_code}
use Rattle.plank_lawful.specs.Laws.{SaysNoOutside}
use Rattle.plank_whole.specs.Wholes.{said_in}

pub says_no_outside : (F : Frame) (said : List Bool) → SaysNoOutside F (said_in F said)
says_no_outside F said part outside = ap (λ b. b && slice_index_or said (part_code part) false) outside
