-- The frame that a shape is.
use Rattle.plank_pic.specs.Frames.{Frame}
use Rattle.plank_parts.specs.declared.shapes.Shape.{Shape}

abbrev pub frame_of : Shape → Frame
frame_of s = record { header = s.header.now; names = s.names; root = s.root }
