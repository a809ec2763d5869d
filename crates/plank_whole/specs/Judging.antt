-- The rules of lawful pictures, asked of a whole picture.
use Rattle.std.specs.Prelude.{Bool}
use Rattle.plank_lawful.specs.declared.families.Rule.{Rule}
use Rattle.plank_lawful.specs.Rules.{rule_holds}
use Rattle.plank_whole.specs.declared.wholes.Picture.{Picture}
use Rattle.plank_whole.specs.Wholes.{frame_of, shown}

abbrev pub meets : Picture → Rule → Bool
meets w r = rule_holds (frame_of w) r (shown w)
