use Rattle.std.proofs.Common.{◌≡◌, drop}
use Rattle.std.specs.List.{list_all}
use Rattle.plank_lawful.specs.Lists.{rules_of_all}
use Rattle.plank_whole.specs.Wholes.{frame_of}
use Rattle.plank_whole.specs.Judging.{meets}
use Rattle.plank_whole.proofs.wholes.Picture.meets_all.Given as goal

-- the families that are left say whether all rules hold
abbrev pub invariant-loop-family : goal.invariant-loop-family
invariant-loop-family l =
    list_all (meets l.self) (rules_of_all (frame_of l.self) (drop l.family-index l.families)) ≡ list_all (meets l.self) (rules_of_all (frame_of l.self) l.families)
