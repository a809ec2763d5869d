use Rattle.std.proofs.Common.{◌≡◌, true}
use Rattle.std.specs.List.{list_all}
use Rattle.plank_lawful.specs.Lists.{joined, rules_by_third}
use Rattle.plank_whole.specs.Wholes.{frame_of}
use Rattle.plank_whole.specs.Judging.{meets}
use Rattle.plank_whole.proofs.wholes.Picture.meets_by_second.Given as goal

-- the rules of the second indexes below hold
abbrev pub invariant-loop-second : goal.invariant-loop-second
invariant-loop-second l = list_all (meets l.self) (joined (rules_by_third (frame_of l.self) l.family l.first) l.second) ≡ true
