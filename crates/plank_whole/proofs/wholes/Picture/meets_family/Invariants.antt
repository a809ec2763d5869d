use Rattle.std.proofs.Common.{◌≡◌, true}
use Rattle.std.specs.List.{list_all}
use Rattle.plank_lawful.specs.Lists.{joined, rules_by_second}
use Rattle.plank_whole.specs.Wholes.{frame_of}
use Rattle.plank_whole.specs.Judging.{meets}
use Rattle.plank_whole.proofs.wholes.Picture.meets_family.Given as goal

-- the rules of the first indexes below hold
abbrev pub invariant-loop-first : goal.invariant-loop-first
invariant-loop-first l = list_all (meets l.self) (joined (rules_by_second (frame_of l.self) l.family) l.first) ≡ true
