use Rattle.std.proofs.Common.{◌≡◌, true}
use Rattle.std.specs.List.{list_all}
use Rattle.plank_lawful.specs.Lists.{joined, rule_alone}
use Rattle.plank_whole.specs.Judging.{meets}
use Rattle.plank_whole.proofs.wholes.Picture.meets_by_third.Given as goal

-- the rules of the third indexes below hold
abbrev pub invariant-loop-third : goal.invariant-loop-third
invariant-loop-third l = list_all (meets l.self) (joined (rule_alone l.family l.first l.second) l.third) ≡ true
