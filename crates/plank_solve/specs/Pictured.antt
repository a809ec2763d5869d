-- Whether an ask holds of the pictures of an assignment, and whether these are possible.
use Rattle.std.specs.Prelude.{ℕ, Bool, ◌&&◌}
use Rattle.std.specs.List.{list_all}
use Rattle.plank_pic.specs.Frames.{Frame}
use Rattle.plank_pic.specs.Pictures.{Picture}
use Rattle.plank_lawful.specs.Lists.{rules_of_possible}
use Rattle.plank_lawful.specs.Rules.{rule_holds}
use Rattle.plank_parts.specs.declared.sides.Side.{Side}
use Rattle.plank_parts.specs.Numbers.{Numbers, picture_of}
use Rattle.plank_query.specs.declared.situations.Situation.{Situation}
use Rattle.plank_solve.specs.declared.asks.Ask.{Ask}
use Rattle.plank_solve.specs.Asks.{ask_holds}

-- whether an ask holds under a full assignment
abbrev pub holds_under : Numbers → Situation → (ℕ → Bool) → Ask → Bool
holds_under N S full = ask_holds N.frame S (picture_of N Side.Before full) (picture_of N Side.After full) full

-- names, nodes, pointers and keys fit together in both pictures, as the rules of possible pictures say
abbrev pub is_possible_by : Frame → Picture → Bool
is_possible_by F p = list_all (λ rule. rule_holds F rule p) (rules_of_possible F)

abbrev pub shows_pictures : Numbers → (ℕ → Bool) → Bool
shows_pictures N full = is_possible_by N.frame (picture_of N Side.Before full) && is_possible_by N.frame (picture_of N Side.After full)
