-- The laws: the list of rules has each rule of the frame, and they hold exactly where the picture is lawful, or possible.
use Rattle.std.specs.Prelude.{◌≡◌, ◌↔◌, true, false}
use Rattle.std.specs.List.{All}
use Rattle.plank_pic.specs.declared.parts.Part.{Part}
use Rattle.plank_pic.specs.Frames.{Frame}
use Rattle.plank_pic.specs.Pictures.{Picture}
use Rattle.plank_pic.specs.Lawful.{part_fits, IsPossible, IsLawful}
use Rattle.plank_lawful.specs.declared.families.Rule.{Rule}
use Rattle.plank_lawful.specs.Rules.{rule_holds}
use Rattle.plank_lawful.specs.Families.{IsWithin, is_possible, ListsRules, ListsPossible}
use Rattle.plank_lawful.specs.Lists.{rules_of_possible, rules_of_lawful}

-- nothing is said of parts that the frame does not have
abbrev pub SaysNoOutside : Frame → Picture → Type 0
SaysNoOutside F p = (part : Part) → part_fits F part ≡ false → p part ≡ false

abbrev pub Holds : Frame → Picture → Rule → Type 0
Holds F p r = rule_holds F r p ≡ true

-- each rule of possible pictures holds; each rule holds
abbrev pub MeetsPossible : Frame → Picture → Type 0
MeetsPossible F p = (r : Rule) → is_possible r.family ≡ true → IsWithin F r → Holds F p r

abbrev pub MeetsRules : Frame → Picture → Type 0
MeetsRules F p = (r : Rule) → IsWithin F r → Holds F p r

-- the rules say what a possible picture is, and what a lawful one is; so do the lists of them
pub record RulesSayAll (F : Frame) (p : Picture) : Type 0 where
  pub possible : MeetsPossible F p ↔ IsPossible F p
  pub lawful : MeetsRules F p ↔ IsLawful F p
  pub possible_list : All (Holds F p) (rules_of_possible F) ↔ IsPossible F p
  pub lawful_list : All (Holds F p) (rules_of_lawful F) ↔ IsLawful F p

-- the lists have each rule, and no other
pub record ListsAll (F : Frame) : Type 0 where
  pub possible : ListsPossible F (rules_of_possible F)
  pub lawful : ListsRules F (rules_of_lawful F)
