-- The step of a situation as a search takes it: a turn, with its binds or without them, and what it makes of two pictures
-- as tests. Whoever searches for pictures of a question asks these tests.
use Rattle.std.specs.Prelude.{◌≡◌, ℕ, ◌==◌, Bool, true, false, not, ◌&&◌, ◌||◌, List, [], ◌∷◌, Option, Some, None}
use Rattle.std.specs.Bool.{beq}
use Rattle.std.specs.Option.{option_map_or}
use Rattle.plank_prog.specs.declared.blocks.Write.{Write}
use Rattle.plank_pic.specs.declared.parts.KeyName.{KeyName}
use Rattle.plank_pic.specs.declared.parts.Part.{Part}
use Rattle.plank_pic.specs.Frames.{Frame}
use Rattle.plank_pic.specs.Pictures.{Picture, target}
use Rattle.plank_pic.specs.Keeps.{chain_of, enters_chain}
use Rattle.plank_pic.specs.Lawful.{part_fits, IsPossible}
use Rattle.plank_pic.specs.Steps.{Change, Source, mixed, agrees_with, spent_after}
use Rattle.plank_pic.specs.TestedSteps.{stepped}
use Rattle.plank_pic.specs.Blocks.{Turn, change_of, runs}
use Rattle.plank_step.specs.Sources.{sources}
use Rattle.plank_step.specs.Turns.{change_over, written_name}
use Rattle.plank_query.specs.declared.turns.Actor.{Actor}
use Rattle.plank_query.specs.declared.situations.Situation.{Situation}
use Rattle.plank_query.specs.Situations.{turn_of_actor}
use Rattle.plank_reach.specs.declared.stepping.Stepping.{Stepping}

-- ---- the step

abbrev pub stepping : Actor → Bool → Stepping
stepping turn kept = record { turn = turn; kept = kept }

abbrev pub step_of : Situation → Option Stepping
step_of Situation.Node = None
step_of (Situation.Names variables) = None
step_of (Situation.Own t) = None
step_of (Situation.Step t) = Some (stepping (Actor.Own t) false)
step_of (Situation.Write t) = Some (stepping (Actor.Own t) true)
step_of (Situation.Effect t) = Some (stepping (Actor.Other t) true)

abbrev pub turn_in : Stepping → Turn
turn_in s = turn_of_actor s.turn

-- what it writes, and where the names after it come from
abbrev pub change_in : Stepping → Option Change
change_in s = change_of (turn_in s)

abbrev pub names_in : Stepping → ℕ → Source
names_in s = sources (turn_in s) s.kept

-- ---- its tests

-- the written name is not null, and whether the call is spent is as the write says
abbrev pub writes_rightly : Option Change → Picture → Picture → Bool
writes_rightly None before after = beq (after Part.Spent) (before Part.Spent)
writes_rightly (Some c) before after = not (before (Part.Null c.at)) && beq (after Part.Spent) (spent_after before after c.own)

-- the same of a turn's list of writes
abbrev pub writes_over : Turn → List Write → Picture → Picture → Bool
writes_over s [] before after = beq (after Part.Spent) (before Part.Spent)
writes_over s (w ∷ ws) before after = not (before (Part.Null (written_name s (w ∷ ws)))) && beq (after Part.Spent) (spent_after before after s.mine)

-- what the step leaves of a part is there after it
abbrev pub is_left : Frame → Stepping → Picture → Picture → Part → Bool
is_left F s before after part = agrees_with (stepped F (change_in s) (names_in s) before part) (after part)

pub record MeetsStep (F : Frame) (s : Stepping) (before after : Picture) : Type 0 where
  pub runs : runs F (turn_in s) before ≡ true
  pub writes : writes_rightly (change_in s) before after ≡ true
  pub parts : (part : Part) → part_fits F part ≡ true → is_left F s before after part ≡ true
  pub possible : IsPossible F after

-- ---- what goals look for

-- the walk of any key goes on from a node into the chain to this end
abbrev pub leads_into : Frame → Picture → ℕ → ℕ → Bool
leads_into F p y q = option_map_or (λ e. e == q) (chain_of (target F p KeyName.Any y)) false

-- that walk enters the chain before a write, or after it
abbrev pub enters_either : Frame → Picture → ℕ → ℕ → Change → Bool
enters_either F p y q c = enters_chain F p KeyName.Any c.at y q || enters_chain F (mixed p c) KeyName.Any c.at y q

-- what writes make true, where there are any
abbrev pub written_so : Turn → List Write → (Change → Bool) → Bool
written_so s [] test = false
written_so s (w ∷ ws) test = test (change_over s (w ∷ ws))
