-- What questions are asked of: a picture, or two pictures with a step between them. Each situation has a frame, the calls that
-- it sees, and the pictures that are in it: those of own pictures, own steps, writes and effects before their facts.
use Rattle.std.specs.Prelude.{◌≡◌, ℕ, suc, ◌+◌, ◌<◌, Bool, true, false, ◌||◌, nat_lt, Option, Some, None, unwrap_or}
use Rattle.std.specs.Option.{option_and_then}
use Rattle.plank_prog.specs.declared.blocks.Reference.{Reference}
use Rattle.plank_prog.specs.declared.headers.Header.{Header}
use Rattle.plank_pic.specs.Frames.{Frame}
use Rattle.plank_pic.specs.Pictures.{Picture}
use Rattle.plank_pic.specs.Lawful.{IsLawful}
use Rattle.plank_pic.specs.Steps.{Change}
use Rattle.plank_pic.specs.Blocks.{Turn, name, change_of, IsTurnStep, IsWriteStep}
use Rattle.plank_pic.specs.Calls.{own_names, own_name, own_turn, is_usable, is_others}
use Rattle.plank_pic.specs.Truths.{Caller}
use Rattle.plank_fact.specs.OwnSteps.{is_yes}
use Rattle.plank_query.specs.declared.turns.OwnTurn.{OwnTurn}
use Rattle.plank_query.specs.declared.turns.SiteTurn.{SiteTurn}
use Rattle.plank_query.specs.declared.turns.Actor.{Actor}
use Rattle.plank_query.specs.declared.situations.Situation.{Situation}
use Rattle.plank_query.specs.declared.predicates.Speaker.{Speaker}
use Rattle.plank_query.specs.Sites.{action_reads_below, site_turn}

-- ---- turns

abbrev pub turn_of_own : OwnTurn → Turn
turn_of_own t = own_turn t.variables t.action.now (is_yes t.exit)

abbrev pub turn_of_site : SiteTurn → Turn
turn_of_site t = site_turn (suc t.variables) t.action.now

abbrev pub turn_of_actor : Actor → Turn
turn_of_actor (Actor.Own t) = turn_of_own t
turn_of_actor (Actor.Other t) = turn_of_site t

-- whose turn it is, if anyone's
abbrev pub turn : Situation → Option Turn
turn Situation.Node = None
turn (Situation.Names variables) = None
turn (Situation.Own t) = Some (turn_of_own t)
turn (Situation.Step t) = Some (turn_of_own t)
turn (Situation.Write t) = Some (turn_of_own t)
turn (Situation.Effect t) = Some (turn_of_site t)

-- what is written, where something is
abbrev pub change : Situation → Option Change
change S = option_and_then change_of (turn S)

-- ---- names

abbrev pub names : Situation → ℕ
names Situation.Node = 1
names (Situation.Names variables) = suc variables
names (Situation.Own t) = own_names t.variables t.action.now
names (Situation.Step t) = own_names t.variables t.action.now
names (Situation.Write t) = own_names t.variables t.action.now
names (Situation.Effect t) = suc t.variables + action_reads_below t.action.now t.others

-- a lone node is not known to be the root
abbrev pub root : Situation → Option ℕ
root Situation.Node = None
root S = Some 0

abbrev pub frame : Header → Situation → Frame
frame h S = record { header = h; names = names S; root = root S }

-- ---- the calls that it sees

-- how many variables the own call has
abbrev pub own_variables : Situation → ℕ
own_variables Situation.Node = 0
own_variables (Situation.Names variables) = variables
own_variables (Situation.Own t) = t.variables
own_variables (Situation.Step t) = t.variables
own_variables (Situation.Write t) = t.variables
own_variables (Situation.Effect t) = t.variables

abbrev pub own_caller : ℕ → Caller
own_caller variables = record { own = true; name = λ r. unwrap_or (own_name variables r) 0 }

abbrev pub no_name : Reference → ℕ
no_name r = 0

-- the picture's names of what another call speaks of
abbrev pub other_names : Situation → Reference → ℕ
other_names Situation.Node = no_name
other_names (Situation.Names variables) = no_name
other_names (Situation.Own t) = no_name
other_names (Situation.Step t) = no_name
other_names (Situation.Write t) = no_name
other_names (Situation.Effect t) = name (turn_of_site t)

abbrev pub caller : Situation → Speaker → Caller
caller S Speaker.Own = own_caller (own_variables S)
caller S Speaker.Other = record { own = false; name = other_names S }

-- ---- the pictures

-- whether a name is of a node that is there for whoever has the name
abbrev pub is_fit : Situation → Picture → ℕ → Bool
is_fit Situation.Node p i = true
is_fit (Situation.Names variables) p i = true
is_fit (Situation.Own t) p i = is_usable p i
is_fit (Situation.Step t) p i = is_usable p i
is_fit (Situation.Write t) p i = is_usable p i
is_fit (Situation.Effect t) p i = nat_lt i (suc t.variables) || is_others p i

-- the step between the pictures; where there is none they are one
abbrev pub IsStep : Header → Situation → Picture → Picture → Type 0
IsStep h Situation.Node before after = after ≡ before
IsStep h (Situation.Names variables) before after = after ≡ before
IsStep h (Situation.Own t) before after = after ≡ before
IsStep h (Situation.Step t) before after = IsTurnStep (frame h (Situation.Step t)) (turn_of_own t) before after
IsStep h (Situation.Write t) before after = IsWriteStep (frame h (Situation.Write t)) (turn_of_own t) before after
IsStep h (Situation.Effect t) before after = IsWriteStep (frame h (Situation.Effect t)) (turn_of_site t) before after

-- a lawful picture whose names fit, and the picture after the step
pub record IsSituated (h : Header) (S : Situation) (before after : Picture) : Type 0 where
  pub lawful : IsLawful (frame h S) before
  pub fit : (i : ℕ) → i < names S → is_fit S before i ≡ true
  pub step : IsStep h S before after
