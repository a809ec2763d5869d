-- Own pictures and own steps: what a call may see at a location, what its own action may make of it, and where it then
-- stands. Facts after a step and obligations are said of them.
use Rattle.std.specs.Prelude.{◌≡◌, ℕ, Bool, true, false, List, length, Option, Some, None, unwrap_or}
use Rattle.plank_prog.specs.declared.headers.Header.{Header}
use Rattle.plank_prog.specs.declared.methods.Action.{Action}
use Rattle.plank_prog.specs.declared.methods.Method.{Method}
use Rattle.plank_pic.specs.declared.literals.Literal.{Literal}
use Rattle.plank_pic.specs.declared.literals.Exit.{Exit}
use Rattle.plank_pic.specs.Frames.{Frame}
use Rattle.plank_pic.specs.Pictures.{Picture}
use Rattle.plank_pic.specs.Blocks.{Turn, IsTurnStep}
use Rattle.plank_pic.specs.Blocks as blocks
use Rattle.plank_pic.specs.Calls.{own_names, own_name, own_turn}
use Rattle.plank_pic.specs.Calls as calls
use Rattle.plank_pic.specs.Truths.{Caller, truth}
use Rattle.plank_fact.specs.declared.facts.Fact.{Fact}
use Rattle.plank_fact.specs.Tables.{name_count}
use Rattle.plank_fact.specs.Outlines.{Outline, Point, location_number, IsClaimed}

-- ---- names: those of the root and the variables, and at a block one more for each bind, for the node that it reads

-- a call of the method
abbrev pub own_call : Method → Caller
own_call m = record { own = true; name = λ r. unwrap_or (own_name (length m.variables) r) 0 }

-- pictures over so many names, the first of which is the root's
abbrev pub frame_of : Header → ℕ → Frame
frame_of h names = record { header = h; names = names; root = Some 0 }

-- over those of a method alone
abbrev pub method_frame : Header → Method → Frame
method_frame h m = frame_of h (name_count m)

abbrev pub own_frame : (O : Outline) → Point O.methods → Frame
own_frame O x = frame_of O.header (own_names (length x.method.variables) x.location.action)

-- ---- own pictures: lawful, each name null, shared or the own thread's, and what is claimed at the location is true

pub record IsOwnPicture (O : Outline) (x : Point O.methods) (p : Picture) : Type 0 where
  pub picture : calls.IsOwnPicture (own_frame O x) p
  pub claimed : (L : Literal) → IsClaimed O x (Fact.Now L) → truth p (own_call x.method) L ≡ true

-- ---- own steps

abbrev pub is_yes : Exit → Bool
is_yes Exit.Yes = true
is_yes Exit.No = false

-- the location's action, by the exit
abbrev pub turn_at : (O : Outline) → Point O.methods → Exit → Turn
turn_at O x e = own_turn (length x.method.variables) x.location.action (is_yes e)

pub record IsOwnStep (O : Outline) (x : Point O.methods) (e : Exit) (before after : Picture) : Type 0 where
  pub own : IsOwnPicture O x before
  pub step : IsTurnStep (own_frame O x) (turn_at O x e) before after

-- the yes step as obligations on writes look at it: the binds set no variable, so that no node loses its name
pub record IsWriteStep (O : Outline) (x : Point O.methods) (before after : Picture) : Type 0 where
  pub own : IsOwnPicture O x before
  pub step : blocks.IsWriteStep (own_frame O x) (turn_at O x Exit.Yes) before after

-- ---- where an exit leads

abbrev pub location_after : Exit → Action → Option ℕ
location_after Exit.Yes (Action.Block b) = Some b.yes
location_after Exit.No (Action.Block b) = Some b.no
location_after Exit.Yes (Action.Copy to from next) = Some next
location_after Exit.No (Action.Copy to from next) = None
location_after Exit.Yes (Action.New to next) = Some next
location_after Exit.No (Action.New to next) = None
location_after e (Action.Return answer) = None

pub record LeadsTo {methods : List Method} (x : Point methods) (e : Exit) (y : Point methods) : Type 0 where
  pub same_method : y.m ≡ x.m
  pub leads : location_after e x.location.action ≡ Some y.l

-- locations, by their numbers in the program, that calls stay in: each method begins there, and no step leads out
pub record HoldsCalls (methods : List Method) (inside : ℕ → Bool) : Type 0 where
  pub begins : (x : Point methods) → x.l ≡ 0 → inside (location_number methods x.m x.l) ≡ true
  pub stays : (from x : Point methods) (e : Exit) → LeadsTo from e x → inside (location_number methods from.m from.l) ≡ true
      → inside (location_number methods x.m x.l) ≡ true
