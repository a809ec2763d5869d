-- Pictures of the own call at a location: they have names for the root, for the variables of its method, and for what each
-- bind of its block reads, in this order; each is null, shared or the own thread's. Facts and obligations ask for them.
use Rattle.std.specs.Prelude.{◌≡◌, ℕ, suc, ◌+◌, ◌<◌, ◌==◌, Bool, true, not, ◌||◌, nat_lt, List, [], ◌∷◌, length, Option, Some, None, if◌then◌else◌}
use Rattle.plank_prog.specs.declared.blocks.Reference.{Reference}
use Rattle.plank_prog.specs.declared.blocks.Bind.{Bind}
use Rattle.plank_prog.specs.declared.methods.Action.{Action}
use Rattle.plank_pic.specs.declared.parts.Part.{Part}
use Rattle.plank_pic.specs.Frames.{Frame}
use Rattle.plank_pic.specs.Pictures.{Picture}
use Rattle.plank_pic.specs.Lawful.{IsLawful}
use Rattle.plank_pic.specs.Blocks.{Turn}

-- ---- whose nodes the names are of

-- a name of the own call: null, shared, or the own thread's
abbrev pub is_usable : Picture → ℕ → Bool
is_usable p i = p (Part.Null i) || p (Part.Shared i) || p (Part.Mine i)

-- a name of the other call: null, shared, or the other thread's
abbrev pub is_others : Picture → ℕ → Bool
is_others p i = p (Part.Null i) || p (Part.Shared i) || not (p (Part.Mine i))

-- a picture of the own call, before its facts
pub record IsOwnPicture (F : Frame) (p : Picture) : Type 0 where
  pub lawful : IsLawful F p
  pub usable : (i : ℕ) → i < F.names → is_usable p i ≡ true

-- ---- its names

abbrev pub binds_of : Action → List Bind
binds_of (Action.Block b) = b.binds
binds_of (Action.Copy to from next) = []
binds_of (Action.New to next) = []
binds_of (Action.Return answer) = []

-- the place of the bind of a variable
abbrev pub bind_place : ℕ → List Bind → ℕ
bind_place v [] = 0
bind_place v (d ∷ ds) = if d.to == v then 0 else suc (bind_place v ds)

-- how many names there are, of which the first is the root's
abbrev pub own_names : ℕ → Action → ℕ
own_names variables action = suc (variables + length (binds_of action))

abbrev pub own_name : ℕ → Reference → Option ℕ
own_name variables Reference.Root = Some 0
own_name variables (Reference.Variable v) = if nat_lt v variables then Some (suc v) else None

-- the own call's turn by an exit, of a method with so many variables
abbrev pub own_turn : ℕ → Action → Bool → Turn
own_turn variables action exit = record {
  action = action;
  yes = exit;
  mine = true;
  name_of = own_name variables;
  read_by = λ v. suc (variables + bind_place v (binds_of action));
}
