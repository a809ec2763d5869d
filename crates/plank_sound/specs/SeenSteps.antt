-- Steps of calls, as the pictures see them that the worlds before and after show: a step of a pending call is an own step of its
-- point, and a step of another call that writes is an effect of its site. The functions of `laws` prove it; interference stands
-- on it.
use Rattle.std.specs.Prelude.{◌≡◌, ◌≢◌, ◌⊎◌, ℕ, ℤ, true, List, length, Option, Some, None}
use Rattle.std.specs.FinMap.{get}
use Rattle.plank_base.specs.declared.keys.ThreadId.{ThreadId}
use Rattle.plank_prog.specs.declared.blocks.Block.{Block}
use Rattle.plank_prog.specs.declared.methods.Action.{Action}
use Rattle.plank_prog.specs.declared.methods.Method.{Method}
use Rattle.plank_prog.specs.Headers.{is_lawful_header}
use Rattle.plank_prog.specs.Methods.{are_lawful_methods, is_site}
use Rattle.plank_hist.specs.declared.events.Event.{Event}
use Rattle.plank_sem.specs.declared.calls.Call.{Call}
use Rattle.plank_sem.specs.Worlds.{WorldState}
use Rattle.plank_sem.specs.Steps.{performed, stepped}
use Rattle.plank_sem.specs.Kept.{Kept, GhostWorld, kept_performed}
use Rattle.plank_sem.specs.Facts.{IsSound, HasSizes}
use Rattle.plank_pic.specs.declared.literals.Exit.{Exit}
use Rattle.plank_pic.specs.declared.parts.KeyName.{KeyName}
use Rattle.plank_pic.specs.Calls.{binds_of}
use Rattle.plank_fact.specs.Tables.{name_count}
use Rattle.plank_fact.specs.Outlines.{Outline, Point}
use Rattle.plank_fact.specs.OwnSteps.{own_frame, IsOwnStep, IsWriteStep, location_after}
use Rattle.plank_fact.specs.Effects.{joint_frame, IsEffect}
use Rattle.plank_scene.specs.Scenes.{Scene, shown}
use Rattle.plank_scene.specs.Worlds.{IsOrderlyWorld}
use Rattle.plank_scene.specs.OwnScenes.{own_named, counts_as_mine, own_scene}
use Rattle.plank_sound.specs.Sights.{value_at}
use Rattle.plank_sound.specs.Interference.{IsAt, AreNowTrue}
use Rattle.plank_sound.specs.JointNames.{joint_named}

-- a call acts by its point
pub record ActsAt (O : Outline) (g : GhostWorld) (thread : ThreadId) (after : WorldState) (kept : Kept) : Type 0 where
  pub call : Call
  pub pending : get g.world.calls thread.0 ≡ Some call
  pub point : Point O.methods
  pub at : IsAt point call
  pub event : Option Event
  pub step : performed O.methods g.world thread call point.location.action ≡ stepped event after
  pub kept_is : kept ≡ kept_performed O.header g.world.heap after.heap thread call point.location.action g.kept

-- what is known of a world of a run: the facts of every world, keeps and orders, and that the claims of now are true
pub record IsKnownWorld (O : Outline) (g : GhostWorld) : Type 0 where
  pub header : is_lawful_header O.header ≡ true
  pub methods : are_lawful_methods O.header O.methods ≡ true
  pub sound : IsSound O.header g
  pub sizes : HasSizes g.world
  pub orderly : IsOrderlyWorld O.header g
  pub claims : AreNowTrue O g

-- ---- the own call's

-- the key of the own call, and another
abbrev pub keys_for : ℤ → ℤ → KeyName → ℤ
keys_for own any KeyName.Own = own
keys_for own any KeyName.Other = any
keys_for own any KeyName.Any = any

-- the scene of a call before a step to a heap, which also looks at another key
abbrev pub own_before : {methods : List Method} → GhostWorld → GhostWorld → ThreadId → Call → Point methods → ℤ → Scene
own_before g later thread call x key =
    record (own_scene g thread call x.location.action (length x.method.variables) None (keys_for call.key key)) { after = later.world.heap }

-- the one after it, with these names
abbrev pub own_after : {methods : List Method} → GhostWorld → GhostWorld → ThreadId → Call → Point methods → ℤ → (ℕ → Option ℕ) → Scene
own_after g later thread call x key named =
    record (own_before g later thread call x key) { heap = later.world.heap; owners = later.kept.owners; spent = later.kept.has_changed thread.0; named = named }

-- the names of a call as it is afterwards; what the binds have read keeps its name
abbrev pub names_then : {methods : List Method} → GhostWorld → Call → Point methods → Call → ℕ → Option ℕ
names_then g call x next = own_named g.world.heap call (binds_of x.location.action) (length x.method.variables) next.variables

-- the step is an own step of the point, by the exit that leads to where the call then stands
pub record IsSeenOwn (O : Outline) (g later : GhostWorld) (thread : ThreadId) (call next : Call) (x : Point O.methods) (key : ℤ) : Type 0 where
  pub exit : Exit
  pub step : IsOwnStep O x exit (shown (own_frame O x) (own_before g later thread call x key)) (shown (own_frame O x) (own_after g later thread call x key (names_then g call x next)))
  pub leads : location_after exit x.location.action ≡ Some next.location
  -- with the binds left out it is the write step that obligations look at
  pub write : exit ≡ Exit.Yes → is_site x.location.action ≡ true
      → IsWriteStep O x (shown (own_frame O x) (own_before g later thread call x key)) (shown (own_frame O x) (own_after g later thread call x key (own_before g later thread call x key).named))

abbrev pub OwnStepsAreSeen : Type 0
OwnStepsAreSeen = (O : Outline) (g later : GhostWorld) → IsKnownWorld O g → IsSound O.header later → HasSizes later.world
    → (thread : ThreadId) (acts : ActsAt O g thread later.world later.kept) (next : Call) → get later.world.calls thread.0 ≡ Some next → (key : ℤ)
    → IsSeenOwn O g later thread acts.call next acts.point key

-- ---- another call's

-- the keys of a reader and of the call that acts
abbrev pub keys_of_two : ℤ → ℤ → KeyName → ℤ
keys_of_two own other KeyName.Own = own
keys_of_two own other KeyName.Other = other
keys_of_two own other KeyName.Any = own

-- what a call of a thread sees of a step of another, before it: its own names, and those that the block reads
abbrev pub joint_before : GhostWorld → GhostWorld → ℕ → Call → Method → ThreadId → Call → Method → Block → Scene
joint_before g later u call m thread acting other b = record {
  heap = g.world.heap;
  owners = g.kept.owners;
  before = g.world.heap;
  after = later.world.heap;
  named = joint_named (name_count m) (value_at g.world.heap call (length m.variables)) b (length other.variables) acting;
  walked = keys_of_two call.key acting.key;
  unborn = λ z. call.key;
  mine = counts_as_mine g.kept.owners (Some thread.0);
  own = Some u;
  other = Some thread.0;
  spent = g.kept.has_changed u;
}

-- and after it
abbrev pub joint_after : GhostWorld → GhostWorld → ℕ → Call → Method → ThreadId → Call → Method → Block → Scene
joint_after g later u call m thread acting other b =
    record (joint_before g later u call m thread acting other b) { heap = later.world.heap; owners = later.kept.owners }

-- the step is an effect of the site, or shows the same picture, where the block takes its no exit
abbrev pub IsSeenOther : (O : Outline) → GhostWorld → GhostWorld → ℕ → Call → Method → ThreadId → Call → Point O.methods → Block → Type 0
IsSeenOther O g later u call m thread acting x b =
    IsEffect O m x (shown (joint_frame O m x.method b) (joint_before g later u call m thread acting x.method b)) (shown (joint_frame O m x.method b) (joint_after g later u call m thread acting x.method b))
    ⊎ (shown (joint_frame O m x.method b) (joint_before g later u call m thread acting x.method b) ≡ shown (joint_frame O m x.method b) (joint_after g later u call m thread acting x.method b))

abbrev pub OthersStepsAreSeen : Type 0
OthersStepsAreSeen = (O : Outline) (g later : GhostWorld) → IsKnownWorld O g → IsSound O.header later → HasSizes later.world
    → (thread : ThreadId) (acts : ActsAt O g thread later.world later.kept) (b : Block) → acts.point.location.action ≡ Action.Block b → is_site acts.point.location.action ≡ true
    → (u : ℕ) (call : Call) → get g.world.calls u ≡ Some call → (x : Point O.methods) → IsAt x call → u ≢ thread.0
    → IsSeenOther O g later u call x.method thread acts.call acts.point b
