-- What is kept beside a world and no test reads: who owns each node, what a pending call has allocated, and whether it has
-- changed the set. Runs with it are the same runs.
use Rattle.std.specs.Prelude.{◌≡◌, ℕ, suc, ◌<◌, ℤ, Bool, true, false, not, ◌||◌, ◌==◌, List, [], ◌∷◌, ◌++◌, length, map, slice_get, slice_set, Option, Some, None, if◌then◌else◌}
use Rattle.std.specs.Bool.{beq}
use Rattle.std.specs.Option.{option_map_or}
use Rattle.std.specs.FinMap.{get}
use Rattle.plank_base.specs.declared.keys.NodeId.{NodeId}
use Rattle.plank_base.specs.declared.keys.ThreadId.{ThreadId}
use Rattle.plank_prog.specs.declared.headers.Header.{Header}
use Rattle.plank_prog.specs.declared.blocks.Write.{Write}
use Rattle.plank_prog.specs.declared.methods.Action.{Action}
use Rattle.plank_prog.specs.declared.methods.Method.{Method}
use Rattle.plank_heap.specs.declared.heaps.Heap.{Heap}
use Rattle.plank_heap.specs.Walks.{contains}
use Rattle.plank_hist.specs.declared.events.Event.{Event}
use Rattle.plank_sem.specs.declared.calls.Call.{Call}
use Rattle.plank_sem.specs.declared.steps.Act.{Act}
use Rattle.plank_sem.specs.declared.steps.Act.TheVariants.{Invoke, Go}
use Rattle.plank_sem.specs.declared.steps.Choice.{Choice}
use Rattle.plank_sem.specs.Worlds.{WorldState, start_world}
use Rattle.plank_sem.specs.Reads.{value_of, tests_value}
use Rattle.plank_sem.specs.Actions.{written_in}
use Rattle.plank_sem.specs.Steps.{next, stepped, action_of}
use Rattle.plank_sem.specs.CallMoments.{last_begun}

pub record Kept : Type 0 where
  -- for each node None where it is shared, and else the thread that allocated it, whose own it is
  pub owners : List (Option ℕ)
  -- by thread, the nodes that its pending call allocated
  pub allocated : ℕ → List ℕ
  -- by thread, whether its pending call changed whether its key is in the set
  pub has_changed : ℕ → Bool

abbrev pub IsShared : List (Option ℕ) → ℕ → Type 0
IsShared owners x = slice_get owners x ≡ Some None

abbrev pub IsOwn : List (Option ℕ) → ℕ → ℕ → Type 0
IsOwn owners x thread = slice_get owners x ≡ Some (Some thread)

-- a function with another value at one point
abbrev pub updated : {A : Type 0} → (ℕ → A) → ℕ → A → ℕ → A
updated f at value x = if x == at then value else f x

-- ---- sharing: a node is shared from the step that writes its name into a pointer field of another

-- the write of a pointer of node x shares the node that the pointer then leads to, if that is another
abbrev pub shared_from : ℕ → Option NodeId → List (Option ℕ) → List (Option ℕ)
shared_from x None owners = owners
shared_from x (Some y) owners = if y.0 == x then owners else slice_set owners y.0 None

abbrev pub shared_by : Heap → Call → ℕ → Write → List (Option ℕ) → List (Option ℕ)
shared_by heap call x (Write.Flag r flag to) owners = owners
shared_by heap call x (Write.Pointer r pointer to) owners = shared_from x (value_of heap call to) owners
shared_by heap call x (Write.TakeLock r) owners = owners
shared_by heap call x (Write.FreeLock r) owners = owners

abbrev pub shared_by_all : Heap → Call → ℕ → List Write → List (Option ℕ) → List (Option ℕ)
shared_by_all heap call x [] owners = owners
shared_by_all heap call x (w ∷ ws) owners = shared_by_all heap call x ws (shared_by heap call x w owners)

-- the owners after the writes of a block, where its tests are true
abbrev pub owners_written : Heap → Call → List Write → Option Bool → List (Option ℕ) → List (Option ℕ)
owners_written heap call writes (Some true) owners =
    option_map_or (λ x. shared_by_all heap call x.0 writes owners) (written_in writes heap call) owners
owners_written heap call writes (Some false) owners = owners
owners_written heap call writes None owners = owners

abbrev pub owners_after : Heap → ThreadId → Call → Action → List (Option ℕ) → List (Option ℕ)
owners_after heap thread call (Action.Block b) owners = owners_written heap call b.writes (tests_value heap thread call b.tests) owners
owners_after heap thread call (Action.Copy to from next) owners = owners
owners_after heap thread call (Action.New to next) owners = owners ++ Some thread.0 ∷ []
owners_after heap thread call (Action.Return answer) owners = owners

-- ---- what a call has done

abbrev pub allocated_after : Heap → Action → List ℕ → List ℕ
allocated_after heap (Action.Block b) nodes = nodes
allocated_after heap (Action.Copy to from next) nodes = nodes
allocated_after heap (Action.New to next) nodes = length heap.nodes ∷ nodes
allocated_after heap (Action.Return answer) nodes = nodes

-- whether a key is in one heap's set and not in the other's
abbrev pub differs : Header → Heap → Heap → ℤ → Bool
differs h before after key = not (beq (contains h before key) (contains h after key))

-- ---- the step

-- a call begins with nothing allocated and nothing changed
abbrev pub kept_invoked : ThreadId → Kept → Kept
kept_invoked thread kept = record kept {
  allocated = updated kept.allocated thread.0 [];
  has_changed = updated kept.has_changed thread.0 false;
}

-- a step of a call, from one heap to another
abbrev pub kept_performed : Header → Heap → Heap → ThreadId → Call → Action → Kept → Kept
kept_performed h before after thread call action kept = record {
  owners = owners_after before thread call action kept.owners;
  allocated = updated kept.allocated thread.0 (allocated_after before action (kept.allocated thread.0));
  has_changed = updated kept.has_changed thread.0 (kept.has_changed thread.0 || differs h before after call.key);
}

abbrev pub kept_gone_on : Header → List Method → Heap → Heap → ThreadId → Option Call → Kept → Kept
kept_gone_on h methods before after thread None kept = kept
kept_gone_on h methods before after thread (Some call) kept =
    option_map_or (λ action. kept_performed h before after thread call action kept) (action_of methods call) kept

abbrev pub kept_acted : Header → List Method → WorldState → WorldState → ThreadId → Act → Kept → Kept
kept_acted h methods before after thread (Invoke m key) kept = kept_invoked thread kept
kept_acted h methods before after thread Go kept =
    kept_gone_on h methods before.heap after.heap thread (get before.calls thread.0) kept

-- ---- runs

-- a world with what is kept beside it
pub record GhostWorld : Type 0 where
  pub world : WorldState
  pub kept : Kept

-- the start nodes are shared
abbrev pub ghost_start : Header → GhostWorld
ghost_start h = record {
  world = start_world h;
  kept = record { owners = map (λ x. None) (start_world h).heap.nodes; allocated = λ thread. []; has_changed = λ thread. false };
}

-- a ghost world after a choice that leads to a world
abbrev pub ghost_after : Header → List Method → GhostWorld → Choice → WorldState → GhostWorld
ghost_after h methods before choice after = record {
  world = after;
  kept = kept_acted h methods before.world after choice.thread choice.act before.kept;
}

-- a run through these ghost worlds, newest first
pub data GhostRun (h : Header) (methods : List Method) : List Choice → List (Option Event) → List GhostWorld → Type 0 where
  ghost_begins : GhostRun h methods [] [] (ghost_start h ∷ [])
  ghost_goes_on : {choices : List Choice} {told : List (Option Event)} {before : GhostWorld} {ghosts : List GhostWorld} → GhostRun h methods choices told (before ∷ ghosts) → (choice : Choice) (event : Option Event) (after : WorldState) → next methods before.world choice ≡ stepped event after → GhostRun h methods (choice ∷ choices) (event ∷ told) (ghost_after h methods before choice after ∷ before ∷ ghosts)

-- the pending call of a thread has made a step that changed the set, at some key
pub record IsSpent (h : Header) (thread : ℕ) (choices : List Choice) (worlds : List WorldState) : Type 0 where
  -- the step was made so many steps ago, and after the invocation
  pub ago : ℕ
  pub age : ℕ
  pub begun : last_begun thread choices ≡ Some age
  pub later : ago < age
  pub choice : Choice
  pub chosen : slice_get choices ago ≡ Some choice
  pub own : choice.thread.0 ≡ thread
  pub before : WorldState
  pub after : WorldState
  pub was : slice_get worlds (suc ago) ≡ Some before
  pub is : slice_get worlds ago ≡ Some after
  pub key : ℤ
  pub changed : differs h before.heap after.heap key ≡ true

-- each step of a run changes the set at no key but that of a pending call of its thread
abbrev pub TurnsOwnKeys : Header → List Choice → List GhostWorld → Type 0
TurnsOwnKeys h choices ghosts = (i : ℕ) (choice : Choice) (before after : GhostWorld) → slice_get choices i ≡ Some choice → slice_get ghosts (suc i) ≡ Some before → slice_get ghosts i ≡ Some after
    → (key : ℤ) → differs h before.world.heap after.world.heap key ≡ true → (call : Call) × (get before.world.calls choice.thread.0 ≡ Some call) × (key ≡ call.key)
