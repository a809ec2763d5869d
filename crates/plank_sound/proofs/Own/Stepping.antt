-- A step of a pending call at a point of its outline is a step of the point's own pictures.
use Rattle.std.proofs.Common.{◌≡◌, ◌⊎◌, ℕ, ◌<◌, ◌≤◌, ℤ, Bool, true, false, List, length, Option, Some, None, refl, sym, ◌∙◌, ap, subst, inl, inr}
use Rattle.std.specs.Prelude.{slice_get, option_map, option_and_then}
use Rattle.std.specs.Ordering.{nat_cmp, eq_by_cmp}
use Rattle.std.specs.Cmp.{nat_cmp_total, unsigned_tied}
use Rattle.std.specs.FinMap.{get, insert, get-insert}
use Rattle.std.proofs.lemmas.Bool.{true≢false, and_parts, eq-eqb, ltb-true, cond-true}
use Rattle.std.proofs.lemmas.Option.{same_Some}
use Rattle.plank_base.specs.declared.keys.ThreadId.{ThreadId}
use Rattle.plank_base.specs.declared.limits.TheConstants.{VARIABLES_LIMIT}
use Rattle.plank_prog.specs.declared.blocks.Block.{Block}
use Rattle.plank_prog.specs.declared.blocks.Value.{Value}
use Rattle.plank_prog.specs.declared.methods.Action.{Action}
use Rattle.plank_prog.specs.declared.methods.Location.{Location}
use Rattle.plank_prog.specs.declared.methods.Method.{Method}
use Rattle.plank_prog.specs.Headers.{is_lawful_header}
use Rattle.plank_prog.specs.Methods.{is_lawful_action, are_lawful_methods}
use Rattle.plank_hist.specs.declared.events.Event.{Event}
use Rattle.plank_sem.specs.declared.calls.Call.{Call}
use Rattle.plank_sem.specs.Worlds.{WorldState, Calls}
use Rattle.plank_sem.specs.Reads.{tests_value}
use Rattle.plank_sem.specs.Actions.{After, block_run, copied, allocated}
use Rattle.plank_sem.specs.Steps.{stepped, performed, action_of, went_on}
use Rattle.plank_sem.specs.Kept.{GhostWorld, kept_performed}
use Rattle.plank_sem.specs.Facts.{IsSound, HasSizes}
use Rattle.plank_sem.proofs.LawfulActions.{stands_at}
use Rattle.plank_pic.specs.declared.literals.Literal.{Literal}
use Rattle.plank_pic.specs.declared.literals.Exit.{Exit}
use Rattle.plank_pic.specs.Frames.{Frame}
use Rattle.plank_pic.specs.Steps.{Change}
use Rattle.plank_pic.specs.Blocks.{Turn, change_by, change_of, bind_source, source, IsTurnStep}
use Rattle.plank_pic.specs.Blocks as blocks
use Rattle.plank_pic.specs.Calls.{binds_of, own_turn}
use Rattle.plank_fact.specs.declared.facts.Fact.{Fact}
use Rattle.plank_fact.specs.Outlines.{Outline, Point, IsClaimed}
use Rattle.plank_fact.specs.OwnSteps.{turn_at, own_frame, IsOwnPicture, IsOwnStep, IsWriteStep, location_after}
use Rattle.plank_scene.specs.Scenes.{Scene, shown}
use Rattle.plank_scene.specs.Worlds.{source_node, IsOrderlyWorld}
use Rattle.plank_scene.specs.Writes.{WroteNode}
use Rattle.plank_scene.specs.OwnScenes.{own_named}
use Rattle.plank_scene.proofs.Steps.WorldSteps.{Ran, by_yes, by_no, ran, went}
use Rattle.plank_scene.proofs.Steps.OwnSteps.{own_block_seen, own_copy_seen, own_copy_sources, own_new_seen, own_new_sources}
use Rattle.plank_sound.specs.Sights.{holds, sight_of}
use Rattle.plank_sound.specs.Interference.{IsAt}
use Rattle.plank_sound.specs.SeenSteps.{keys_for}
use Rattle.plank_sound.proofs.Own.Standing.{base, here, own_here}

-- ---- where a call goes on

pub get_inserted : (calls : Calls) (t : ℕ) (c : Call) → get (insert calls t c) t ≡ Some c
get_inserted calls t c =
    get-insert nat_cmp_total calls t c t
    ∙ cond-true (eq_by_cmp nat_cmp t t) (Some c) (get calls t) (unsigned_tied t t ∙ eq-eqb t t refl)

-- the call in the world after it went on
pub call_after : (w : WorldState) (thread : ThreadId) (a : After) (after : WorldState) (later : Call) → record { heap = a.heap; calls = insert w.calls thread.0 a.call } ≡ after → get after.calls thread.0 ≡ Some later → a.call ≡ later
call_after w thread a after later same now =
    same_Some a.call later (sym (get_inserted w.calls thread.0 a.call) ∙ ap (λ (v : WorldState). get v.calls thread.0) same ∙ now)

-- a call goes on at the location of its exit
pub data WentTo (w : WorldState) (thread : ThreadId) (call later : Call) (b : Block) : Type 0 where
  to_yes : tests_value w.heap thread call b.tests ≡ Some true → later.location ≡ b.yes → WentTo w thread call later b
  to_no : tests_value w.heap thread call b.tests ≡ Some false → later.location ≡ b.no → WentTo w thread call later b

pub went_to : (w : WorldState) (thread : ThreadId) (call later : Call) (b : Block) (event : Option Event) (after : WorldState) → went_on w thread (block_run w.heap thread call b) ≡ stepped event after → get after.calls thread.0 ≡ Some later → WentTo w thread call later b
went_to w thread call later b event after e now =
    let made = went w thread (block_run w.heap thread call b) event after e in
    by_ran made.0 (ran w.heap thread call b made.0 made.1) (call_after w thread made.0 after later made.2 now)
  where
    by_ran : (a : After) → Ran w.heap thread call b a → a.call ≡ later → WentTo w thread call later b
    by_ran a (by_yes passed binds wrote) same = to_yes passed (ap (λ (c : Call). c.location) (sym same))
    by_ran a (by_no failed) same = to_no failed (ap (λ (c : Call). c.location) (sym same))

-- ---- what stands at a point

pub action_at : {methods : List Method} (x : Point methods) (call : Call) → IsAt x call → action_of methods call ≡ Some x.location.action
action_at {methods} x call at =
    ap (λ o. option_map (λ (l : Location). l.action) (option_and_then (λ (m : Method). slice_get m.locations call.location) o)) (ap (slice_get methods) (sym at.method) ∙ x.called)
    ∙ ap (option_map (λ (l : Location). l.action)) (ap (slice_get x.method.locations) (sym at.location) ∙ x.there)

pub lawful_at : (O : Outline) → are_lawful_methods O.header O.methods ≡ true → (x : Point O.methods) (call : Call) → IsAt x call
    → (length x.method.variables ≤ VARIABLES_LIMIT) × (is_lawful_action O.header (length x.method.variables) (length x.method.locations) x.location.action ≡ true)
lawful_at O lawful x call at =
    let stands = stands_at O.header O.methods call x.location.action lawful (action_at x call at) in
    let same : stands.method ≡ x.method = same_Some _ _ (sym stands.called ∙ ap (slice_get O.methods) (sym at.method) ∙ x.called) in
    (subst (λ (m : Method). length m.variables ≤ VARIABLES_LIMIT) same stands.variables, subst (λ (m : Method). is_lawful_action O.header (length m.variables) (length m.locations) x.location.action ≡ true) same stands.lawful)

-- ---- the step

module _ (O : Outline) (header : is_lawful_header O.header ≡ true) (methods : are_lawful_methods O.header O.methods ≡ true)
    (g : GhostWorld) (sound : IsSound O.header g) (sizes : HasSizes g.world) (orderly : IsOrderlyWorld O.header g)
    (thread : ThreadId) (call : Call) (pending : get g.world.calls thread.0 ≡ Some call) (x : Point O.methods) (at : IsAt x call)
    (claims : (L : Literal) → IsClaimed O x (Fact.Now L) → holds O.header (sight_of O.header g thread.0 call x.method) L ≡ true) (any : ℤ)
    (event : Option Event) (after : WorldState) (step : performed O.methods g.world thread call x.location.action ≡ stepped event after)
    (sound_after : IsSound O.header (record { world = after; kept = kept_performed O.header g.world.heap after.heap thread call x.location.action g.kept })) (sizes_after : HasSizes after)
    (later : Call) (now : get after.calls thread.0 ≡ Some later) where
  abbrev F : Frame
  F = own_frame O x

  abbrev variables : ℕ
  variables = length x.method.variables

  abbrev base_here : Scene
  base_here = base O header g sound sizes orderly thread call pending x any

  abbrev pub before : Scene
  before = here O header g sound sizes orderly thread call pending x any after.heap

  -- the world after a step of an action
  abbrev pub ghost_by : Action → GhostWorld
  ghost_by action = record { world = after; kept = kept_performed O.header g.world.heap after.heap thread call action g.kept }

  abbrev scene_by : Action → (ℕ → Option ℕ) → Scene
  scene_by action named = record base_here { heap = after.heap; owners = (ghost_by action).kept.owners; before = g.world.heap; after = after.heap; spent = (ghost_by action).kept.has_changed thread.0; named = named }

  abbrev pub new_names : ℕ → Option ℕ
  new_names = own_named g.world.heap call (binds_of x.location.action) variables later.variables

  -- the scene after the step, and the one in which each name keeps its node
  abbrev pub beyond : Scene
  beyond = scene_by x.location.action new_names

  abbrev pub unmoved : Scene
  unmoved = scene_by x.location.action base_here.named

  pub own_before : IsOwnPicture O x (shown F before)
  own_before = own_here O header g sound sizes orderly thread call pending x any claims after.heap

  -- each name after the step names what its source named
  pub record ComesFrom (e : Exit) : Type 0 where
    pub fresh : ℕ
    pub comes : (i : ℕ) → i < F.names → new_names i ≡ source_node before fresh (source (turn_at O x e) i)

  pub data OwnStepped : Type 0 where
    by_exit : (e : Exit) → IsOwnStep O x e (shown F before) (shown F beyond) → location_after e x.location.action ≡ Some later.location → ComesFrom e → OwnStepped

  abbrev few : variables ≤ VARIABLES_LIMIT
  few = (lawful_at O methods x call at).0

  abbrev lawful_action : is_lawful_action O.header variables (length x.method.locations) x.location.action ≡ true
  lawful_action = (lawful_at O methods x call at).1

  abbrev turn_by : Bool → Action → Turn
  turn_by exit a = record (own_turn variables x.location.action true) { action = a; yes = exit }

  abbrev pub WroteSo : Change → Type 0
  WroteSo c = WroteNode F before after.heap (ghost_by x.location.action).kept.owners ((ghost_by x.location.action).kept.has_changed thread.0) c

  -- a block by its yes exit makes a write step as well
  pub data BlockStepped (b : Block) : Type 0 where
    yes_stepped : tests_value g.world.heap thread call b.tests ≡ Some true → IsOwnStep O x Exit.Yes (shown F before) (shown F beyond) → IsWriteStep O x (shown F before) (shown F unmoved) → ((c : Change) → change_of (turn_at O x Exit.Yes) ≡ Some c → WroteSo c) → later.location ≡ b.yes → ComesFrom Exit.Yes → BlockStepped b
    no_stepped : tests_value g.world.heap thread call b.tests ≡ Some false → IsOwnStep O x Exit.No (shown F before) (shown F beyond) → later.location ≡ b.no → ComesFrom Exit.No → BlockStepped b

  pub block_stepped : (b : Block) → x.location.action ≡ Action.Block b → BlockStepped b
  block_stepped b same =
      by_cases (own_block_seen F header g sound sizes thread call pending variables (length x.method.locations) few x.location.action refl refl None refl (keys_for call.key any) refl O.methods event after step sound_after sizes_after later now b same
      (subst (λ a. is_lawful_action O.header variables (length x.method.locations) a ≡ true) same lawful_action))
      (went_to g.world thread call later b event after (ap (λ a. performed O.methods g.world thread call a) (sym same) ∙ step) now)
    where
      as_own : (exit : Bool) → IsTurnStep F (turn_by exit (Action.Block b)) (shown F before) (shown F (scene_by (Action.Block b) new_names)) → IsTurnStep F (turn_by exit x.location.action) (shown F before) (shown F beyond)
      as_own exit seen = subst (λ a. IsTurnStep F (turn_by exit a) (shown F before) (shown F (scene_by a new_names))) (sym same) seen

      as_write : blocks.IsWriteStep F (turn_by true (Action.Block b)) (shown F before) (shown F (scene_by (Action.Block b) base_here.named)) → blocks.IsWriteStep F (turn_by true x.location.action) (shown F before) (shown F unmoved)
      as_write seen = subst (λ a. blocks.IsWriteStep F (turn_by true a) (shown F before) (shown F (scene_by a base_here.named))) (sym same) seen

      by_cases : ((tests_value g.world.heap thread call b.tests ≡ Some true) × IsTurnStep F (turn_by true (Action.Block b)) (shown F before) (shown F (scene_by (Action.Block b) new_names)) × blocks.IsWriteStep F (turn_by true (Action.Block b)) (shown F before) (shown F (scene_by (Action.Block b) base_here.named))
          × ((c : Change) → change_by (turn_by true (Action.Block b)) b.writes ≡ Some c → WroteNode F before after.heap (ghost_by (Action.Block b)).kept.owners ((ghost_by (Action.Block b)).kept.has_changed thread.0) c)
          × ((i : ℕ) → i < F.names → new_names i ≡ source_node before 0 (bind_source (turn_by true (Action.Block b)) i b.binds)))
          ⊎ ((tests_value g.world.heap thread call b.tests ≡ Some false) × IsTurnStep F (turn_by false (Action.Block b)) (shown F before) (shown F (scene_by (Action.Block b) new_names)) × ((i : ℕ) → i < F.names → new_names i ≡ base_here.named i))
          → WentTo g.world thread call later b → BlockStepped b
      by_cases (inl taken) (to_yes passed to) = yes_stepped passed (record { own = own_before; step = as_own true taken.1 }) (record { own = own_before; step = as_write taken.2 }) (λ c e. subst (λ a. (c : Change) → change_of (turn_by true a) ≡ Some c → WroteNode F before after.heap (ghost_by a).kept.owners ((ghost_by a).kept.has_changed thread.0) c) (sym same) taken.3 c e) to (record { fresh = 0; comes = λ i bi. taken.4 i bi ∙ ap (λ a. source_node before 0 (source (turn_by true a) i)) (sym same) })
      by_cases (inl taken) (to_no failed to) = absurd (true≢false (same_Some true false (sym taken.0 ∙ failed)))
      by_cases (inr refused) (to_yes passed to) = absurd (true≢false (same_Some true false (sym passed ∙ refused.0)))
      by_cases (inr refused) (to_no failed to) = no_stepped failed (record { own = own_before; step = as_own false refused.1 }) to (record { fresh = 0; comes = λ i bi. refused.2 i bi ∙ ap (λ a. source_node before 0 (source (turn_by false a) i)) (sym same) })

  own_by_block : (b : Block) → x.location.action ≡ Action.Block b → BlockStepped b → OwnStepped
  own_by_block b same (yes_stepped passed step write wrote to comes) = by_exit Exit.Yes step (ap (location_after Exit.Yes) same ∙ ap Some (sym to)) comes
  own_by_block b same (no_stepped failed step to comes) = by_exit Exit.No step (ap (location_after Exit.No) same ∙ ap Some (sym to)) comes

  copy_stepped : (to : ℕ) (from : Value) (next : ℕ) → x.location.action ≡ Action.Copy to from next → OwnStepped
  copy_stepped to from next same =
      let lawful = subst (λ a. is_lawful_action O.header variables (length x.method.locations) a ≡ true) same lawful_action in
      let parts = and_parts _ _ (and_parts _ _ lawful).0 in
      let seen = own_copy_seen F header g sound sizes thread call pending variables (length x.method.locations) few x.location.action refl refl None refl (keys_for call.key any) refl O.methods event after step sound_after sizes_after later now to next from same (ltb-true to variables parts.0) parts.1 in
      let made = went g.world thread (Some (copied g.world.heap call to from next)) event after (ap (λ a. performed O.methods g.world thread call a) (sym same) ∙ step) in
      let goes = call_after g.world thread made.0 after later made.2 now in
      by_exit Exit.Yes
      (record { own = own_before; step = subst (λ a. IsTurnStep F (record (own_turn variables x.location.action true) { action = a; yes = true }) (shown F before) (shown F (scene_by a new_names))) (sym same) seen })
      (ap (location_after Exit.Yes) same ∙ ap (λ (a : After). Some a.call.location) (same_Some _ made.0 made.1) ∙ ap (λ (c : Call). Some c.location) goes)
      (record {
        fresh = 0;
        comes = λ i bi. own_copy_sources F header g sound sizes thread call pending variables (length x.method.locations) few x.location.action refl refl None refl (keys_for call.key any) refl O.methods event after step sound_after sizes_after later now to next from same (ltb-true to variables parts.0) parts.1 i bi
            ∙ ap (λ a. source_node before 0 (source (turn_by true a) i)) (sym same);
      })

  new_stepped : (to next : ℕ) → x.location.action ≡ Action.New to next → OwnStepped
  new_stepped to next same =
      let lawful = subst (λ a. is_lawful_action O.header variables (length x.method.locations) a ≡ true) same lawful_action in
      let parts = and_parts _ _ lawful in
      let seen = own_new_seen F header g sound sizes thread call pending variables (length x.method.locations) few x.location.action refl refl None refl (keys_for call.key any) refl O.methods event after step sound_after sizes_after later now to next same (ltb-true to variables parts.0) in
      let made = went g.world thread (Some (allocated g.world.heap call to next)) event after (ap (λ a. performed O.methods g.world thread call a) (sym same) ∙ step) in
      let goes = call_after g.world thread made.0 after later made.2 now in
      by_exit Exit.Yes
      (record { own = own_before; step = subst (λ a. IsTurnStep F (record (own_turn variables x.location.action true) { action = a; yes = true }) (shown F before) (shown F (scene_by a new_names))) (sym same) seen })
      (ap (location_after Exit.Yes) same ∙ ap (λ (a : After). Some a.call.location) (same_Some _ made.0 made.1) ∙ ap (λ (c : Call). Some c.location) goes)
      (record {
        fresh = length g.world.heap.nodes;
        comes = λ i bi. own_new_sources F header g sound sizes thread call pending variables (length x.method.locations) few x.location.action refl refl None refl (keys_for call.key any) refl O.methods event after step sound_after sizes_after later now to next same (ltb-true to variables parts.0) i bi
            ∙ ap (λ a. source_node before (length g.world.heap.nodes) (source (turn_by true a) i)) (sym same);
      })

  pub own_stepped : (a : Action) → x.location.action ≡ a → ((answer : Bool) → a ≡ Action.Return answer → ⊥) → OwnStepped
  own_stepped (Action.Block b) same goes = own_by_block b same (block_stepped b same)
  own_stepped (Action.Copy to from next) same goes = copy_stepped to from next same
  own_stepped (Action.New to next) same goes = new_stepped to next same
  own_stepped (Action.Return answer) same goes = absurd (goes answer refl)
