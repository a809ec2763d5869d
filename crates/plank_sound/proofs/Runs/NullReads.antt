-- No run of a program with a valid outline, whose obligations hold, comes to a read or a write of a field of null.
use Rattle.std.proofs.Common.{◌≡◌, ℕ, ℤ, true, List, [], ◌∷◌, map, length, Option, Some, None, refl, sym, ◌∙◌, ap, subst, inl}
use Rattle.std.specs.Prelude.{slice_get}
use Rattle.std.specs.Option.{option_map_or}
use Rattle.std.specs.FinMap.{get}
use Rattle.std.proofs.lemmas.Option.{none-some, same_Some}
use Rattle.plank_base.specs.declared.keys.ThreadId.{ThreadId}
use Rattle.plank_base.specs.declared.obligations.Kind.{Kind}
use Rattle.plank_prog.specs.declared.blocks.Block.{Block}
use Rattle.plank_prog.specs.declared.methods.Action.{Action}
use Rattle.plank_prog.specs.declared.methods.Method.{Method}
use Rattle.plank_prog.specs.Headers.{is_lawful_header}
use Rattle.plank_prog.specs.Methods.{is_lawful_action, are_lawful_methods}
use Rattle.plank_hist.specs.declared.events.Event.{Event}
use Rattle.plank_sem.specs.declared.calls.Call.{Call}
use Rattle.plank_sem.specs.declared.steps.Act.{Act}
use Rattle.plank_sem.specs.declared.steps.Act.TheVariants.{Invoke, Go}
use Rattle.plank_sem.specs.declared.steps.Choice.{Choice}
use Rattle.plank_sem.specs.Worlds.{WorldState}
use Rattle.plank_sem.specs.Actions.{After, block_run}
use Rattle.plank_sem.specs.Steps.{next, null_read, begun, went_on, performed, action_of, gone_on, acted, refused}
use Rattle.plank_sem.specs.Kept.{GhostWorld, GhostRun}
use Rattle.plank_sem.specs.Facts.{IsSound, HasSizes}
use Rattle.plank_sem.proofs.LawfulActions.{block_parts}
use Rattle.plank_sem.proofs.SoundWorlds.{GoodRun, run_good, good_sound}
use Rattle.plank_sem.proofs.Sizes.{run_sizes}
use Rattle.plank_pic.specs.declared.literals.Literal.{Literal}
use Rattle.plank_pic.specs.declared.literals.Exit.{Exit}
use Rattle.plank_pic.specs.Frames.{Frame}
use Rattle.plank_pic.specs.Blocks.{Turn}
use Rattle.plank_fact.specs.declared.facts.Fact.{Fact}
use Rattle.plank_fact.specs.Outlines.{Outline, Point, IsClaimed}
use Rattle.plank_fact.specs.OwnSteps.{own_frame, turn_at}
use Rattle.plank_fact.specs.Forced.{IsValid}
use Rattle.plank_fact.specs.Obligations.{AllHold}
use Rattle.plank_fact.proofs.TableFacts.{past_kind}
use Rattle.plank_fact.proofs.Listed.{none_fails}
use Rattle.plank_scene.specs.Scenes.{Scene, shown}
use Rattle.plank_scene.proofs.Scenes.Showing.{is_node_same}
use Rattle.plank_scene.proofs.Steps.OwnPictures.{block_so, own_knows}
use Rattle.plank_scene.proofs.Steps.NullTests.{null_block}
use Rattle.plank_sound.specs.Sights.{holds, sight_of}
use Rattle.plank_sound.specs.Interference.{IsAt, IsKeptSo}
use Rattle.plank_sound.proofs.Own.Standing.{here, own_here}
use Rattle.plank_sound.proofs.Own.Stepping.{action_at, lawful_at}
use Rattle.plank_sound.proofs.Others.StepViews.{standing}
use Rattle.plank_sound.proofs.Runs.StartWorlds.{start_orderly, start_holds}
use Rattle.plank_sound.proofs.Interference.Interference.{interference}

module _ (O : Outline) (header : is_lawful_header O.header ≡ true) (methods : are_lawful_methods O.header O.methods ≡ true) (valid : IsValid O) (hold : AllHold O) where
  module _ (choices : List Choice) (told : List (Option Event)) (g : GhostWorld) (ghosts : List GhostWorld) (run : GhostRun O.header O.methods choices told (g ∷ ghosts)) (thread : ThreadId) where
    inv : IsKeptSo O choices g ghosts
    inv = interference O header methods valid hold (λ m L is. past_kind O.header m L is) (start_orderly O.header (start_holds O hold)) run

    good : GoodRun O.header O.methods (g ∷ ghosts)
    good = run_good header methods run

    sound : IsSound O.header g
    sound = good_sound O.header O.methods g (good.good 0 g refl)

    sizes : HasSizes g.world
    sizes = run_sizes run 0 g refl

    -- a block that a pending call stands at
    module _ (call : Call) (pending : get g.world.calls thread.0 ≡ Some call) (x : Point O.methods) (at : IsAt x call) (b : Block) (same : x.location.action ≡ Action.Block b) where
      abbrev F : Frame
      F = own_frame O x

      abbrev S : Scene
      S = here O header g sound sizes inv.orderly thread call pending x call.key g.world.heap

      abbrev t : Turn
      t = turn_at O x Exit.Yes

      claims : (L : Literal) → IsClaimed O x (Fact.Now L) → holds O.header (sight_of O.header g thread.0 call x.method) L ≡ true
      claims L claimed = inv.claims thread.0 call pending x at (Fact.Now L) claimed

      never_null : block_run g.world.heap thread call b ≡ None → ⊥
      never_null e =
          let lawful = subst (λ a. is_lawful_action O.header (length x.method.variables) (length x.method.locations) a ≡ true) same (lawful_at O methods x call at).1 in
          let parts = block_parts O.header (length x.method.variables) (length x.method.locations) b lawful in
          none_fails O hold Kind.Null x (record {
            block = b;
            here = same;
            picture = shown F S;
            own = own_here O header g sound sizes inv.orderly thread call pending x call.key claims g.world.heap;
            reads = null_block F S (record { lawful = header; closed = sound.closed; owned = sound.owned; either = inl refl }) t thread call
                (record { argument = refl; own = is_node_same thread.0; other = refl }) (sound.variables_within thread.0 call pending) sizes.nodes (length x.method.variables) b
                (λ r h. own_knows F S call (length x.method.variables) x.location.action true refl refl r (block_so O.header (length x.method.variables) r b h parts)) parts e;
          })

    by_action : (call : Call) → get g.world.calls thread.0 ≡ Some call → (a : Action) → action_of O.methods call ≡ Some a → performed O.methods g.world thread call a ≡ null_read → ⊥
    by_action call pending (Action.Block b) found e =
        let stands = standing O.methods g.world (good.good 0 g refl).fits thread.0 call pending in
        let same : stands.point.location.action ≡ Action.Block b = same_Some _ _ (sym (action_at stands.point call stands.at) ∙ found) in
        by_made (block_run g.world.heap thread call b) refl e (never_null call pending stands.point stands.at b same)
      where
        by_made : (o : Option After) → block_run g.world.heap thread call b ≡ o → went_on g.world thread o ≡ null_read → (block_run g.world.heap thread call b ≡ None → ⊥) → ⊥
        by_made None is e never = never is
        by_made (Some a) is e never = cc
    by_action call pending (Action.Copy to from location) found e = cc
    by_action call pending (Action.New to location) found e = cc
    by_action call pending (Action.Return answer) found e = cc

    by_found : (call : Call) → get g.world.calls thread.0 ≡ Some call → (o : Option Action) → action_of O.methods call ≡ o → option_map_or (performed O.methods g.world thread call) o refused ≡ null_read → ⊥
    by_found call pending None found e = cc
    by_found call pending (Some a) found e = by_action call pending a found e

    by_call : (o : Option Call) → get g.world.calls thread.0 ≡ o → gone_on O.methods g.world thread o ≡ null_read → ⊥
    by_call None pending e = cc
    by_call (Some call) pending e = by_found call pending (action_of O.methods call) refl e

    by_beginning : (m : ℕ) (key : ℤ) (o : Option Call) (p : Option Method) → begun g.world thread m key o p ≡ null_read → ⊥
    by_beginning m key None (Some method) e = cc
    by_beginning m key None None e = cc
    by_beginning m key (Some call) p e = cc

    pub no_null : (act : Act) → acted O.methods g.world thread act ≡ null_read → ⊥
    no_null (Invoke m key) e = by_beginning m key (get g.world.calls thread.0) (slice_get O.methods m) e
    no_null Go e = by_call (get g.world.calls thread.0) refl e

  -- of the newest world of any run
  pub no_null_in : (choices : List Choice) (told : List (Option Event)) (ghosts : List GhostWorld) → GhostRun O.header O.methods choices told ghosts → (w : WorldState) (worlds : List WorldState) → map (λ k. k.world) ghosts ≡ w ∷ worlds
      → (choice : Choice) → next O.methods w choice ≡ null_read → ⊥
  no_null_in choices told [] run w worlds same choice e = absurd (none-some w (ap (λ ws. slice_get ws 0) same))
  no_null_in choices told (g ∷ ghosts) run w worlds same choice e =
      let newest : g.world ≡ w = same_Some g.world w (ap (λ ws. slice_get ws 0) same) in
      no_null choices told g ghosts run choice.thread choice.act (subst (λ v. next O.methods v choice ≡ null_read) (sym newest) e)
