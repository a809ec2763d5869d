-- Runs with what is kept beside them are the same runs.
use Rattle.std.proofs.Common.{◌≡◌, List, [], ◌∷◌, map, Option, refl, sym, ap, subst}
use Rattle.plank_prog.specs.declared.headers.Header.{Header}
use Rattle.plank_prog.specs.declared.methods.Method.{Method}
use Rattle.plank_hist.specs.declared.events.Event.{Event}
use Rattle.plank_sem.specs.declared.steps.Choice.{Choice}
use Rattle.plank_sem.specs.Worlds.{WorldState}
use Rattle.plank_sem.specs.Steps.{next, stepped}
use Rattle.plank_sem.specs.Runs.{Run, begins, goes_on}
use Rattle.plank_sem.specs.Kept.{GhostWorld, ghost_start, ghost_after, GhostRun, ghost_begins, ghost_goes_on}

-- a ghost run through these worlds
pub record KeptRun (h : Header) (methods : List Method) (choices : List Choice) (told : List (Option Event)) (worlds : List WorldState) : Type 0 where
  pub ghosts : List GhostWorld
  pub run : GhostRun h methods choices told ghosts
  pub same : map (λ (g : GhostWorld). g.world) ghosts ≡ worlds

kept_more : (h : Header) (methods : List Method) (choices : List Choice) (told : List (Option Event)) (ghosts : List GhostWorld) (before : WorldState) (worlds : List WorldState)
    → GhostRun h methods choices told ghosts → map (λ (g : GhostWorld). g.world) ghosts ≡ before ∷ worlds → (choice : Choice) (event : Option Event) (after : WorldState)
    → next methods before choice ≡ stepped event after → KeptRun h methods (choice ∷ choices) (event ∷ told) (after ∷ before ∷ worlds)
kept_more h methods choices told [] before worlds run same choice event after step = absurd (cc)
kept_more h methods choices told (g ∷ ghosts) before worlds run same choice event after step =
    let here : g.world ≡ before = cc in
    record {
      ghosts = ghost_after h methods g choice after ∷ g ∷ ghosts;
      run = ghost_goes_on run choice event after (subst (λ (w : WorldState). next methods w choice ≡ stepped event after) (sym here) step);
      same = ap (λ ws. after ∷ ws) same;
    }

pub run_kept : {h : Header} {methods : List Method} {choices : List Choice} {told : List (Option Event)} {worlds : List WorldState} → Run h methods choices told worlds → KeptRun h methods choices told worlds
run_kept {h} begins = record { ghosts = ghost_start h ∷ []; run = ghost_begins; same = refl }
run_kept {h} {methods} (goes_on {choices} {told} {before} {worlds} run choice event after step) =
    let kept = run_kept run in kept_more h methods choices told kept.ghosts before worlds kept.run kept.same choice event after step

pub run_of_ghosts : {h : Header} {methods : List Method} {choices : List Choice} {told : List (Option Event)} {ghosts : List GhostWorld} → GhostRun h methods choices told ghosts → Run h methods choices told (map (λ (g : GhostWorld). g.world) ghosts)
run_of_ghosts ghost_begins = begins
run_of_ghosts (ghost_goes_on run choice event after step) = goes_on (run_of_ghosts run) choice event after step
