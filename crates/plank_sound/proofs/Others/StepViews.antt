-- Each step of a run writes by a point of its program, or is quiet.
use Rattle.std.proofs.Common.{◌≡◌, ℕ, ℤ, true, List, Option, Some, None, refl, sym, ◌∙◌, ap, subst, inl, inr, arith}
use Rattle.std.specs.Option.{option_map_or}
use Rattle.std.specs.FinMap.{get, insert}
use Rattle.std.proofs.lemmas.Bool.{cases_Bool, false≢true}
use Rattle.std.proofs.lemmas.Option.{same_Some, slice_get_cases}
use Rattle.plank_base.specs.declared.keys.ThreadId.{ThreadId}
use Rattle.plank_prog.specs.declared.headers.Header.{Header}
use Rattle.plank_prog.specs.declared.methods.Action.{Action}
use Rattle.plank_prog.specs.declared.methods.Method.{Method}
use Rattle.plank_prog.specs.Methods.{is_site}
use Rattle.plank_prog.specs.declared.blocks.Block.{Block}
use Rattle.plank_hist.specs.declared.events.Event.{Event}
use Rattle.plank_sem.specs.declared.calls.Call.{Call}
use Rattle.plank_sem.specs.declared.steps.Act.{Act}
use Rattle.plank_sem.specs.declared.steps.Act.TheVariants.{Invoke, Go}
use Rattle.plank_sem.specs.Fits.{Fits}
use Rattle.plank_sem.specs.Worlds.{WorldState, fresh_call}
use Rattle.plank_sem.specs.Actions.{After}
use Rattle.plank_sem.specs.Steps.{stepped, went_on, performed, action_of, acted}
use Rattle.plank_sem.specs.Kept.{Kept, GhostWorld, kept_invoked, kept_performed, kept_gone_on, kept_acted}
use Rattle.plank_sem.proofs.StepCases.{made_by, StepWas, began, went, finished, acted_cases}
use Rattle.plank_pic.specs.declared.literals.Literal.{Literal}
use Rattle.plank_fact.specs.Outlines.{Outline, Point, IsClaimed}
use Rattle.plank_fact.specs.declared.facts.Fact.{Fact}
use Rattle.plank_scene.proofs.Steps.QuietSteps.{IsQuiet, same_heap, step_quiet}
use Rattle.plank_sound.specs.Interference.{IsAt, AreNowTrue}
use Rattle.plank_sound.specs.SeenSteps.{ActsAt}
use Rattle.plank_sound.specs.Sights.{holds, sight_of}
use Rattle.plank_sound.proofs.Own.Stepping.{action_at}

-- the point at which a call stands
pub record Stands (methods : List Method) (call : Call) : Type 0 where
  pub point : Point methods
  pub at : IsAt point call

pub standing : (methods : List Method) (w : WorldState) → Fits methods w → (u : ℕ) (call : Call) → get w.calls u ≡ Some call → Stands methods call
standing methods w fits u call pending =
    let fit = fits.calls u call pending in
    elim (slice_get_cases fit.method.locations call.location).1 [
      | inl found ↦ record {
        point = record { m = call.method; l = call.location; method = fit.method; location = found.0; called = fit.called; there = found.2 };
        at = record { method = refl; location = refl };
      }
      | inr past ↦ absurd (let le = past.0 in let lt = fit.location in omega (arith, le, lt))
    ]

-- a site is a block
pub site_block : (a : Action) → is_site a ≡ true → (b : Block) × (a ≡ Action.Block b)
site_block (Action.Block b) e = (b, refl)
site_block (Action.Copy to from location) e = absurd (false≢true e)
site_block (Action.New to location) e = absurd (false≢true e)
site_block (Action.Return answer) e = absurd (false≢true e)

-- the step of the call as its action performs it
pub performed_so : (methods : List Method) (w : WorldState) (thread : ThreadId) (call : Call) (action : Action) (made : After) → made_by w.heap thread call action ≡ Some made → performed methods w thread call action ≡ went_on w thread (Some made)
performed_so methods w thread call (Action.Block b) made e = ap (went_on w thread) e
performed_so methods w thread call (Action.Copy to from location) made e = ap (went_on w thread) e
performed_so methods w thread call (Action.New to location) made e = ap (went_on w thread) e
performed_so methods w thread call (Action.Return answer) made e = absurd (cc)

module _ (h : Header) (methods : List Method) (before after : WorldState) (thread : ThreadId) (kept : Kept) where
  pub kept_went : (act : Act) (call : Call) (action : Action) → act ≡ Go → get before.calls thread.0 ≡ Some call → action_of methods call ≡ Some action
      → kept_acted h methods before after thread act kept ≡ kept_performed h before.heap after.heap thread call action kept
  kept_went act call action is pending at =
      ap (λ a. kept_acted h methods before after thread a kept) is
      ∙ ap (λ o. kept_gone_on h methods before.heap after.heap thread o kept) pending
      ∙ ap (λ o. option_map_or (λ a. kept_performed h before.heap after.heap thread call a kept) o kept) at

  pub kept_began : (act : Act) (m : ℕ) (key : ℤ) → act ≡ Invoke m key → kept_acted h methods before after thread act kept ≡ kept_invoked thread kept
  kept_began act m key is = ap (λ a. kept_acted h methods before after thread a kept) is

-- what is claimed at its point is true of it
pub claims_at : (O : Outline) (g : GhostWorld) → AreNowTrue O g → {thread : ThreadId} {after : WorldState} {kept : Kept} (acts : ActsAt O g thread after kept) → (L : Literal) → IsClaimed O acts.point (Fact.Now L)
    → holds O.header (sight_of O.header g thread.0 acts.call acts.point.method) L ≡ true
claims_at O g claims {thread} acts L claimed = claims thread.0 acts.call acts.pending acts.point acts.at L claimed

pub data StepView (O : Outline) (g : GhostWorld) (thread : ThreadId) (after : WorldState) (kept : Kept) : Type 0 where
  at_site : (acts : ActsAt O g thread after kept) → is_site acts.point.location.action ≡ true → StepView O g thread after kept
  quiet : (call : Call) → IsQuiet g thread.0 call after.heap kept.owners → StepView O g thread after kept

module _ (O : Outline) (g : GhostWorld) (fits : Fits O.methods g.world) (thread : ThreadId) (act : Act) (event : Option Event) (after : WorldState) where
  abbrev later : Kept
  later = kept_acted O.header O.methods g.world after thread act g.kept

  -- a call that went on acted by its point
  pub acts_so : (call : Call) (action : Action) (made : After) → act ≡ Go → get g.world.calls thread.0 ≡ Some call → action_of O.methods call ≡ Some action → made_by g.world.heap thread call action ≡ Some made
      → after ≡ record { heap = made.heap; calls = insert g.world.calls thread.0 made.call } → ActsAt O g thread after later
  acts_so call action made is pending here makes same_world =
      let stands = standing O.methods g.world fits thread.0 call pending in
      let same : action ≡ stands.point.location.action = same_Some _ _ (sym here ∙ action_at stands.point call stands.at) in
      record {
        call = call;
        pending = pending;
        point = stands.point;
        at = stands.at;
        event = None;
        step = ap (λ a. performed O.methods g.world thread call a) (sym same) ∙ performed_so O.methods g.world thread call action made makes ∙ ap (stepped None) (sym same_world);
        kept_is = kept_went O.header O.methods g.world after thread g.kept act call action is pending here ∙ ap (λ a. kept_performed O.header g.world.heap after.heap thread call a g.kept) same;
      }

  pub view_of_acts : ActsAt O g thread after later → StepView O g thread after later
  view_of_acts acts = elim (cases_Bool (is_site acts.point.location.action)) [
    | inl writes ↦ at_site acts writes
    | inr none ↦ quiet acts.call (subst (λ os. IsQuiet g thread.0 acts.call after.heap os) (ap (λ (k : Kept). k.owners) (sym acts.kept_is)) (step_quiet O.methods g thread acts.call acts.event after acts.point.location.action none acts.step))
  ]

  view_cases : StepWas O.methods g.world thread act event after → StepView O g thread after later
  view_cases (began m key method is called same_event same_world) =
      quiet (fresh_call m key) (same_heap (ap (λ (w : WorldState). w.heap) same_world) (ap (λ (k : Kept). k.owners) (kept_began O.header O.methods g.world after thread g.kept act m key is)))
  view_cases (went call action made is pending here makes same_event same_world) = view_of_acts (acts_so call action made is pending here makes same_world)
  view_cases (finished call answer is pending here same_event same_world) =
      quiet call (same_heap (ap (λ (w : WorldState). w.heap) same_world) (ap (λ (k : Kept). k.owners) (kept_went O.header O.methods g.world after thread g.kept act call (Action.Return answer) is pending here)))

  pub step_view : acted O.methods g.world thread act ≡ stepped event after → StepView O g thread after later
  step_view e = view_cases (acted_cases O.methods g.world thread event after act e)
