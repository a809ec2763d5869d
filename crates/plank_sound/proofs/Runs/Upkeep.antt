-- A step of a call of an upkeep tells nothing and turns no key.
use Rattle.std.proofs.Common.{◌≡◌, ℕ, ℤ, true, false, List, ◌∷◌, Option, Some, None, refl, sym, ◌∙◌, ap}
use Rattle.std.specs.Prelude.{slice_get, option_map}
use Rattle.std.specs.FinMap.{get}
use Rattle.std.proofs.lemmas.Bool.{false_from_ne_true}
use Rattle.std.proofs.lemmas.Option.{none-some, same_Some}
use Rattle.plank_prog.specs.declared.methods.Method.{Method}
use Rattle.plank_prog.specs.declared.methods.MethodKind.{MethodKind}
use Rattle.plank_prog.specs.Headers.{is_lawful_header}
use Rattle.plank_prog.specs.Methods.{are_lawful_methods, operation}
use Rattle.plank_hist.specs.declared.events.Event.{Event}
use Rattle.plank_hist.specs.declared.events.Event.TheVariants.{Invoke as invocation, Respond as response}
use Rattle.plank_sem.specs.declared.calls.Call.{Call}
use Rattle.plank_sem.specs.declared.steps.Act.TheVariants.{Invoke, Go}
use Rattle.plank_sem.specs.declared.steps.Choice.{Choice}
use Rattle.plank_sem.specs.Worlds.{WorldState}
use Rattle.plank_sem.specs.Steps.{next, stepped, op_of}
use Rattle.plank_sem.specs.Kept.{GhostWorld, GhostRun, differs}
use Rattle.plank_sem.proofs.SoundWorlds.{run_good, good_sound}
use Rattle.plank_sem.proofs.StepCases.{StepWas, began, went, finished, acted_cases}
use Rattle.plank_sem.proofs.IdleSets.{turn_writes}
use Rattle.plank_fact.specs.Outlines.{Outline}
use Rattle.plank_account.specs.Justified.{IsJustifiedStep}
use Rattle.plank_scene.proofs.Turns.Turning.{unturned}
use Rattle.plank_sound.specs.Soundness.{IsOfUpkeep, begins, goes_on}

module _ (O : Outline) (header : is_lawful_header O.header ≡ true) (methods : are_lawful_methods O.header O.methods ≡ true) (choices : List Choice) (told : List (Option Event)) (g : GhostWorld) (ghosts : List GhostWorld) (run : GhostRun O.header O.methods choices told (g ∷ ghosts))
    (choice : Choice) (event : Option Event) (after : WorldState) (step : next O.methods g.world choice ≡ stepped event after) (justified : IsJustifiedStep O.header O.methods choices g ghosts choice event after) where
  was : StepWas O.methods g.world choice.thread choice.act event after
  was = acted_cases O.methods g.world choice.thread event after choice.act step

  -- a method of upkeep has no operation
  begins_with_none : (m : ℕ) (key : ℤ) (method : Method) → choice.act ≡ Invoke m key → slice_get O.methods m ≡ Some method → method.kind ≡ MethodKind.Upkeep → StepWas O.methods g.world choice.thread choice.act event after → (event ≡ None) × (after.heap ≡ g.world.heap)
  begins_with_none m key method is called upkeep (began n j found act there same_event same_world) =
      let same_method : n ≡ m = (let e : Invoke n j ≡ Invoke m key = sym act ∙ is in cc) in
      let same : found ≡ method = same_Some _ _ (sym there ∙ ap (slice_get O.methods) same_method ∙ called) in
      (same_event ∙ ap (λ (k : MethodKind). option_map (λ op. invocation choice.thread op j) (operation k)) (ap (λ (n : Method). n.kind) same ∙ upkeep), ap (λ (w : WorldState). w.heap) same_world)
  begins_with_none m key method is called upkeep (went call action made act pending at makes same_event same_world) = absurd (let e : Invoke m key ≡ Go = sym is ∙ act in cc)
  begins_with_none m key method is called upkeep (finished call answer act pending at same_event same_world) = absurd (let e : Invoke m key ≡ Go = sym is ∙ act in cc)

  tells_nothing : (call : Call) → choice.act ≡ Go → get g.world.calls choice.thread.0 ≡ Some call → op_of O.methods call ≡ None → StepWas O.methods g.world choice.thread choice.act event after → event ≡ None
  tells_nothing call is pending none (began n j found act there same_event same_world) = absurd (let e : Invoke n j ≡ Go = sym act ∙ is in cc)
  tells_nothing call is pending none (went other action made act same at makes same_event same_world) = same_event
  tells_nothing call is pending none (finished other answer act same at same_event same_world) =
      let same_call : other ≡ call = same_Some _ _ (sym same ∙ pending) in
      same_event ∙ ap (λ o. option_map (λ op. response choice.thread answer) o) (ap (op_of O.methods) same_call ∙ none)

  -- whatever turns a key has an operation
  turns_nothing : (call : Call) → get g.world.calls choice.thread.0 ≡ Some call → op_of O.methods call ≡ None → (key : ℤ) → differs O.header g.world.heap after.heap key ≡ false
  turns_nothing call pending none key = false_from_ne_true _ (λ turned.
      let closed = (good_sound O.header O.methods g ((run_good header methods run).good 0 g refl)).closed in
      let may = justified.turns (turn_writes O.header O.methods g choice event after closed step key turned) key turned in
      let same : may.call ≡ call = same_Some _ _ (sym may.pending ∙ pending) in
      none-some may.op (sym none ∙ ap (op_of O.methods) (sym same) ∙ may.performs))

  pub upkeep_is_silent : IsOfUpkeep O.methods g.world choice → (event ≡ None) × ((key : ℤ) → differs O.header g.world.heap after.heap key ≡ false)
  upkeep_is_silent (begins m key method is called upkeep) =
      let w = begins_with_none m key method is called upkeep was in
      (w.0, λ j. ap (λ heap. differs O.header g.world.heap heap j) w.1 ∙ unturned _)
  upkeep_is_silent (goes_on call is pending none) = (tells_nothing call is pending none was, turns_nothing call pending none)
