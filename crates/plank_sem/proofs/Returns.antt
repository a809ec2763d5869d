-- Where each location of each method returns, no step is a null read.
use Rattle.std.proofs.Common.{◌≡◌, ◌≢◌, ℕ, ℤ, List, Option, Some, None, refl, sym, ◌∙◌, subst}
use Rattle.std.specs.Prelude.{slice_get, option_and_then}
use Rattle.std.specs.Option.{option_map_or}
use Rattle.std.specs.FinMap.{get}
use Rattle.std.proofs.lemmas.Option.{option_and_then_some}
use Rattle.plank_base.specs.declared.keys.ThreadId.{ThreadId}
use Rattle.plank_prog.specs.declared.methods.Action.{Action}
use Rattle.plank_prog.specs.declared.methods.Location.{Location}
use Rattle.plank_prog.specs.declared.methods.Method.{Method}
use Rattle.plank_sem.specs.declared.calls.Call.{Call}
use Rattle.plank_sem.specs.declared.steps.Act.{Act}
use Rattle.plank_sem.specs.declared.steps.Act.TheVariants.{Invoke, Go}
use Rattle.plank_sem.specs.declared.steps.Choice.{Choice}
use Rattle.plank_sem.specs.Worlds.{WorldState}
use Rattle.plank_sem.specs.Steps.{null_read, refused, begun, performed, action_of, gone_on, acted, next}
use Rattle.plank_sem.specs.Runs.{ReturnsAlone}
use Rattle.plank_sem.proofs.Lists.{mapped}

module _ (methods : List Method) (alone : ReturnsAlone methods) (w : WorldState) (thread : ThreadId) where
  -- the action that a call comes to returns
  returns_at : (call : Call) (action : Action) → action_of methods call ≡ Some action → performed methods w thread call action ≢ null_read
  returns_at call action at =
      let found = mapped (λ (l : Location). l.action) (option_and_then (λ (m : Method). slice_get m.locations call.location) (slice_get methods call.method)) action at in
      option_and_then_some (λ (m : Method). slice_get m.locations call.location) (slice_get methods call.method) found.0 found.1
      (λ m called here.
      let answers = alone call.method m call.location found.0 called here in
      subst (λ (a : Action). performed methods w thread call a ≢ null_read) (sym answers.1 ∙ found.2) (λ e. cc))

  at_location : (call : Call) (found : Option Action) → action_of methods call ≡ found → option_map_or (performed methods w thread call) found refused ≢ null_read
  at_location call None at = λ e. cc
  at_location call (Some action) at = returns_at call action at

  going_on : (pending : Option Call) → gone_on methods w thread pending ≢ null_read
  going_on None = λ e. cc
  going_on (Some call) = at_location call (action_of methods call) refl

  beginning : (m : ℕ) (key : ℤ) (pending : Option Call) (found : Option Method) → begun w thread m key pending found ≢ null_read
  beginning m key None None = λ e. cc
  beginning m key None (Some method) = λ e. cc
  beginning m key (Some call) found = λ e. cc

  pub acting : (act : Act) → acted methods w thread act ≢ null_read
  acting (Invoke m key) = beginning m key (get w.calls thread.0) (slice_get methods m)
  acting Go = going_on (get w.calls thread.0)

pub returns_read_nothing : (methods : List Method) → ReturnsAlone methods → (w : WorldState) (choice : Choice) → next methods w choice ≢ null_read
returns_read_nothing methods alone w choice = acting methods alone w choice.thread choice.act
