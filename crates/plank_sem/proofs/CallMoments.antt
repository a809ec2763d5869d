-- The moments of a pending call: the newest world is one, and each step of the run adds the world after it.
use Rattle.std.proofs.Common.{◌≡◌, ℕ, zero, suc, ◌<◌, ℤ, Bool, true, false, cond, eqb, List, [], ◌∷◌, length, Option, Some, refl, sym, ap, ◌∙◌, subst, inl, inr, arith}
use Rattle.std.specs.Prelude.{slice_get, take, option_map}
use Rattle.std.specs.Option.{option_map_or}
use Rattle.std.specs.Ordering.{nat_cmp}
use Rattle.std.specs.FinMap.{get, get-empty}
use Rattle.std.proofs.lemmas.Bool.{eq-eqb, ne_eqb, cases_eq}
use Rattle.std.proofs.lemmas.Option.{none-some, same_Some}
use Rattle.plank_base.specs.declared.keys.ThreadId.{ThreadId}
use Rattle.plank_prog.specs.declared.headers.Header.{Header}
use Rattle.plank_prog.specs.declared.methods.Method.{Method}
use Rattle.plank_hist.specs.declared.events.Event.{Event}
use Rattle.plank_sem.specs.declared.calls.Call.{Call}
use Rattle.plank_sem.specs.declared.steps.Act.{Act}
use Rattle.plank_sem.specs.declared.steps.Act.TheVariants.{Invoke, Go}
use Rattle.plank_sem.specs.declared.steps.Choice.{Choice}
use Rattle.plank_sem.specs.Worlds.{WorldState, fresh_call}
use Rattle.plank_sem.specs.Kept.{GhostWorld, GhostRun, ghost_begins, ghost_goes_on}
use Rattle.plank_sem.proofs.CallMaps.{found_after_insert, found_after_remove}
use Rattle.plank_sem.proofs.Lists.{mapped}
use Rattle.plank_sem.specs.CallMoments.{begun_by, begun_since, last_begun, call_moments}
use Rattle.plank_sem.proofs.StepCases.{StepWas, began, went, finished, acted_cases}

-- ---- one choice more

pub begun_since-other : (u : ℕ) (choice : Choice) (before : Option ℕ) → (u ≡ choice.thread.0 → ⊥) → begun_since u choice before ≡ option_map (λ n. suc n) before
begun_since-other u choice before other =
    ap (λ b. cond b (begun_by choice.act before) (option_map (λ n. suc n) before)) (ne_eqb choice.thread.0 u (λ same. other (sym same)))

pub begun_since-go : (u : ℕ) (choice : Choice) (before : Option ℕ) → choice.act ≡ Go → begun_since u choice before ≡ option_map (λ n. suc n) before
begun_since-go u choice before is =
    ap (λ a. cond (eqb choice.thread.0 u) (begun_by a before) (option_map (λ n. suc n) before)) is ∙ either (eqb choice.thread.0 u)
  where
    either : (b : Bool) → cond b (option_map (λ n. suc n) before) (option_map (λ n. suc n) before) ≡ option_map (λ n. suc n) before
    either true = refl
    either false = refl

pub begun_since-begun : (u : ℕ) (choice : Choice) (before : Option ℕ) (m : ℕ) (key : ℤ) → choice.act ≡ Invoke m key → u ≡ choice.thread.0 → begun_since u choice before ≡ Some 0
begun_since-begun u choice before m key is same =
    ap (λ b. cond b (begun_by choice.act before) (option_map (λ n. suc n) before)) (eq-eqb choice.thread.0 u (sym same)) ∙ ap (λ a. begun_by a before) is

-- ---- runs

-- how old the pending call of a thread is
pub record HasAge (u : ℕ) (choices : List Choice) : Type 0 where
  pub age : ℕ
  pub begun : last_begun u choices ≡ Some age

abbrev pub older : (u : ℕ) (choice : Choice) (choices : List Choice) → begun_since u choice (last_begun u choices) ≡ option_map (λ n. suc n) (last_begun u choices) → HasAge u choices → HasAge u (choice ∷ choices)
older u choice choices step has = record { age = suc has.age; begun = step ∙ ap (λ o. option_map (λ n. suc n) o) has.begun }

-- a call of another thread than the one that steps was pending before
module _ (methods : List Method) (before : WorldState) (thread : ThreadId) (act : Act) (event : Option Event) (after : WorldState) where
  pub other_pending : (u : ℕ) (found : Call) → (u ≡ thread.0 → ⊥) → get after.calls u ≡ Some found → StepWas methods before thread act event after → get before.calls u ≡ Some found
  other_pending u found other at (began m key method is called same_event same_world) =
      elim (found_after_insert before.calls thread.0 (fresh_call m key) u found (ap (λ (w : WorldState). get w.calls u) (sym same_world) ∙ at)) [
        | inl new ↦ absurd (other new.0)
        | inr old ↦ old.1
      ]
  other_pending u found other at (went call action made is pending here makes same_event same_world) =
      elim (found_after_insert before.calls thread.0 made.call u found (ap (λ (w : WorldState). get w.calls u) (sym same_world) ∙ at)) [
        | inl new ↦ absurd (other new.0)
        | inr old ↦ old.1
      ]
  other_pending u found other at (finished call answer is pending here same_event same_world) =
      (found_after_remove before.calls thread.0 u found (ap (λ (w : WorldState). get w.calls u) (sym same_world) ∙ at)).1

module _ (methods : List Method) (before : WorldState) (choice : Choice) (choices : List Choice) (earlier : (u : ℕ) (call : Call) → get before.calls u ≡ Some call → HasAge u choices) (event : Option Event) (after : WorldState) where
  own_aged : (u : ℕ) (found : Call) → u ≡ choice.thread.0 → get after.calls u ≡ Some found → StepWas methods before choice.thread choice.act event after → HasAge u (choice ∷ choices)
  own_aged u found same at (began m key method is called same_event same_world) =
      record { age = 0; begun = begun_since-begun u choice (last_begun u choices) m key is same }
  own_aged u found same at (went call action made is pending here makes same_event same_world) =
      older u choice choices (begun_since-go u choice (last_begun u choices) is) (earlier u call (ap (λ t. get before.calls t) same ∙ pending))
  own_aged u found same at (finished call answer is pending here same_event same_world) =
      absurd ((found_after_remove before.calls choice.thread.0 u found (ap (λ (w : WorldState). get w.calls u) (sym same_world) ∙ at)).0 same)

  pub aged_after : (u : ℕ) (found : Call) → get after.calls u ≡ Some found → StepWas methods before choice.thread choice.act event after → HasAge u (choice ∷ choices)
  aged_after u found at was =
      elim (cases_eq u choice.thread.0) [
        | inl same ↦ own_aged u found same at was
        | inr other ↦ older u choice choices (begun_since-other u choice (last_begun u choices) other) (earlier u found (other_pending methods before choice.thread choice.act event after u found other at was))
      ]

-- each pending call of a run's newest world has an age
abbrev AllAged : List Choice → List GhostWorld → Type 0
AllAged choices [] = ⊥
AllAged choices (g ∷ ghosts) = (u : ℕ) (call : Call) → get g.world.calls u ≡ Some call → HasAge u choices

run_aged : {h : Header} {methods : List Method} {choices : List Choice} {told : List (Option Event)} {ghosts : List GhostWorld} → GhostRun h methods choices told ghosts → AllAged choices ghosts
run_aged ghost_begins = λ u call at. absurd (none-some call (sym (get-empty nat_cmp u) ∙ at))
run_aged {h} {methods} (ghost_goes_on {choices} {told} {before} {ghosts} run choice event after step) = λ u call at.
    aged_after methods before.world choice choices (run_aged run) event after u call at (acted_cases methods before.world choice.thread event after choice.act step)

pub pending_has_age : {h : Header} {methods : List Method} {choices : List Choice} {told : List (Option Event)} {g : GhostWorld} {ghosts : List GhostWorld} → GhostRun h methods choices told (g ∷ ghosts) → (u : ℕ) (call : Call) → get g.world.calls u ≡ Some call → HasAge u choices
pending_has_age run u call at = run_aged run u call at

-- ---- the worlds of a pending call

front_worlds : {W : Type 0} (u : ℕ) (choices : List Choice) (worlds : List W) (age : ℕ) → last_begun u choices ≡ Some age → call_moments u choices worlds ≡ take (suc age) worlds
front_worlds u choices worlds age is = ap (λ o. option_map_or (λ n. take (suc n) worlds) o []) is

-- the newest world is one
pub newest_moment : {W : Type 0} (u : ℕ) (choices : List Choice) (w : W) (worlds : List W) → HasAge u choices → slice_get (call_moments u choices (w ∷ worlds)) 0 ≡ Some w
newest_moment u choices w worlds has = ap (λ ws. slice_get ws 0) (front_worlds u choices (w ∷ worlds) has.age has.begun)

-- a call that has just begun has no other
pub fresh_moments : {W : Type 0} (u : ℕ) (choices : List Choice) (w : W) (worlds : List W) → last_begun u choices ≡ Some 0 → call_moments u choices (w ∷ worlds) ≡ w ∷ []
fresh_moments u choices w worlds is = front_worlds u choices (w ∷ worlds) 0 is

-- one that has grown older has those that it had, and the newest
pub older_moments : {W : Type 0} (u : ℕ) (choice : Choice) (choices : List Choice) (w : W) (worlds : List W) → HasAge u choices → begun_since u choice (last_begun u choices) ≡ option_map (λ n. suc n) (last_begun u choices)
    → call_moments u (choice ∷ choices) (w ∷ worlds) ≡ w ∷ call_moments u choices worlds
older_moments u choice choices w worlds has step =
    front_worlds u (choice ∷ choices) (w ∷ worlds) (suc has.age) (older u choice choices step has).begun
    ∙ ap (λ ws. w ∷ ws) (sym (front_worlds u choices worlds has.age has.begun))

found_in_front : {X : Type 0} (n : ℕ) (xs : List X) (i : ℕ) (x : X) → slice_get (take n xs) i ≡ Some x → (i < n) × (slice_get xs i ≡ Some x)
found_in_front zero [] i x at = absurd (none-some x at)
found_in_front zero (y ∷ ys) i x at = absurd (none-some x at)
found_in_front (suc n) [] i x at = absurd (none-some x at)
found_in_front (suc n) (y ∷ ys) zero x at = (omega arith, at)
found_in_front (suc n) (y ∷ ys) (suc i) x at =
    let found = found_in_front n ys i x at in
    let below = found.0 in
    (omega arith, found.1)

-- each is a world of the run, not older than the call
pub moment_is_world : {W : Type 0} (u : ℕ) (choices : List Choice) (worlds : List W) (n : ℕ) (w : W) (age : ℕ) → last_begun u choices ≡ Some age → slice_get (call_moments u choices worlds) n ≡ Some w → (n < suc age) × (slice_get worlds n ≡ Some w)
moment_is_world u choices worlds n w age begun at =
    found_in_front (suc age) worlds n w (subst (λ ws. slice_get ws n ≡ Some w) (front_worlds u choices worlds age begun) at)

-- and a call is younger than the run
younger_step : (u : ℕ) (choice : Choice) (before : Option ℕ) (n age : ℕ) → ((a : ℕ) → before ≡ Some a → a < n) → begun_since u choice before ≡ Some age → age < suc n
younger_step u choice before n age younger e = by_thread (eqb choice.thread.0 u) choice.act e
  where
    counted : option_map (λ m. suc m) before ≡ Some age → age < suc n
    counted f = let found = mapped (λ m. suc m) before age f in let lt = younger found.0 found.1 in let same = found.2 in omega arith

    by_thread : (b : Bool) (act : Act) → cond b (begun_by act before) (option_map (λ m. suc m) before) ≡ Some age → age < suc n
    by_thread true (Invoke m key) f = let same : 0 ≡ age = same_Some 0 age f in omega arith
    by_thread true Go f = counted f
    by_thread false act f = counted f

pub younger : (u : ℕ) (choices : List Choice) (age : ℕ) → last_begun u choices ≡ Some age → age < length choices
younger u [] age e = absurd (none-some age e)
younger u (choice ∷ choices) age e = younger_step u choice (last_begun u choices) (length choices) age (λ a is. younger u choices a is) e
