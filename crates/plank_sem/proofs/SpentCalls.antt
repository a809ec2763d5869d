-- Where steps turn their own keys alone, a pending call has changed the set, by what is kept, exactly where it is spent, by
-- the steps since its invocation.
use Rattle.std.proofs.Common.{◌≡◌, ℕ, zero, suc, ◌<◌, ℤ, Bool, true, false, List, [], ◌∷◌, map, Option, Some, refl, sym, ap, ◌∙◌, subst, ◌⊎◌, inl, inr, arith}
use Rattle.std.specs.Prelude.{slice_get, ◌||◌, ◌↔◌, option_map}
use Rattle.std.specs.Ordering.{nat_cmp}
use Rattle.std.specs.FinMap.{get, get-empty}
use Rattle.std.proofs.Math.Bool.{or-true}
use Rattle.std.proofs.lemmas.Bool.{both_ways, or_cases, cases_eq}
use Rattle.std.proofs.lemmas.Option.{none-some, same_Some}
use Rattle.plank_prog.specs.declared.headers.Header.{Header}
use Rattle.plank_prog.specs.declared.methods.Method.{Method}
use Rattle.plank_hist.specs.declared.events.Event.{Event}
use Rattle.plank_sem.specs.declared.calls.Call.{Call}
use Rattle.plank_sem.specs.declared.steps.Choice.{Choice}
use Rattle.plank_sem.specs.Worlds.{WorldState}
use Rattle.plank_sem.specs.Kept.{differs, GhostWorld, ghost_after, GhostRun, ghost_begins, ghost_goes_on, IsSpent}
use Rattle.plank_sem.proofs.CallMaps.{found_after_remove}
use Rattle.plank_sem.proofs.Lists.{mapped}
use Rattle.plank_sem.specs.CallMoments.{begun_since, last_begun}
use Rattle.plank_sem.specs.Kept.{TurnsOwnKeys}
use Rattle.plank_sem.proofs.Updates.{updated-at, updated-elsewhere}
use Rattle.plank_sem.proofs.CallMoments.{HasAge, pending_has_age, begun_since-other, begun_since-go, begun_since-begun, other_pending}
use Rattle.plank_sem.proofs.StepCases.{StepWas, began, went, finished, acted_cases, has_changed_begun, has_changed_went}

abbrev pub worlds_of : List GhostWorld → List WorldState
worlds_of ghosts = map (λ (g : GhostWorld). g.world) ghosts

-- ---- what is kept along a run

record Agrees (h : Header) (choices : List Choice) (g : GhostWorld) (ghosts : List GhostWorld) : Type 0 where
  pub has_turned : (u : ℕ) (call : Call) → get g.world.calls u ≡ Some call → g.kept.has_changed u ≡ true → IsSpent h u choices (worlds_of (g ∷ ghosts))
  pub has_changed : (u : ℕ) (call : Call) → get g.world.calls u ≡ Some call → IsSpent h u choices (worlds_of (g ∷ ghosts)) → g.kept.has_changed u ≡ true

-- ---- one step more, of a call that goes on

turned_more : (h : Header) (u : ℕ) (choice : Choice) (choices : List Choice) (w : WorldState) (worlds : List WorldState) → begun_since u choice (last_begun u choices) ≡ option_map (λ n. suc n) (last_begun u choices)
    → IsSpent h u choices worlds → IsSpent h u (choice ∷ choices) (w ∷ worlds)
turned_more h u choice choices w worlds older spent = record {
  ago = suc spent.ago;
  age = suc spent.age;
  begun = older ∙ ap (λ o. option_map (λ n. suc n) o) spent.begun;
  later = let lt = spent.later in omega arith;
  choice = spent.choice;
  chosen = spent.chosen;
  own = spent.own;
  before = spent.before;
  after = spent.after;
  was = spent.was;
  is = spent.is;
  key = spent.key;
  changed = spent.changed;
}

-- the newest step is one by the thread that turned a key
record TurnedNow (h : Header) (u : ℕ) (choice : Choice) (before after : WorldState) : Type 0 where
  own : choice.thread.0 ≡ u
  key : ℤ
  turned : differs h before.heap after.heap key ≡ true

turned_less : (h : Header) (u : ℕ) (choice : Choice) (choices : List Choice) (after before : WorldState) (worlds : List WorldState) → begun_since u choice (last_begun u choices) ≡ option_map (λ n. suc n) (last_begun u choices)
    → IsSpent h u (choice ∷ choices) (after ∷ before ∷ worlds) → TurnedNow h u choice before after ⊎ IsSpent h u choices (before ∷ worlds)
turned_less h u choice choices after before worlds older spent =
    by_ago spent.ago spent.chosen spent.was spent.is (let lt = spent.later in let same = age.2 in omega arith)
  where
    age : (n : ℕ) × (last_begun u choices ≡ Some n) × (suc n ≡ spent.age)
    age = mapped (λ n. suc n) (last_begun u choices) spent.age (sym older ∙ spent.begun)

    by_ago : (ago : ℕ) → slice_get (choice ∷ choices) ago ≡ Some spent.choice → slice_get (after ∷ before ∷ worlds) (suc ago) ≡ Some spent.before → slice_get (after ∷ before ∷ worlds) ago ≡ Some spent.after → ago < suc age.0
        → TurnedNow h u choice before after ⊎ IsSpent h u choices (before ∷ worlds)
    by_ago zero chosen was is later = inl (record {
      own = ap (λ (c : Choice). c.thread.0) (same_Some choice spent.choice chosen) ∙ spent.own;
      key = spent.key;
      turned = subst (λ (w : WorldState). differs h before.heap w.heap spent.key ≡ true) (sym (same_Some after spent.after is))
          (subst (λ (w : WorldState). differs h w.heap spent.after.heap spent.key ≡ true) (sym (same_Some before spent.before was)) spent.changed);
    })
    by_ago (suc ago) chosen was is later = inr (record {
      ago = ago;
      age = age.0;
      begun = age.1;
      later = omega arith;
      choice = spent.choice;
      chosen = chosen;
      own = spent.own;
      before = spent.before;
      after = spent.after;
      was = was;
      is = is;
      key = spent.key;
      changed = spent.changed;
    })

-- ---- one step more, of a thread

module _ (h : Header) (methods : List Method) (choices : List Choice) (before : GhostWorld) (ghosts : List GhostWorld) (aged : (u : ℕ) (call : Call) → get before.world.calls u ≡ Some call → HasAge u choices) (agrees : Agrees h choices before ghosts) (choice : Choice) (event : Option Event) (after : WorldState) where
  -- a call of another thread has changed the set where it had
  other_changed : (u : ℕ) → (u ≡ choice.thread.0 → ⊥) → StepWas methods before.world choice.thread choice.act event after → (ghost_after h methods before choice after).kept.has_changed u ≡ before.kept.has_changed u
  other_changed u other (began m key method is called same_event same_world) =
      ap (λ (f : ℕ → Bool). f u) (has_changed_begun h methods before.world after choice.thread before.kept choice.act m key is) ∙ updated-elsewhere before.kept.has_changed choice.thread.0 false u other
  other_changed u other (went call action made is pending at makes same_event same_world) =
      ap (λ (f : ℕ → Bool). f u) (has_changed_went h methods before.world after choice.thread before.kept choice.act call action is pending at) ∙ updated-elsewhere before.kept.has_changed choice.thread.0 _ u other
  other_changed u other (finished call answer is pending at same_event same_world) =
      ap (λ (f : ℕ → Bool). f u) (has_changed_went h methods before.world after choice.thread before.kept choice.act call _ is pending at) ∙ updated-elsewhere before.kept.has_changed choice.thread.0 _ u other

  -- what is to be shown of one thread
  record AgreesAfter (u : ℕ) : Type 0 where
    has_turned : (ghost_after h methods before choice after).kept.has_changed u ≡ true → IsSpent h u (choice ∷ choices) (after ∷ worlds_of (before ∷ ghosts))
    has_changed : IsSpent h u (choice ∷ choices) (after ∷ worlds_of (before ∷ ghosts)) → (ghost_after h methods before choice after).kept.has_changed u ≡ true

  of_other : (u : ℕ) (found : Call) → (u ≡ choice.thread.0 → ⊥) → get after.calls u ≡ Some found → StepWas methods before.world choice.thread choice.act event after → AgreesAfter u
  of_other u found other at was =
      let older = begun_since-other u choice (last_begun u choices) other in
      let pending = other_pending methods before.world choice.thread choice.act event after u found other at was in
      let same = other_changed u other was in
      record {
        has_turned = λ e. turned_more h u choice choices after (worlds_of (before ∷ ghosts)) older (agrees.has_turned u found pending (sym same ∙ e));
        has_changed = λ spent.
            elim (turned_less h u choice choices after before.world (worlds_of ghosts) older spent) [
              | inl now ↦ absurd (other (sym now.own))
              | inr earlier ↦ same ∙ agrees.has_changed u found pending earlier
            ];
      }

  of_own : (own_key : (key : ℤ) → differs h before.world.heap after.heap key ≡ true → (call : Call) × (get before.world.calls choice.thread.0 ≡ Some call) × (key ≡ call.key))
      → (found : Call) → get after.calls choice.thread.0 ≡ Some found → StepWas methods before.world choice.thread choice.act event after → AgreesAfter choice.thread.0
  of_own own_key found at (began m key method is called same_event same_world) =
      let young : last_begun choice.thread.0 (choice ∷ choices) ≡ Some 0 = begun_since-begun choice.thread.0 choice (last_begun choice.thread.0 choices) m key is refl in
      let none : (ghost_after h methods before choice after).kept.has_changed choice.thread.0 ≡ false =
      ap (λ (f : ℕ → Bool). f choice.thread.0) (has_changed_begun h methods before.world after choice.thread before.kept choice.act m key is) ∙ updated-at before.kept.has_changed choice.thread.0 false choice.thread.0 refl in
      record {
        has_turned = λ e. absurd (both_ways _ none e);
        has_changed = λ spent. absurd (let lt = spent.later in let same : 0 ≡ spent.age = same_Some 0 spent.age (sym young ∙ spent.begun) in omega arith);
      }
  of_own own_key found at (went call action made is pending here makes same_event same_world) =
      let older = begun_since-go choice.thread.0 choice (last_begun choice.thread.0 choices) is in
      let more : (ghost_after h methods before choice after).kept.has_changed choice.thread.0 ≡ (before.kept.has_changed choice.thread.0 || differs h before.world.heap after.heap call.key) =
      ap (λ (f : ℕ → Bool). f choice.thread.0) (has_changed_went h methods before.world after choice.thread before.kept choice.act call action is pending here) ∙ updated-at before.kept.has_changed choice.thread.0 _ choice.thread.0 refl in
      let has = aged choice.thread.0 call pending in
      record {
        has_turned = λ e.
            elim (or_cases (before.kept.has_changed choice.thread.0) (differs h before.world.heap after.heap call.key) (sym more ∙ e)) [
              | inl had ↦ turned_more h choice.thread.0 choice choices after (worlds_of (before ∷ ghosts)) older (agrees.has_turned choice.thread.0 call pending had)
              | inr turned ↦ record {
                ago = 0;
                age = suc has.age;
                begun = older ∙ ap (λ o. option_map (λ n. suc n) o) has.begun;
                later = omega arith;
                choice = choice;
                chosen = refl;
                own = refl;
                before = before.world;
                after = after;
                was = refl;
                is = refl;
                key = call.key;
                changed = turned;
              }
            ];
        has_changed = λ spent.
            elim (turned_less h choice.thread.0 choice choices after before.world (worlds_of ghosts) older spent) [
              | inl now ↦ (let own = own_key now.key now.turned in
                  let key : now.key ≡ call.key = own.2 ∙ ap (λ (c : Call). c.key) (same_Some own.0 call (sym own.1 ∙ pending)) in
                  more ∙ ap (λ b. before.kept.has_changed choice.thread.0 || b) (subst (λ k. differs h before.world.heap after.heap k ≡ true) key now.turned) ∙ or-true (before.kept.has_changed choice.thread.0))
              | inr earlier ↦ more ∙ ap (λ b. b || differs h before.world.heap after.heap call.key) (agrees.has_changed choice.thread.0 call pending earlier)
            ];
      }
  of_own own_key found at (finished call answer is pending here same_event same_world) =
      absurd ((found_after_remove before.world.calls choice.thread.0 choice.thread.0 found (ap (λ (w : WorldState). get w.calls choice.thread.0) (sym same_world) ∙ at)).0 refl)

  agrees_after : ((key : ℤ) → differs h before.world.heap after.heap key ≡ true → (call : Call) × (get before.world.calls choice.thread.0 ≡ Some call) × (key ≡ call.key))
      → StepWas methods before.world choice.thread choice.act event after → (u : ℕ) (found : Call) → get after.calls u ≡ Some found → AgreesAfter u
  agrees_after own_key was u found at =
      elim (cases_eq u choice.thread.0) [
        | inl same ↦ subst AgreesAfter (sym same) (of_own own_key found (subst (λ t. get after.calls t ≡ Some found) same at) was)
        | inr other ↦ of_other u found other at was
      ]

-- ---- runs

-- a run has worlds, and what is kept of them agrees with its steps
abbrev RunAgrees : Header → List Choice → List GhostWorld → Type 0
RunAgrees h choices [] = ⊥
RunAgrees h choices (g ∷ ghosts) = Agrees h choices g ghosts

run_agrees : {h : Header} {methods : List Method} {choices : List Choice} {told : List (Option Event)} {ghosts : List GhostWorld} → GhostRun h methods choices told ghosts → TurnsOwnKeys h choices ghosts → RunAgrees h choices ghosts
run_agrees {h} {methods} ghost_begins own_keys = record {
  has_turned = λ u call at. absurd (none-some call (sym (get-empty nat_cmp u) ∙ at));
  has_changed = λ u call at. absurd (none-some call (sym (get-empty nat_cmp u) ∙ at));
}
run_agrees {h} {methods} (ghost_goes_on {choices} {told} {before} {ghosts} run choice event after step) own_keys =
    let earlier = run_agrees run (λ i c b a chosen was is. own_keys (suc i) c b a chosen was is) in
    let one = agrees_after h methods choices before ghosts (λ u call at. pending_has_age run u call at) earlier choice event after (own_keys 0 choice before (ghost_after h methods before choice after) refl refl refl)
    (acted_cases methods before.world choice.thread event after choice.act step) in
    record {
      has_turned = λ u call at. (one u call at).has_turned;
      has_changed = λ u call at. (one u call at).has_changed;
    }

pub changed_is_spent : {h : Header} {methods : List Method} {choices : List Choice} {told : List (Option Event)} {g : GhostWorld} {ghosts : List GhostWorld} → GhostRun h methods choices told (g ∷ ghosts) → TurnsOwnKeys h choices (g ∷ ghosts)
    → (thread : ℕ) (call : Call) → get g.world.calls thread ≡ Some call → (g.kept.has_changed thread ≡ true) ↔ IsSpent h thread choices (worlds_of (g ∷ ghosts))
changed_is_spent run own_keys thread call at =
    let agrees = run_agrees run own_keys in (agrees.has_turned thread call at, agrees.has_changed thread call at)
