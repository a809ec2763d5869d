-- The law of hindsight, of a run whose worlds are orderly and whose older claims are true.
use Rattle.std.proofs.Common.{◌≡◌, ℕ, zero, suc, ◌<◌, true, List, [], ◌∷◌, Option, Some, None, refl, ◌∙◌, ap, subst, arith}
use Rattle.std.specs.Prelude.{slice_get, take}
use Rattle.std.specs.Option.{option_map_or}
use Rattle.std.proofs.lemmas.Option.{same_Some}
use Rattle.plank_prog.specs.declared.blocks.Reference.{Reference}
use Rattle.plank_prog.specs.Headers.{is_lawful_header}
use Rattle.plank_prog.specs.Methods.{are_lawful_methods}
use Rattle.plank_hist.specs.declared.events.Event.{Event}
use Rattle.plank_sem.specs.declared.steps.Choice.{Choice}
use Rattle.plank_sem.specs.Kept.{GhostWorld, GhostRun}
use Rattle.plank_sem.specs.Facts.{IsSound, AreNumbered}
use Rattle.plank_sem.specs.CallMoments.{last_begun, call_moments}
use Rattle.plank_sem.proofs.SoundWorlds.{GoodRun, run_good, good_sound}
use Rattle.plank_sem.proofs.CallMoments.{pending_has_age, moment_is_world}
use Rattle.plank_sem.proofs.Sizes.{run_sizes}
use Rattle.plank_sem.proofs.NumberedNodes.{run_numbered}
use Rattle.plank_pic.specs.declared.literals.Literal.{Literal}
use Rattle.plank_pic.specs.Truths.{truth}
use Rattle.plank_fact.specs.Outlines.{Outline}
use Rattle.plank_fact.specs.OwnSteps.{own_call, method_frame}
use Rattle.plank_fact.specs.Hindsight.{is_witnessed, IsHindsight}
use Rattle.plank_scene.specs.Worlds.{IsOrderlyWorld}
use Rattle.plank_sound.specs.Sights.{values_of}
use Rattle.plank_sound.specs.Interference.{AreNowTrue, IsKeptSo}
use Rattle.plank_sound.specs.HindsightLaw.{IsTrueNow, WasTrueOnce, HindsightHolds}
use Rattle.plank_sound.proofs.Sights.Sighted.{truth_seen}
use Rattle.plank_sound.proofs.Sights.PastSeen.{witnessed_seen, past_seen}
use Rattle.plank_sound.proofs.Sights.LiteralKinds.{past_asks_none}
use Rattle.plank_sound.proofs.Own.Standing.{own_below}
use Rattle.plank_sound.proofs.Own.Readers.{reader_truth}
use Rattle.plank_sound.proofs.Hindsight.LookingBack.{IsOlder, hind, P, without_now, look_back}

-- a world of the run that is not older than the call is one of its moments
pub world_moment : {W : Type 0} (u : ℕ) (choices : List Choice) (worlds : List W) (i age : ℕ) (w : W) → last_begun u choices ≡ Some age → i < suc age → slice_get worlds i ≡ Some w → slice_get (call_moments u choices worlds) i ≡ Some w
world_moment {W} u choices worlds i age w begun lt at = ap (λ o. slice_get (option_map_or (λ n. take (suc n) worlds) o []) i) begun ∙ in_front (suc age) worlds i lt ∙ at
  where
    in_front : (n : ℕ) (xs : List W) (i : ℕ) → i < n → slice_get (take n xs) i ≡ slice_get xs i
    in_front zero xs i lt = absurd (omega arith)
    in_front (suc n) [] i lt = refl
    in_front (suc n) (x ∷ xs) zero lt = refl
    in_front (suc n) (x ∷ xs) (suc i) lt = in_front n xs i (omega arith)

module _ (O : Outline) (header : is_lawful_header O.header ≡ true) (methods : are_lawful_methods O.header O.methods ≡ true) (choices : List Choice) (told : List (Option Event)) (g : GhostWorld) (ghosts : List GhostWorld)
    (run : GhostRun O.header O.methods choices told (g ∷ ghosts)) (orderly : (i : ℕ) (w : GhostWorld) → slice_get (g ∷ ghosts) i ≡ Some w → IsOrderlyWorld O.header w) (claims : (i : ℕ) (w : GhostWorld) → slice_get ghosts i ≡ Some w → AreNowTrue O w) where
  good : GoodRun O.header O.methods (g ∷ ghosts)
  good = run_good header methods run

  older : (i : ℕ) (w : GhostWorld) → slice_get (g ∷ ghosts) i ≡ Some w → IsOlder O g w
  older i w at = record {
    sound = good_sound O.header O.methods w (good.good i w at);
    sizes = run_sizes run i w at;
    orderly = orderly i w at;
    stays = good.stays 0 i g w (omega arith) refl at;
  }

  pub hindsight_holds : HindsightHolds O choices g ghosts
  hindsight_holds thread call pending x same Lasting lasting past was once given conclusion kind law = by_now once given law
    where
      sound : IsSound O.header g
      sound = good_sound O.header O.methods g (good.good 0 g refl)

      age : ℕ
      age = (pending_has_age run thread call pending).age

      begun : last_begun thread choices ≡ Some age
      begun = (pending_has_age run thread call pending).begun

      place : (was.ago < suc age) × (slice_get (g ∷ ghosts) was.ago ≡ Some was.moment)
      place = moment_is_world thread choices (g ∷ ghosts) was.ago was.moment age begun was.at

      below : (r : Reference) → (own_call x.method).name r < (method_frame O.header x.method).names
      below r = let lt = own_below x.method r in omega (arith, lt)

      numbered : AreNumbered O.header g
      numbered = run_numbered O.header O.methods header methods run 0 g refl

      witnessed : is_witnessed (P O header methods g sound numbered thread call pending x.method Lasting lasting past conclusion kind was.moment) (own_call x.method) past ≡ true
      witnessed =
          let S = hind O header methods g sound numbered thread call pending x.method Lasting lasting past conclusion kind was.moment in
          witnessed_seen (method_frame O.header x.method) S (own_call x.method) thread below past (truth_seen (method_frame O.header x.method) S (own_call x.method) thread below past (λ e. absurd (past_asks_none past was.kind e)))
          ∙ past_seen O.header S (own_call x.method) thread was.moment call.key (values_of g.world.heap call x.method) refl refl refl (λ r. refl) (older was.ago was.moment place.1).sound.owned past was.kind
          ∙ was.was

      by_now : (once : Option Literal) → ((b : Literal) → once ≡ Some b → IsTrueNow O g thread call x.method b) → IsHindsight O x.method Lasting past once conclusion → WasTrueOnce O choices g ghosts thread call x.method conclusion
      by_now None given law = record {
        ago = was.ago;
        moment = was.moment;
        at = was.at;
        kind = kind;
        was = without_now O header methods g sound numbered thread call pending x.method Lasting lasting past conclusion kind law was.moment (older was.ago was.moment place.1) witnessed;
      }
      by_now (Some b) given law =
          let S = hind O header methods g sound numbered thread call pending x.method Lasting lasting past conclusion kind g in
          let is_true = reader_truth (method_frame O.header x.method) S g sound thread call pending x.method (omega arith) refl refl refl refl (λ i bi. refl) refl (λ i y bi e. refl) b ∙ given b refl in
          let found = look_back O header methods g sound numbered thread call pending x.method Lasting lasting past conclusion kind b law run older (λ i w at. claims i w at) was.ago was.moment place.1 witnessed
          (λ w at. subst (λ v. truth (P O header methods g sound numbered thread call pending x.method Lasting lasting past conclusion kind v) (own_call x.method) b ≡ true) (same_Some g w at) is_true) in
          record {
            ago = found.since;
            moment = found.moment;
            at = world_moment thread choices (g ∷ ghosts) found.since age found.moment begun (let le = found.young in let lt = place.0 in omega (arith, le, lt)) found.at;
            kind = kind;
            was = found.was;
          }

-- of a run that is kept so
pub hindsight_of_run : (O : Outline) → is_lawful_header O.header ≡ true → are_lawful_methods O.header O.methods ≡ true → (choices : List Choice) (told : List (Option Event)) (g : GhostWorld) (ghosts : List GhostWorld)
    → GhostRun O.header O.methods choices told (g ∷ ghosts) → IsKeptSo O choices g ghosts → HindsightHolds O choices g ghosts
hindsight_of_run O header methods choices told g ghosts run kept = hindsight_holds O header methods choices told g ghosts run orderly (λ i w at. (kept.older i w at).1)
  where
    orderly : (i : ℕ) (w : GhostWorld) → slice_get (g ∷ ghosts) i ≡ Some w → IsOrderlyWorld O.header w
    orderly zero w at = subst (λ v. IsOrderlyWorld O.header v) (same_Some g w at) kept.orderly
    orderly (suc i) w at = (kept.older i w at).0
