-- What meets all that is asked meets the question, and the other way round.
use Rattle.std.proofs.Common.{◌≡◌, ℕ, ◌+◌, ◌<◌, Bool, true, false, not, List, length, Option, Some, None, refl, sym, ◌∙◌, ap, subst}
use Rattle.std.specs.Prelude.{◌||◌, slice_get, slice_index_or}
use Rattle.std.specs.Bool.{beq}
use Rattle.std.specs.Option.{option_map_or}
use Rattle.std.specs.List.{All, Contains}
use Rattle.std.proofs.lemmas.Bool.{true≢false, lt-ltb}
use Rattle.std.proofs.lemmas.List.Elements.{All-contains, All-contains_itself}
use Rattle.plank_pic.specs.declared.parts.Part.{Part}
use Rattle.plank_pic.specs.Frames.{Frame}
use Rattle.plank_pic.specs.Pictures.{Picture}
use Rattle.plank_pic.specs.Lawful.{◌⇒◌, part_fits, IsPicture, IsPossible}
use Rattle.plank_pic.specs.Steps.{Change, agrees_with}
use Rattle.plank_pic.specs.TestedSteps.{left_of, left_of_name}
use Rattle.plank_step.specs.Sources.{sources}
use Rattle.plank_pic.proofs.EachName.{told, same_bits}
use Rattle.plank_lawful.specs.Laws.{SaysNoOutside}
use Rattle.plank_lawful.proofs.LawfulMeets.{possible_meets, lawful_meets}
use Rattle.plank_lawful.proofs.MeetsLawful.{meets_possible, meets_lawful}
use Rattle.plank_lawful.proofs.Listed.{possible_listed, possible_all, lawful_listed, lawful_all}
use Rattle.plank_parts.specs.declared.sides.Side.{Side}
use Rattle.plank_parts.specs.Numbers.{Table, number, is_moved, IsNumbering}
use Rattle.plank_query.specs.declared.predicates.Claim.{Claim}
use Rattle.plank_query.specs.declared.goals.Goal.{Goal}
use Rattle.plank_query.specs.declared.situations.Situation.{Situation}
use Rattle.plank_query.specs.declared.questions.Question.{Question}
use Rattle.plank_query.specs.Situations.{frame, IsStep}
use Rattle.plank_query.specs.Predicates.{holds}
use Rattle.plank_query.specs.Goals.{goal_holds}
use Rattle.plank_query.specs.Questions.{Meets}
use Rattle.plank_reach.specs.declared.stepping.Stepping.{Stepping}
use Rattle.plank_reach.specs.Steps.{step_of, turn_in, change_in, names_in, is_left, MeetsStep}
use Rattle.plank_reach.specs.Kept.{is_kept, is_kept_by}
use Rattle.plank_reach.proofs.KeptParts.{kept}
use Rattle.plank_reach.proofs.Meeting.{step_is_tests, bits_same}
use Rattle.plank_solve.specs.declared.asks.Ask.{Ask}
use Rattle.plank_stay.specs.declared.ways.Way.{Way}
use Rattle.plank_stay.specs.Stays.{stays}
use Rattle.plank_stay.proofs.Staying.{stays_so}
use Rattle.plank_solve.specs.Asks.{asked_of_step, ask_holds, is_staying}
use Rattle.plank_solve.specs.Lists.{MeetsAsksOfStep, MeetsAsks, way}

-- claims
right_from : (of : Claim → Bool) (claims : List Claim) → All (λ c. beq (of c) c.value ≡ true) claims → (c : Claim) → Contains claims c → of c ≡ c.value
right_from of claims all c has = same_bits (of c) c.value (All-contains (λ d. beq (of d) d.value ≡ true) claims c all has)

right_to : (of : Claim → Bool) (claims : List Claim) → ((c : Claim) → Contains claims c → of c ≡ c.value) → All (λ c. beq (of c) c.value ≡ true) claims
right_to of claims each k d below = let c = slice_index_or claims k d in bits_same (of c) c.value (each c (All-contains_itself claims k d below))

implied_if : (a b : Bool) → (a ≡ true → b ≡ true) → (a ⇒ b) ≡ true
implied_if true b h = h refl
implied_if false b h = refl

yes_of_not : (b : Bool) → not b ≡ false → b ≡ true
yes_of_not true e = refl
yes_of_not false e = absurd (true≢false e)

-- what stays visited by the law, in a step that keeps each name its node
staying : (F : Frame) (s : Stepping) (B A : Picture) → IsPicture F B → MeetsStep F s B A → s.kept ≡ true → (w : Way) → w.name < F.names → is_staying F s B A w ≡ true
staying F s B A is meets kept w small = ap (λ b. not b || option_map_or (λ c. stays F B A c w) (change_in s) true) kept ∙ by_change (change_in s) refl
  where
    by_change : (o : Option Change) → change_in s ≡ o → option_map_or (λ c. stays F B A c w) o true ≡ true
    by_change None e = refl
    by_change (Some c) e =
        stays_so F B A c is w small
        (ap (λ o. agrees_with (left_of F B o (Part.Visits w.key w.name)) (A (Part.Visits w.key w.name))) (sym e)
        ∙ ap (λ k. agrees_with (left_of_name (λ n. left_of F B (change_in s) (Part.Visits w.key n)) (sources (turn_in s) k w.name)) (A (Part.Visits w.key w.name))) (sym kept)
        ∙ meets.parts (Part.Visits w.key w.name) (lt-ltb w.name F.names small))

-- a table in which what is kept is not moved
abbrev pub IsTableOf : Question → Table → Type 0
IsTableOf q T = (part : Part) → part_fits (frame q.header.now q.situation) part ≡ true → is_moved T part ≡ not (is_kept_by (step_of q.situation) part)

-- two pictures that agree where nothing is moved
abbrev pub Agree : Question → Table → Picture → Picture → Type 0
Agree q T B A = (part : Part) → part_fits (frame q.header.now q.situation) part ≡ true → is_moved T part ≡ false → A part ≡ B part

module _ (q : Question) (T : Table) (tables : IsTableOf q T) where
  abbrev pub S : Situation
  S = q.situation

  abbrev pub F : Frame
  F = frame q.header.now q.situation

  kept_by : (o : Option Stepping) (s : Stepping) (part : Part) → o ≡ Some s → is_kept_by o part ≡ is_kept (change_in s) (names_in s) part
  kept_by o s part e = ap (λ p. is_kept_by p part) e

  is_kept_so : (s : Stepping) → step_of S ≡ Some s → (part : Part) → part_fits F part ≡ true → is_moved T part ≡ false → is_kept (change_in s) (names_in s) part ≡ true
  is_kept_so s e part fits unmoved = sym (kept_by (step_of S) s part e) ∙ yes_of_not (is_kept_by (step_of S) part) (sym (tables part fits) ∙ unmoved)

  module _ (B A : Picture) (on : ℕ → Bool) where
    abbrev pub Told : Ask → Type 0
    Told a = ask_holds F S B A on a ≡ true

    step_told : (s : Stepping) (ask : Ask) → step_of S ≡ Some s → option_map_or (λ t. asked_of_step F t B A ask) (step_of S) true ≡ asked_of_step F s B A ask
    step_told s ask e = ap (λ o. option_map_or (λ t. asked_of_step F t B A ask) o true) e

    -- ---- what is asked is met: the question is

    module _ (numbering : IsNumbering F T) (no_before : SaysNoOutside F B) (no_after : SaysNoOutside F A) (agree : Agree q T B A) (m : MeetsAsks q F T Told) where
      one_picture : step_of S ≡ None → A ≡ B
      one_picture e = λ i part. each part i
        where
          by_fit : (part : Part) (b : Bool) → part_fits F part ≡ b → A part ≡ B part
          by_fit part true fits = agree part fits (tables part fits ∙ ap (λ o. not (is_kept_by o part)) e)
          by_fit part false fits = no_after part fits ∙ sym (no_before part fits)

          each : (part : Part) → A part ≡ B part
          each part = by_fit part (part_fits F part) refl

      is_left_so : (s : Stepping) → step_of S ≡ Some s → MeetsAsksOfStep F T s.kept Told → (part : Part) → part_fits F part ≡ true → is_left F s B A part ≡ true
      is_left_so s e asks part fits = by_moved (is_moved T part) refl
        where
          by_moved : (b : Bool) → is_moved T part ≡ b → is_left F s B A part ≡ true
          by_moved true moved = sym (step_told s (Ask.Left part) e) ∙ asks.left (number T Side.After part) _ (numbering.moved part fits moved) refl fits
          by_moved false unmoved =
              subst (λ o. agrees_with o (A part) ≡ true) (sym (kept F (change_in s) (names_in s) B part (is_kept_so s e part fits unmoved)))
              (bits_same (A part) (B part) (agree part fits unmoved))

      meets_step : (s : Stepping) → step_of S ≡ Some s → MeetsStep F s B A
      meets_step s e =
          let asks = m.step s e in
          record {
            runs = sym (step_told s Ask.Runs e) ∙ asks.runs;
            writes = sym (step_told s Ask.Writes e) ∙ asks.writes;
            parts = is_left_so s e asks;
            possible = meets_possible F A no_after (possible_listed F A asks.possible);
          }

      steps : (o : Option Stepping) → step_of S ≡ o → IsStep q.header.now S B A
      steps None e = ((step_is_tests q.header.now S B A).none e).1 (one_picture e)
      steps (Some s) e = ((step_is_tests q.header.now S B A).tests s e).1 (meets_step s e)

      pub to_meets : Meets q B A
      to_meets = record {
        situated = record {
          lawful = meets_lawful F B no_before (lawful_listed F B m.lawful);
          fit = m.fits;
          step = steps (step_of S) refl;
        };
        right_before = right_from (λ c. holds q.header.now S B c.predicate) q.before.now m.before;
        right_after = right_from (λ c. holds q.header.now S A c.predicate) q.after.now m.after;
      }

      pub goal_told : (n : ℕ) (g : Goal) → slice_get q.goals.now n ≡ Some g → on (length T.parts + n) ≡ true → goal_holds q.header.now S B A g ≡ true
      goal_told n g at switched = told (on (length T.parts + n)) (goal_holds q.header.now S B A g) (m.goals n g at) switched

    -- ---- the question is met: what is asked is

    module _ (is : Meets q B A) where
      step_met : (s : Stepping) → step_of S ≡ Some s → MeetsStep F s B A
      step_met s e = ((step_is_tests q.header.now S B A).tests s e).0 is.situated.step

      pub agree_so : (part : Part) → part_fits F part ≡ true → is_moved T part ≡ false → A part ≡ B part
      agree_so part fits unmoved = by_step (step_of S) refl
        where
          by_step : (o : Option Stepping) → step_of S ≡ o → A part ≡ B part
          by_step None e = ap (λ (p : Picture). p part) (((step_is_tests q.header.now S B A).none e).0 is.situated.step)
          by_step (Some s) e =
              same_bits (A part) (B part) (subst (λ o. agrees_with o (A part) ≡ true) (kept F (change_in s) (names_in s) B part (is_kept_so s e part fits unmoved)) ((step_met s e).parts part fits))

      pub possible_so : IsPossible F A
      possible_so = by_step (step_of S) refl
        where
          by_step : (o : Option Stepping) → step_of S ≡ o → IsPossible F A
          by_step None e = subst (IsPossible F) (sym (((step_is_tests q.header.now S B A).none e).0 is.situated.step)) is.situated.lawful.possible
          by_step (Some s) e = (step_met s e).possible

      step_asks : (s : Stepping) → step_of S ≡ Some s → MeetsAsksOfStep F T s.kept Told
      step_asks s e =
          let w = step_met s e in
          record {
            runs = step_told s Ask.Runs e ∙ w.runs;
            writes = step_told s Ask.Writes e ∙ w.writes;
            possible = possible_all F A (possible_meets F A w.possible);
            left = λ n entry at after fits. step_told s (Ask.Left entry.part) e ∙ w.parts entry.part fits;
            stays = λ kept k i j small other. step_told s (Ask.Stays (way k i j)) e ∙ staying F s B A is.situated.lawful.possible.picture w kept (way k i j) small;
          }

      pub from_meets : ((n : ℕ) (g : Goal) → slice_get q.goals.now n ≡ Some g → on (length T.parts + n) ≡ true → goal_holds q.header.now S B A g ≡ true) → MeetsAsks q F T Told
      from_meets goals = record {
        before = right_to (λ c. holds q.header.now S B c.predicate) q.before.now is.right_before;
        after = right_to (λ c. holds q.header.now S A c.predicate) q.after.now is.right_after;
        fits = is.situated.fit;
        step = step_asks;
        goals = λ n g at. implied_if (on (length T.parts + n)) (goal_holds q.header.now S B A g) (goals n g at);
        lawful = lawful_all F B (lawful_meets F B is.situated.lawful);
      }
