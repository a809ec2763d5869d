-- What meets each ask of the list meets what is asked, and the other way round.
use Rattle.std.proofs.Common.{◌≡◌, ℕ, zero, suc, ◌+◌, ◌<◌, Bool, true, false, List, [], ◌∷◌, ◌++◌, map, length, Some, None, refl, sym, ◌∙◌, ap, subst, inl, inr, arith}
use Rattle.std.specs.Prelude.{slice_get, Option, is_none}
use Rattle.std.specs.Option.{option_map_or}
use Rattle.std.specs.List.{All, Contains}
use Rattle.std.proofs.lemmas.Bool.{true≢false, and_parts, and_from, cond-true, cond-false, cases_eq}
use Rattle.std.proofs.lemmas.Option.{same_Some, slice_get_within, slice_get_cases}
use Rattle.std.proofs.lemmas.List.Elements.{All-nil, All-cons, All-head, All-tail, All-append, All-map, All-contains}
use Rattle.plank_pic.specs.declared.parts.KeyName.{KeyName}
use Rattle.plank_pic.specs.Frames.{Frame}
use Rattle.plank_pic.specs.Lawful.{part_fits}
use Rattle.plank_lawful.specs.Lists.{joined, rules_of_possible, rules_of_lawful}
use Rattle.plank_lawful.proofs.Joined.{joined_there}
use Rattle.plank_parts.specs.declared.sides.Side.{Side}
use Rattle.plank_parts.specs.declared.sides.Numbered.{Numbered}
use Rattle.plank_parts.specs.Numbers.{Table}
use Rattle.plank_query.specs.declared.goals.Goal.{Goal}
use Rattle.plank_query.specs.declared.questions.Question.{Question}
use Rattle.plank_query.specs.Situations.{names}
use Rattle.plank_reach.specs.declared.stepping.Stepping.{Stepping}
use Rattle.plank_reach.specs.Steps.{step_of}
use Rattle.plank_solve.specs.declared.asks.Ask.{Ask}
use Rattle.plank_solve.specs.Lists.{fits_at, is_after, is_moved_entry, left_of_entry, left_at, reaches_at, way, stays_at, stays_of, stays_if, tests_of_step, asks_of_step, asks_of_turn, asks_of, MeetsAsksOfStep, MeetsAsks}
use Rattle.plank_solve.proofs.Joins.{joined_all}

-- ---- halves of lists, and lists that are mapped

module _ {X : Type 0} (P : X → Type 0) where
  left_of : (xs ys : List X) → All P (xs ++ ys) → All P xs
  left_of [] ys all = All-nil P
  left_of (x ∷ xs) ys all = All-cons P x xs (All-head P x (xs ++ ys) all) (left_of xs ys (All-tail P x (xs ++ ys) all))

  right_of : (xs ys : List X) → All P (xs ++ ys) → All P ys
  right_of [] ys all = all
  right_of (x ∷ xs) ys all = right_of xs ys (All-tail P x (xs ++ ys) all)

  unmapped : {Y : Type 0} (f : Y → X) (ys : List Y) → All P (map f ys) → All (λ y. P (f y)) ys
  unmapped f [] all = All-nil (λ y. P (f y))
  unmapped f (y ∷ ys) all = All-cons (λ y. P (f y)) y ys (All-head P (f y) (map f ys) all) (unmapped f ys (All-tail P (f y) (map f ys) all))

  alone : (x : X) → P x → All P (x ∷ [])
  alone x is = All-cons P x [] is (All-nil P)

  -- what holds of each item that is joined
  of_joined : (each : ℕ → List X) (n i : ℕ) (x : X) → i < n → Contains (each i) x → All P (joined each n) → P x
  of_joined each n i x below has all = All-contains P (joined each n) x all (joined_there each n i x below has)

-- what holds of all that is joined holds of each list
part_of_joined : {X : Type 0} (P : X → Type 0) (each : ℕ → List X) (n i : ℕ) → i < n → All P (joined each n) → All P (each i)
unfolding joined
part_of_joined P each zero i below all = absurd (omega arith)
part_of_joined P each (suc n) i below all = elim (cases_eq i n) [
  | inl same ↦ subst (λ m. All P (each m)) (sym same) (right_of P (joined each n) (each n) all)
  | inr other ↦ part_of_joined P each n i (omega arith) (left_of P (joined each n) (each n) all)
]

first_there : {X : Type 0} (x : X) → Contains (x ∷ []) x
first_there x = (0, omega arith, refl)

module _ (P : Ask → Type 0) where
  -- ---- the asks of a step

  module _ (F : Frame) (T : Table) where
    entry_there : (n : ℕ) (e : Numbered) → slice_get T.parts n ≡ Some e → e.side ≡ Side.After → part_fits F e.part ≡ true → Contains (left_at F T.parts n) (Ask.Left e.part)
    entry_there n e at after fits =
        subst (λ l. Contains l (Ask.Left e.part))
        (sym (ap (λ o. option_map_or (left_of_entry F) o []) at
        ∙ cond-true (is_moved_entry F e) (Ask.Left e.part ∷ []) [] (and_from (is_after e.side) (part_fits F e.part) (ap is_after after) fits)))
        (first_there (Ask.Left e.part))

    after_so : (s : Side) → is_after s ≡ true → s ≡ Side.After
    after_so Side.Before e = absurd (true≢false (sym e))
    after_so Side.After e = refl

    entry_all : ((n : ℕ) (e : Numbered) → slice_get T.parts n ≡ Some e → e.side ≡ Side.After → part_fits F e.part ≡ true → P (Ask.Left e.part))
        → (n : ℕ) → All P (left_at F T.parts n)
    entry_all each n = elim (slice_get_cases T.parts n).1 [
      | inl w ↦ subst (λ o. All P (option_map_or (left_of_entry F) o [])) (sym w.2) (by_test w.0 w.2 (is_moved_entry F w.0) refl)
      | inr w ↦ subst (λ o. All P (option_map_or (left_of_entry F) o [])) (sym w.1) (All-nil P)
    ]
      where
        by_test : (e : Numbered) → slice_get T.parts n ≡ Some e → (b : Bool) → is_moved_entry F e ≡ b → All P (left_of_entry F e)
        by_test e at true is =
            let w = and_parts (is_after e.side) (part_fits F e.part) is in
            subst (All P) (sym (cond-true (is_moved_entry F e) (Ask.Left e.part ∷ []) [] is)) (alone P (Ask.Left e.part) (each n e at (after_so e.side w.0) w.1))
        by_test e at false is = subst (All P) (sym (cond-false (is_moved_entry F e) (Ask.Left e.part ∷ []) [] is)) (All-nil P)

    abbrev possibles : List Ask
    possibles = map Ask.Possible (rules_of_possible F)

    abbrev lefts : List Ask
    lefts = joined (left_at F T.parts) (length T.parts)

    -- ---- what stays visited

    way_there : (k : KeyName) (i j : ℕ) → Contains (stays_at i j) (Ask.Stays (way k i j))
    way_there KeyName.Own i j = (0, omega arith, refl)
    way_there KeyName.Other i j = (1, omega arith, refl)
    way_there KeyName.Any i j = (2, omega arith, refl)

    stay_asked : (k : KeyName) (i j : ℕ) → i < F.names → j < F.names → All P (joined (stays_of F.names) F.names) → P (Ask.Stays (way k i j))
    stay_asked k i j small other all =
        All-contains P (stays_at i j) (Ask.Stays (way k i j)) (part_of_joined P (stays_at i) F.names j other (part_of_joined P (stays_of F.names) F.names i small all)) (way_there k i j)

    stays_all : (kept : Bool) → MeetsAsksOfStep F T kept P → All P (stays_if F kept)
    stays_all false m = All-nil P
    stays_all true m = joined_all P (stays_of F.names) F.names (λ i small. joined_all P (stays_at i) F.names (λ j other.
        All-cons P (Ask.Stays (way KeyName.Own i j)) (Ask.Stays (way KeyName.Other i j) ∷ Ask.Stays (way KeyName.Any i j) ∷ []) (m.stays refl KeyName.Own i j small other)
        (All-cons P (Ask.Stays (way KeyName.Other i j)) (Ask.Stays (way KeyName.Any i j) ∷ []) (m.stays refl KeyName.Other i j small other)
        (alone P (Ask.Stays (way KeyName.Any i j)) (m.stays refl KeyName.Any i j small other)))))

    step_asked : (kept : Bool) → All P (asks_of_step F T kept) → MeetsAsksOfStep F T kept P
    step_asked kept both =
        let all = left_of P (tests_of_step F T) (stays_if F kept) both in
        let rest : All P (Ask.Writes ∷ (possibles ++ lefts)) = All-tail P Ask.Runs (Ask.Writes ∷ (possibles ++ lefts)) all in
        let two : All P (possibles ++ lefts) = All-tail P Ask.Writes (possibles ++ lefts) rest in
        record {
          runs = All-head P Ask.Runs (Ask.Writes ∷ (possibles ++ lefts)) all;
          writes = All-head P Ask.Writes (possibles ++ lefts) rest;
          possible = unmapped P Ask.Possible (rules_of_possible F) (left_of P possibles lefts two);
          left = λ n e at after fits. of_joined P (left_at F T.parts) (length T.parts) n (Ask.Left e.part) (slice_get_within T.parts n e at) (entry_there n e at after fits) (right_of P possibles lefts two);
          stays = λ is k i j small other. stay_asked k i j small other (subst (λ b. All P (stays_if F b)) is (right_of P (tests_of_step F T) (stays_if F kept) both));
        }

    tests_all : (kept : Bool) → MeetsAsksOfStep F T kept P → All P (tests_of_step F T)
    tests_all kept m =
        All-cons P Ask.Runs (Ask.Writes ∷ (possibles ++ lefts)) m.runs (All-cons P Ask.Writes (possibles ++ lefts) m.writes
        (All-append P possibles lefts (All-map P Ask.Possible (rules_of_possible F) m.possible) (joined_all P (left_at F T.parts) (length T.parts) (λ n below. entry_all m.left n))))

    step_all : (kept : Bool) → MeetsAsksOfStep F T kept P → All P (asks_of_step F T kept)
    step_all kept m = All-append P (tests_of_step F T) (stays_if F kept) (tests_all kept m) (stays_all kept m)

  -- ---- those of goals

  module _ (first : ℕ) (goals : List Goal) where
    goal_there : (n : ℕ) (g : Goal) → slice_get goals n ≡ Some g → Contains (reaches_at first goals n) (Ask.Reaches (first + n) g)
    goal_there n g at =
        subst (λ l. Contains l (Ask.Reaches (first + n) g)) (sym (ap (λ o. option_map_or (λ g. Ask.Reaches (first + n) g ∷ []) o []) at)) (first_there (Ask.Reaches (first + n) g))

    goal_all : ((n : ℕ) (g : Goal) → slice_get goals n ≡ Some g → P (Ask.Reaches (first + n) g)) → (n : ℕ) → All P (reaches_at first goals n)
    goal_all each n = elim (slice_get_cases goals n).1 [
      | inl w ↦ subst (λ o. All P (option_map_or (λ g. Ask.Reaches (first + n) g ∷ []) o [])) (sym w.2) (alone P (Ask.Reaches (first + n) w.0) (each n w.0 w.2))
      | inr w ↦ subst (λ o. All P (option_map_or (λ g. Ask.Reaches (first + n) g ∷ []) o [])) (sym w.1) (All-nil P)
    ]

  -- ---- all

  module _ (q : Question) (F : Frame) (T : Table) where
    abbrev afters : List Ask
    afters = map Ask.After q.after.now

    abbrev fitting : List Ask
    fitting = joined fits_at (names q.situation)

    abbrev turning : List Ask
    turning = asks_of_turn F T (step_of q.situation)

    abbrev reaching : List Ask
    reaching = joined (reaches_at (length T.parts) q.goals.now) (length q.goals.now)

    abbrev ruling : List Ask
    ruling = map Ask.Lawful (rules_of_lawful F)

    turn_asked : (o : Option Stepping) → All P (asks_of_turn F T o) → (s : Stepping) → o ≡ Some s → MeetsAsksOfStep F T s.kept P
    turn_asked None all s e = absurd (true≢false (ap is_none e))
    turn_asked (Some t) all s e = subst (λ u. MeetsAsksOfStep F T u.kept P) (same_Some t s e) (step_asked F T t.kept all)

    turn_all : (o : Option Stepping) → ((s : Stepping) → o ≡ Some s → MeetsAsksOfStep F T s.kept P) → All P (asks_of_turn F T o)
    turn_all None each = All-nil P
    turn_all (Some s) each = step_all F T s.kept (each s refl)

    abbrev befores : List Ask
    befores = map Ask.Before q.before.now

    abbrev two : List Ask
    two = befores ++ afters

    abbrev three : List Ask
    three = two ++ fitting

    abbrev four : List Ask
    four = three ++ turning

    abbrev five : List Ask
    five = four ++ reaching

    pub asked : All P (asks_of q F T) → MeetsAsks q F T P
    asked all =
        let w5 = left_of P five ruling all in
        let w4 = left_of P four reaching w5 in
        let w3 = left_of P three turning w4 in
        let w2 = left_of P two fitting w3 in
        record {
          before = unmapped P Ask.Before q.before.now (left_of P befores afters w2);
          after = unmapped P Ask.After q.after.now (right_of P befores afters w2);
          fits = λ i below. of_joined P fits_at (names q.situation) i (Ask.Fits i) below (first_there (Ask.Fits i)) (right_of P two fitting w3);
          step = turn_asked (step_of q.situation) (right_of P three turning w4);
          goals = λ n g at. of_joined P (reaches_at (length T.parts) q.goals.now) (length q.goals.now) n (Ask.Reaches (length T.parts + n) g) (slice_get_within q.goals.now n g at)
              (goal_there (length T.parts) q.goals.now n g at) (right_of P four reaching w5);
          lawful = unmapped P Ask.Lawful (rules_of_lawful F) (right_of P five ruling all);
        }

    pub all_asked : MeetsAsks q F T P → All P (asks_of q F T)
    all_asked m =
        All-append P five ruling
        (All-append P four reaching
        (All-append P three turning
        (All-append P two fitting
        (All-append P befores afters (All-map P Ask.Before q.before.now m.before) (All-map P Ask.After q.after.now m.after))
        (joined_all P fits_at (names q.situation) (λ i below. alone P (Ask.Fits i) (m.fits i below))))
        (turn_all (step_of q.situation) m.step))
        (joined_all P (reaches_at (length T.parts) q.goals.now) (length q.goals.now) (λ n below. goal_all (length T.parts) q.goals.now m.goals n)))
        (All-map P Ask.Lawful (rules_of_lawful F) m.lawful)
