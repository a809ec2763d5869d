-- Rounds of a search: what is found is reached, and what is not found is not.
use Rattle.std.proofs.Common.{◌≡◌, ◌⊎◌, ℕ, zero, suc, ◌+◌, ◌<◌, ◌≤◌, ◌==◌, Bool, true, false, not, List, [], ◌∷◌, map, length, replicate, Option, Some, None, refl, sym, ◌∙◌, ap, ap₂, subst, inl, inr, arith}
use Rattle.std.specs.Prelude.{◌&&◌, ◌||◌, Result, slice_get, slice_index_or}
use Rattle.std.specs.Option.{option_map_or}
use Rattle.std.specs.List.{All, Contains, list_any, list_all}
use Rattle.std.proofs.lemmas.Bool.{and_parts, and_from, true≢false, false≢true, or_cases, or_left, or_right, cases_lt, cond-true, cond-false, eq-eqb, eqb-true, ne_eqb}
use Rattle.std.proofs.lemmas.Option.{none-some, same_Some, slice_get_within, slice_get_cases, slice_get-get_or, slice_get_past}
use Rattle.std.proofs.lemmas.List.{length-replicate, get_or-replicate, get_or_past}
use Rattle.std.proofs.lemmas.List.Elements.{All-from_get_or, All-get_or, All-head, All-tail}
use Rattle.plank_bits.specs.Words.{IsWithin}
use Rattle.plank_bits.proofs.RoundLemmas.{count_below-grows}
use Rattle.plank_search.specs.Assignments.{value_at, Agrees, full_of, NoneAgrees}
use Rattle.plank_search.specs.declared.clauses.Literal.{Literal}
use Rattle.plank_search.specs.Meanings.{MeetsRules, Meets}
use Rattle.plank_search.specs.Answers.{IsSolution, MeetsClaims, MeetsWithGoal}
use Rattle.plank_walk.specs.Settles as walk
use Rattle.plank_walk.specs.Settles.{Settles}
use Rattle.plank_pic.specs.declared.parts.Part.{Part}
use Rattle.plank_pic.specs.Frames.{Frame}
use Rattle.plank_pic.specs.Pictures.{Picture}
use Rattle.plank_pic.specs.Lawful.{part_fits}
use Rattle.plank_lawful.specs.Lists.{joined, rules_of_possible}
use Rattle.plank_lawful.specs.Rules.{rule_holds}
use Rattle.plank_lawful.specs.Laws.{SaysNoOutside}
use Rattle.plank_lawful.proofs.Joined.{joined_there, joined_from}
use Rattle.plank_lawful.proofs.LawfulMeets.{possible_meets}
use Rattle.plank_lawful.proofs.Listed.{possible_all, possible_listed}
use Rattle.plank_lawful.proofs.MeetsLawful.{meets_possible}
use Rattle.plank_close.specs.Clauses.{Shows}
use Rattle.plank_parts.specs.declared.sides.Side.{Side}
use Rattle.plank_parts.specs.Numbers.{Numbers, Table, number, is_moved, picture_of, assignment, IsNumbering, IsAssignment}
use Rattle.plank_query.specs.declared.goals.Goal.{Goal}
use Rattle.plank_query.specs.declared.situations.Situation.{Situation}
use Rattle.plank_query.specs.declared.questions.Question.{Question}
use Rattle.plank_query.specs.Situations.{names, root, frame}
use Rattle.plank_query.specs.Goals.{goal_holds, writes_so}
use Rattle.plank_query.specs.Questions as questions
use Rattle.plank_query.specs.Questions.{IsReached, AreAnswers}
use Rattle.plank_reach.specs.Steps.{step_of}
use Rattle.plank_reach.specs.Kept.{is_kept_by}
use Rattle.plank_reach.proofs.Moving.{settles_as}
use Rattle.plank_solve.specs.declared.asks.Ask.{Ask}
use Rattle.plank_solve.specs.declared.ruling.Ruling.{Ruling}
use Rattle.plank_solve.specs.Asks.{ask_holds, goal_of}
use Rattle.plank_solve.specs.Lists.{asks_of, MeetsAsks}
use Rattle.plank_solve.specs.Pictured.{holds_under, is_possible_by, shows_pictures}
use Rattle.plank_solve.specs.Rulings.{ruled_by, ruled, IsAskedOf, IsRulingOf, IsWhole, was_reached, is_reached_under, reached_now, is_left_out, open_at, open_numbers, IsMore, NoMore, AreSound}
use Rattle.plank_solve.proofs.Joins.{singles_count, singles_get}
use Rattle.plank_solve.proofs.Listing.{asked, all_asked}
use Rattle.plank_solve.proofs.Exact.{IsTableOf, Agree, to_meets, goal_told, agree_so, possible_so, from_meets}

-- ---- what is known of values

-- an assignment that agrees with values agrees with what is known of them
pub known_agrees : (values : List (Option Bool)) (full : ℕ → Bool) → Agrees values full → walk.Agrees (value_at values) full
known_agrees values full a = record { decided = a.decided }

value_found : (found : List Bool) (n : ℕ) → value_at (map Some found) n ≡ Some (full_of found n)
value_found [] n = refl
value_found (b ∷ bs) zero = refl
value_found (b ∷ bs) (suc n) = value_found bs n

pub found_whole : (values : List (Option Bool)) (found : List Bool) → values ≡ map Some found → IsWhole values
found_whole values found is = record {
  none_open = λ n none. none-some (full_of found n) (sym none ∙ ap (λ vs. value_at vs n) is ∙ value_found found n);
}

pub found_agrees : (values : List (Option Bool)) (found : List Bool) → values ≡ map Some found → Agrees values (full_of found)
found_agrees values found is = record {
  decided = λ n b e. same_Some (full_of found n) b (sym (ap (λ vs. value_at vs n) is ∙ value_found found n) ∙ e);
}

-- ---- the frame

pub framed_by : (F : Frame) (S : Situation) → F.names ≡ names S → F.root ≡ root S → F ≡ frame F.header S
framed_by F S same_names same_root = ap₂ (λ n r. (let f : Frame = record { header = F.header; names = n; root = r } in f)) same_names same_root

-- a goal on writes, in the frame of the situation
pub goal_settles : (F : Frame) (S : Situation) (B A : (ℕ → Bool) → Picture) (known : ℕ → Option Bool) (r : Result Bool ℕ) (g h : Goal) → F ≡ frame F.header S → g ≡ h
    → ((full : ℕ → Bool) → goal_holds F.header S (B full) (A full) h ≡ writes_so S (goal_of (frame F.header S) h (B full) (A full)))
    → Settles (λ full. writes_so S (goal_of F g (B full) (A full))) known r → Settles (λ full. goal_holds F.header S (B full) (A full) g) known r
goal_settles F S B A known r g h framed e same is =
    subst (λ (x : Goal). Settles (λ full. goal_holds F.header S (B full) (A full) x) known r) (sym e)
    (settles_as (λ full. writes_so S (goal_of (frame F.header S) h (B full) (A full))) (λ full. goal_holds F.header S (B full) (A full) h) known r (λ full agrees. same full)
    (subst (λ D. Settles (λ full. writes_so S (goal_of D h (B full) (A full))) known r) framed
    (subst (λ (x : Goal). Settles (λ full. writes_so S (goal_of F x (B full) (A full))) known r) e is)))

-- ---- lists of numbers

any_there : (f : ℕ → Bool) (xs : List ℕ) (x : ℕ) → Contains xs x → f x ≡ true → list_any f xs ≡ true
any_there f xs x has is = by_index xs has.0 has.1 has.2
  where
    by_index : (xs : List ℕ) (k : ℕ) → k < length xs → slice_index_or xs k x ≡ x → list_any f xs ≡ true
    by_index [] k below e = absurd (omega (arith, below))
    by_index (y ∷ ys) zero below e = or_left (f y) (list_any f ys) (ap f e ∙ is)
    by_index (y ∷ ys) (suc k) below e = or_right (f y) (list_any f ys) (by_index ys k (omega (arith, below)) e)

any_from : (f : ℕ → Bool) (xs : List ℕ) → list_any f xs ≡ true → (x : ℕ) × Contains xs x × (f x ≡ true)
any_from f [] e = absurd (false≢true e)
any_from f (y ∷ ys) e = elim (or_cases (f y) (list_any f ys) e) [
  | inl here ↦ (y, (0, omega arith, refl), here)
  | inr there ↦ (let w = any_from f ys there in (w.0, (suc w.1.0, (let below = w.1.1 in omega (arith, below)), w.1.2), w.2))
]

-- what is left out is marked with no
left_at : (reached : List Bool) (n : ℕ) → is_left_out reached n ≡ true → slice_get reached n ≡ Some false
left_at reached n e = by_option (slice_get reached n) e
  where
    by_option : (o : Option Bool) → option_map_or not o false ≡ true → o ≡ Some false
    by_option None e = absurd (false≢true e)
    by_option (Some true) e = absurd (false≢true e)
    by_option (Some false) e = refl

was_at : (reached : List Bool) (n : ℕ) → was_reached reached n ≡ true → slice_get reached n ≡ Some true
was_at reached n e = by_option (slice_get reached n) e
  where
    by_option : (o : Option Bool) → option_map_or (λ b. b) o false ≡ true → o ≡ Some true
    by_option None e = absurd (false≢true e)
    by_option (Some true) e = refl
    by_option (Some false) e = absurd (false≢true e)

not_was : (reached : List Bool) (n : ℕ) → n < length reached → was_reached reached n ≡ false → is_left_out reached n ≡ true
not_was reached n below e = elim (slice_get_cases reached n).1 [
  | inl w ↦ ap (λ o. option_map_or not o false) w.2 ∙ ap not (sym (ap (λ o. option_map_or (λ b. b) o false) w.2) ∙ e)
  | inr w ↦ (let past = w.0 in absurd (omega (arith, past, below)))
]

or_first : (a b : Bool) → (a || b) ≡ false → a ≡ false
or_first true b e = e
or_first false b e = refl

open_there : (first : ℕ) (reached : List Bool) (n : ℕ) → slice_get reached n ≡ Some false → Contains (open_numbers first reached) (first + n)
open_there first reached n out =
    joined_there (open_at first reached) (length reached) n (first + n) (slice_get_within reached n false out)
    (subst (λ xs. Contains xs (first + n)) (sym (cond-true (is_left_out reached n) ((first + n) ∷ []) [] (ap (λ o. option_map_or not o false) out))) (0, omega arith, refl))

-- a number of the list is of one that is left out
open_from : (first : ℕ) (reached : List Bool) (x : ℕ) → Contains (open_numbers first reached) x → (n : ℕ) × (n < length reached) × (x ≡ first + n) × (is_left_out reached n ≡ true)
open_from first reached x has =
    let w = joined_from (open_at first reached) (length reached) x has in
    by_test w.0 w.1 (is_left_out reached w.0) refl w.2
  where
    by_test : (n : ℕ) → n < length reached → (b : Bool) → is_left_out reached n ≡ b → Contains (open_at first reached n) x → (n : ℕ) × (n < length reached) × (x ≡ first + n) × (is_left_out reached n ≡ true)
    by_test n below true e here = (n, below, one_there (subst (λ xs. Contains xs x) (cond-true (is_left_out reached n) ((first + n) ∷ []) [] e) here), e)
      where
        one_there : Contains ((first + n) ∷ []) x → x ≡ first + n
        one_there c = at_index c.0 c.1 c.2
          where
            at_index : (k : ℕ) → k < length ((first + n) ∷ []) → slice_index_or ((first + n) ∷ []) k x ≡ x → x ≡ first + n
            at_index zero lt e = sym e
            at_index (suc k) lt e = absurd (omega (arith, lt))
    by_test n below false e here =
        let none = (subst (λ xs. Contains xs x) (cond-false (is_left_out reached n) ((first + n) ∷ []) [] e) here) in
        let lt = none.1 in absurd (omega (arith, lt))

-- ---- what meets the rules of a question, and what is left open

-- ---- a test of each item

all_from : {X : Type 0} (f : X → Bool) (xs : List X) → All (λ x. f x ≡ true) xs → list_all f xs ≡ true
all_from f [] all = refl
all_from f (x ∷ xs) all = and_from (f x) (list_all f xs) (All-head (λ x. f x ≡ true) x xs all) (all_from f xs (All-tail (λ x. f x ≡ true) x xs all))

list_all_at : {X : Type 0} (f : X → Bool) (xs : List X) (k : ℕ) (d : X) → k < length xs → list_all f xs ≡ true → f (slice_index_or xs k d) ≡ true
list_all_at f [] k d below all = absurd (omega (arith, below))
list_all_at f (x ∷ xs) zero d below all = (and_parts (f x) (list_all f xs) all).0
list_all_at f (x ∷ xs) (suc k) d below all = list_all_at f xs k d (omega (arith, below)) (and_parts (f x) (list_all f xs) all).1

pub all_of : {X : Type 0} (f : X → Bool) (xs : List X) → list_all f xs ≡ true → All (λ x. f x ≡ true) xs
all_of f xs all k d below = list_all_at f xs k d below all

module _ (q : Question) (N : Numbers) (W : Situation) (asks : List Ask) (is : IsAskedOf q N W asks) where
  abbrev T : Table
  T = N.table

  abbrev F : Frame
  F = frame q.header.now q.situation

  abbrev before : (ℕ → Bool) → Picture
  before = picture_of N Side.Before

  abbrev after : (ℕ → Bool) → Picture
  after = picture_of N Side.After

  abbrev Ruled : (ℕ → Bool) → Type 0
  Ruled = MeetsRules (ruled_by N W asks) (length asks)

  tables : IsTableOf q T
  tables = subst (λ D. (part : Part) → part_fits D part ≡ true → is_moved T part ≡ not (is_kept_by (step_of q.situation) part)) is.framed is.moved

  numbering : IsNumbering F T
  numbering = subst (λ D. IsNumbering D T) is.framed is.numbered

  says_no : (side : Side) (full : ℕ → Bool) → SaysNoOutside F (picture_of N side full)
  says_no side full part out = ap (λ b. b && full (number T side part)) (ap (λ D. part_fits D part) is.framed ∙ out)

  agree : (full : ℕ → Bool) → Agree q T (before full) (after full)
  agree full part fits unmoved = ap (λ n. part_fits N.frame part && full n) (same_number (number T Side.After part == number T Side.Before part) refl)
    where
      same_number : (b : Bool) → (number T Side.After part == number T Side.Before part) ≡ b → number T Side.After part ≡ number T Side.Before part
      same_number true e = eqb-true _ _ e
      same_number false e = absurd (true≢false (sym (ap not e) ∙ unmoved))

  -- the asks under an assignment, in the question's words
  Told : (ℕ → Bool) → Picture → Picture → Ask → Type 0
  Told full B A a = ask_holds F q.situation B A full a ≡ true

  holds_so : (full : ℕ → Bool) (a : Ask) → holds_under N W full a ≡ ask_holds F q.situation (before full) (after full) full a
  holds_so full a = ap₂ (λ D s. ask_holds D s (before full) (after full) full a) is.framed is.situation

  ask_told : (full : ℕ → Bool) → Ruled full → MeetsAsks q F T (λ a. ask_holds F q.situation (before full) (after full) full a ≡ true)
  ask_told full rules =
      asked (λ a. ask_holds F q.situation (before full) (after full) full a ≡ true) q F T
      (subst (All (λ a. ask_holds F q.situation (before full) (after full) full a ≡ true)) (is.listed ∙ ap (λ D. asks_of q D T) is.framed)
      (All-from_get_or (λ a. ask_holds F q.situation (before full) (after full) full a ≡ true) asks Ask.Runs
      (λ c below. sym (holds_so full (slice_index_or asks c Ask.Runs)) ∙ rules.each c below)))

  told_ruled : (full : ℕ → Bool) → MeetsAsks q F T (λ a. ask_holds F q.situation (before full) (after full) full a ≡ true) → Ruled full
  told_ruled full told = record {
    each = λ c below. holds_so full (slice_index_or asks c Ask.Runs)
        ∙ All-get_or (λ a. ask_holds F q.situation (before full) (after full) full a ≡ true) asks c Ask.Runs below
        (subst (All (λ a. ask_holds F q.situation (before full) (after full) full a ≡ true)) (sym (is.listed ∙ ap (λ D. asks_of q D T) is.framed))
        (all_asked (λ a. ask_holds F q.situation (before full) (after full) full a ≡ true) q F T told));
  }

  pub question_met : (full : ℕ → Bool) → Ruled full → questions.Meets q (before full) (after full)
  question_met full rules = to_meets q T tables (before full) (after full) full numbering (says_no Side.Before full) (says_no Side.After full) (agree full) (ask_told full rules)

  goal_met : (full : ℕ → Bool) → Ruled full → (n : ℕ) (g : Goal) → slice_get q.goals.now n ≡ Some g → full (length T.parts + n) ≡ true → goal_holds q.header.now q.situation (before full) (after full) g ≡ true
  goal_met full rules = goal_told q T tables (before full) (after full) full numbering (says_no Side.Before full) (says_no Side.After full) (agree full) (ask_told full rules)

  goal_so : (full : ℕ → Bool) (g : Goal) → goal_holds N.frame.header W (before full) (after full) g ≡ goal_holds q.header.now q.situation (before full) (after full) g
  goal_so full g = ap₂ (λ h s. goal_holds h s (before full) (after full) g) (ap (λ (D : Frame). D.header) is.framed) is.situation

  -- both pictures are possible
  pub both_possible : (full : ℕ → Bool) → list_all (holds_under N W full) asks ≡ true → shows_pictures N full ≡ true
  both_possible full all =
      let rules : Ruled full = record { each = λ c below. list_all_at (holds_under N W full) asks c Ask.Runs below all } in
      let met = question_met full rules in
      subst (λ D. (is_possible_by D (before full) && is_possible_by D (after full)) ≡ true) (sym is.framed)
      (and_from _ _ (all_from (λ rule. rule_holds F rule (before full)) (rules_of_possible F) (possible_all F (before full) (possible_meets F (before full) met.situated.lawful.possible)))
      (all_from (λ rule. rule_holds F rule (after full)) (rules_of_possible F) (possible_all F (after full) (possible_meets F (after full) (possible_so q T tables (before full) (after full) full met)))))

  -- ---- what reaches a goal is found

  abbrev first : ℕ
  first = length T.parts

  abbrev total : ℕ
  total = first + length q.goals.now

  abbrev switch : ℕ → ℕ → Bool
  switch n m = m == first + n

  module _ (n : ℕ) (g : Goal) (at : slice_get q.goals.now n ≡ Some g) (w : IsReached q g) where
    abbrev full : ℕ → Bool
    full = assignment T w.before w.after (switch n)

    is_full : IsAssignment N w.before w.after (switch n)
    is_full = is.assigned w.before w.after (switch n)
        (λ part out. w.meets.situated.lawful.possible.picture.fits part (sym (ap (λ D. part_fits D part) is.framed) ∙ out))
        (λ part out. (possible_so q T tables w.before w.after (switch n) w.meets).picture.fits part (sym (ap (λ D. part_fits D part) is.framed) ∙ out))
        (λ part fits unmoved. agree_so q T tables w.before w.after (switch n) w.meets part (sym (ap (λ D. part_fits D part) is.framed) ∙ fits) unmoved)

    past_parts : (m : ℕ) → full (first + m) ≡ switch n (first + m)
    past_parts m = is_full.more_values (first + m) (omega arith)

    -- the goal that is switched on is this one
    switched : (m : ℕ) (k : Goal) → slice_get q.goals.now m ≡ Some k → full (first + m) ≡ true → goal_holds q.header.now q.situation w.before w.after k ≡ true
    switched m k there on =
        let same : first + m ≡ first + n = eqb-true (first + m) (first + n) (sym (past_parts m) ∙ on) in
        let index : m ≡ n = omega (arith, same) in
        subst (λ (x : Goal). goal_holds q.header.now q.situation w.before w.after x ≡ true) (same_Some g k (sym at ∙ ap (slice_get q.goals.now) (sym index) ∙ there)) w.holds

    told : MeetsAsks q F T (λ a. ask_holds F q.situation (before full) (after full) full a ≡ true)
    told = subst (λ p. MeetsAsks q F T (λ a. ask_holds F q.situation p (after full) full a ≡ true)) (sym is_full.before)
        (subst (λ p. MeetsAsks q F T (λ a. ask_holds F q.situation w.before p full a ≡ true)) (sym is_full.after)
        (from_meets q T tables w.before w.after full w.meets switched))

    rules : Ruled full
    rules = told_ruled full told

    on : full (first + n) ≡ true
    on = past_parts n ∙ eq-eqb (first + n) (first + n) refl

    off : (m : ℕ) → total ≤ m → full m ≡ false
    off m past = is_full.more_values m (omega (arith, past)) ∙ ne_eqb m (first + n) (λ e. let below = slice_get_within q.goals.now n g at in absurd (omega (arith, e, past, below)))

    agrees : Agrees (replicate total None) full
    agrees = record { decided = λ m b e. by_place m b e (cases_lt m total) }
      where
        by_place : (m : ℕ) (b : Bool) → value_at (replicate total None) m ≡ Some b → (m < total) ⊎ (total ≤ m) → full m ≡ b
        by_place m b e (inl below) = absurd (none-some b (sym (get_or-replicate total m None (Some false) below) ∙ e))
        by_place m b e (inr past) =
            let long = length-replicate total (let none : Option Bool = None in none) in
            off m past ∙ same_Some false b (sym (get_or_past (replicate total None) m (Some false) (omega (arith, past, long))) ∙ e)

  pub no_more : (reached : List Bool) → NoneAgrees (MeetsWithGoal (MeetsClaims (Meets (ruled_by N W asks) (length asks) []) []) (open_numbers first reached)) (replicate total None) → NoMore q reached
  no_more reached none n g at out w =
      none.contradicts (full n g at w) (record {
        system = record { system = record { by_rules = rules n g at w; by_clauses = record { each = λ c below. absurd (omega (arith, below)) } }; claimed = refl };
        goal = any_there (full n g at w) (open_numbers first reached) (first + n) (open_there first reached n out) (on n g at w);
      }) (agrees n g at w)

  -- ---- what is found is reached

  module _ (reached now found : List Bool) (count : length reached ≡ length q.goals.now)
      (meets : MeetsWithGoal (MeetsClaims (Meets (ruled_by N W asks) (length asks) []) []) (open_numbers first reached) (full_of found))
      (now_is : now ≡ joined (reached_now N W (full_of found) q.goals.now reached) (length reached)) where
    item : ℕ → Bool
    item n = was_reached reached n || is_reached_under N W (full_of found) q.goals.now n

    now_at : (n : ℕ) → n < length reached → slice_get now n ≡ Some (was_reached reached n || is_reached_under N W (full_of found) q.goals.now n)
    now_at n below = ap (λ xs. slice_get xs n) now_is ∙ singles_get (λ n. was_reached reached n || is_reached_under N W (full_of found) q.goals.now n) (length reached) n below

    now_count : length now ≡ length reached
    now_count = ap length now_is ∙ singles_count (λ n. was_reached reached n || is_reached_under N W (full_of found) q.goals.now n) (length reached)

    left_now : (n : ℕ) → is_left_out now n ≡ true → is_left_out reached n ≡ true
    left_now n out =
        let at = left_at now n out in
        let below : n < length reached = subst (λ m. n < m) now_count (slice_get_within now n false at) in
        let no = same_Some _ false (sym (now_at n below) ∙ at) in
        not_was reached n below (or_first (was_reached reached n) (is_reached_under N W (full_of found) q.goals.now n) no)

    left_below : (n : ℕ) → is_left_out reached n ≡ true → n < length reached
    left_below n out = slice_get_within reached n false (left_at reached n out)

    reached_there : (n : ℕ) → n < length reached → full_of found (first + n) ≡ true → is_left_out now n ≡ false
    reached_there n below on =
        elim (slice_get_cases q.goals.now n).1 [
          | inl w ↦
              ap (λ o. option_map_or not o false) (now_at n below)
              ∙ ap not (or_right (was_reached reached n) _ (ap (λ o. option_map_or (goal_holds N.frame.header W (before (full_of found)) (after (full_of found))) o false) w.2
              ∙ goal_so (full_of found) w.0 ∙ goal_met (full_of found) meets.system.system.by_rules n w.0 w.2 on))
          | inr w ↦ (let past = w.0 in absurd (omega (arith, past, below, count)))
        ]

    some_less : IsWithin (is_left_out reached) (is_left_out now) → ⊥
    some_less within =
        let w = any_from (full_of found) (open_numbers first reached) meets.goal in
        let v = open_from first reached w.0 w.1 in
        false≢true (sym (reached_there v.0 v.1 (subst (λ m. full_of found m ≡ true) v.2 w.2)) ∙ within v.0 v.3)

    sound : (n : ℕ) (g : Goal) → slice_get q.goals.now n ≡ Some g → slice_get now n ≡ Some true → (slice_get reached n ≡ Some true) ⊎ IsReached q g
    sound n g at there =
        let below : n < length reached = subst (λ m. n < m) now_count (slice_get_within now n true there) in
        elim (or_cases (was_reached reached n) (is_reached_under N W (full_of found) q.goals.now n) (same_Some _ true (sym (now_at n below) ∙ there))) [
          | inl was ↦ inl (was_at reached n was)
          | inr is_now ↦ inr (record {
            before = before (full_of found);
            after = after (full_of found);
            meets = question_met (full_of found) meets.system.system.by_rules;
            holds = sym (goal_so (full_of found) g)
                ∙ sym (ap (λ o. option_map_or (goal_holds N.frame.header W (before (full_of found)) (after (full_of found))) o false) at) ∙ is_now;
          })
        ]

    pub is_more : IsMore q reached now
    is_more = record {
      same_length = now_count;
      fewer = count_below-grows (is_left_out now) (is_left_out reached) (length reached) left_now left_below some_less;
      sound = sound;
    }

-- ---- the same of a session that asks these rules

module _ (q : Question) (r : Ruling) (is : IsRulingOf q r) where
  abbrev parts_count : ℕ
  parts_count = length r.numbering.now.table.parts

  module _ (reached : List Bool) (rules : Ruling) (clauses : List (List Literal)) (given : List (Option Bool)) (left : List ℕ)
      (same_rules : rules ≡ r) (no_clauses : clauses ≡ []) (all_open : given ≡ replicate (parts_count + length q.goals.now) None) (left_is : left ≡ open_numbers parts_count reached) where
    abbrev Asked : Ruling → List (List Literal) → List ℕ → (ℕ → Bool) → Type 0
    Asked R cs xs = MeetsWithGoal (MeetsClaims (Meets (ruled R) (length R.asks.now) cs) []) xs

    pub no_more_left : NoneAgrees (Asked rules clauses left) given → NoMore q reached
    no_more_left none =
        no_more q r.numbering.now r.situation r.asks.now is reached (subst (λ gs. NoneAgrees (Asked r [] (open_numbers parts_count reached)) gs) all_open
        (subst (λ xs. NoneAgrees (Asked r [] xs) given) left_is
        (subst (λ cs. NoneAgrees (Asked r cs left) given) no_clauses
        (subst (λ R. NoneAgrees (Asked R clauses left) given) same_rules none))))

    pub more_found : (now found : List Bool) → length reached ≡ length q.goals.now → IsSolution (Asked rules clauses left) given found
        → now ≡ joined (reached_now r.numbering.now r.situation (full_of found) q.goals.now reached) (length reached) → IsMore q reached now
    more_found now found count solution now_is =
        is_more q r.numbering.now r.situation r.asks.now is reached now found count
        (subst (λ xs. Asked r [] xs (full_of found)) left_is
        (subst (λ cs. Asked r cs left (full_of found)) no_clauses
        (subst (λ R. Asked R clauses left (full_of found)) same_rules solution.meets_all))) now_is

-- ---- round after round

pub none_sound : (q : Question) (n : ℕ) (reached : List Bool) → reached ≡ replicate n false → AreSound q reached
none_sound q n reached is i g at there = absurd (by_place (cases_lt i n))
  where
    by_place : (i < n) ⊎ (n ≤ i) → ⊥
    by_place (inl below) =
        let count = length-replicate n false in
        false≢true (same_Some false true (sym (slice_get-get_or (replicate n false) i false (omega (arith, below, count)) ∙ ap Some (get_or-replicate n i false false below)) ∙ sym (ap (λ xs. slice_get xs i) is) ∙ there))
    by_place (inr past) =
        let count = length-replicate n false in
        none-some true (sym (slice_get_past (replicate n false) i (omega (arith, past, count))) ∙ sym (ap (λ xs. slice_get xs i) is) ∙ there)

pub more_sound : (q : Question) (reached more : List Bool) → IsMore q reached more → AreSound q reached → AreSound q more
more_sound q reached more m sound n g at there = elim (m.sound n g at there) [ inl was ↦ sound n g at was | inr is ↦ is ]

pub are_answers : (q : Question) (reached : List Bool) → length reached ≡ length q.goals.now → AreSound q reached → NoMore q reached → AreAnswers q reached
are_answers q reached count sound none n g at = (sound n g at, there)
  where
    there : IsReached q g → slice_get reached n ≡ Some true
    there w = elim (slice_get_cases reached n).1 [
      | inl v ↦ by_bit v.0 v.2
      | inr v ↦ (let past = v.0 in let below = slice_get_within q.goals.now n g at in absurd (omega (arith, past, below, count)))
    ]
      where
        by_bit : (b : Bool) → slice_get reached n ≡ Some b → slice_get reached n ≡ Some true
        by_bit true e = e
        by_bit false e = absurd (none n g at e w)

-- ---- what follows in a picture follows where all that is asked is met

module _ (r : Ruling) (full : ℕ → Bool) (rules : MeetsRules (ruled r) (length r.asks.now) full) where
  abbrev M : Numbers
  M = r.numbering.now

  possible : shows_pictures M full ≡ true
  possible = r.pictures full (all_from (holds_under M r.situation full) r.asks.now (All-from_get_or (λ a. holds_under M r.situation full a ≡ true) r.asks.now Ask.Runs rules.each))

  no_outside : (side : Side) → SaysNoOutside M.frame (picture_of M side full)
  no_outside side part out = ap (λ b. b && full (number M.table side part)) out

  shown : (side : Side) → is_possible_by M.frame (picture_of M side full) ≡ true → Shows M side full
  shown side is = (meets_possible M.frame (picture_of M side full) (no_outside side) (possible_listed M.frame (picture_of M side full) (all_of (λ rule. rule_holds M.frame rule (picture_of M side full)) (rules_of_possible M.frame) is))).picture

  pub both_shown : (side : Side) → Shows M side full
  both_shown Side.Before = shown Side.Before (and_parts (is_possible_by M.frame (picture_of M Side.Before full)) (is_possible_by M.frame (picture_of M Side.After full)) possible).0
  both_shown Side.After = shown Side.After (and_parts (is_possible_by M.frame (picture_of M Side.Before full)) (is_possible_by M.frame (picture_of M Side.After full)) possible).1
