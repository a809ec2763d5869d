-- How many runs a worker makes at most: each adds to what its seat knows of settled words and marks.
use Rattle.std.proofs.Common.{◌≡◌, ◌↔◌, ℕ, ◌+◌, ◌*◌, ◌<◌, ◌≤◌, Bool, true, false, List, length, slice_index, sym, ◌∙◌, ap, subst, inl, inr, arith}
use Rattle.std.proofs.lemmas.Bool.{cases_lt, false≢true}
use Rattle.plank_bits.specs.Words.{has, IsWithin, count_below}
use Rattle.plank_bits.proofs.SetLemmas.{member_below, count_below-le}
use Rattle.plank_bits.proofs.RoundLemmas.{count_below-within, count_below-grows}
use Rattle.plank_board.specs.declared.views.View.{View}
use Rattle.plank_board.specs.declared.answers.Posted.{Posted}
use Rattle.plank_board.specs.declared.answers.Posted.TheVariants.{Grown, Known, Settled}
use Rattle.plank_board.specs.Seats.{Seated, Sits}
use Rattle.plank_board.specs.Calls.{StaysSeated, IsPosted}
use Rattle.plank_crew.specs.Turns.{HasLooked, SeesMore, IsBehind}
use Rattle.plank_crew.proofs.Sums.{sum_below, sum_below-le, sum_below-most, sum_below-grows, part_of_sum}

-- as many runs as there are settled words to be told and marks to be seen
abbrev pub most_runs : ℕ → ℕ → ℕ
most_runs methods words = methods * (64 * words + 1) + 64 * words

module _ (methods words : ℕ) where
  -- what a seat knows: its settled words in all, and how many marks it has seen
  abbrev pub known : View → ℕ
  known v = sum_below (slice_index v.noted) methods + count_below (has v.marks) (64 * words)

  pub known_more : (v w : View) → SeesMore methods v w → known v ≤ known w
  known_more v w more =
      omega (arith, sum_below-le (slice_index v.noted) (slice_index w.noted) methods more.noted, count_below-within (has v.marks) (has w.marks) (64 * words) more.marks)

  module _ (forces : ℕ → (ℕ → Bool) → ℕ → Type 0) where
    -- the seat has looked, and made as many runs as it knows of at most; from the second run on its method is behind
    pub record AtTurn (before now : Seated) (found : List ℕ) (count m first steps : ℕ) : Type 0 where
      pub seat : StaysSeated methods words forces before now
      pub looked : HasLooked words found now.view
      pub kept : IsWithin (has before.view.marks) (has now.view.marks)
      pub counted : count ≡ methods
      pub method : m < methods
      pub since : first ≤ steps
      pub runs : steps ≤ first + known now.view
      pub behind : first < steps → IsBehind now.view m

    -- one more run is not one too many
    pub run_in_bound : (before now : Seated) (found : List ℕ) (count m first steps : ℕ) → AtTurn before now found count m first steps → steps < first + most_runs methods words
    run_in_bound before now found count m first steps turn =
        elim (cases_lt first steps) [
          | inl later ↦
              let full = sum_below-grows (slice_index now.view.noted) (λ _. 64 * words + 1) methods m sits.noted turn.method (low later) in
              let most = sum_below-most (λ _. 64 * words + 1) (64 * words + 1) methods (λ _ _. omega arith) in
              omega (arith, full, most, count_below-le (has now.view.marks) (64 * words), turn.runs)
          | inr none ↦ omega (arith, some, none, turn.since)
        ]
      where
        sits : Sits methods words forces now.view
        sits = turn.seat.2

        low : first < steps → slice_index now.view.noted m < 64 * words + 1
        low later = omega (arith, turn.behind later, sits.began, sits.found)

        some : 1 ≤ methods * (64 * words + 1)
        some = omega (arith, part_of_sum (λ _. 64 * words + 1) methods m turn.method, sum_below-most (λ _. 64 * words + 1) (64 * words + 1) methods (λ _ _. omega arith))

    is_settled : Posted → Bool
    is_settled Settled = true
    is_settled Known = false
    is_settled Grown = false

    -- a mark beyond the look is seen after the post, and was not before
    beyond_look : (found look : List ℕ) (v w : View) → Sits methods words forces w → HasLooked words look v → SeesMore methods v w → (IsWithin (has found) (has v.look) → ⊥) → IsWithin (has found) (has w.marks) → known v < known w
    beyond_look found look v w sits looked more beyond seen =
        let size : length w.marks ≡ words = sits.shape.2 in
        let same : v.marks ≡ v.look = sym looked.marks ∙ looked.look in
        let other : IsWithin (has w.marks) (has v.marks) → ⊥ = λ back. beyond (λ k e. subst (λ l. has l k ≡ true) same (back k (seen k e))) in
        omega (arith, sum_below-le (slice_index v.noted) (slice_index w.noted) methods more.noted, count_below-grows (has v.marks) (has w.marks) (64 * words) more.marks (λ k e. subst (λ n. k < 64 * n) size (member_below w.marks k e)) other)

    -- a post adds to what is known, but where its method was settled already
    pub post_tells : (answer : Posted) (m : ℕ) (found look : List ℕ) (v w : View) → Sits methods words forces w → HasLooked words look v → m < methods → SeesMore methods v w → ((answer ≡ Settled) ↔ IsWithin (has found) (has v.look)) → IsPosted answer m found v w → IsWithin (has found) (has w.marks) → (1 ≤ known w) × (IsBehind v m → known v < known w)
    unfolding is_settled
    post_tells Settled m found look v w sits looked below more settled posted seen =
        let part = part_of_sum (slice_index w.noted) methods m below in (
          omega (arith, part, posted.0),
          λ behind.
              omega (arith, sum_below-grows (slice_index v.noted) (slice_index w.noted) methods m more.noted below (omega (arith, behind, posted.0)), count_below-within (has v.marks) (has w.marks) (64 * words) more.marks),
        )
    post_tells Known m found look v w sits looked below more settled posted seen =
        let grown = beyond_look found look v w sits looked more (λ h. false≢true (ap is_settled (settled.1 h))) seen in
        (omega (arith, grown), λ _. grown)
    post_tells Grown m found look v w sits looked below more settled posted seen =
        let grown = beyond_look found look v w sits looked more (λ h. false≢true (ap is_settled (settled.1 h))) seen in
        (omega (arith, grown), λ _. grown)

    -- the next turn, after a post, questions and looks
    pub next_turn : (before now posted later : Seated) (found look after : List ℕ) (answer : Posted) (count m next first steps more : ℕ) → AtTurn before now look count m first steps → more ≡ steps + 1 → StaysSeated methods words forces now posted → SeesMore methods now.view posted.view → ((answer ≡ Settled) ↔ IsWithin (has found) (has now.view.look)) → IsPosted answer m found now.view posted.view → IsWithin (has found) (has posted.view.marks) → StaysSeated methods words forces posted later → SeesMore methods posted.view later.view → (next < methods) × IsBehind later.view next → HasLooked words after later.view → AtTurn before later after count next first more
    next_turn before now posted later found look after answer count m next first steps more turn tick stays grows settled told seen stays_on grows_on behind looked =
        let tells = post_tells answer m found look now.view posted.view stays.2 turn.looked turn.method grows settled told seen in
        let later_known = known_more posted.view later.view grows_on in
        record {
          seat = (stays_on.0 ∙ stays.0 ∙ turn.seat.0, stays_on.1 ∙ stays.1 ∙ turn.seat.1, stays_on.2);
          looked = looked;
          kept = λ k e. grows_on.marks k (grows.marks k (turn.kept k e));
          counted = turn.counted;
          method = behind.0;
          since = omega (arith, turn.since);
          runs = elim (cases_lt first steps) [
            | inl late ↦ omega (arith, tells.1 (turn.behind late), later_known, turn.runs)
            | inr none ↦ omega (arith, tells.0, later_known, none, turn.since)
          ];
          behind = λ _. behind.1;
        }
