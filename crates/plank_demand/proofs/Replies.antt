-- What the answers to a question say of one of its goals, or of two.
use Rattle.std.specs.Prelude.{◌≡◌, ◌↔◌, ℕ, ◌<◌, Bool, true, List, length, slice_get, Some, Contains}
use Rattle.std.proofs.Common.{sym, ◌∙◌, ap, arith, get_or}
use Rattle.std.proofs.lemmas.Option.{same_Some, slice_get-get_or}
use Rattle.plank_prog.specs.declared.headers.Header.{Header}
use Rattle.plank_query.specs.declared.situations.Situation.{Situation}
use Rattle.plank_query.specs.declared.predicates.Claim.{Claim}
use Rattle.plank_query.specs.declared.goals.Goal.{Goal}
use Rattle.plank_claim.specs.Asked.{AreReached}
use Rattle.plank_demand.specs.Asked.{IsOneReached, AreBothReached}

-- what is read of a list is in it
module _ {A : Type 0} where
  pub read_in : (xs : List A) (i : ℕ) (x : A) → i < length xs → slice_get xs i ≡ Some x → Contains xs x
  read_in xs i x below at = (i, below, same_Some (get_or xs i x) x (sym (slice_get-get_or xs i x below) ∙ at))

  pub in_read : (xs : List A) (x : A) → (w : Contains xs x) → slice_get xs w.0 ≡ Some x
  in_read xs x w = slice_get-get_or xs w.0 x w.1 ∙ ap Some w.2

module _ (h : Header) (S : Situation) (claims : List Claim) (goals : List Goal) (answers : List Bool) (count : length answers ≡ length goals) (are : AreReached h S claims goals answers) where
  true_reached : Contains answers true → IsOneReached h S claims goals
  true_reached w =
      let i = w.0 in
      let below : i < length answers = w.1 in
      let within : i < length goals = omega arith in
      let goal = get_or goals i Goal.Anything in
      let at : slice_get goals i ≡ Some goal = slice_get-get_or goals i Goal.Anything within in
      record { goal = goal; asked = read_in goals i goal within at; reached = (are i goal at).0 (in_read answers true w) }

  reached_true : IsOneReached h S claims goals → Contains answers true
  reached_true w =
      let i = w.asked.0 in
      let within : i < length goals = w.asked.1 in
      let below : i < length answers = omega arith in
      read_in answers i true below ((are i w.goal (in_read goals w.goal w.asked)).1 w.reached)

  pub one_reached : (b : Bool) → (b ≡ true) ↔ Contains answers true → (b ≡ true) ↔ IsOneReached h S claims goals
  one_reached b so = ((λ e. true_reached (so.0 e)), (λ w. so.1 (reached_true w)))

  -- ---- two goals

  pub both_reached : length goals ≡ 2 → (b : Bool) → (b ≡ true) ↔ ((slice_get answers 0 ≡ Some true) × (slice_get answers 1 ≡ Some true)) → (b ≡ true) ↔ AreBothReached h S claims goals
  both_reached two b so =
      let first = get_or goals 0 Goal.Anything in
      let second = get_or goals 1 Goal.Anything in
      let first_at : slice_get goals 0 ≡ Some first = slice_get-get_or goals 0 Goal.Anything (omega (arith, two)) in
      let second_at : slice_get goals 1 ≡ Some second = slice_get-get_or goals 1 Goal.Anything (omega (arith, two)) in (
        (λ e. let w = so.0 e in record {
          first = first;
          second = second;
          first_there = first_at;
          second_there = second_at;
          first_reached = (are 0 first first_at).0 w.0;
          second_reached = (are 1 second second_at).0 w.1;
        }),
        (λ w. so.1 ((are 0 w.first w.first_there).1 w.first_reached, (are 1 w.second w.second_there).1 w.second_reached)),
      )
