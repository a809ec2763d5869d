-- The set that the answers give has just the facts that the site breaks.
use Rattle.std.specs.Prelude.{◌≡◌, ℕ, ◌*◌, ◌<◌, ◌==◌, nat_lt, Bool, true, false, ◌&&◌, List, map, length, slice_get, slice_index_or, Option, Some, None, Contains, if◌then◌else◌, option_map}
use Rattle.std.specs.Option.{option_and_then}
use Rattle.std.proofs.Common.{refl, sym, ◌∙◌, ap, subst, arith, get_or}
use Rattle.std.proofs.lemmas.Bool.{false≢true, eqb-true, eq-eqb, lt-ltb, and_parts, and_from, cond-true}
use Rattle.std.proofs.lemmas.List.{length-map}
use Rattle.std.proofs.lemmas.Option.{same_Some, none-some, slice_get-map, slice_get-get_or}
use Rattle.plank_base.specs.declared.limits.TheConstants.{MARK_WORDS_PER_LOCATION}
use Rattle.plank_prog.specs.declared.methods.Method.{Method}
use Rattle.plank_prog.specs.declared.programs.Program.{Program}
use Rattle.plank_pic.specs.Below.{some_below}
use Rattle.plank_pic.proofs.Below.{some_found, some_there}
use Rattle.plank_pic.specs.declared.literals.Literal.{Literal}
use Rattle.plank_fact.specs.declared.facts.Fact.{Fact}
use Rattle.plank_fact.specs.Tables.{facts_of, IsNumbered, fact_at}
use Rattle.plank_fact.proofs.Counts.{number_within, facts_have_room}
use Rattle.plank_fact.proofs.Limits.{few_variables}
use Rattle.plank_prog.proofs.HeaderFacts.{few_flags, few_pointers}
use Rattle.plank_query.specs.declared.goals.Goal.{Goal}
use Rattle.plank_query.specs.declared.predicates.Claim.{Claim}
use Rattle.plank_query.specs.declared.situations.Situation.{Situation}
use Rattle.plank_claim.specs.Claims.{listed_below}
use Rattle.plank_claim.specs.Asked.{AreReached, IsReachedFrom}
use Rattle.plank_claim.proofs.Added.{below_in, in_below}
use Rattle.plank_method.specs.Deciding.{IsExact}
use Rattle.plank_rely.specs.Candidates.{is_now, is_candidate, candidate, goal_of, goal_at, is_reached}
use Rattle.plank_rely.proofs.Effects.{fails}

-- what it means that the goal of a literal is reached
module _ (program : Program) (m : ℕ) (method : Method) (called : slice_get program.methods m ≡ Some method) (wanted : ℕ → Bool)
    (numbers : List ℕ) (goals : List Goal) (answers : List Bool) (found : ℕ → Bool) (S : Situation) (claims : List Claim)
    (numbers_are : numbers ≡ listed_below (candidate program.header program.methods m wanted) (64 * MARK_WORDS_PER_LOCATION))
    (goals_are : goals ≡ map (goal_at program.header program.methods m) numbers)
    (as_many : length answers ≡ length goals)
    (answers_are : AreReached program.header S claims goals answers)
    (found_is : (k : ℕ) → found k ≡ some_below (is_reached numbers answers k) (length numbers)) where
  same_table : (n : ℕ) → fact_at program.header program.methods m n ≡ slice_get (facts_of program.header method) n
  same_table n = ap (λ (o : Option Method). option_and_then (λ v. slice_get (facts_of program.header v) n) o) called

  room : (n : ℕ) (f : Fact) → IsNumbered program.header method n f → n < 64 * MARK_WORDS_PER_LOCATION
  room n f is =
      let within = number_within program.header method n f is in
      let few = facts_have_room program.header method (few_variables program.header program.methods program.methods_are_lawful m method called) (few_flags program.header program.header_is_lawful) (few_pointers program.header program.header_is_lawful) in
      omega arith

  -- the goal at the place of a number
  goal_there : (i n : ℕ) → slice_get numbers i ≡ Some n → slice_get goals i ≡ Some (goal_at program.header program.methods m n)
  goal_there i n e = ap (λ (gs : List Goal). slice_get gs i) goals_are ∙ slice_get-map (goal_at program.header program.methods m) numbers i ∙ ap (option_map (goal_at program.header program.methods m)) e

  candidate_so : (n : ℕ) → Contains numbers n → is_candidate program.header program.methods m wanted n ≡ true
  candidate_so n w =
      let v = in_below (candidate program.header program.methods m wanted) (64 * MARK_WORDS_PER_LOCATION) n (subst (λ (ns : List ℕ). Contains ns n) numbers_are w) in
      by_test v.0 v.2 (is_candidate program.header program.methods m wanted v.0) refl
    where
      by_test : (i : ℕ) → candidate program.header program.methods m wanted i ≡ Some n → (b : Bool) → is_candidate program.header program.methods m wanted i ≡ b → is_candidate program.header program.methods m wanted n ≡ true
      by_test i e true t =
          subst (λ k. is_candidate program.header program.methods m wanted k ≡ true)
          (same_Some i n (sym (cond-true (is_candidate program.header program.methods m wanted i) (Some i) None t) ∙ e)) t
      by_test i e false t = absurd (none-some n (sym (ap (λ b. if b then Some i else None) t) ∙ e))

  -- what is found is a wanted fact whose goal is reached
  reached_of : (n : ℕ) → found n ≡ true → (is_candidate program.header program.methods m wanted n ≡ true) × IsReachedFrom program.header S claims (goal_at program.header program.methods m n)
  reached_of n e =
      let w = some_found (is_reached numbers answers n) (length numbers) (sym (found_is n) ∙ e) in
      let i = w.0 in
      let below : i < length numbers = w.1 in
      let last = and_parts (slice_index_or answers i false && nat_lt (slice_index_or numbers i 0) (64 * MARK_WORDS_PER_LOCATION)) (n == slice_index_or numbers i 0) w.2 in
      let yes_so = (and_parts (slice_index_or answers i false) (nat_lt (slice_index_or numbers i 0) (64 * MARK_WORDS_PER_LOCATION)) last.0).0 in
      let number : slice_get numbers i ≡ Some n = slice_get-get_or numbers i 0 below ∙ ap Some (sym (eqb-true n (slice_index_or numbers i 0) last.1)) in
      let same_length : length goals ≡ length numbers = ap length goals_are ∙ length-map numbers (goal_at program.header program.methods m) in
      let answered : i < length answers = omega arith in
      let answer : slice_get answers i ≡ Some true = slice_get-get_or answers i false answered ∙ ap Some yes_so in
      (candidate_so n (i, below, same_Some (get_or numbers i n) n (sym (slice_get-get_or numbers i n below) ∙ number)), (answers_are i (goal_at program.header program.methods m n) (goal_there i n number)).0 answer)

  found_of : (n : ℕ) → n < 64 * MARK_WORDS_PER_LOCATION → is_candidate program.header program.methods m wanted n ≡ true → IsReachedFrom program.header S claims (goal_at program.header program.methods m n) → found n ≡ true
  found_of n small is reached =
      let there : Contains numbers n = subst (λ (ns : List ℕ). Contains ns n) (sym numbers_are) (below_in (candidate program.header program.methods m wanted) (64 * MARK_WORDS_PER_LOCATION) n n small (cond-true (is_candidate program.header program.methods m wanted n) (Some n) None is)) in
      let i = there.0 in
      let below : i < length numbers = there.1 in
      let number : slice_get numbers i ≡ Some n = slice_get-get_or numbers i n below ∙ ap Some there.2 in
      let same_length : length goals ≡ length numbers = ap length goals_are ∙ length-map numbers (goal_at program.header program.methods m) in
      let answered : i < length answers = omega arith in
      let answer : slice_get answers i ≡ Some true = (answers_are i (goal_at program.header program.methods m n) (goal_there i n number)).1 reached in
      let said : slice_index_or answers i false ≡ true = same_Some (slice_index_or answers i false) true (sym (slice_get-get_or answers i false answered) ∙ answer) in
      let its : slice_index_or numbers i 0 ≡ n = same_Some (slice_index_or numbers i 0) n (sym (slice_get-get_or numbers i 0 below) ∙ number) in
      found_is n ∙ some_there (is_reached numbers answers n) (length numbers) i below
      (and_from (slice_index_or answers i false && nat_lt (slice_index_or numbers i 0) (64 * MARK_WORDS_PER_LOCATION)) (n == slice_index_or numbers i 0)
      (and_from (slice_index_or answers i false) (nat_lt (slice_index_or numbers i 0) (64 * MARK_WORDS_PER_LOCATION)) said (subst (λ k. nat_lt k (64 * MARK_WORDS_PER_LOCATION) ≡ true) (sym its) (lt-ltb n (64 * MARK_WORDS_PER_LOCATION) small)))
      (eq-eqb n (slice_index_or numbers i 0) (sym its)))

  -- a set of facts that are reached
  pub reached_exact : (IsSo : Literal → Type 0) → ((L : Literal) → IsReachedFrom program.header S claims (fails L) → IsSo L) → ((L : Literal) → IsSo L → IsReachedFrom program.header S claims (fails L))
      → IsExact program.header method wanted found (λ f. (L : Literal) × (f ≡ Fact.Now L) × IsSo L)
  reached_exact IsSo to from n f is w = (
    λ e. forward f is e,
    λ v. backward v.0 (subst (λ g. IsNumbered program.header method n g) v.1 is) v.2,
  )
    where
      forward : (g : Fact) → IsNumbered program.header method n g → found n ≡ true → (L : Literal) × (g ≡ Fact.Now L) × IsSo L
      forward (Fact.Now L) at e = (L, refl, to L (subst (λ o. IsReachedFrom program.header S claims (goal_of o)) (same_table n ∙ at) (reached_of n e).1))
      forward (Fact.Past L) at e =
          let both = and_parts (wanted n) (is_now (fact_at program.header program.methods m n)) (reached_of n e).0 in
          absurd (false≢true (sym (ap is_now (same_table n ∙ at)) ∙ both.1))

      backward : (L : Literal) → IsNumbered program.header method n (Fact.Now L) → IsSo L → found n ≡ true
      backward L at so =
          found_of n (room n (Fact.Now L) at) (and_from (wanted n) (is_now (fact_at program.header program.methods m n)) w (ap is_now (same_table n ∙ at)))
          (subst (λ o. IsReachedFrom program.header S claims (goal_of o)) (sym (same_table n ∙ at)) (from L so))
