-- The facts that are found are just those that each of the pictures shows.
use Rattle.std.specs.Prelude.{◌≡◌, ℕ, ◌*◌, ◌<◌, nat_lt, Bool, true, false, not, ◌&&◌, ◌||◌, List, [], map, length, slice_get, Option, Some, option_map}
use Rattle.std.specs.Option.{option_and_then}
use Rattle.std.proofs.Common.{refl, sym, ◌∙◌, ap, subst, inl, inr, arith}
use Rattle.std.proofs.lemmas.Bool.{cases_Bool, and_parts, and_from, lt-ltb, not-true, true≢false, false≢true}
use Rattle.std.proofs.lemmas.Option.{slice_get-map, slice_get_within}
use Rattle.plank_base.specs.declared.limits.TheConstants.{MARK_WORDS_PER_LOCATION}
use Rattle.plank_prog.specs.declared.headers.Header.{Header}
use Rattle.plank_prog.specs.declared.methods.Method.{Method}
use Rattle.plank_prog.specs.declared.programs.Program.{Program}
use Rattle.plank_prog.proofs.HeaderFacts.{few_flags, few_pointers}
use Rattle.plank_pic.specs.Pictures.{Picture}
use Rattle.plank_pic.specs.Below.{some_below}
use Rattle.plank_fact.specs.declared.facts.Fact.{Fact}
use Rattle.plank_fact.specs.Tables.{facts_of, IsNumbered, fact_at}
use Rattle.plank_fact.specs.OwnSteps.{own_call}
use Rattle.plank_fact.proofs.Counts.{number_within, facts_have_room}
use Rattle.plank_fact.proofs.Limits.{few_variables}
use Rattle.plank_query.specs.declared.goals.Goal.{Goal}
use Rattle.plank_query.specs.declared.predicates.Claim.{Claim}
use Rattle.plank_query.specs.declared.predicates.Speaker.{Speaker}
use Rattle.plank_query.specs.declared.questions.Question.{Question}
use Rattle.plank_query.specs.declared.situations.Situation.{Situation}
use Rattle.plank_query.specs.Situations.{caller, own_caller}
use Rattle.plank_query.specs.Predicates.{AreRight}
use Rattle.plank_query.specs.Goals.{goal_holds}
use Rattle.plank_query.specs.Questions.{IsReached}
use Rattle.plank_past.specs.Answered.{AreReached}
use Rattle.plank_past.proofs.Asking.{no_claims, situated_in, in_situation, right_in, in_right, goal_in, in_goal}
use Rattle.plank_claim.specs.Claims.{listed_below}
use Rattle.plank_method.specs.Deciding.{IsExact}
use Rattle.plank_shown.specs.Numbers.{picked, is_at}
use Rattle.plank_shown.specs.Shown.{shows, Arrives, IsShown, IsOfCall, goal_of, goal_at}
use Rattle.plank_shown.proofs.Lists.{in_listed, spread_at, at_spread}

-- ---- the table

module _ (program : Program) (m : ℕ) (method : Method) (called : slice_get program.methods m ≡ Some method) where
  pub same_table : (n : ℕ) → fact_at program.header program.methods m n ≡ slice_get (facts_of program.header method) n
  same_table n = ap (λ (o : Option Method). option_and_then (λ v. slice_get (facts_of program.header v) n) o) called

  pub room : (n : ℕ) (f : Fact) → IsNumbered program.header method n f → n < 64 * MARK_WORDS_PER_LOCATION
  room n f is =
      let within = number_within program.header method n f is in
      let few = facts_have_room program.header method (few_variables program.header program.methods program.methods_are_lawful m method called) (few_flags program.header program.header_is_lawful) (few_pointers program.header program.header_is_lawful) in
      omega arith

-- ---- one fact

-- what the goal looks for
goal_so : (h : Header) (S : Situation) (p q : Picture) (f : Fact) → goal_holds h S p q (goal_of (Some f)) ≡ not (shows q (caller S Speaker.Own) f)
goal_so h S p q (Fact.Now L) = refl
goal_so h S p q (Fact.Past L) = refl

module _ (q : Question) (h : Header) (S : Situation) (claims : List Claim) (of_header : q.header.now ≡ h) (situation : q.situation ≡ S) (claimed : q.before.now ≡ claims) (none_after : q.after.now ≡ [])
    (m : Method) (of_call : IsOfCall S m) where
  caller_so : caller S Speaker.Own ≡ own_call m
  caller_so = ap own_caller of_call

  looks_for : (p q : Picture) (f : Fact) → goal_holds h S p q (goal_of (Some f)) ≡ not (shows q (own_call m) f)
  looks_for p q f = goal_so h S p q f ∙ ap (λ c. not (shows q c f)) caller_so

  unshown_reached : (f : Fact) (p : Picture) → Arrives h S claims p → shows p (own_call m) f ≡ false → IsReached q (goal_of (Some f))
  unshown_reached f p w fails = record {
    before = w.before;
    after = p;
    meets = record {
      situated = in_situation q h S of_header situation w.before p w.situated;
      right_before = in_right q h S of_header situation w.before q.before.now (subst (λ cs. AreRight h S w.before cs) (sym claimed) w.right);
      right_after = subst (λ cs. AreRight q.header.now q.situation p cs) (sym none_after) (no_claims q.header.now q.situation p);
    };
    holds = in_goal q h S of_header situation w.before p (goal_of (Some f)) (looks_for w.before p f ∙ ap not fails);
  }

  pub unreached_shown : (f : Fact) → (IsReached q (goal_of (Some f)) → ⊥) → IsShown m (Arrives h S claims) f
  unreached_shown f none p w = elim (cases_Bool (shows p (own_call m) f)) [
    | inl holds ↦ holds
    | inr fails ↦ absurd (none (unshown_reached f p w fails))
  ]

  pub shown_unreached : (f : Fact) → IsShown m (Arrives h S claims) f → IsReached q (goal_of (Some f)) → ⊥
  shown_unreached f all r =
      let arrives : Arrives h S claims r.after = record {
        before = r.before;
        situated = situated_in q h S of_header situation r.before r.after r.meets.situated;
        right = subst (λ cs. AreRight h S r.before cs) claimed (right_in q h S of_header situation r.before q.before.now r.meets.right_before);
      } in
      let fails = not-true (shows r.after (own_call m) f) (sym (looks_for r.before r.after f) ∙ goal_in q h S of_header situation r.before r.after (goal_of (Some f)) r.holds) in
      true≢false (sym (all r.after arrives) ∙ fails)

-- ---- all that are wanted

module _ (program : Program) (m : ℕ) (S : Situation) (claims : List Claim) (wanted : ℕ → Bool)
    (q : Question) (of_header : q.header.now ≡ program.header) (situation : q.situation ≡ S) (claimed : q.before.now ≡ claims) (none_after : q.after.now ≡ [])
    (numbers : List ℕ) (numbers_are : numbers ≡ listed_below (picked wanted) (64 * MARK_WORDS_PER_LOCATION))
    (goals_are : q.goals.now ≡ map (goal_at program.header program.methods m) numbers)
    (failing : ℕ → Bool) (answered : AreReached q failing)
    (places : ℕ → Bool) (places_are : (k : ℕ) → places k ≡ (nat_lt k (length numbers) && not (failing k)))
    (none found : ℕ → Bool) (none_is : (k : ℕ) → none k ≡ false)
    (found_is : (k : ℕ) → found k ≡ (none k || some_below (is_at numbers places k) (length numbers)))
    (method : Method) (called : slice_get program.methods m ≡ Some method) (of_call : IsOfCall S method) where
  module _ (n : ℕ) (f : Fact) (is : IsNumbered program.header method n f) where
    goal_there : (i : ℕ) → slice_get numbers i ≡ Some n → slice_get q.goals.now i ≡ Some (goal_of (Some f))
    goal_there i at =
        ap (λ (gs : List Goal). slice_get gs i) goals_are ∙ slice_get-map (goal_at program.header program.methods m) numbers i
        ∙ ap (option_map (goal_at program.header program.methods m)) at ∙ ap (λ (o : Option Fact). Some (goal_of o)) (same_table program m method called n ∙ is)

    found_shown : found n ≡ true → IsShown method (Arrives program.header S claims) f
    found_shown e = elim (at_spread none found places numbers found_is n e) [
      | inl was ↦ absurd (false≢true (sym (none_is n) ∙ was))
      | inr w ↦
          let open_place = not-true (failing w.0) (and_parts (nat_lt w.0 (length numbers)) (not (failing w.0)) (sym (places_are w.0) ∙ w.2)).1 in
          unreached_shown q program.header S claims of_header situation claimed none_after method of_call f
          (λ r. true≢false (sym ((answered.each w.0 (goal_of (Some f)) (goal_there w.0 w.1)).1 r) ∙ open_place))
    ]

    shown_found : wanted n ≡ true → IsShown method (Arrives program.header S claims) f → found n ≡ true
    shown_found wants all =
        let small = room program m method called n f is in
        let w = in_listed wanted (64 * MARK_WORDS_PER_LOCATION) numbers numbers_are n small wants in
        spread_at none found places numbers found_is w.0 n w.1 small (places_are w.0 ∙ and_from (nat_lt w.0 (length numbers)) (not (failing w.0)) (lt-ltb w.0 (length numbers) (slice_get_within numbers w.0 n w.1))
        (elim (cases_Bool (failing w.0)) [
          | inl fails ↦ absurd (shown_unreached q program.header S claims of_header situation claimed none_after method of_call f all ((answered.each w.0 (goal_of (Some f)) (goal_there w.0 w.1)).0 fails))
          | inr no_fails ↦ ap not no_fails
        ]))

  pub shown_exact : IsExact program.header method wanted found (IsShown method (Arrives program.header S claims))
  shown_exact n f is wants = (found_shown n f is, shown_found n f is wants)
