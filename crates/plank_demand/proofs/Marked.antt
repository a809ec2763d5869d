-- A fact of the table is marked where it is not claimed.
use Rattle.std.specs.Prelude.{◌≡◌, ◌↔◌, ℕ, ◌<◌, ◌≤◌, ◌+◌, length, Bool, true, false, not, List, slice_get, Option, Some}
use Rattle.std.specs.Option.{option_and_then}
use Rattle.std.proofs.Common.{refl, sym, ◌∙◌, ap, subst, inl, inr, arith}
use Rattle.std.proofs.lemmas.Bool.{false≢true, cases_eq}
use Rattle.std.proofs.lemmas.Option.{same_Some, slice_get_within}
use Rattle.plank_base.specs.declared.operations.Op.{Op}
use Rattle.plank_prog.specs.declared.blocks.Block.{Block}
use Rattle.plank_prog.specs.declared.blocks.Value.{Value}
use Rattle.plank_prog.specs.declared.methods.Action.{Action}
use Rattle.plank_prog.specs.declared.methods.MethodKind.{MethodKind}
use Rattle.plank_prog.specs.declared.methods.Method.{Method}
use Rattle.plank_fact.specs.declared.facts.Fact.{Fact}
use Rattle.plank_fact.specs.Tables.{facts_of, fact_at, IsFactOf}
use Rattle.plank_fact.specs.Outlines.{Outline, Point, IsClaimed, IsMarked}
use Rattle.plank_fact.specs.Obligations.{needed_for, AnswerFails}
use Rattle.plank_fact.proofs.Valid.{claimed_or_marked, not_both}
use Rattle.plank_demand.specs.Answers.{LacksOne}

module _ (O : Outline) (x : Point O.methods) (m : ℕ) (of_method : x.m ≡ m) (f : Fact) where
  same_table : (n : ℕ) → fact_at O.header O.methods m n ≡ slice_get (facts_of O.header x.method) n
  same_table n = ap (λ (o : Option Method). option_and_then (λ method. slice_get (facts_of O.header method) n) o) (ap (slice_get O.methods) (sym of_method) ∙ x.called)

  pub marked_so : (n : ℕ) → fact_at O.header O.methods m n ≡ Some f → (b : Bool) → (b ≡ true) ↔ IsClaimed O x f → (not b ≡ true) ↔ IsMarked O x f
  marked_so n is b so = (to b so, from b so)
    where
      of_table : IsFactOf O.header x.method f
      of_table = (n, sym (same_table n) ∙ is)

      to : (c : Bool) → (c ≡ true) ↔ IsClaimed O x f → not c ≡ true → IsMarked O x f
      to true w e = absurd (false≢true e)
      to false w e = elim (claimed_or_marked O x f of_table) [ inl claimed ↦ absurd (false≢true (w.1 claimed)) | inr marked ↦ marked ]

      from : (c : Bool) → (c ≡ true) ↔ IsClaimed O x f → IsMarked O x f → not c ≡ true
      from true w marked = absurd (not_both O x f (w.0 refl) marked)
      from false w marked = refl

  pub none_so : ((n : ℕ) → fact_at O.header O.methods m n ≡ Some f → ⊥) → IsMarked O x f → ⊥
  none_so none w = none w.of_fact.number (same_table w.of_fact.number ∙ w.of_fact.fact)

-- ---- a list of facts, one after the other

module _ (O : Outline) (x : Point O.methods) (facts : List Fact) where
  abbrev pub NoneMarked : ℕ → Type 0
  NoneMarked n = (i : ℕ) (f : Fact) → i < n → slice_get facts i ≡ Some f → IsMarked O x f → ⊥

  pub none_yet : NoneMarked 0
  none_yet i f below at marked = absurd (omega (arith, below))

  pub one_more : (n : ℕ) (f : Fact) → slice_get facts n ≡ Some f → (IsMarked O x f → ⊥) → NoneMarked n → NoneMarked (n + 1)
  one_more n f at not_marked earlier i g below there marked =
      elim (cases_eq i n) [
        | inl same ↦ not_marked (subst (IsMarked O x) (same_Some g f (sym there ∙ ap (slice_get facts) same ∙ at)) marked)
        | inr other ↦ earlier i g (omega arith) there marked
      ]

  -- ---- what an answer lacks

  pub one_lacks : (needed : List Fact) → facts ≡ needed → (i : ℕ) (f : Fact) → slice_get facts i ≡ Some f → IsMarked O x f → LacksOne O x needed
  one_lacks needed same i f at marked = record { number = i; fact = f; needed = subst (λ fs. slice_get fs i ≡ Some f) same at; marked = marked }

  pub none_lacks : (needed : List Fact) → facts ≡ needed → (n : ℕ) → length facts ≤ n → NoneMarked n → LacksOne O x needed → ⊥
  none_lacks needed same n past none w =
      let at = subst (λ fs. slice_get fs w.number ≡ Some w.fact) (sym same) w.needed in
      let within = slice_get_within facts w.number w.fact at in
      none w.number w.fact (omega arith) at w.marked

same_op : (k : MethodKind) (a b : Op) → k ≡ MethodKind.Set a → k ≡ MethodKind.Set b → a ≡ b
same_op k a b p q = cc

same_answer : (k : Action) (a b : Bool) → k ≡ Action.Return a → k ≡ Action.Return b → a ≡ b
same_answer k a b p q = cc

module _ (O : Outline) (x : Point O.methods) where
  pub answer_from : (op : Op) (answer : Bool) → x.method.kind ≡ MethodKind.Set op → x.location.action ≡ Action.Return answer → LacksOne O x (needed_for op answer) → AnswerFails O x
  answer_from op answer of_method returns w =
      record { op = op; answer = answer; of_method = of_method; returns = returns; number = w.number; fact = w.fact; needed = w.needed; marked = w.marked }

  pub answer_to : (op : Op) (answer : Bool) → x.method.kind ≡ MethodKind.Set op → x.location.action ≡ Action.Return answer → AnswerFails O x → LacksOne O x (needed_for op answer)
  answer_to op answer of_method returns w =
      let one = same_op x.method.kind w.op op w.of_method of_method in
      let two = same_answer x.location.action w.answer answer w.returns returns in
      record { number = w.number; fact = w.fact; needed = subst (λ a. slice_get (needed_for op a) w.number ≡ Some w.fact) two (subst (λ o. slice_get (needed_for o w.answer) w.number ≡ Some w.fact) one w.needed); marked = w.marked }

-- ---- no answer

returns_so : Action → Bool
returns_so (Action.Return answer) = true
returns_so (Action.Block b) = false
returns_so (Action.Copy to from next) = false
returns_so (Action.New to next) = false

is_set : MethodKind → Bool
is_set (MethodKind.Set op) = true
is_set MethodKind.Upkeep = false

module _ (O : Outline) (x : Point O.methods) where
  no_return : (a : Action) → x.location.action ≡ a → returns_so a ≡ false → AnswerFails O x → ⊥
  unfolding returns_so
  no_return a here not_so w = false≢true (sym not_so ∙ ap returns_so (sym here ∙ w.returns))

  pub no_block : (b : Block) → x.location.action ≡ Action.Block b → AnswerFails O x → ⊥
  unfolding returns_so
  no_block b here w = no_return (Action.Block b) here refl w

  pub no_copy : (to : ℕ) (from : Value) (next : ℕ) → x.location.action ≡ Action.Copy to from next → AnswerFails O x → ⊥
  unfolding returns_so
  no_copy to from next here w = no_return (Action.Copy to from next) here refl w

  pub no_new : (to next : ℕ) → x.location.action ≡ Action.New to next → AnswerFails O x → ⊥
  unfolding returns_so
  no_new to next here w = no_return (Action.New to next) here refl w

  pub no_upkeep : x.method.kind ≡ MethodKind.Upkeep → AnswerFails O x → ⊥
  unfolding is_set
  no_upkeep kind w = false≢true (ap is_set (sym kind ∙ w.of_method))
