-- From goals that are reached to conclusions that are refuted.
use Rattle.std.proofs.Common.{◌≡◌, ℕ, ◌+◌, ◌<◌, ◌≤◌, Bool, true, false, List, [], length, map, sym, ◌∙◌, ap, subst, inl, inr, arith}
use Rattle.std.specs.Prelude.{nat_lt, slice_get, Some, None, Option, option_map}
use Rattle.std.proofs.lemmas.Bool.{lt-ltb, false≢true}
use Rattle.std.proofs.lemmas.Option.{slice_get-map, slice_get_within, none-some, same_Some}
use Rattle.plank_bits.specs.Words.{IsWithin}
use Rattle.plank_prog.specs.declared.blocks.Block.{Block}
use Rattle.plank_prog.specs.declared.methods.Action.{Action}
use Rattle.plank_prog.specs.declared.methods.Method.{Method}
use Rattle.plank_pic.specs.declared.literals.Literal.{Literal}
use Rattle.plank_fact.specs.Outlines.{Outline, Point}
use Rattle.plank_prog.specs.declared.headers.Header.{Header}
use Rattle.plank_prog.specs.Methods.{is_site, location_count}
use Rattle.std.specs.Option.{option_map_or}
use Rattle.std.proofs.lemmas.List.{length-map}
use Rattle.plank_query.specs.declared.turns.SiteTurn.{SiteTurn}
use Rattle.plank_query.specs.declared.situations.Situation.{Situation}
use Rattle.plank_query.specs.Places.{IsSiteTurnAt}
use Rattle.plank_query.specs.declared.goals.Goal.{Goal}
use Rattle.plank_query.specs.declared.questions.Question.{Question}
use Rattle.plank_query.specs.Questions.{IsReached}
use Rattle.plank_query.specs.Sites.{action_reads_below, action_reads}
use Rattle.plank_query.proofs.FewNames.{read_few}
use Rattle.plank_past.specs.declared.hinds.Hinds.{Hinds}
use Rattle.plank_past.specs.Answered.{AreReached}
use Rattle.plank_past.specs.Refuting.{refuting, IsRefutedAtOnce, IsRefutedBy, IsRefutedWithin, IsRefuted, ClaimsAtOnce, ClaimsBefore, ClaimsAfter, Grows}
use Rattle.plank_past.proofs.Asking.{reached_at_once, at_once_reached, reached_by, by_reached}
use Rattle.plank_past.proofs.Growth.{grows_full, grows_as, grows_then}

-- an effect has few names
pub few_names : (action : Action) (n w : ℕ) → n + action_reads action ≤ 16 → w ≤ 256 → n + action_reads_below action w ≤ 16
few_names (Action.Block b) n w few below = let reads = read_few b w below in omega (arith, few, reads)
few_names (Action.Copy to from next) n w few below = few
few_names (Action.New to next) n w few below = few
few_names (Action.Return answer) n w few below = few

pub grows_reached : (Cs : List Literal) (q : Question) (found : ℕ → Bool) (A : Literal → Type 0) → q.goals.now ≡ map refuting Cs → AreReached q found
    → ((C : Literal) → IsReached q (refuting C) → A C) → ((C : Literal) → A C → IsReached q (refuting C)) → Grows Cs A (λ k. false) found
grows_reached Cs q found A goals w to from = record {
  kept = λ k none. absurd (differ none);
  added = λ k C at a. (w.each k (refuting C) (goal_at k C at)).1 (from C a);
  only = λ k C at f. inr (to C ((w.each k (refuting C) (goal_at k C at)).0 f));
}
  where
    differ : false ≡ true → ⊥
    differ e = false≢true e

    goal_at : (k : ℕ) (C : Literal) → slice_get Cs k ≡ Some C → slice_get q.goals.now k ≡ Some (refuting C)
    goal_at k C at = ap (λ gs. slice_get gs k) goals ∙ slice_get-map refuting Cs k ∙ ap (option_map refuting) at

-- each conclusion is refuted already
pub grows_all : (Cs : List Literal) (A : Literal → Type 0) (all old : ℕ → Bool) (count : ℕ) → ((k : ℕ) → all k ≡ nat_lt k count) → count ≡ length Cs → IsWithin all old → Grows Cs A old old
grows_all Cs A all old count is size within =
    grows_full Cs A old (λ k below. within k (is k ∙ lt-ltb k count (subst (λ n. k < n) (sym size) below)))

module _ (O : Outline) (m : Method) (u : Hinds) where
  pub at_once_alone : (found : ℕ → Bool) → u.present ≡ None → Grows u.conclusions.now (IsRefutedAtOnce O.header m u) (λ k. false) found → Grows u.conclusions.now (IsRefuted O m u) (λ k. false) found
  at_once_alone found none =
      grows_as u.conclusions.now (IsRefutedAtOnce O.header m u) (IsRefuted O m u) (λ k. false) found
      (λ C w. inl w)
      (λ C w. elim w [ inl at_once ↦ at_once | inr later ↦ absurd (none-some later.0 (sym none ∙ later.1)) ])

  pub and_later : (present : Literal) (mid found : ℕ → Bool) → u.present ≡ Some present → Grows u.conclusions.now (IsRefutedAtOnce O.header m u) (λ k. false) mid
      → Grows u.conclusions.now (IsRefutedWithin O m u present (λ k l. k < length O.methods)) mid found → Grows u.conclusions.now (IsRefuted O m u) (λ k. false) found
  and_later present mid found is =
      grows_then u.conclusions.now (IsRefutedAtOnce O.header m u) (IsRefutedWithin O m u present (λ k l. k < length O.methods)) (IsRefuted O m u) (λ k. false) mid found
      (λ C w. inl w)
      (λ C w. inr (present, is, w))
      (λ C w. elim w [
        | inl at_once ↦ inl at_once
        | inr later ↦ inr (subst (λ b. IsRefutedWithin O m u b (λ k l. k < length O.methods) C) (sym (same_Some present later.0 (sym is ∙ later.1))) later.2)
      ])

-- ---- what the questions answer

pub grows_nothing : (Cs : List Literal) (A : Literal → Type 0) (found : ℕ → Bool) → ((k : ℕ) → found k ≡ false) → ((C : Literal) → A C → ⊥) → Grows Cs A (λ k. false) found
grows_nothing Cs A found empty none = record {
  kept = λ k no_one. absurd (false≢true no_one);
  added = λ k C at a. absurd (none C a);
  only = λ k C at f. absurd (false≢true (sym (empty k) ∙ f));
}

pub grows_at_once : (h : Header) (m : Method) (u : Hinds) (q : Question) (v : ℕ) → q.header.now ≡ h → q.situation ≡ Situation.Names v → v ≡ length m.variables
    → ClaimsAtOnce u q.before.now → q.after.now ≡ [] → (found : ℕ → Bool) → q.goals.now ≡ map refuting u.conclusions.now → AreReached q found
    → Grows u.conclusions.now (IsRefutedAtOnce h m u) (λ k. false) found
grows_at_once h m u q v of_header situation size claimed none_after found goals w =
    grows_reached u.conclusions.now q found (IsRefutedAtOnce h m u) goals w
    (reached_at_once h m u q v of_header situation size claimed none_after)
    (at_once_reached h m u q v of_header situation size claimed none_after)

pub grows_by : (O : Outline) (m : Method) (x : Point O.methods) (t : SiteTurn) → IsSiteTurnAt m x t → (b : Block) → t.action.now ≡ Action.Block b
    → (u : Hinds) (present : Literal) → (q : Question) → q.header.now ≡ O.header → q.situation ≡ Situation.Effect t → ClaimsBefore O x b u present q.before.now → ClaimsAfter present q.after.now
    → (found : ℕ → Bool) → q.goals.now ≡ map refuting u.conclusions.now → AreReached q found
    → Grows u.conclusions.now (IsRefutedBy O m u present x) (λ k. false) found
grows_by O m x t at b acts u present q of_header situation claimed claimed_after found goals w =
    let here = sym at.action ∙ acts in
    let writes = subst (λ a. is_site a ≡ true) at.action t.writes in
    grows_reached u.conclusions.now q found (IsRefutedBy O m u present x) goals w
    (reached_by O m x t at b here writes u present q of_header situation claimed claimed_after)
    (by_reached O m x t at b here writes u present q of_header situation claimed claimed_after)

-- ---- counts

pub goal_count : (goals : List Goal) (Cs : List Literal) → goals ≡ map refuting Cs → length goals ≡ length Cs
goal_count goals Cs is = ap length is ∙ length-map Cs refuting

-- the locations of a method lie below their count
pub within_count : (O : Outline) (n count : ℕ) → option_map_or location_count (slice_get O.methods n) 0 ≤ count → (x : Point O.methods) → x.m ≡ n → x.l < count
within_count O n count most x of_method =
    let below : x.l < location_count x.method = slice_get_within x.method.locations x.l x.location x.there in
    let size : option_map_or location_count (slice_get O.methods n) 0 ≡ location_count x.method =
    ap (λ (o : Option Method). option_map_or location_count o 0) (ap (slice_get O.methods) (sym of_method) ∙ x.called) in
    omega (arith, below, size, most)
