-- The law of the empty set: where no insert is answered and every answer is false, a trace in which the set stays empty explains the history.
-- Each answered call observes the set at the moment just before its response.
use Rattle.std.proofs.Common.{◌≡◌, ℕ, suc, Bool, true, false, ℤ, List, length, Option, Some, None, refl, sym, subst, ap, ◌∙◌, arith}
use Rattle.std.specs.List.{slice_get}
use Rattle.std.specs.Prelude.{option_map}
use Rattle.std.specs.Bool.{beq}
use Rattle.std.proofs.lemmas.Option.{none-some, slice_get-map, slice_get_within}
use Rattle.plank_base.specs.declared.operations.Op.{Op}
use Rattle.plank_base.specs.declared.operations.Op.TheVariants.{Contains, Insert, Delete}
use Rattle.plank_base.specs.declared.keys.ThreadId.{ThreadId}
use Rattle.plank_hist.specs.declared.events.Event.{Event}
use Rattle.plank_hist.specs.declared.events.Event.TheVariants.{Invoke, Respond}
use Rattle.plank_hist.specs.Sets.{answer_of, present_after, set_of_keys}
use Rattle.plank_hist.specs.Histories.{IsInvoked, Responds, happening_of, history_of}
use Rattle.plank_hist.specs.Histories.Happening.{responded}
use Rattle.plank_hist.specs.Linearizability.{Listing}
use Rattle.plank_hist.specs.Traces.{Trace, TakesPlace, Explains}
use Rattle.plank_hist.specs.EmptySet.{AnswersFalse, AnswersNoInsert}
use Rattle.plank_hist.proofs.Answered.{answered_at, IsAnsweredAt, answered_at-answered, responds-answered_at, responds_once, responds_alike}
use Rattle.plank_hist.proofs.SetSteps.{set_kept}

abbrev pub empty_set : ℤ → Bool
empty_set key = false

-- the set stays empty; the event at a place happens at the moment after it
abbrev pub empty_trace : List Event → Trace (ℤ → Bool) (Op × ℤ) Bool
empty_trace events = record {
  last = length (history_of events);
  states = λ m. empty_set;
  when = λ place. suc place;
  changer = λ m. None;
  observers = λ m. answered_at (history_of events) m;
}

-- what the empty set allows
false_allowed : (op : Op) (answer : Bool) → (op ≡ Insert → ⊥) → answer ≡ false → beq answer (answer_of op false) ≡ true
false_allowed Contains answer other e = ap (λ b. beq b false) e
false_allowed Insert answer other e = absurd (other refl)
false_allowed Delete answer other e = ap (λ b. beq b false) e

stays_empty : (op : Op) → (op ≡ Insert → ⊥) → present_after op false ≡ false
stays_empty Contains other = refl
stays_empty Insert other = absurd (other refl)
stays_empty Delete other = refl

-- an answer of the history is an answer of an event
false_event : (event : Option Event) (thread : ℕ) (answer : Bool) → option_map happening_of event ≡ Some (responded thread answer)
    → ((e : Event) → event ≡ Some e → (t : ThreadId) (b : Bool) → e ≡ Respond t b → b ≡ false) → answer ≡ false
false_event None thread answer at falsely = absurd (none-some _ at)
false_event (Some (Invoke t op key)) thread answer at falsely = absurd (cc)
false_event (Some (Respond t b)) thread answer at falsely =
    let same : b ≡ answer = cc in
    sym same ∙ falsely (Respond t b) refl t b refl

module _ (events : List Event) (no_insert : AnswersNoInsert events) (answers_false : AnswersFalse events) where
  answer_is_false : (i j : ℕ) (answer : Bool) → Responds (history_of events) i j answer → answer ≡ false
  answer_is_false i j answer responds =
      false_event (slice_get events j) responds.thread answer (sym (slice_get-map happening_of events j) ∙ responds.response) (λ e at t b is. answers_false j t b (at ∙ ap (λ x. Some x) is))

  not_insert : (i j : ℕ) (answer : Bool) (input : Op × ℤ) → IsInvoked (history_of events) i input → Responds (history_of events) i j answer → input.0 ≡ Insert → ⊥
  not_insert i j answer input begun responds is =
      no_insert i j input.1 answer (subst (λ op. IsInvoked (history_of events) i (op, input.1)) is begun) responds

  observes : (m k : ℕ) (c : Listing (Op × ℤ) Bool) → TakesPlace (empty_trace events) m k c → IsAnsweredAt (history_of events) m k c
  observes m k c takes = answered_at-answered (history_of events) m k c takes.at

  pub empty_trace_explains : Explains set_of_keys (history_of events) (empty_trace events)
  empty_trace_explains = record {
    first_state = refl;
    first_changer = refl;
    rising = λ i j lt within. omega arith;
    unchanged = λ m lt e. refl;
    change_allowed = λ m c lt e. absurd (none-some c e);
    changed = λ m c lt e. absurd (none-some c e);
    observed = λ m k c le at. let a = answered_at-answered (history_of events) m k c at in
        false_allowed c.input.0 c.answer (not_insert c.place m c.answer c.input a.begun a.responds) (answer_is_false c.place m c.answer a.responds);
    kept = λ m k c le at. let a = answered_at-answered (history_of events) m k c at in
        set_kept empty_set c.input (stays_empty c.input.0 (not_insert c.place m c.answer c.input a.begun a.responds));
    calls = λ m k c takes. let a = observes m k c takes in
        record { begun = a.begun; answered = λ j answer responds. responds_alike (history_of events) c.place j m answer c.answer responds a.responds };
    begun = λ m k c takes. let lt = (observes m k c takes).responds.later in omega arith;
    ended = λ m k j answer c takes responds. let same = responds_once (history_of events) c.place m j c.answer answer (observes m k c takes).responds responds in omega arith;
    answered = λ i j answer responds. let found = responds-answered_at (history_of events) i j answer responds in
        (j, 0, found.0, record { in_time = (let within = slice_get_within (history_of events) j _ responds.response in omega arith); at = found.1 }, found.2);
    once = λ m k n l c d first second same. let a = observes m k c first in let b = observes n l d second in
        (responds_once (history_of events) d.place m n c.answer d.answer (subst (λ i. Responds (history_of events) i m c.answer) same a.responds) b.responds, a.only ∙ sym b.only);
  }
