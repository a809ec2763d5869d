-- The step of a situation is its tests.
use Rattle.std.proofs.Common.{◌≡◌, Bool, true, false, not, refl, sym, ap, subst}
use Rattle.std.specs.Prelude.{◌↔◌, Option, Some, None, is_none}
use Rattle.std.specs.Bool.{beq}
use Rattle.std.proofs.lemmas.Bool.{true≢false, and_parts, and_from}
use Rattle.plank_prog.specs.declared.headers.Header.{Header}
use Rattle.plank_pic.specs.declared.parts.Part.{Part}
use Rattle.plank_pic.specs.Frames.{Frame}
use Rattle.plank_pic.specs.Pictures.{Picture}
use Rattle.plank_pic.specs.Steps.{Change, spent_after, IsPictureStep}
use Rattle.plank_pic.specs.TestedSteps.{IsWritable, ComesFromNames}
use Rattle.plank_pic.specs.Blocks.{runs}
use Rattle.plank_pic.proofs.EachName.{same_bits}
use Rattle.plank_pic.proofs.TestedSteps.{step_tested, step_there}
use Rattle.plank_query.specs.declared.situations.Situation.{Situation}
use Rattle.plank_query.specs.Situations.{frame, IsStep}
use Rattle.plank_reach.specs.declared.stepping.Stepping.{Stepping}
use Rattle.plank_reach.specs.Steps.{step_of, turn_in, change_in, names_in, writes_rightly, MeetsStep}
use Rattle.plank_reach.specs.Laws.{StepIsTests}
use Rattle.plank_reach.proofs.Sources.{comes_from_names, some_is, no_some}

pub bits_same : (a b : Bool) → a ≡ b → beq a b ≡ true
bits_same true b e = subst (λ c. beq true c ≡ true) e refl
bits_same false b e = subst (λ c. beq false c ≡ true) e refl

not_so : (b : Bool) → not b ≡ true → b ≡ false
not_so true e = absurd (true≢false (sym e))
not_so false e = refl

module _ (B A : Picture) where
  to_writable : (o : Option Change) → writes_rightly o B A ≡ true → IsWritable o B A
  to_writable None e = same_bits (A Part.Spent) (B Part.Spent) e
  to_writable (Some c) e =
      let w = and_parts (not (B (Part.Null c.at))) (beq (A Part.Spent) (spent_after B A c.own)) e in
      (not_so (B (Part.Null c.at)) w.0, same_bits (A Part.Spent) (spent_after B A c.own) w.1)

  from_writable : (o : Option Change) → IsWritable o B A → writes_rightly o B A ≡ true
  from_writable None e = bits_same (A Part.Spent) (B Part.Spent) e
  from_writable (Some c) w = and_from (not (B (Part.Null c.at))) (beq (A Part.Spent) (spent_after B A c.own)) (ap not w.0) (bits_same (A Part.Spent) (spent_after B A c.own) w.1)

  module _ (F : Frame) (s : Stepping) (inside : ComesFromNames F (names_in s)) where
    to_tests : runs F (turn_in s) B ≡ true → IsPictureStep F (change_in s) (names_in s) B A → MeetsStep F s B A
    to_tests run step =
        let w = step_tested F (change_in s) (names_in s) inside B step.between A step.writes step.names step.possible in
        record { runs = run; writes = from_writable (change_in s) w.writable; parts = w.parts; possible = w.possible }

    from_tests : MeetsStep F s B A → IsPictureStep F (change_in s) (names_in s) B A
    from_tests m = step_there F (change_in s) (names_in s) inside B A (record { writable = to_writable (change_in s) m.writes; parts = m.parts; possible = m.possible })

  module _ (h : Header) where
    tested : (S : Situation) (s : Stepping) → step_of S ≡ Some s → IsStep h S B A ↔ MeetsStep (frame h S) s B A
    tested Situation.Node s e = absurd (no_some s e)
    tested (Situation.Names variables) s e = absurd (no_some s e)
    tested (Situation.Own t) s e = absurd (no_some s e)
    tested (Situation.Step t) s e =
        let inside = comes_from_names h (Situation.Step t) _ refl in
        subst (λ v. IsStep h (Situation.Step t) B A ↔ MeetsStep (frame h (Situation.Step t)) v B A) (some_is _ s e)
        (λ step. to_tests (frame h (Situation.Step t)) _ inside step.runs step.step, λ m. record { runs = m.runs; step = from_tests (frame h (Situation.Step t)) _ inside m })
    tested (Situation.Write t) s e =
        let inside = comes_from_names h (Situation.Write t) _ refl in
        subst (λ v. IsStep h (Situation.Write t) B A ↔ MeetsStep (frame h (Situation.Write t)) v B A) (some_is _ s e)
        (λ step. to_tests (frame h (Situation.Write t)) _ inside step.runs step.step, λ m. record { runs = m.runs; step = from_tests (frame h (Situation.Write t)) _ inside m })
    tested (Situation.Effect t) s e =
        let inside = comes_from_names h (Situation.Effect t) _ refl in
        subst (λ v. IsStep h (Situation.Effect t) B A ↔ MeetsStep (frame h (Situation.Effect t)) v B A) (some_is _ s e)
        (λ step. to_tests (frame h (Situation.Effect t)) _ inside step.runs step.step, λ m. record { runs = m.runs; step = from_tests (frame h (Situation.Effect t)) _ inside m })

    some_none : {X : Type 0} (a : X) → Some a ≡ None → ⊥
    some_none a e = true≢false (sym (ap is_none e))

    untested : (S : Situation) → step_of S ≡ None → IsStep h S B A ↔ (A ≡ B)
    untested Situation.Node e = (λ is. is, λ is. is)
    untested (Situation.Names variables) e = (λ is. is, λ is. is)
    untested (Situation.Own t) e = (λ is. is, λ is. is)
    untested (Situation.Step t) e = absurd (some_none _ e)
    untested (Situation.Write t) e = absurd (some_none _ e)
    untested (Situation.Effect t) e = absurd (some_none _ e)

pub step_is_tests : (h : Header) (S : Situation) (B A : Picture) → StepIsTests h S B A
step_is_tests h S B A = record { tests = tested B A h S; none = untested B A h S }
