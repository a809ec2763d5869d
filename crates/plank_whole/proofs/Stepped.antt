-- The tests of a step between whole pictures say that it is one.
use Rattle.std.proofs.Common.{◌≡◌, ℕ, ◌≤◌, Bool, true, false, not, length, Option, Some, None, sym, ap, subst}
use Rattle.std.specs.Bool.{beq}
use Rattle.std.proofs.lemmas.Bool.{and_parts, and_from, true≢false}
use Rattle.plank_pic.proofs.EachName.{same_bits}
use Rattle.plank_pic.specs.declared.parts.Part.{Part}
use Rattle.plank_pic.specs.Frames.{Frame}
use Rattle.plank_pic.specs.Pictures.{Picture}
use Rattle.plank_pic.specs.Lawful.{part_fits, ◌⇒◌, IsPossible}
use Rattle.plank_pic.specs.Steps.{Change, Source, agrees_with, spent_after, IsPictureStep}
use Rattle.plank_pic.specs.TestedSteps.{stepped, ComesFromNames, IsWritable, IsTestedStep}
use Rattle.plank_pic.proofs.TestedSteps.{step_tested, step_there}
use Rattle.plank_lawful.specs.Asked.{all_below}
use Rattle.plank_lawful.proofs.Asked.{each_passes, all_pass}
use Rattle.plank_lawful.proofs.Tests.{implied, beq_of, no_of}
use Rattle.plank_parts.specs.Codes.{part_code, part_of}
use Rattle.plank_parts.proofs.Rounds.{coded_part}
use Rattle.plank_whole.specs.Stepping.{part_agrees, coded_agrees, is_writable}

then_so : (a b : Bool) → (a ⇒ b) ≡ true → a ≡ true → b ≡ true
then_so true b e h = e
then_so false b e h = absurd (true≢false (sym h))

writable_from : (o : Option Change) (B A : Picture) → is_writable o B A ≡ true → IsWritable o B A
writable_from None B A e = same_bits (A Part.Spent) (B Part.Spent) e
writable_from (Some c) B A e =
    let both = and_parts (not (B (Part.Null c.at))) (beq (A Part.Spent) (spent_after B A c.own)) e in
    (no_of (B (Part.Null c.at)) both.0, same_bits (A Part.Spent) (spent_after B A c.own) both.1)

writable_to : (o : Option Change) (B A : Picture) → IsWritable o B A → is_writable o B A ≡ true
writable_to None B A so = beq_of (A Part.Spent) (B Part.Spent) so
writable_to (Some c) B A so =
    and_from (not (B (Part.Null c.at))) (beq (A Part.Spent) (spent_after B A c.own)) (ap not so.0) (beq_of (A Part.Spent) (spent_after B A c.own) so.1)

module _ (F : Frame) (few_names : F.names ≤ 16) (few_pointers : length F.header.pointers ≤ 2) (few_flags : length F.header.flags ≤ 32)
    (o : Option Change) (from : ℕ → Source) (B A : Picture) (inside : ComesFromNames F from) where
  each_part : all_below (coded_agrees F o from B A) 8704 ≡ true → (part : Part) → part_fits F part ≡ true → agrees_with (stepped F o from B part) (A part) ≡ true
  each_part all part fits =
      let code = coded_part F few_names few_pointers few_flags part fits in
      then_so (part_fits F part) (agrees_with (stepped F o from B part) (A part))
      (subst (λ other. part_agrees F o from B A other ≡ true) code.back (each_passes (coded_agrees F o from B A) 8704 all (part_code part) code.below))
      fits

  pub step_from : is_writable o B A ≡ true → all_below (coded_agrees F o from B A) 8704 ≡ true → IsPossible F A → IsPictureStep F o from B A
  step_from writable all possible =
      step_there F o from inside B A (record { writable = writable_from o B A writable; parts = each_part all; possible = possible })

  module _ (step : IsPictureStep F o from B A) where
    tested : IsTestedStep F o from B A
    tested = step_tested F o from inside B step.between A step.writes step.names step.possible

    pub is_writable_so : is_writable o B A ≡ true
    is_writable_so = writable_to o B A tested.writable

    pub all_agree_so : all_below (coded_agrees F o from B A) 8704 ≡ true
    all_agree_so =
        all_pass (coded_agrees F o from B A) 8704
        (λ c below. implied (part_fits F (part_of c)) (agrees_with (stepped F o from B (part_of c)) (A (part_of c))) (tested.parts (part_of c)))
