-- What a step keeps is after it as before.
use Rattle.std.proofs.Common.{◌≡◌, ℕ, Bool, true, false, refl, sym, ◌∙◌, ap, ap₂}
use Rattle.std.specs.Prelude.{Option, Some, None, is_none, unwrap_or, if◌then◌else◌}
use Rattle.std.proofs.lemmas.Bool.{true≢false, and_parts, eqb-true}
use Rattle.plank_pic.specs.declared.parts.Term.{Term}
use Rattle.plank_pic.specs.declared.parts.Part.{Part}
use Rattle.plank_pic.specs.Frames.{Frame}
use Rattle.plank_pic.specs.Pictures.{Picture, place}
use Rattle.plank_pic.specs.Steps.{Change, Source, Of, Null, Fresh, of_name, of_both, term_of, moved_term, or_else}
use Rattle.plank_pic.specs.TestedSteps.{left_of, settled, left_of_name, left_of_both}
use Rattle.plank_reach.specs.Kept.{leaves_flag, leaves_pointer, leaves_lock, is_from, stays, both_stay, term_stays, KeepsPart}

from_itself : (s : Source) (i : ℕ) → is_from s i ≡ true → s ≡ Of i
from_itself (Of n) i e = ap Of (eqb-true n i e)
from_itself Null i e = absurd (true≢false (sym e))
from_itself Fresh i e = absurd (true≢false (sym e))

-- where nothing is written
alike : (b v : Bool) → (if b then v else v) ≡ v
alike true v = refl
alike false v = refl

unwritten : {X : Type 0} (test : X → Bool) (o : Option X) (b v : Bool) → is_none o ≡ true → (if b then or_else test o v else v) ≡ v
unwritten test (Some x) b v e = absurd (true≢false (sym e))
unwritten test None b v e = alike b v

module _ (F : Frame) (o : Option Change) (from : ℕ → Source) (B : Picture) where
  of_name_so : (test : ℕ → Bool) (null fresh : Bool) (i : ℕ) → stays from i ≡ true → of_name test null fresh (from i) ≡ test i
  of_name_so test null fresh i e = ap (of_name test null fresh) (from_itself (from i) i e)

  of_both_so : (test : ℕ → ℕ → Bool) (fresh : Bool) (i j : ℕ) → both_stay from i j ≡ true → of_both test fresh (from i) (from j) ≡ test i j
  of_both_so test fresh i j e =
      let w = and_parts (stays from i) (stays from j) e in
      ap (λ s. of_both test fresh s (from j)) (from_itself (from i) i w.0) ∙ ap (of_both test fresh (Of i)) (from_itself (from j) j w.1)

  term_so : (t : Term) → term_stays from t ≡ true → moved_term from t ≡ t
  term_so (Term.Node i) e = ap term_of (from_itself (from i) i e)
  term_so Term.Min e = refl
  term_so Term.Max e = refl
  term_so (Term.Walked k) e = refl
  term_so (Term.Stop k s) e = refl

  -- what is settled of a part of which the write leaves what was there
  settled_so : (part : Part) → left_of F B o part ≡ Some (B part) → settled F B o part ≡ B part
  settled_so part e = ap (λ v. unwrap_or v false) e

null_left : (F : Frame) (B : Picture) (o : Option Change) (i : ℕ) → left_of F B o (Part.Null i) ≡ Some (B (Part.Null i))
null_left F B None i = refl
null_left F B (Some c) i = refl

same_left : (F : Frame) (B : Picture) (o : Option Change) (i j : ℕ) → left_of F B o (Part.Same i j) ≡ Some (B (Part.Same i j))
same_left F B None i j = refl
same_left F B (Some c) i j = refl

order_left : (F : Frame) (B : Picture) (o : Option Change) (s t : Term) → left_of F B o (Part.AtMost s t) ≡ Some (B (Part.AtMost s t))
order_left F B None s t = refl
order_left F B (Some c) s t = refl

flag_left : (F : Frame) (B : Picture) (o : Option Change) (i f : ℕ) → leaves_flag o f ≡ true → left_of F B o (Part.Flag i f) ≡ Some (B (Part.Flag i f))
flag_left F B None i f e = refl
flag_left F B (Some c) i f e = ap Some (unwritten (λ b. b) (c.flag f) (B (Part.Same i c.at)) (B (Part.Flag i f)) e)

null_pointer_left : (F : Frame) (B : Picture) (o : Option Change) (i f : ℕ) → leaves_pointer o f ≡ true → left_of F B o (Part.PointerNull (place i f)) ≡ Some (B (Part.PointerNull (place i f)))
null_pointer_left F B None i f e = refl
null_pointer_left F B (Some c) i f e = ap Some (unwritten _ (c.pointer f) (B (Part.Same i c.at)) (B (Part.PointerNull (place i f))) e)

leads_left : (F : Frame) (B : Picture) (o : Option Change) (i f j : ℕ) → leaves_pointer o f ≡ true → left_of F B o (Part.Leads (place i f) j) ≡ Some (B (Part.Leads (place i f) j))
leads_left F B None i f j e = refl
leads_left F B (Some c) i f j e = ap Some (unwritten _ (c.pointer f) (B (Part.Same i c.at)) (B (Part.Leads (place i f) j)) e)

locked_left : (F : Frame) (B : Picture) (o : Option Change) (i : ℕ) → leaves_lock o ≡ true → left_of F B o (Part.Locked i) ≡ Some (B (Part.Locked i))
locked_left F B None i e = refl
locked_left F B (Some c) i e = ap Some (unwritten _ c.lock (B (Part.Same i c.at)) (B (Part.Locked i)) e)

mine_left : (F : Frame) (B : Picture) (o : Option Change) (i : ℕ) → leaves_lock o ≡ true → left_of F B o (Part.LockMine i) ≡ Some (B (Part.LockMine i))
mine_left F B None i e = refl
mine_left F B (Some c) i e = ap Some (unwritten _ c.lock (B (Part.Same i c.at)) (B (Part.LockMine i)) e)

others_left : (F : Frame) (B : Picture) (o : Option Change) (i : ℕ) → leaves_lock o ≡ true → left_of F B o (Part.LockOthers i) ≡ Some (B (Part.LockOthers i))
others_left F B None i e = refl
others_left F B (Some c) i e = ap Some (unwritten _ c.lock (B (Part.Same i c.at)) (B (Part.LockOthers i)) e)

nothing_left : (F : Frame) (B : Picture) (o : Option Change) (part : Part) → is_none o ≡ true → left_of F B o part ≡ Some (B part)
nothing_left F B None part e = refl
nothing_left F B (Some c) part e = absurd (true≢false (sym e))

module _ (F : Frame) (o : Option Change) (from : ℕ → Source) (B : Picture) where
  by_name : (part : ℕ → Part) (null fresh : Bool) (i : ℕ) → left_of F B o (part i) ≡ Some (B (part i)) → stays from i ≡ true
      → Some (of_name (λ n. settled F B o (part n)) null fresh (from i)) ≡ Some (B (part i))
  by_name part null fresh i left e = ap Some (of_name_so F o from B (λ n. settled F B o (part n)) null fresh i e ∙ settled_so F o from B (part i) left)

  by_both : (part : ℕ → ℕ → Part) (fresh : Bool) (i j : ℕ) → left_of F B o (part i j) ≡ Some (B (part i j)) → both_stay from i j ≡ true
      → Some (of_both (λ n m. settled F B o (part n m)) fresh (from i) (from j)) ≡ Some (B (part i j))
  by_both part fresh i j left e = ap Some (of_both_so F o from B (λ n m. settled F B o (part n m)) fresh i j e ∙ settled_so F o from B (part i j) left)

  pub kept : (part : Part) → KeepsPart F o from B part
  kept (Part.Null i) e = by_name Part.Null true false i (null_left F B o i) e
  kept (Part.Same i j) e = by_both Part.Same true i j (same_left F B o i j) e
  kept (Part.Flag i f) e = let w = and_parts (stays from i) (leaves_flag o f) e in by_name (λ n. Part.Flag n f) false false i (flag_left F B o i f w.1) w.0
  kept (Part.Shared i) e = let w = and_parts (stays from i) (is_none o) e in by_name Part.Shared false false i (nothing_left F B o (Part.Shared i) w.1) w.0
  kept (Part.Mine i) e = let w = and_parts (stays from i) (is_none o) e in by_name Part.Mine false true i (nothing_left F B o (Part.Mine i) w.1) w.0
  kept (Part.Locked i) e = let w = and_parts (stays from i) (leaves_lock o) e in by_name Part.Locked false false i (locked_left F B o i w.1) w.0
  kept (Part.LockMine i) e = let w = and_parts (stays from i) (leaves_lock o) e in by_name Part.LockMine false false i (mine_left F B o i w.1) w.0
  kept (Part.LockOthers i) e = let w = and_parts (stays from i) (leaves_lock o) e in by_name Part.LockOthers false false i (others_left F B o i w.1) w.0
  kept (Part.PointerNull x) e = let w = and_parts (stays from x.name) (leaves_pointer o x.pointer) e in by_name (λ n. Part.PointerNull (place n x.pointer)) false true x.name (null_pointer_left F B o x.name x.pointer w.1) w.0
  kept (Part.Leads x j) e = let w = and_parts (both_stay from x.name j) (leaves_pointer o x.pointer) e in by_both (λ n m. Part.Leads (place n x.pointer) m) false x.name j (leads_left F B o x.name x.pointer j w.1) w.0
  kept (Part.AtMost s t) e =
      let w = and_parts (term_stays from s) (term_stays from t) e in
      ap Some (ap₂ (λ a b. settled F B o (Part.AtMost a b)) (term_so F o from B s w.0) (term_so F o from B t w.1) ∙ settled_so F o from B (Part.AtMost s t) (order_left F B o s t))
  kept (Part.Visits k i) e =
      let w = and_parts (stays from i) (is_none o) e in
      ap (left_of_name (λ n. left_of F B o (Part.Visits k n))) (from_itself (from i) i w.0) ∙ nothing_left F B o (Part.Visits k i) w.1
  kept (Part.InSet k) e = nothing_left F B o (Part.InSet k) e
  kept (Part.StopFlag k s f) e = nothing_left F B o (Part.StopFlag k s f) e
  kept (Part.StopVisited k s) e = nothing_left F B o (Part.StopVisited k s) e
  kept (Part.Chain i j) e =
      let w = and_parts (both_stay from i j) (is_none o) e in
      let v = and_parts (stays from i) (stays from j) w.0 in
      ap (λ s. left_of_both (λ n m. left_of F B o (Part.Chain n m)) s (from j)) (from_itself (from i) i v.0)
      ∙ ap (left_of_both (λ n m. left_of F B o (Part.Chain n m)) (Of i)) (from_itself (from j) j v.1)
      ∙ nothing_left F B o (Part.Chain i j) w.1
  kept (Part.Beyond x) e = absurd (true≢false (sym e))
  kept (Part.SameBeyond x y) e = absurd (true≢false (sym e))
  kept (Part.Picks k i j s) e = absurd (true≢false (sym e))
  kept Part.Spent e = absurd (true≢false (sym e))
