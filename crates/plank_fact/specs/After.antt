-- The facts that a call has after a step, and at its entry: what each picture shows, what is carried along, and what
-- hindsight adds.
use Rattle.std.specs.Prelude.{◌≡◌, ℕ, ◌<◌, Bool, true, false, Option, Some}
use Rattle.plank_prog.specs.declared.blocks.Reference.{Reference}
use Rattle.plank_prog.specs.declared.headers.Header.{Header}
use Rattle.plank_prog.specs.declared.methods.Method.{Method}
use Rattle.plank_pic.specs.declared.parts.Part.{Part}
use Rattle.plank_pic.specs.declared.literals.Literal.{Literal}
use Rattle.plank_pic.specs.declared.literals.Exit.{Exit}
use Rattle.plank_pic.specs.Pictures.{Picture}
use Rattle.plank_pic.specs.Lawful.{IsLawful}
use Rattle.plank_pic.specs.Steps.{Source}
use Rattle.plank_pic.specs.Blocks.{source}
use Rattle.plank_pic.specs.Truths.{truth, same_value}
use Rattle.plank_fact.specs.declared.facts.Fact.{Fact}
use Rattle.plank_fact.specs.Literals.{is_lasting, past_name, said_of}
use Rattle.plank_fact.specs.Tables.{name_count, IsFactOf}
use Rattle.plank_fact.specs.Outlines.{Outline, Point, IsClaimed}
use Rattle.plank_fact.specs.OwnSteps.{own_call, method_frame, turn_at, IsOwnStep}
use Rattle.plank_fact.specs.Hindsight.{is_witnessed, IsHindsight}

-- ---- what follows from the pictures in which a call of a method may come to a location

-- what is true in each of them
pub record IsAlways (h : Header) (m : Method) (Arrives : Picture → Type 0) (L : Literal) : Type 0 where
  pub fact : IsFactOf h m (Fact.Now L)
  pub holds : (p : Picture) → Arrives p → truth p (own_call m) L ≡ true

-- what is always true and lasts
abbrev pub IsAlwaysLasting : Header → Method → (Picture → Type 0) → Literal → Type 0
IsAlwaysLasting h m Arrives L = (is_lasting L ≡ true) × IsAlways h m Arrives L

-- what holds of what may be absent
abbrev pub IfGiven : (Literal → Type 0) → Option Literal → Type 0
IfGiven Holds given = (L : Literal) → given ≡ Some L → Holds L

-- The past facts: what is true in each of the pictures with its node shared, what is carried there, and what follows by
-- hindsight from these, step by step.
pub data IsOncePast (O : Outline) (m : Method) (Arrives : Picture → Type 0) (Carried : Literal → Type 0) : Literal → Type 0 where
  seen : {L : Literal} → IsFactOf O.header m (Fact.Past L) → ((p : Picture) → Arrives p → is_witnessed p (own_call m) L ≡ true) → IsOncePast O m Arrives Carried L
  carried : {L : Literal} → IsFactOf O.header m (Fact.Past L) → Carried L → IsOncePast O m Arrives Carried L
  hindsight : {L : Literal} → IsFactOf O.header m (Fact.Past L) → (past : Literal) → IsOncePast O m Arrives Carried past
      → (now : Option Literal) → IfGiven (IsAlways O.header m Arrives) now
      → IsHindsight O m (IsAlwaysLasting O.header m Arrives) past now L → IsOncePast O m Arrives Carried L

abbrev pub IsKnown : (O : Outline) → Method → (Picture → Type 0) → (Literal → Type 0) → Fact → Type 0
IsKnown O m Arrives Carried (Fact.Now L) = IsAlways O.header m Arrives L
IsKnown O m Arrives Carried (Fact.Past L) = IsOncePast O m Arrives Carried L

-- ---- after a step

-- a picture after a step of the location by the exit
abbrev pub IsPictureAfter : (O : Outline) → Point O.methods → Exit → Picture → Type 0
IsPictureAfter O x e after = (before : Picture) × IsOwnStep O x e before after

-- a name after the step names what q named before
abbrev pub named_before : Picture → Source → ℕ → Bool
named_before p (Source.Of i) j = same_value p j i
named_before p Source.Null j = p (Part.Null j)
named_before p Source.Fresh j = false

-- a past fact that is claimed before the step, and is now said of a name that in each step names what its name named before
pub record IsCarried (O : Outline) (x : Point O.methods) (e : Exit) (L : Literal) : Type 0 where
  pub before : Literal
  pub claimed : IsClaimed O x (Fact.Past before)
  pub to : Reference
  pub is : L ≡ said_of to before
  pub stays : (q : Reference) → past_name before ≡ Some q → (p after : Picture) → IsOwnStep O x e p after
      → named_before p (source (turn_at O x e) ((own_call x.method).name to)) ((own_call x.method).name q) ≡ true

-- the facts after the steps of a location by an exit
abbrev pub IsAfter : (O : Outline) → Point O.methods → Exit → Fact → Type 0
IsAfter O x e = IsKnown O x.method (IsPictureAfter O x e) (IsCarried O x e)

-- ---- at entry: each variable is null, and the call has changed nothing

pub record IsEntryPicture (h : Header) (m : Method) (p : Picture) : Type 0 where
  pub lawful : IsLawful (method_frame h m) p
  pub null : (v : ℕ) → v < name_count m → 0 < v → p (Part.Null v) ≡ true
  pub unspent : p Part.Spent ≡ false

abbrev pub IsAtEntry : (O : Outline) → Method → Fact → Type 0
IsAtEntry O m = IsKnown O m (IsEntryPicture O.header m) (λ L. ⊥)
