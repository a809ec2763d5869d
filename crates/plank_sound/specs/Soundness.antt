-- The laws over runs: interference and hindsight, and soundness of valid outlines of whose programs no obligation fails. The
-- functions of `laws` prove them; the verdict stands on the last two.
use Rattle.std.specs.Prelude.{◌≡◌, ℕ, ℤ, true, false, List, ◌∷◌, slice_get, Option, Some, None}
use Rattle.std.specs.FinMap.{get}
use Rattle.plank_prog.specs.declared.methods.Method.{Method}
use Rattle.plank_prog.specs.declared.methods.MethodKind.{MethodKind}
use Rattle.plank_prog.specs.Headers.{is_lawful_header}
use Rattle.plank_prog.specs.Methods.{are_lawful_methods}
use Rattle.plank_hist.specs.declared.events.Event.{Event}
use Rattle.plank_sem.specs.declared.calls.Call.{Call}
use Rattle.plank_sem.specs.declared.steps.Act.TheVariants.{Invoke, Go}
use Rattle.plank_sem.specs.declared.steps.Choice.{Choice}
use Rattle.plank_sem.specs.Worlds.{WorldState}
use Rattle.plank_sem.specs.Steps.{next, stepped, op_of}
use Rattle.plank_sem.specs.Runs.{AllRunsLinearizable, NoNullReads}
use Rattle.plank_sem.specs.Kept.{GhostWorld, GhostRun, differs}
use Rattle.plank_pic.specs.declared.literals.Literal.{Literal}
use Rattle.plank_fact.specs.Literals.{is_lasting, can_be_past}
use Rattle.plank_fact.specs.Outlines.{Outline, Point}
use Rattle.plank_fact.specs.Forced.{IsValid}
use Rattle.plank_fact.specs.Obligations.{AllHold}
use Rattle.plank_fact.specs.Hindsight.{IsHindsight}
use Rattle.plank_sound.specs.Interference.{IsKeptSo}
use Rattle.plank_sound.specs.HindsightLaw.{IsTrueNow, WasTrueOnce}

-- ---- interference

-- in the newest world of every run keeps and orders hold, and each claim is true of every call that stands where it is claimed
abbrev pub InterferenceIsKept : Type 0
InterferenceIsKept = (O : Outline) → is_lawful_header O.header ≡ true → are_lawful_methods O.header O.methods ≡ true → IsValid O → AllHold O
    → (choices : List Choice) (told : List (Option Event)) (g : GhostWorld) (ghosts : List GhostWorld) → GhostRun O.header O.methods choices told (g ∷ ghosts)
    → IsKeptSo O choices g ghosts

-- ---- hindsight

-- it is one of the listed
abbrev pub IsListed : List Literal → Literal → Type 0
IsListed lasting L = (n : ℕ) × (slice_get lasting n ≡ Some L)

-- they are true now of what the call sees, and last
abbrev pub AreLasting : (O : Outline) → GhostWorld → ℕ → Call → Method → List Literal → Type 0
AreLasting O g thread call m lasting = (L : Literal) → IsListed lasting L → (is_lasting L ≡ true) × IsTrueNow O g thread call m L

-- what follows by hindsight from what was true once of a pending call, and from what is true now, was true once
abbrev pub HindsightIsTrue : Type 0
HindsightIsTrue = (O : Outline) → is_lawful_header O.header ≡ true → are_lawful_methods O.header O.methods ≡ true
    → (choices : List Choice) (told : List (Option Event)) (g : GhostWorld) (ghosts : List GhostWorld) → GhostRun O.header O.methods choices told (g ∷ ghosts) → IsKeptSo O choices g ghosts
    → (thread : ℕ) (call : Call) → get g.world.calls thread ≡ Some call → (x : Point O.methods) → x.m ≡ call.method
    → (lasting : List Literal) → AreLasting O g thread call x.method lasting
    → (past : Literal) → WasTrueOnce O choices g ghosts thread call x.method past
    → (now : Option Literal) → ((b : Literal) → now ≡ Some b → IsTrueNow O g thread call x.method b)
    → (conclusion : Literal) → can_be_past conclusion ≡ true → IsHindsight O x.method (IsListed lasting) past now conclusion
    → WasTrueOnce O choices g ghosts thread call x.method conclusion

-- ---- upkeep

-- a thread begins a call of an upkeep, or goes on with one
pub data IsOfUpkeep (methods : List Method) (w : WorldState) (choice : Choice) : Type 0 where
  begins : (m : ℕ) (key : ℤ) (method : Method) → choice.act ≡ Invoke m key → slice_get methods m ≡ Some method → method.kind ≡ MethodKind.Upkeep → IsOfUpkeep methods w choice
  goes_on : (call : Call) → choice.act ≡ Go → get w.calls choice.thread.0 ≡ Some call → op_of methods call ≡ None → IsOfUpkeep methods w choice

-- it tells nothing, and the set stays
abbrev pub UpkeepIsSilent : Type 0
UpkeepIsSilent = (O : Outline) → is_lawful_header O.header ≡ true → are_lawful_methods O.header O.methods ≡ true → IsValid O → AllHold O
    → (choices : List Choice) (told : List (Option Event)) (g : GhostWorld) (ghosts : List GhostWorld) → GhostRun O.header O.methods choices told (g ∷ ghosts)
    → (choice : Choice) (event : Option Event) (after : WorldState) → next O.methods g.world choice ≡ stepped event after → IsOfUpkeep O.methods g.world choice
    → (event ≡ None) × ((key : ℤ) → differs O.header g.world.heap after.heap key ≡ false)

-- ---- runs

abbrev pub ValidOutlinesAreLinearizable : Type 0
ValidOutlinesAreLinearizable = (O : Outline) → is_lawful_header O.header ≡ true → are_lawful_methods O.header O.methods ≡ true → IsValid O → AllHold O
    → AllRunsLinearizable O.header O.methods

abbrev pub ValidOutlinesReadNoNull : Type 0
ValidOutlinesReadNoNull = (O : Outline) → is_lawful_header O.header ≡ true → are_lawful_methods O.header O.methods ≡ true → IsValid O → AllHold O
    → NoNullReads O.header O.methods
