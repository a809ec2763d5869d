-- The law of hindsight, of the newest world of a run: what follows by hindsight from a past fact of a pending call was true
-- at some moment of the call.
use Rattle.std.specs.Prelude.{◌≡◌, ℕ, true, List, ◌∷◌, Option, Some}
use Rattle.std.specs.FinMap.{get}
use Rattle.plank_prog.specs.declared.methods.Method.{Method}
use Rattle.plank_sem.specs.declared.calls.Call.{Call}
use Rattle.plank_sem.specs.declared.steps.Choice.{Choice}
use Rattle.plank_sem.specs.Kept.{GhostWorld}
use Rattle.plank_pic.specs.declared.literals.Literal.{Literal}
use Rattle.plank_fact.specs.Literals.{is_lasting, can_be_past}
use Rattle.plank_fact.specs.Outlines.{Outline, Point}
use Rattle.plank_fact.specs.Hindsight.{IsHindsight}
use Rattle.plank_sound.specs.Sights.{holds, sight_of, values_of, WasTrue}

-- a literal is true now of what the call sees
abbrev pub IsTrueNow : (O : Outline) → GhostWorld → ℕ → Call → Method → Literal → Type 0
IsTrueNow O g thread call m L = holds O.header (sight_of O.header g thread call m) L ≡ true

abbrev pub WasTrueOnce : (O : Outline) → List Choice → GhostWorld → List GhostWorld → ℕ → Call → Method → Literal → Type 0
WasTrueOnce O choices g ghosts thread call m L = WasTrue O.header choices (g ∷ ghosts) thread (values_of g.world.heap call m) call.key L

abbrev pub HindsightHolds : (O : Outline) → List Choice → GhostWorld → List GhostWorld → Type 1
HindsightHolds O choices g ghosts = (thread : ℕ) (call : Call) → get g.world.calls thread ≡ Some call → (x : Point O.methods) → x.m ≡ call.method
    → (Lasting : Literal → Type 0) → ((L : Literal) → Lasting L → (is_lasting L ≡ true) × IsTrueNow O g thread call x.method L)
    → (past : Literal) → WasTrueOnce O choices g ghosts thread call x.method past → (now : Option Literal) → ((b : Literal) → now ≡ Some b → IsTrueNow O g thread call x.method b)
    → (conclusion : Literal) → can_be_past conclusion ≡ true → IsHindsight O x.method Lasting past now conclusion → WasTrueOnce O choices g ghosts thread call x.method conclusion
