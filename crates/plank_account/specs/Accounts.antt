-- Accounts: what each step of a run was for the set and for the history, with the reason of every change and of every
-- answer. They know no program and no heap: the set is a test of keys, and the newest step stands first.
use Rattle.std.specs.Prelude.{◌≡◌, ◌≢◌, ℕ, ◌+◌, ◌≤◌, ◌==◌, ℤ, Bool, true, false, List, [], ◌∷◌, length, slice_get, Option, Some, None, if◌then◌else◌}
use Rattle.plank_base.specs.declared.operations.Op.{Op}
use Rattle.plank_base.specs.declared.operations.Op.TheVariants.{Contains, Insert, Delete}
use Rattle.plank_base.specs.declared.keys.ThreadId.{ThreadId}
use Rattle.plank_hist.specs.declared.events.Event.{Event}
use Rattle.plank_hist.specs.declared.events.Event.TheVariants.{Invoke, Respond}
use Rattle.plank_hist.specs.Sets.{present_after}
use Rattle.plank_hist.specs.Linearizability.{IsLinearizableSet}
use Rattle.plank_sem.specs.Runs.{history, moment_of}
use Rattle.plank_sem.specs.Kept.{updated}

-- ---- the pending call of a thread

-- a call of a history, by the place of its invocation
pub record PendingCall : Type 0 where
  pub place : ℕ
  pub op : Op
  pub key : ℤ

-- what a step leaves pending of a thread, where the next event would stand at this place
abbrev pub pending_after : ℕ → ℕ → Option Event → Option PendingCall → Option PendingCall
pending_after thread place None before = before
pending_after thread place (Some (Invoke other op key)) before =
    if other.0 == thread then Some (record { place = place; op = op; key = key }) else before
pending_after thread place (Some (Respond other answer)) before = if other.0 == thread then None else before

abbrev pub pending_of : ℕ → List (Option Event) → Option PendingCall
pending_of thread [] = None
pending_of thread (event ∷ told) = pending_after thread (length (history told)) event (pending_of thread told)

-- ---- reasons

-- a call of this operation may turn whether its key is present, by whether it was
abbrev pub MayTurn : Op → Bool → Type 0
MayTurn Contains present = ⊥
MayTurn Insert present = present ≡ false
MayTurn Delete present = present ≡ true

-- from one set to another by a call of this operation at this key
pub record Turns (op : Op) (key : ℤ) (before after : ℤ → Bool) : Type 0 where
  pub allowed : MayTurn op (before key)
  pub own : after key ≡ present_after op (before key)
  pub others : (other : ℤ) → other ≢ key → after other ≡ before other

-- an answer is justified: by whether the call has changed the set, and by what its key was at some moment of it
abbrev pub IsJustified : (Bool → Type 0) → Bool → Op → Bool → Type 0
IsJustified WasSo has_changed Contains answer = WasSo answer
IsJustified WasSo has_changed Insert true = has_changed ≡ true
IsJustified WasSo has_changed Insert false = (has_changed ≡ false) × WasSo true
IsJustified WasSo has_changed Delete true = has_changed ≡ true
IsJustified WasSo has_changed Delete false = (has_changed ≡ false) × WasSo false

-- at some moment of a call, the one after its invocation or a later one, its key was present, or was not
pub record WasSo (told : List (Option Event)) (states : List (ℤ → Bool)) (call : PendingCall) (present : Bool) : Type 0 where
  pub ago : ℕ
  pub since : moment_of told call.place + ago ≤ length told
  pub moment : ℤ → Bool
  pub at : slice_get states ago ≡ Some moment
  pub was : moment call.key ≡ present

-- ---- accounts

-- by what the steps told, for each thread whether its pending call has changed the set, and the sets at all moments
pub data Account : List (Option Event) → (ℕ → Bool) → List (ℤ → Bool) → Type 0 where
  -- the set starts empty
  starts : (changed : ℕ → Bool) → Account [] changed ((λ key. false) ∷ [])
  -- nothing told, nothing changed
  rests : {told : List (Option Event)} {changed : ℕ → Bool} {before : ℤ → Bool} {states : List (ℤ → Bool)} → Account told changed (before ∷ states)
      → Account (None ∷ told) changed (before ∷ before ∷ states)
  -- a call that had not changed the set changes it at its own key
  changes : {told : List (Option Event)} {changed : ℕ → Bool} {before : ℤ → Bool} {states : List (ℤ → Bool)} → Account told changed (before ∷ states)
      → (thread : ℕ) (call : PendingCall) (after : ℤ → Bool) → pending_of thread told ≡ Some call → changed thread ≡ false → Turns call.op call.key before after
      → Account (None ∷ told) (updated changed thread true) (after ∷ before ∷ states)
  -- a call begins
  invokes : {told : List (Option Event)} {changed : ℕ → Bool} {before : ℤ → Bool} {states : List (ℤ → Bool)} → Account told changed (before ∷ states) → (thread : ThreadId) (op : Op) (key : ℤ)
      → Account (Some (Invoke thread op key) ∷ told) (updated changed thread.0 false) (before ∷ before ∷ states)
  -- a call ends with an answer that is justified
  responds : {told : List (Option Event)} {changed : ℕ → Bool} {before : ℤ → Bool} {states : List (ℤ → Bool)} → Account told changed (before ∷ states)
      → (thread : ThreadId) (answer : Bool) (call : PendingCall) → pending_of thread.0 told ≡ Some call → IsJustified (WasSo told (before ∷ states) call) (changed thread.0) call.op answer
      → Account (Some (Respond thread answer) ∷ told) changed (before ∷ before ∷ states)

-- ---- the law

-- a history that has an account is linearizable to a set
abbrev pub AccountsAreLinearizable : Type 0
AccountsAreLinearizable = (told : List (Option Event)) (changed : ℕ → Bool) (states : List (ℤ → Bool)) → Account told changed states → IsLinearizableSet (history told)
