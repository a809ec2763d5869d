-- Traces: the one run that a schedule makes, and what is shown of it.
use Rattle.std.specs.Prelude.{◌≡◌, ℕ, zero, suc, List, [], ◌∷◌, ◌++◌, length, slice_get, Option, Some}
use Rattle.std.specs.Option.{option_map_or}
use Rattle.plank_prog.specs.declared.headers.Header.{Header}
use Rattle.plank_prog.specs.declared.methods.Method.{Method}
use Rattle.plank_hist.specs.declared.events.Event.{Event}
use Rattle.plank_sem.specs.declared.steps.Choice.{Choice}
use Rattle.plank_sem.specs.Worlds.{WorldState, start_world}
use Rattle.plank_sem.specs.Steps.{next, stepped, refused, null_read}
use Rattle.plank_trace.specs.declared.lines.Line.{Line}
use Rattle.plank_trace.specs.Lines.{choice_of}
use Rattle.plank_trace.specs.Keys.{keys_of}
use Rattle.plank_trace.specs.Texts.{stands_at, thread_of, step_text, null_text, walks_text}

-- what the first n lines choose, the last of them first
abbrev pub choices_of : List Method → List Line → ℕ → List Choice
choices_of methods lines zero = []
choices_of methods lines (suc n) =
    option_map_or (λ line. choice_of methods line ∷ choices_of methods lines n) (slice_get lines n) (choices_of methods lines n)

module _ (h : Header) (methods : List Method) (lines : List Line) where
  -- the first m lines lead to this world, and this is shown of their steps
  pub data Plays : ℕ → WorldState → List ℕ → Type 0 where
    begins : (m : ℕ) (w : WorldState) (shown : List ℕ) → m ≡ 0 → w ≡ start_world h → shown ≡ [] → Plays m w shown
    goes_on : (m : ℕ) (w : WorldState) (shown : List ℕ) (n : ℕ) (before : WorldState) (bytes : List ℕ) → Plays n before bytes → (line : Line) → slice_get lines n ≡ Some line → (event : Option Event) → next methods before (choice_of methods line) ≡ stepped event w → m ≡ suc n
        → shown ≡ bytes ++ step_text (suc n) line (stands_at methods before (thread_of line)) event ++ walks_text h w.heap (keys_of lines) → Plays m w shown

  -- the whole trace: all lines are made, or one comes to a read or a write of a field of null, and the trace ends there
  pub data IsTrace (bytes : List ℕ) : Type 0 where
    to_its_end : (w : WorldState) → Plays (length lines) w bytes → IsTrace bytes
    to_null : (n : ℕ) (w : WorldState) (shown : List ℕ) → Plays n w shown → (line : Line) → slice_get lines n ≡ Some line → next methods w (choice_of methods line) ≡ null_read → bytes ≡ shown ++ null_text (suc n) line (stands_at methods w (thread_of line)) → IsTrace bytes

  -- step i, from 1, is the first that is refused, and no step before it comes to null
  pub data IsBadStep (i : ℕ) : Type 0 where
    refused_after : (n : ℕ) (w : WorldState) (shown : List ℕ) → Plays n w shown → (line : Line) → slice_get lines n ≡ Some line → next methods w (choice_of methods line) ≡ refused → i ≡ suc n → IsBadStep i
