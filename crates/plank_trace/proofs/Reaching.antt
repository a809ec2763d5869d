-- Every schedule has a trace, or a step that cannot be made.
use Rattle.std.proofs.Common.{◌≡◌, ◌⊎◌, ℕ, zero, suc, ◌<◌, ◌≤◌, List, [], length, slice_get, Some, refl, subst, inl, inr, arith}
use Rattle.std.proofs.lemmas.Option.{slice_get_cases}
use Rattle.plank_prog.specs.declared.headers.Header.{Header}
use Rattle.plank_prog.specs.declared.methods.Method.{Method}
use Rattle.plank_sem.specs.Worlds.{WorldState, start_world}
use Rattle.plank_sem.specs.Steps.{Next, next, stepped, refused, null_read}
use Rattle.plank_trace.specs.declared.lines.Line.{Line}
use Rattle.plank_trace.specs.Lines.{choice_of}
use Rattle.plank_trace.specs.Traces.{Plays, begins, goes_on, IsTrace, to_its_end, to_null, IsBadStep, refused_after}

module _ (h : Header) (methods : List Method) (lines : List Line) where
  -- the first m lines are played, or it ended before
  data Reached (m : ℕ) : Type 0 where
    plays : (w : WorldState) (shown : List ℕ) → Plays h methods lines m w shown → Reached m
    traced : (bytes : List ℕ) → IsTrace h methods lines bytes → Reached m
    stuck : (i : ℕ) → IsBadStep h methods lines i → Reached m

  step_on : (m : ℕ) (w : WorldState) (shown : List ℕ) → Plays h methods lines m w shown → (line : Line) → slice_get lines m ≡ Some line → (n : Next) → next methods w (choice_of methods line) ≡ n → Reached (suc m)
  step_on m w shown played line at (stepped event after) is = plays after _ (goes_on (suc m) after _ m w shown played line at event is refl refl)
  step_on m w shown played line at refused is = stuck (suc m) (refused_after m w shown played line at is refl)
  step_on m w shown played line at null_read is = traced _ (to_null m w shown played line at is refl)

  next_line : (m : ℕ) → m < length lines → Reached m → Reached (suc m)
  next_line m within (traced bytes is) = traced bytes is
  next_line m within (stuck i is) = stuck i is
  next_line m within (plays w shown played) =
      elim (slice_get_cases lines m).1 [
        | inl found ↦ step_on m w shown played found.0 found.2 (next methods w (choice_of methods found.0)) refl
        | inr past ↦ let over = past.0 in absurd (omega arith)
      ]

  reached : (m : ℕ) → m ≤ length lines → Reached m
  reached zero within = plays (start_world h) [] (begins 0 (start_world h) [] refl refl refl)
  reached (suc m) within = next_line m (omega arith) (reached m (omega arith))

  all_reached : (m : ℕ) → m ≡ length lines → Reached m → ((bytes : List ℕ) × IsTrace h methods lines bytes) ⊎ ((i : ℕ) × IsBadStep h methods lines i)
  all_reached m all (plays w shown played) = inl (shown, to_its_end w (subst (λ (k : ℕ). Plays h methods lines k w shown) all played))
  all_reached m all (traced bytes is) = inl (bytes, is)
  all_reached m all (stuck i is) = inr (i, is)

  pub some_trace : ((bytes : List ℕ) × IsTrace h methods lines bytes) ⊎ ((i : ℕ) × IsBadStep h methods lines i)
  some_trace = all_reached (length lines) refl (reached (length lines) (omega arith))
