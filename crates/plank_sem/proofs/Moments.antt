-- Moments of events: each comes within the run, and later events at later moments.
use Rattle.std.proofs.Common.{◌≡◌, ℕ, suc, ◌<◌, ◌≤◌, Bool, true, false, eqb, List, [], ◌∷◌, length, Option, Some, None, refl, sym, subst, arith, length-append}
use Rattle.std.specs.Prelude.{if◌then◌else◌}
use Rattle.std.proofs.lemmas.Bool.{eqb-true, eqb-false, ne_eqb}
use Rattle.plank_hist.specs.declared.events.Event.{Event}
use Rattle.plank_sem.specs.Runs.{history, moment_of}

chosen_within : (same : Bool) (n m : ℕ) → m ≤ n → (if same then suc n else m) ≤ suc n
chosen_within true n m le = omega arith
chosen_within false n m le = omega arith

pub moment_within : (told : List (Option Event)) (place : ℕ) → moment_of told place ≤ length told
moment_within [] place = omega arith
moment_within (None ∷ told) place = let le = moment_within told place in omega arith
moment_within (Some event ∷ told) place = chosen_within (eqb place (length (history told))) (length told) (moment_of told place) (moment_within told place)

-- the earlier of two places is not the last one
rises_at : (last : Bool) (i j l n : ℕ) (first second : ℕ) → eqb j l ≡ last → i < j → j < suc l → first ≤ n → (j < l → first < second)
    → (if eqb i l then suc n else first) < (if last then suc n else second)
rises_at true i j l n first second e lt below within rises =
    let place : j ≡ l = eqb-true j l e in
    let earlier : eqb i l ≡ false = ne_eqb i l (λ same. absurd (omega arith)) in
    subst (λ b. (if b then suc n else first) < suc n) (sym earlier) (omega arith)
rises_at false i j l n first second e lt below within rises =
    let apart = eqb-false j l e in
    let next : j < l = omega arith in
    let earlier : eqb i l ≡ false = ne_eqb i l (λ same. absurd (omega arith)) in
    subst (λ b. (if b then suc n else first) < second) (sym earlier) (rises next)

pub moments_rise : (told : List (Option Event)) (i j : ℕ) → i < j → j < length (history told) → moment_of told i < moment_of told j
moments_rise [] i j lt below = absurd (omega arith)
moments_rise (None ∷ told) i j lt below = moments_rise told i j lt below
moments_rise (Some event ∷ told) i j lt below =
    let longer = length-append (history told) (event ∷ []) in
    rises_at (eqb j (length (history told))) i j (length (history told)) (length told) (moment_of told i) (moment_of told j) refl lt (omega (arith, longer, below))
    (moment_within told i) (λ next. moments_rise told i j lt next)
