-- A whole picture has nothing open: what a rule answers of it is so.
use Rattle.std.proofs.Common.{◌≡◌, ℕ, Bool, true, false, Some, sym, ◌∙◌}
use Rattle.std.specs.Prelude.{Result, Ok, Err}
use Rattle.std.proofs.lemmas.Option.{none-some, same_Some}
use Rattle.plank_walk.specs.Settles.{Agrees, Settles}
use Rattle.plank_whole.specs.Wholes.{is_true_of}

-- one assignment of nothing that is open
abbrev pub nothing : ℕ → Bool
nothing n = false

pub agrees_whole : Agrees (λ n. Some false) nothing
agrees_whole = record { decided = λ n b e. same_Some false b e }

pub sure : (v : Bool) (r : Result Bool ℕ) → Settles (λ full. v) (λ n. Some false) r → is_true_of r ≡ v
sure v (Ok b) s = sym (s nothing agrees_whole)
sure v (Err n) s = absurd (none-some false (sym s))

pub sure_true : (v : Bool) (r : Result Bool ℕ) (b : Bool) → Settles (λ full. v) (λ n. Some false) r → b ≡ is_true_of r → b ≡ true → v ≡ true
sure_true v r b s e h = sym (sure v r s) ∙ sym e ∙ h

pub sure_false : (v : Bool) (r : Result Bool ℕ) (b : Bool) → Settles (λ full. v) (λ n. Some false) r → b ≡ is_true_of r → b ≡ false → v ≡ false
sure_false v r b s e h = sym (sure v r s) ∙ sym e ∙ h
