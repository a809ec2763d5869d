-- Which fields and keys a condition may ask for, where it stands.
use Rattle.std.specs.Prelude.{◌≡◌, ◌<◌, ℕ, Bool, true, ◌&&◌, nat_lt}
use Rattle.plank_prog.specs.declared.conditions.KeyTerm.{KeyTerm}
use Rattle.plank_prog.specs.declared.conditions.Condition.{Condition}
use Rattle.plank_prog.specs.declared.conditions.Condition.TheOpen.{Condition-F}
use Rattle.plank_prog.specs.declared.conditions.Condition.TheFolds.{fold-Condition}
use Rattle.plank_prog.specs.declared.scopes.Scope.{Scope}
use Rattle.plank_prog.specs.Conditions.{View, all_true}

abbrev pub term_fits : Scope → KeyTerm → Bool
term_fits s KeyTerm.Node = true
term_fits s KeyTerm.Walked = s.walked
term_fits s KeyTerm.Min = true
term_fits s KeyTerm.Max = true

-- one layer of a condition, with whether its parts fit
abbrev pub fits_step : Scope → Condition-F Bool → Bool
fits_step s (Condition-F.Constant b) = true
fits_step s (Condition-F.Flag f set) = nat_lt f s.flags
fits_step s (Condition-F.Flags f g equal) = nat_lt f s.flags && nat_lt g s.flags
fits_step s (Condition-F.Pointer p null) = nat_lt p s.pointers
fits_step s (Condition-F.Keys a relation b) = term_fits s a && term_fits s b
fits_step s Condition-F.Visited = s.visited
fits_step s (Condition-F.All bs) = all_true bs
fits_step s (Condition-F.Any bs) = all_true bs

-- whether a condition asks for no more than its scope gives
abbrev pub condition_fits : Scope → Condition → Bool
condition_fits s = fold-Condition Bool (fits_step s)

-- two views that give the same answers to what a scope may ask
pub record AgreeWithin (s : Scope) (v w : View) : Type 0 where
  pub at_most : (a b : KeyTerm) → term_fits s a ≡ true → term_fits s b ≡ true → v.at_most a b ≡ w.at_most a b
  pub flag : (f : ℕ) → f < s.flags → v.flag f ≡ w.flag f
  pub null : (p : ℕ) → p < s.pointers → v.null p ≡ w.null p
  pub visited : s.visited ≡ true → v.visited ≡ w.visited
