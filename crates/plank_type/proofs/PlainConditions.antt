-- What a condition without parts asks of its scope.
use Rattle.std.proofs.Common.{◌≡◌, ℕ, Bool, true, ◌&&◌, sym, ◌∙◌, ap}
use Rattle.std.specs.Prelude.{nat_lt}
use Rattle.plank_prog.specs.declared.conditions.Condition.{Condition}
use Rattle.plank_prog.specs.declared.conditions.Condition.TheOpen.{Condition-F}
use Rattle.plank_prog.specs.declared.conditions.Condition.TheFolds.{fold-roll-Condition}
use Rattle.plank_prog.specs.declared.conditions.Condition.TheVariants.{rolls-Constant, rolls-Flag, rolls-Flags, rolls-Pointer, rolls-Keys, rolls-Visited}
use Rattle.plank_prog.specs.declared.conditions.KeyTerm.{KeyTerm}
use Rattle.plank_prog.specs.declared.conditions.KeyRelation.{KeyRelation}
use Rattle.plank_prog.specs.declared.scopes.Scope.{Scope}
use Rattle.plank_prog.specs.Scopes.{condition_fits, fits_step, term_fits}

pub constant_fits : (s : Scope) (b : Bool) → condition_fits s (Condition.Constant b) ≡ true
constant_fits s b = ap (condition_fits s) (sym (rolls-Constant b)) ∙ fold-roll-Condition Bool (fits_step s) (Condition-F.Constant b)

pub flag_fits : (s : Scope) (f : ℕ) (set : Bool) → condition_fits s (Condition.Flag f set) ≡ nat_lt f s.flags
flag_fits s f set = ap (condition_fits s) (sym (rolls-Flag f set)) ∙ fold-roll-Condition Bool (fits_step s) (Condition-F.Flag f set)

pub flags_fit : (s : Scope) (f g : ℕ) (equal : Bool) → condition_fits s (Condition.Flags f g equal) ≡ (nat_lt f s.flags && nat_lt g s.flags)
flags_fit s f g equal = ap (condition_fits s) (sym (rolls-Flags f g equal)) ∙ fold-roll-Condition Bool (fits_step s) (Condition-F.Flags f g equal)

pub pointer_fits : (s : Scope) (p : ℕ) (null : Bool) → condition_fits s (Condition.Pointer p null) ≡ nat_lt p s.pointers
pointer_fits s p null = ap (condition_fits s) (sym (rolls-Pointer p null)) ∙ fold-roll-Condition Bool (fits_step s) (Condition-F.Pointer p null)

pub keys_fit : (s : Scope) (a : KeyTerm) (relation : KeyRelation) (b : KeyTerm) → condition_fits s (Condition.Keys a relation b) ≡ (term_fits s a && term_fits s b)
keys_fit s a relation b = ap (condition_fits s) (sym (rolls-Keys a relation b)) ∙ fold-roll-Condition Bool (fits_step s) (Condition-F.Keys a relation b)

pub visited_fits : (s : Scope) → condition_fits s Condition.Visited ≡ s.visited
visited_fits s = ap (condition_fits s) (sym rolls-Visited) ∙ fold-roll-Condition Bool (fits_step s) Condition-F.Visited
