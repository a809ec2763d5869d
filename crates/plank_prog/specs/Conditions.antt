-- The value of a condition, over a view: answers about keys, flags, pointers and the walk.
use Rattle.std.specs.Prelude.{◌≡◌, ◌⊎◌, ℕ, Bool, true, false, not, ◌&&◌, ◌||◌, List, [], ◌∷◌}
use Rattle.std.specs.Bool.{beq}
use Rattle.plank_prog.specs.declared.conditions.KeyTerm.{KeyTerm}
use Rattle.plank_prog.specs.declared.conditions.KeyRelation.{KeyRelation}
use Rattle.plank_prog.specs.declared.conditions.Condition.{Condition}
use Rattle.plank_prog.specs.declared.conditions.Condition.TheOpen.{Condition-F}
use Rattle.plank_prog.specs.declared.conditions.Condition.TheFolds.{fold-Condition}

-- the answers that a condition asks for: heaps, pictures and stop nodes each give them
pub record View : Type 0 where
  pub at_most : KeyTerm → KeyTerm → Bool
  pub flag : ℕ → Bool
  pub null : ℕ → Bool
  pub visited : Bool

-- whether two keys compare so, by an order that says which lies at or below which
abbrev pub compares : {K : Type 0} → (K → K → Bool) → KeyRelation → K → K → Bool
compares at_most KeyRelation.Equal a b = at_most a b && at_most b a
compares at_most KeyRelation.NotEqual a b = not (at_most a b && at_most b a)
compares at_most KeyRelation.Less a b = not (at_most b a)
compares at_most KeyRelation.AtMost a b = at_most a b

-- whether each of these is true
abbrev pub all_true : List Bool → Bool
all_true [] = true
all_true (b ∷ bs) = b && all_true bs

-- whether one of these is true
abbrev pub some_true : List Bool → Bool
some_true [] = false
some_true (b ∷ bs) = b || some_true bs

-- one layer of a condition, with the values of its parts
abbrev pub value_step : View → Condition-F Bool → Bool
value_step v (Condition-F.Constant b) = b
value_step v (Condition-F.Flag f set) = beq (v.flag f) set
value_step v (Condition-F.Flags f g equal) = beq (beq (v.flag f) (v.flag g)) equal
value_step v (Condition-F.Pointer p null) = beq (v.null p) null
value_step v (Condition-F.Keys a relation b) = compares v.at_most relation a b
value_step v Condition-F.Visited = v.visited
value_step v (Condition-F.All bs) = all_true bs
value_step v (Condition-F.Any bs) = some_true bs

-- the value of a condition at a view
abbrev pub value : View → Condition → Bool
value v = fold-Condition Bool (value_step v)

-- two views that give the same answers
pub record SameAnswers (v w : View) : Type 0 where
  pub at_most : (a b : KeyTerm) → v.at_most a b ≡ w.at_most a b
  pub flag : (f : ℕ) → v.flag f ≡ w.flag f
  pub null : (p : ℕ) → v.null p ≡ w.null p
  pub visited : v.visited ≡ w.visited

-- an order in which any two can be compared
pub record IsTotalPreorder {K : Type 0} (at_most : K → K → Bool) : Type 0 where
  pub total : (a b : K) → (at_most a b ≡ true) ⊎ (at_most b a ≡ true)
  pub transitive : (a b c : K) → at_most a b ≡ true → at_most b c ≡ true → at_most a c ≡ true
