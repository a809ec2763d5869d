-- A clause that is read literal by literal.
use Rattle.std.proofs.Common.{◌≡◌, ◌∙◌, ◌+◌, ◌<◌, sym, ap, refl, ℕ, Bool, true, false, ◌||◌, take, length, get_or}
use Rattle.std.specs.Prelude.{List, Option, Some, None, is_some, not, if◌then◌else◌}
use Rattle.plank_search.specs.Assignments.{value_at, IsOpen, Agrees, with_value, Narrows}
use Rattle.plank_search.specs.Meanings.{literal_holds, clause_holds}
use Rattle.plank_search.proofs.Narrowing.{with_value-narrows}
use mathlib.Core.Bool.{beq}
use Rattle.std.proofs.lemmas.List.Folds.{list_any_more}
use Rattle.plank_search.specs.declared.clauses.Literal.{Literal}

-- whether the open literal, if there is one, holds
abbrev pub open_holds : (ℕ → Bool) → Option Literal → Bool
open_holds full None = false
open_holds full (Some literal) = literal_holds full literal

-- the literal, if there is one, is open
abbrev pub IsOpenLiteral : List (Option Bool) → Option Literal → Type 0
IsOpenLiteral values None = Unit {0}
IsOpenLiteral values (Some literal) = IsOpen values literal.part

kept-value : (value given : Bool) → (if value then given else not given) ≡ true → given ≡ value
kept-value true given h = h
kept-value false true h = cc
kept-value false false h = refl

broken-value : (value known : Bool) → beq known value ≡ false → (if value then known else not known) ≡ false
broken-value true true h = h
broken-value true false h = refl
broken-value false true h = refl
broken-value false false h = h

-- the last open literal of a clause follows
pub unit-narrows : (clause : List Literal) (values : List (Option Bool)) (literal : Literal) → IsOpen values literal.part →
    ((full : ℕ → Bool) → Agrees values full → clause_holds full clause ≡ literal_holds full literal) →
    Narrows (λ full. clause_holds full clause ≡ true) values (with_value values literal.part literal.value)
unit-narrows clause values literal open_part alone =
    with_value-narrows values literal.part literal.value open_part
    (λ full meets agrees. kept-value literal.value (full literal.part) (sym (alone full agrees) ∙ meets))

-- a literal whose part has the other value is false of all that agree
pub broken-literal : (values : List (Option Bool)) (literal : Literal) (known : Bool) → value_at values literal.part ≡ Some known →
    beq known literal.value ≡ false → (full : ℕ → Bool) → Agrees values full → literal_holds full literal ≡ false
broken-literal values literal known read differs full agrees =
    ap (λ (given : Bool). if literal.value then given else not given) (agrees.decided literal.part known read) ∙ broken-value literal.value known differs

or-false : (a b c : Bool) → a ≡ c → b ≡ false → (a || b) ≡ c
or-false true b c h e = h
or-false false b c h e = e ∙ h

none-open : (full : ℕ → Bool) (one : Option Literal) → is_some one ≡ false → open_holds full one ≡ false
none-open full None h = refl
none-open full (Some literal) h = cc

-- one more literal, which is false
pub more-false : (full : ℕ → Bool) (clause : List Literal) (i : ℕ) (d : Literal) (one : Option Literal) → i < length clause →
    clause_holds full (take i clause) ≡ open_holds full one → literal_holds full (get_or clause i d) ≡ false →
    clause_holds full (take (i + 1) clause) ≡ open_holds full one
more-false full clause i d one below so_far broken =
    list_any_more (literal_holds full) clause i d below
    ∙ or-false (clause_holds full (take i clause)) (literal_holds full (get_or clause i d)) (open_holds full one) so_far broken

-- one more literal, the first open one
pub more-open : (full : ℕ → Bool) (clause : List Literal) (i : ℕ) (d : Literal) (one : Option Literal) → i < length clause →
    clause_holds full (take i clause) ≡ open_holds full one → is_some one ≡ false →
    clause_holds full (take (i + 1) clause) ≡ literal_holds full (get_or clause i d)
more-open full clause i d one below so_far none =
    list_any_more (literal_holds full) clause i d below
    ∙ ap (λ (a : Bool). a || literal_holds full (get_or clause i d)) (so_far ∙ none-open full one none)
