-- The first of broken rules is one of them, and none stands before it.
use Rattle.std.proofs.Common.{◌≡◌, ℕ, Bool, true, false, nat_lt, inl, inr, List, [], ◌∷◌, Option, None, Some, refl, subst, arith}
use Rattle.std.proofs.Common.{fold}
use Rattle.std.specs.List.{Contains}
use Rattle.std.specs.Option.{MatchOption}
use Rattle.std.proofs.lemmas.List.Elements.{All-nil, All-cons, All-head, All-tail, Contains-get_or, Contains-append_left, Contains-append_right, Contains-append_cases}
use Rattle.plank_rules.specs.declared.broken.Broken.{Broken}
use Rattle.plank_rules.specs.FirstOf.{kind_rank, less_or, stands_before, earlier, first_of, IsFirst}
use Rattle.std.proofs.lemmas.Bool.Decides.{nat_tests}

-- what stands after an earlier one
pub less_or-after : (x a r : ℕ) (xa xr ar : Bool) → (xa ≡ true → xr ≡ false → ar ≡ false) → less_or x a xa ≡ true → less_or x r xr ≡ false → less_or a r ar ≡ false
less_or-after x a r xa xr ar rest before after = grind (arith, nat_tests)

-- what no later one stands before
pub less_or-not : (x a r : ℕ) (xa ar xr : Bool) → (xa ≡ false → ar ≡ false → xr ≡ false) → less_or x a xa ≡ false → less_or a r ar ≡ false → less_or x r xr ≡ false
less_or-not x a r xa ar xr rest one two = grind (arith, nat_tests)

pub less_or-itself : (a : ℕ) (rest : Bool) → rest ≡ false → less_or a a rest ≡ false
less_or-itself a rest none = grind (arith, nat_tests)

kind-after : (x a r : ℕ) → nat_lt x a ≡ true → nat_lt x r ≡ false → nat_lt a r ≡ false
kind-after x a r before after = grind (arith, nat_tests)

kind-not : (x a r : ℕ) → nat_lt x a ≡ false → nat_lt a r ≡ false → nat_lt x r ≡ false
kind-not x a r one two = grind (arith, nat_tests)

kind-itself : (a : ℕ) → nat_lt a a ≡ false
kind-itself a = grind (arith, nat_tests)

-- the same of broken rules
after : (x a r : Broken) → stands_before x a ≡ true → stands_before x r ≡ false → stands_before a r ≡ false
after x a r =
    less_or-after x.place.line a.place.line r.place.line _ _ _
    (less_or-after x.place.column a.place.column r.place.column _ _ _
    (less_or-after x.place.byte a.place.byte r.place.byte _ _ _
    (kind-after (kind_rank x.kind) (kind_rank a.kind) (kind_rank r.kind))))

not_before : (x a r : Broken) → stands_before x a ≡ false → stands_before a r ≡ false → stands_before x r ≡ false
not_before x a r =
    less_or-not x.place.line a.place.line r.place.line _ _ _
    (less_or-not x.place.column a.place.column r.place.column _ _ _
    (less_or-not x.place.byte a.place.byte r.place.byte _ _ _
    (kind-not (kind_rank x.kind) (kind_rank a.kind) (kind_rank r.kind))))

not_itself : (b : Broken) → stands_before b b ≡ false
not_itself b = less_or-itself b.place.line _ (less_or-itself b.place.column _ (less_or-itself b.place.byte _ (kind-itself (kind_rank b.kind))))

-- ---- the first so far and more

in_head : (a : Broken) (xs : List Broken) → Contains (a ∷ xs) a
in_head a xs = Contains-get_or (a ∷ xs) 0 a (omega arith)

in_tail : (a : Broken) (xs : List Broken) (c : Broken) → Contains xs c → Contains (a ∷ xs) c
in_tail a xs c here = Contains-append_right (a ∷ []) xs c here

-- no rule stands before this one
abbrev Later : Broken → Broken → Type 0
Later first other = stands_before other first ≡ false

-- what is found among one and more
record Found (a : Broken) (xs : List Broken) : Type 0 where
  first : Broken
  is : fold earlier (Some a) xs ≡ Some first
  is_first : IsFirst (a ∷ xs) first

-- one more that stands before the first so far
taken : (a x : Broken) (xs : List Broken) → stands_before x a ≡ true → Found x xs → Found a (x ∷ xs)
taken a x xs before found = record {
  first = found.first;
  is = rw before found.is;
  is_first = record {
    member = in_tail a (x ∷ xs) found.first found.is_first.member;
    least = All-cons (Later found.first) a (x ∷ xs)
        (after x a found.first before (All-head (Later found.first) x xs found.is_first.least)) found.is_first.least;
  };
}

-- the first so far is the one, or another that stands further on
kept_member : (a x : Broken) (xs : List Broken) (c : Broken) → Contains (a ∷ xs) c → Contains (a ∷ x ∷ xs) c
kept_member a x xs c here = elim (Contains-append_cases (a ∷ []) xs c here) [
  | inl one ↦ Contains-append_left (a ∷ []) (x ∷ xs) c one
  | inr more ↦ in_tail a (x ∷ xs) c (in_tail x xs c more)
]

-- one more that does not
kept : (a x : Broken) (xs : List Broken) → stands_before x a ≡ false → Found a xs → Found a (x ∷ xs)
kept a x xs later found =
    let head = All-head (Later found.first) a xs found.is_first.least in
    record {
      first = found.first;
      is = rw later found.is;
      is_first = record {
        member = kept_member a x xs found.first found.is_first.member;
        least = All-cons (Later found.first) a (x ∷ xs) head
            (All-cons (Later found.first) x xs (not_before x a found.first later head)
            (All-tail (Later found.first) a xs found.is_first.least));
      };
    }

chosen : (a x : Broken) (xs : List Broken) (test : Bool) → stands_before x a ≡ test → Found x xs → Found a xs → Found a (x ∷ xs)
chosen a x xs true before one other = taken a x xs before one
chosen a x xs false later one other = kept a x xs later other

found : (a : Broken) (xs : List Broken) → Found a xs
found a [] = record {
  first = a;
  is = refl;
  is_first = record { member = in_head a []; least = All-cons (Later a) a [] (not_itself a) (All-nil (Later a)) };
}
found a (x ∷ xs) = chosen a x xs (stands_before x a) refl (found x xs) (found a xs)

pub first_is_least : (broken : List Broken) → MatchOption (first_of broken) (broken ≡ []) (IsFirst broken)
first_is_least [] = refl
first_is_least (a ∷ xs) = let f = found a xs in rw f.is f.is_first

-- where none is first, there is none
pub none_broken : (broken : List Broken) → first_of broken ≡ None → broken ≡ []
none_broken broken h = subst (λ (o : Option Broken). MatchOption o (broken ≡ []) (IsFirst broken)) h (first_is_least broken)
