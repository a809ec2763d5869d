-- A fact of the table stands at the place that is counted out for it, and so it has one number.
use Rattle.std.specs.Prelude.{◌≡◌, ℕ, zero, suc, ◌+◌, ◌*◌, ◌<◌, ◌≤◌, ◌&&◌, nat_eq, nat_lt, Bool, true, List, [], ◌∷◌, length, take, sum_by, slice_get, Some, None, if◌then◌else◌}
use Rattle.std.specs.List.{flat_map}
use Rattle.std.proofs.Common.{refl, sym, ◌∙◌, ap, subst, inl, inr, arith}
use Rattle.std.proofs.lemmas.Bool.{and_parts, eqb-true, lt-ltb, le-ltb, cases_lt}
use Rattle.std.proofs.lemmas.List.Concat.{length-flat_map}
use Rattle.std.proofs.lemmas.List.Sums.{sum_by-le-sum_by}
use Rattle.std.proofs.lemmas.Option.{same_Some, none-some, slice_get_past}
use Rattle.plank_prog.specs.declared.headers.Header.{Header}
use Rattle.plank_prog.specs.declared.blocks.Reference.{Reference}
use Rattle.plank_prog.specs.declared.methods.Method.{Method}
use Rattle.plank_pic.specs.declared.literals.Literal.{Literal}
use Rattle.plank_fact.specs.declared.facts.Fact.{Fact}
use Rattle.plank_fact.specs.declared.kinds.FactKind.{FactKind}
use Rattle.plank_fact.specs.declared.kinds.TheConstants.{FACT_KINDS}
use Rattle.plank_fact.specs.declared.layouts.Parts.{Parts}
use Rattle.plank_fact.specs.declared.layouts.Sizes.{Sizes}
use Rattle.plank_fact.specs.declared.layouts.Seconds.{Seconds}
use Rattle.plank_fact.specs.declared.layouts.Layout.{Layout}
use Rattle.plank_fact.specs.Tables.{name_at, name_count, facts_of_kind, facts_of, IsNumbered}
use Rattle.plank_fact.specs.Places.{number_of, at, kind_number, fact_of, kind_now, kind_past, kind_of, parts_of_literal, parts_of, sizes_of, over, layout_of, count_of, second_of, second_count, size_of, facts_within, start, IsPlace}
use Rattle.plank_fact.proofs.Joined.{flat_map_found, in_one}
use Rattle.plank_fact.proofs.Counted.{counted_found, counted_there, length-counted_out, facts_of_kind-counted}

-- ---- kinds by their numbers

numbered_from : ℕ → List FactKind → Bool
numbered_from n [] = true
numbered_from n (k ∷ ks) = nat_eq (kind_number k) n && numbered_from (suc n) ks

number_so : (ks : List FactKind) (n i : ℕ) (k : FactKind) → numbered_from n ks ≡ true → slice_get ks i ≡ Some k → kind_number k ≡ n + i
unfolding numbered_from
number_so [] n i k all h = absurd (none-some k h)
number_so (z ∷ ks) n zero k all h =
    let first = eqb-true (kind_number z) n (and_parts (nat_eq (kind_number z) n) (numbered_from (suc n) ks) all).0 in
    let same = ap kind_number (same_Some z k h) in
    omega arith
number_so (z ∷ ks) n (suc i) k all h =
    let rest = number_so ks (suc n) i k (and_parts (nat_eq (kind_number z) n) (numbered_from (suc n) ks) all).1 h in
    omega arith

kind_number_so : (i : ℕ) (k : FactKind) → slice_get FACT_KINDS i ≡ Some k → kind_number k ≡ i
unfolding numbered_from
kind_number_so i k h = let so = number_so FACT_KINDS 0 i k refl h in omega arith

kind_there : (k : FactKind) → slice_get FACT_KINDS (kind_number k) ≡ Some k
kind_there FactKind.Same = refl
kind_there FactKind.Apart = refl
kind_there FactKind.Null = refl
kind_there FactKind.NotNull = refl
kind_there FactKind.KeyBelow = refl
kind_there FactKind.KeyAtMost = refl
kind_there FactKind.BelowArgument = refl
kind_there FactKind.AtMostArgument = refl
kind_there FactKind.AboveArgument = refl
kind_there FactKind.AtLeastArgument = refl
kind_there FactKind.KeyIsMin = refl
kind_there FactKind.AboveMin = refl
kind_there FactKind.BelowMax = refl
kind_there FactKind.KeyIsMax = refl
kind_there FactKind.Flag = refl
kind_there FactKind.NoFlag = refl
kind_there FactKind.Leads = refl
kind_there FactKind.LeadsNowhere = refl
kind_there FactKind.Locked = refl
kind_there FactKind.Owned = refl
kind_there FactKind.Shared = refl
kind_there FactKind.Visited = refl
kind_there FactKind.InSet = refl
kind_there FactKind.NotInSet = refl
kind_there FactKind.Chain = refl
kind_there FactKind.PastVisited = refl
kind_there FactKind.PastFlag = refl
kind_there FactKind.PastNoFlag = refl
kind_there FactKind.PastInSet = refl
kind_there FactKind.PastNotInSet = refl
kind_there FactKind.Spent = refl
kind_there FactKind.Unspent = refl

-- ---- a fact by its kind and its parts

name_at-number_of : (q : Reference) → name_at (number_of q) ≡ q
name_at-number_of Reference.Root = refl
name_at-number_of (Reference.Variable v) = refl

number_of-name_at : (i : ℕ) → number_of (name_at i) ≡ i
number_of-name_at zero = refl
number_of-name_at (suc v) = refl

now_again : (L : Literal) → fact_of (kind_now L) (parts_of_literal L) ≡ Fact.Now L
now_again (Literal.Same q r) = ap (λ v. Fact.Now (Literal.Same v (name_at (number_of r)))) (name_at-number_of q) ∙ ap (λ v. Fact.Now (Literal.Same q v)) (name_at-number_of r)
now_again (Literal.Apart q r) = ap (λ v. Fact.Now (Literal.Apart v (name_at (number_of r)))) (name_at-number_of q) ∙ ap (λ v. Fact.Now (Literal.Apart q v)) (name_at-number_of r)
now_again (Literal.Null q) = ap (λ v. Fact.Now (Literal.Null v)) (name_at-number_of q)
now_again (Literal.NotNull q) = ap (λ v. Fact.Now (Literal.NotNull v)) (name_at-number_of q)
now_again (Literal.KeyBelow q r) = ap (λ v. Fact.Now (Literal.KeyBelow v (name_at (number_of r)))) (name_at-number_of q) ∙ ap (λ v. Fact.Now (Literal.KeyBelow q v)) (name_at-number_of r)
now_again (Literal.KeyAtMost q r) = ap (λ v. Fact.Now (Literal.KeyAtMost v (name_at (number_of r)))) (name_at-number_of q) ∙ ap (λ v. Fact.Now (Literal.KeyAtMost q v)) (name_at-number_of r)
now_again (Literal.BelowArgument q) = ap (λ v. Fact.Now (Literal.BelowArgument v)) (name_at-number_of q)
now_again (Literal.AtMostArgument q) = ap (λ v. Fact.Now (Literal.AtMostArgument v)) (name_at-number_of q)
now_again (Literal.AboveArgument q) = ap (λ v. Fact.Now (Literal.AboveArgument v)) (name_at-number_of q)
now_again (Literal.AtLeastArgument q) = ap (λ v. Fact.Now (Literal.AtLeastArgument v)) (name_at-number_of q)
now_again (Literal.KeyIsMin q) = ap (λ v. Fact.Now (Literal.KeyIsMin v)) (name_at-number_of q)
now_again (Literal.AboveMin q) = ap (λ v. Fact.Now (Literal.AboveMin v)) (name_at-number_of q)
now_again (Literal.BelowMax q) = ap (λ v. Fact.Now (Literal.BelowMax v)) (name_at-number_of q)
now_again (Literal.KeyIsMax q) = ap (λ v. Fact.Now (Literal.KeyIsMax v)) (name_at-number_of q)
now_again (Literal.Flag q f) = ap (λ v. Fact.Now (Literal.Flag v f)) (name_at-number_of q)
now_again (Literal.NoFlag q f) = ap (λ v. Fact.Now (Literal.NoFlag v f)) (name_at-number_of q)
now_again (Literal.Leads q f r) = ap (λ v. Fact.Now (Literal.Leads v f (name_at (number_of r)))) (name_at-number_of q) ∙ ap (λ v. Fact.Now (Literal.Leads q f v)) (name_at-number_of r)
now_again (Literal.LeadsNowhere q f) = ap (λ v. Fact.Now (Literal.LeadsNowhere v f)) (name_at-number_of q)
now_again (Literal.Locked q) = ap (λ v. Fact.Now (Literal.Locked v)) (name_at-number_of q)
now_again (Literal.Owned q) = ap (λ v. Fact.Now (Literal.Owned v)) (name_at-number_of q)
now_again (Literal.Shared q) = ap (λ v. Fact.Now (Literal.Shared v)) (name_at-number_of q)
now_again (Literal.Visited q) = ap (λ v. Fact.Now (Literal.Visited v)) (name_at-number_of q)
now_again Literal.InSet = refl
now_again Literal.NotInSet = refl
now_again (Literal.Chain q r) = ap (λ v. Fact.Now (Literal.Chain v (name_at (number_of r)))) (name_at-number_of q) ∙ ap (λ v. Fact.Now (Literal.Chain q v)) (name_at-number_of r)
now_again Literal.Spent = refl
now_again Literal.Unspent = refl

past_again : (L : Literal) (k : FactKind) → kind_past L ≡ Some k → fact_of k (parts_of_literal L) ≡ Fact.Past L
past_again (Literal.Flag q f) k e = ap (λ v. fact_of v (parts_of_literal (Literal.Flag q f))) (sym (same_Some FactKind.PastFlag k e)) ∙ ap (λ v. Fact.Past (Literal.Flag v f)) (name_at-number_of q)
past_again (Literal.NoFlag q f) k e = ap (λ v. fact_of v (parts_of_literal (Literal.NoFlag q f))) (sym (same_Some FactKind.PastNoFlag k e)) ∙ ap (λ v. Fact.Past (Literal.NoFlag v f)) (name_at-number_of q)
past_again (Literal.Visited q) k e = ap (λ v. fact_of v (parts_of_literal (Literal.Visited q))) (sym (same_Some FactKind.PastVisited k e)) ∙ ap (λ v. Fact.Past (Literal.Visited v)) (name_at-number_of q)
past_again Literal.InSet k e = ap (λ v. fact_of v (parts_of_literal Literal.InSet)) (sym (same_Some FactKind.PastInSet k e))
past_again Literal.NotInSet k e = ap (λ v. fact_of v (parts_of_literal Literal.NotInSet)) (sym (same_Some FactKind.PastNotInSet k e))
past_again L k e = absurd (none-some k e)

fact_again : (x : Fact) (k : FactKind) → kind_of x ≡ Some k → fact_of k (parts_of x) ≡ x
fact_again (Fact.Now L) k e = ap (λ v. fact_of v (parts_of_literal L)) (sym (same_Some (kind_now L) k e)) ∙ now_again L
fact_again (Fact.Past L) k e = past_again L k e

pub kind_again : (k : FactKind) (p : Parts) → kind_of (fact_of k p) ≡ Some k
kind_again FactKind.Same p = refl
kind_again FactKind.Apart p = refl
kind_again FactKind.Null p = refl
kind_again FactKind.NotNull p = refl
kind_again FactKind.KeyBelow p = refl
kind_again FactKind.KeyAtMost p = refl
kind_again FactKind.BelowArgument p = refl
kind_again FactKind.AtMostArgument p = refl
kind_again FactKind.AboveArgument p = refl
kind_again FactKind.AtLeastArgument p = refl
kind_again FactKind.KeyIsMin p = refl
kind_again FactKind.AboveMin p = refl
kind_again FactKind.BelowMax p = refl
kind_again FactKind.KeyIsMax p = refl
kind_again FactKind.Flag p = refl
kind_again FactKind.NoFlag p = refl
kind_again FactKind.Leads p = refl
kind_again FactKind.LeadsNowhere p = refl
kind_again FactKind.Locked p = refl
kind_again FactKind.Owned p = refl
kind_again FactKind.Shared p = refl
kind_again FactKind.Visited p = refl
kind_again FactKind.InSet p = refl
kind_again FactKind.NotInSet p = refl
kind_again FactKind.Chain p = refl
kind_again FactKind.PastVisited p = refl
kind_again FactKind.PastFlag p = refl
kind_again FactKind.PastNoFlag p = refl
kind_again FactKind.PastInSet p = refl
kind_again FactKind.PastNotInSet p = refl
kind_again FactKind.Spent p = refl
kind_again FactKind.Unspent p = refl

-- ---- the parts of a fact that stands somewhere

same_parts : (p : Parts) (i f j : ℕ) → i ≡ p.first → f ≡ p.field → j ≡ p.second → at i f j ≡ p
same_parts p i f j a b c = ap (λ v. at v f j) a ∙ ap (λ v. at p.first v j) b ∙ ap (at p.first p.field) c

first_again : (p : Parts) → number_of (name_at p.first) ≡ p.first
first_again p = number_of-name_at p.first

no_field : {firsts : ℕ} {seconds : Seconds} {p : Parts} {place : ℕ} → IsPlace (over firsts 1 seconds) p place → 0 ≡ p.field
no_field w = let h = w.field in omega arith

no_second : {firsts fields : ℕ} {p : Parts} {place : ℕ} → IsPlace (over firsts fields Seconds.Absent) p place → 0 ≡ p.second
no_second w = sym w.second

no_first : {fields : ℕ} {seconds : Seconds} {p : Parts} {place : ℕ} → IsPlace (over 1 fields seconds) p place → 0 ≡ p.first
no_first w = let h = w.first in omega arith

pub parts_again : (s : Sizes) (k : FactKind) (p : Parts) (place : ℕ) → IsPlace (layout_of s k) p place → parts_of (fact_of k p) ≡ p
parts_again s FactKind.Same p place w = same_parts p (number_of (name_at p.first)) 0 (number_of (name_at p.second)) (first_again p) (no_field w) (number_of-name_at p.second)
parts_again s FactKind.Apart p place w = same_parts p (number_of (name_at p.first)) 0 (number_of (name_at p.second)) (first_again p) (no_field w) (number_of-name_at p.second)
parts_again s FactKind.Null p place w = same_parts p (number_of (name_at p.first)) 0 0 (first_again p) (no_field w) (no_second w)
parts_again s FactKind.NotNull p place w = same_parts p (number_of (name_at p.first)) 0 0 (first_again p) (no_field w) (no_second w)
parts_again s FactKind.KeyBelow p place w = same_parts p (number_of (name_at p.first)) 0 (number_of (name_at p.second)) (first_again p) (no_field w) (number_of-name_at p.second)
parts_again s FactKind.KeyAtMost p place w = same_parts p (number_of (name_at p.first)) 0 (number_of (name_at p.second)) (first_again p) (no_field w) (number_of-name_at p.second)
parts_again s FactKind.BelowArgument p place w = same_parts p (number_of (name_at p.first)) 0 0 (first_again p) (no_field w) (no_second w)
parts_again s FactKind.AtMostArgument p place w = same_parts p (number_of (name_at p.first)) 0 0 (first_again p) (no_field w) (no_second w)
parts_again s FactKind.AboveArgument p place w = same_parts p (number_of (name_at p.first)) 0 0 (first_again p) (no_field w) (no_second w)
parts_again s FactKind.AtLeastArgument p place w = same_parts p (number_of (name_at p.first)) 0 0 (first_again p) (no_field w) (no_second w)
parts_again s FactKind.KeyIsMin p place w = same_parts p (number_of (name_at p.first)) 0 0 (first_again p) (no_field w) (no_second w)
parts_again s FactKind.AboveMin p place w = same_parts p (number_of (name_at p.first)) 0 0 (first_again p) (no_field w) (no_second w)
parts_again s FactKind.BelowMax p place w = same_parts p (number_of (name_at p.first)) 0 0 (first_again p) (no_field w) (no_second w)
parts_again s FactKind.KeyIsMax p place w = same_parts p (number_of (name_at p.first)) 0 0 (first_again p) (no_field w) (no_second w)
parts_again s FactKind.Flag p place w = same_parts p (number_of (name_at p.first)) p.field 0 (first_again p) refl (no_second w)
parts_again s FactKind.NoFlag p place w = same_parts p (number_of (name_at p.first)) p.field 0 (first_again p) refl (no_second w)
parts_again s FactKind.Leads p place w = same_parts p (number_of (name_at p.first)) p.field (number_of (name_at p.second)) (first_again p) refl (number_of-name_at p.second)
parts_again s FactKind.LeadsNowhere p place w = same_parts p (number_of (name_at p.first)) p.field 0 (first_again p) refl (no_second w)
parts_again s FactKind.Locked p place w = same_parts p (number_of (name_at p.first)) 0 0 (first_again p) (no_field w) (no_second w)
parts_again s FactKind.Owned p place w = same_parts p (number_of (name_at p.first)) 0 0 (first_again p) (no_field w) (no_second w)
parts_again s FactKind.Shared p place w = same_parts p (number_of (name_at p.first)) 0 0 (first_again p) (no_field w) (no_second w)
parts_again s FactKind.Visited p place w = same_parts p (number_of (name_at p.first)) 0 0 (first_again p) (no_field w) (no_second w)
parts_again s FactKind.InSet p place w = same_parts p 0 0 0 (no_first w) (no_field w) (no_second w)
parts_again s FactKind.NotInSet p place w = same_parts p 0 0 0 (no_first w) (no_field w) (no_second w)
parts_again s FactKind.Chain p place w = same_parts p (number_of (name_at p.first)) 0 (number_of (name_at p.second)) (first_again p) (no_field w) (number_of-name_at p.second)
parts_again s FactKind.PastVisited p place w = same_parts p (number_of (name_at p.first)) 0 0 (first_again p) (no_field w) (no_second w)
parts_again s FactKind.PastFlag p place w = same_parts p (number_of (name_at p.first)) p.field 0 (first_again p) refl (no_second w)
parts_again s FactKind.PastNoFlag p place w = same_parts p (number_of (name_at p.first)) p.field 0 (first_again p) refl (no_second w)
parts_again s FactKind.PastInSet p place w = same_parts p 0 0 0 (no_first w) (no_field w) (no_second w)
parts_again s FactKind.PastNotInSet p place w = same_parts p 0 0 0 (no_first w) (no_field w) (no_second w)
parts_again s FactKind.Spent p place w = same_parts p 0 0 0 (no_first w) (no_field w) (no_second w)
parts_again s FactKind.Unspent p place w = same_parts p 0 0 0 (no_first w) (no_field w) (no_second w)

-- ---- the whole table

size_so : (h : Header) (n : ℕ) (k : FactKind) → length (facts_of_kind h n k) ≡ size_of (layout_of (sizes_of h n) k)
size_so h n k = ap length (facts_of_kind-counted h n k) ∙ length-counted_out (layout_of (sizes_of h n) k) (fact_of k)

length-within : (h : Header) (n i : ℕ) → length (flat_map (facts_of_kind h n) (take i FACT_KINDS)) ≡ facts_within (sizes_of h n) i
length-within h n i =
    let ks = take i FACT_KINDS in
    let here : FactKind → ℕ = λ k. length (facts_of_kind h n k) in
    let counted : FactKind → ℕ = λ k. size_of (layout_of (sizes_of h n) k) in
    let least : sum_by here ks ≤ sum_by counted ks = sum_by-le-sum_by here counted ks (λ k. let same = size_so h n k in omega arith) in
    let most : sum_by counted ks ≤ sum_by here ks = sum_by-le-sum_by counted here ks (λ k. let same = size_so h n k in omega arith) in
    let all : length (flat_map (facts_of_kind h n) ks) ≡ sum_by here ks = length-flat_map (facts_of_kind h n) ks in
    omega arith

pub length-facts_of : (h : Header) (m : Method) → length (facts_of h m) ≡ facts_within (sizes_of h (name_count m)) 32
unfolding facts_of
length-facts_of h m = length-within h (name_count m) 32

pub table_past : (h : Header) (m : Method) (n : ℕ) → facts_within (sizes_of h (name_count m)) 32 ≤ n → slice_get (facts_of h m) n ≡ None
table_past h m n far = slice_get_past (facts_of h m) n (let same = length-facts_of h m in omega arith)

pub table_found : (h : Header) (m : Method) (k : FactKind) (p : Parts) (place i n : ℕ) → slice_get FACT_KINDS i ≡ Some k
    → IsPlace (layout_of (sizes_of h (name_count m)) k) p place → n ≡ facts_within (sizes_of h (name_count m)) i + place → IsNumbered h m n (fact_of k p)
unfolding facts_of
table_found h m k p place i n here w is =
    let F = facts_of_kind h (name_count m) in
    let L = layout_of (sizes_of h (name_count m)) k in
    let stands : slice_get (F k) place ≡ Some (fact_of k p) =
    ap (λ xs. slice_get xs place) (facts_of_kind-counted h (name_count m) k) ∙ counted_found L (fact_of k) p place w in
    flat_map_found F FACT_KINDS i place n k (fact_of k p) here stands (let same = length-within h (name_count m) i in omega arith)

-- where a fact of the table stands
pub record StandsIn (h : Header) (m : Method) (n : ℕ) (x : Fact) : Type 0 where
  pub kind : FactKind
  pub parts : Parts
  pub place : ℕ
  pub counted : IsPlace (layout_of (sizes_of h (name_count m)) kind) parts place
  pub number : n ≡ facts_within (sizes_of h (name_count m)) (kind_number kind) + place
  pub is : x ≡ fact_of kind parts

pub stands_in : (h : Header) (m : Method) (n : ℕ) (x : Fact) → IsNumbered h m n x → StandsIn h m n x
unfolding facts_of
stands_in h m n x there =
    let F = facts_of_kind h (name_count m) in
    let s = sizes_of h (name_count m) in
    let w = in_one F FACT_KINDS n x there in
    let v = counted_there (layout_of s w.element) (fact_of w.element) w.rest x
    (ap (λ xs. slice_get xs w.rest) (sym (facts_of_kind-counted h (name_count m) w.element)) ∙ w.found) in
    let number : kind_number w.element ≡ w.number = kind_number_so w.number w.element w.there in
    record {
      kind = w.element;
      parts = v.0;
      place = w.rest;
      counted = v.1;
      number = w.is ∙ ap (λ c. c + w.rest) (length-within h (name_count m) w.number) ∙ ap (λ i. facts_within s i + w.rest) (sym number);
      is = v.2;
    }

-- the fact with a kind that some table has, by its parts
pub fact_found : (h : Header) (m : Method) (x : Fact) (k : FactKind) (place : ℕ) → kind_of x ≡ Some k
    → IsPlace (layout_of (sizes_of h (name_count m)) k) (parts_of x) place → IsNumbered h m (facts_within (sizes_of h (name_count m)) (kind_number k) + place) x
fact_found h m x k place e w =
    table_found h m k (parts_of x) place (kind_number k) (facts_within (sizes_of h (name_count m)) (kind_number k) + place) (kind_there k) w refl
    ∙ ap (λ v. Some v) (fact_again x k e)

-- what the kind and the parts of a fact of the table are
pub stands_by_kind : (h : Header) (m : Method) (n : ℕ) (x : Fact) → (w : StandsIn h m n x) → kind_of x ≡ Some w.kind
stands_by_kind h m n x w = ap kind_of w.is ∙ kind_again w.kind w.parts

pub stands_by_parts : (h : Header) (m : Method) (n : ℕ) (x : Fact) → (w : StandsIn h m n x) → parts_of x ≡ w.parts
stands_by_parts h m n x w = ap parts_of w.is ∙ parts_again (sizes_of h (name_count m)) w.kind w.parts w.place w.counted

-- ---- one number

others_once : (i r t : ℕ) → (if nat_lt r i then r else suc r) ≡ (if nat_lt t i then t else suc t) → r ≡ t
others_once i r t h =
    elim (cases_lt r i) [
      | inl less ↦ elim (cases_lt t i) [
        | inl less_too ↦ sym (ap (λ b. if b then r else suc r) (lt-ltb r i less)) ∙ h ∙ ap (λ b. if b then t else suc t) (lt-ltb t i less_too)
        | inr more ↦
            (let e : r ≡ suc t = sym (ap (λ b. if b then r else suc r) (lt-ltb r i less)) ∙ h ∙ ap (λ b. if b then t else suc t) (le-ltb t i more) in
            let l : r < i = less in let m : i ≤ t = more in absurd (omega arith))
      ]
      | inr more ↦ elim (cases_lt t i) [
        | inl less ↦
            (let e : suc r ≡ t = sym (ap (λ b. if b then r else suc r) (le-ltb r i more)) ∙ h ∙ ap (λ b. if b then t else suc t) (lt-ltb t i less) in
            let l : t < i = less in let m : i ≤ r = more in absurd (omega arith))
        | inr more_too ↦
            (let e : suc r ≡ suc t = sym (ap (λ b. if b then r else suc r) (le-ltb r i more)) ∙ h ∙ ap (λ b. if b then t else suc t) (le-ltb t i more_too) in omega arith)
      ]
    ]

rank_once : (s : Seconds) (n i r t : ℕ) → r < count_of s n i → t < count_of s n i → second_of s i r ≡ second_of s i t → r ≡ t
rank_once Seconds.Absent n i r t a b h = omega arith
rank_once Seconds.Every n i r t a b h = h
rank_once Seconds.Others n i r t a b h = others_once i r t h
rank_once Seconds.Later n i r t a b h = omega arith

place_once : (L : Layout) (p : Parts) (a b : ℕ) → IsPlace L p a → IsPlace L p b → a ≡ b
place_once L p a b w v =
    w.is ∙ ap (λ r. start L p.first + (p.field * second_count L p.first + r)) (rank_once L.seconds L.firsts p.first w.rank v.rank w.listed v.listed (sym w.second ∙ v.second)) ∙ sym v.is

-- a fact has one number
pub numbers_agree : (h : Header) (m : Method) (i j : ℕ) (x : Fact) → IsNumbered h m i x → IsNumbered h m j x → i ≡ j
numbers_agree h m i j x is too =
    let s = sizes_of h (name_count m) in
    let w = stands_in h m i x is in
    let v = stands_in h m j x too in
    let kinds : w.kind ≡ v.kind = same_Some w.kind v.kind (sym (stands_by_kind h m i x w) ∙ stands_by_kind h m j x v) in
    let parts : w.parts ≡ v.parts = sym (stands_by_parts h m i x w) ∙ stands_by_parts h m j x v in
    let moved : IsPlace (layout_of s v.kind) v.parts w.place = subst (λ k. IsPlace (layout_of s k) v.parts w.place) kinds (subst (λ p. IsPlace (layout_of s w.kind) p w.place) parts w.counted) in
    let places : w.place ≡ v.place = place_once (layout_of s v.kind) v.parts w.place v.place moved v.counted in
    w.number ∙ ap (λ k. facts_within s (kind_number k) + w.place) kinds ∙ ap (λ r. facts_within s (kind_number v.kind) + r) places ∙ sym v.number
