-- How many facts a method has: no more than a location has marks.
use Rattle.std.specs.Prelude.{◌≡◌, ℕ, zero, suc, ◌*◌, ◌<◌, ◌≤◌, Bool, true, false, nat_lt, List, [], ◌∷◌, length, sum_by}
use Rattle.std.proofs.Common.{arith}
use Rattle.std.proofs.Math.Nat.{suc-mul, mul-le-mul_right}
use Rattle.std.proofs.lemmas.List.{length-append}
use Rattle.std.proofs.lemmas.List.Concat.{length-flat_map}
use Rattle.std.proofs.lemmas.List.Sums.{sum_by-le-sum_by}
use Rattle.std.specs.List.{flat_map}
use Rattle.std.proofs.lemmas.Option.{slice_get_within}
use Rattle.plank_base.specs.declared.limits.TheConstants.{VARIABLES_LIMIT, FLAGS_LIMIT, POINTERS_LIMIT, MARK_WORDS_PER_LOCATION}
use Rattle.plank_prog.specs.declared.headers.Header.{Header}
use Rattle.plank_prog.specs.declared.blocks.Reference.{Reference}
use Rattle.plank_pic.specs.declared.literals.Literal.{Literal}
use Rattle.plank_prog.specs.declared.methods.Method.{Method}
use Rattle.plank_fact.specs.declared.facts.Fact.{Fact}
use Rattle.plank_fact.specs.declared.kinds.FactKind.{FactKind}
use Rattle.plank_fact.specs.declared.kinds.TheConstants.{FACT_KINDS}
use Rattle.plank_fact.specs.Tables.{name_count, differs, name_at, joined, listed_if, of_names, of_fields, of_links, of_pairs, has_chains, facts_of_kind, facts_of, IsNumbered}

-- a fact that has a number is within the table
pub number_within : (h : Header) (m : Method) (n : ℕ) (f : Fact) → IsNumbered h m n f → n < length (facts_of h m)
number_within h m n f is = slice_get_within (facts_of h m) n f is

-- ---- lists of so many lists of so many facts

joined_within : (n c : ℕ) (of : ℕ → List Fact) → ((i : ℕ) → length (of i) ≤ c) → length (joined n of) ≤ n * c
unfolding joined
joined_within zero c of h = omega arith
joined_within (suc n) c of h = omega (arith, length-append (joined n of) (of n), suc-mul n c, joined_within n c of h, h n)

joined_few : (n most c : ℕ) (of : ℕ → List Fact) → n ≤ most → ((i : ℕ) → length (of i) ≤ c) → length (joined n of) ≤ most * c
joined_few n most c of few h = omega (arith, joined_within n c of h, mul-le-mul_right c few)

names_few : (n most : ℕ) (fact : Reference → Fact) → n ≤ most → length (of_names n fact) ≤ most * 1
names_few n most fact few = joined_few n most 1 (λ i. fact (name_at i) ∷ []) few (λ i. omega arith)

listed_few : (there : Bool) (c : ℕ) (facts : List Fact) → length facts ≤ c → length (listed_if there facts) ≤ c
listed_few true c facts h = h
listed_few false c facts h = omega arith

pairs_few : (counts : ℕ → ℕ → Bool) (n most : ℕ) (fact : Reference → Reference → Fact) → n ≤ most → length (of_pairs counts n fact) ≤ most * (most * 1)
pairs_few counts n most fact few =
    joined_few n most (most * 1) (λ i. joined n (λ j. listed_if (counts i j) (fact (name_at i) (name_at j) ∷ []))) few
    (λ i. joined_few n most 1 (λ j. listed_if (counts i j) (fact (name_at i) (name_at j) ∷ [])) few (λ j. listed_few (counts i j) 1 (fact (name_at i) (name_at j) ∷ []) (omega arith)))

fields_few : (n most k fields : ℕ) (fact : Reference → ℕ → Fact) → n ≤ most → k ≤ fields → length (of_fields n k fact) ≤ most * (fields * 1)
fields_few n most k fields fact few h =
    joined_few n most (fields * 1) (λ i. joined k (λ f. fact (name_at i) f ∷ [])) few (λ i. joined_few k fields 1 (λ f. fact (name_at i) f ∷ []) h (λ f. omega arith))

links_few : (n most k fields : ℕ) (fact : Reference → ℕ → Reference → Fact) → n ≤ most → k ≤ fields → length (of_links n k fact) ≤ most * (fields * (most * 1))
links_few n most k fields fact few h =
    joined_few n most (fields * (most * 1)) (λ i. joined k (λ f. of_names n (fact (name_at i) f))) few
    (λ i. joined_few k fields (most * 1) (λ f. of_names n (fact (name_at i) f)) h (λ f. names_few n most (fact (name_at i) f) few))

-- ---- the kinds of facts, for at most eight names, six flags and two pointers

abbrev most : FactKind → ℕ
most FactKind.Same = 64
most FactKind.Apart = 64
most FactKind.Null = 8
most FactKind.NotNull = 8
most FactKind.KeyBelow = 64
most FactKind.KeyAtMost = 64
most FactKind.BelowArgument = 8
most FactKind.AtMostArgument = 8
most FactKind.AboveArgument = 8
most FactKind.AtLeastArgument = 8
most FactKind.KeyIsMin = 8
most FactKind.AboveMin = 8
most FactKind.BelowMax = 8
most FactKind.KeyIsMax = 8
most FactKind.Flag = 48
most FactKind.NoFlag = 48
most FactKind.Leads = 128
most FactKind.LeadsNowhere = 16
most FactKind.Locked = 8
most FactKind.Owned = 8
most FactKind.Shared = 8
most FactKind.Visited = 8
most FactKind.InSet = 1
most FactKind.NotInSet = 1
most FactKind.Chain = 64
most FactKind.PastVisited = 8
most FactKind.PastFlag = 48
most FactKind.PastNoFlag = 48
most FactKind.PastInSet = 1
most FactKind.PastNotInSet = 1
most FactKind.Spent = 1
most FactKind.Unspent = 1

module _ (h : Header) (n : ℕ) (names : n ≤ 8) (flags : length h.flags ≤ 6) (pointers : length h.pointers ≤ 2) where
  few_of_kind : (k : FactKind) → length (facts_of_kind h n k) ≤ most k
  few_of_kind FactKind.Same = pairs_few nat_lt n 8 (λ q r. Fact.Now (Literal.Same q r)) names
  few_of_kind FactKind.Apart = pairs_few nat_lt n 8 (λ q r. Fact.Now (Literal.Apart q r)) names
  few_of_kind FactKind.Null = names_few n 8 (λ q. Fact.Now (Literal.Null q)) names
  few_of_kind FactKind.NotNull = names_few n 8 (λ q. Fact.Now (Literal.NotNull q)) names
  few_of_kind FactKind.KeyBelow = pairs_few differs n 8 (λ q r. Fact.Now (Literal.KeyBelow q r)) names
  few_of_kind FactKind.KeyAtMost = pairs_few differs n 8 (λ q r. Fact.Now (Literal.KeyAtMost q r)) names
  few_of_kind FactKind.BelowArgument = names_few n 8 (λ q. Fact.Now (Literal.BelowArgument q)) names
  few_of_kind FactKind.AtMostArgument = names_few n 8 (λ q. Fact.Now (Literal.AtMostArgument q)) names
  few_of_kind FactKind.AboveArgument = names_few n 8 (λ q. Fact.Now (Literal.AboveArgument q)) names
  few_of_kind FactKind.AtLeastArgument = names_few n 8 (λ q. Fact.Now (Literal.AtLeastArgument q)) names
  few_of_kind FactKind.KeyIsMin = names_few n 8 (λ q. Fact.Now (Literal.KeyIsMin q)) names
  few_of_kind FactKind.AboveMin = names_few n 8 (λ q. Fact.Now (Literal.AboveMin q)) names
  few_of_kind FactKind.BelowMax = names_few n 8 (λ q. Fact.Now (Literal.BelowMax q)) names
  few_of_kind FactKind.KeyIsMax = names_few n 8 (λ q. Fact.Now (Literal.KeyIsMax q)) names
  few_of_kind FactKind.Flag = fields_few n 8 (length h.flags) 6 (λ q f. Fact.Now (Literal.Flag q f)) names flags
  few_of_kind FactKind.NoFlag = fields_few n 8 (length h.flags) 6 (λ q f. Fact.Now (Literal.NoFlag q f)) names flags
  few_of_kind FactKind.Leads = links_few n 8 (length h.pointers) 2 (λ q f r. Fact.Now (Literal.Leads q f r)) names pointers
  few_of_kind FactKind.LeadsNowhere = fields_few n 8 (length h.pointers) 2 (λ q f. Fact.Now (Literal.LeadsNowhere q f)) names pointers
  few_of_kind FactKind.Locked = listed_few h.has_lock 8 (of_names n (λ q. Fact.Now (Literal.Locked q))) (names_few n 8 (λ q. Fact.Now (Literal.Locked q)) names)
  few_of_kind FactKind.Owned = names_few n 8 (λ q. Fact.Now (Literal.Owned q)) names
  few_of_kind FactKind.Shared = names_few n 8 (λ q. Fact.Now (Literal.Shared q)) names
  few_of_kind FactKind.Visited = names_few n 8 (λ q. Fact.Now (Literal.Visited q)) names
  few_of_kind FactKind.InSet = omega arith
  few_of_kind FactKind.NotInSet = omega arith
  few_of_kind FactKind.Chain = listed_few (has_chains h) 64 (of_pairs differs n (λ q r. Fact.Now (Literal.Chain q r))) (pairs_few differs n 8 (λ q r. Fact.Now (Literal.Chain q r)) names)
  few_of_kind FactKind.PastVisited = names_few n 8 (λ q. Fact.Past (Literal.Visited q)) names
  few_of_kind FactKind.PastFlag = fields_few n 8 (length h.flags) 6 (λ q f. Fact.Past (Literal.Flag q f)) names flags
  few_of_kind FactKind.PastNoFlag = fields_few n 8 (length h.flags) 6 (λ q f. Fact.Past (Literal.NoFlag q f)) names flags
  few_of_kind FactKind.PastInSet = omega arith
  few_of_kind FactKind.PastNotInSet = omega arith
  few_of_kind FactKind.Spent = omega arith
  few_of_kind FactKind.Unspent = omega arith

  few_in_all : length (flat_map (facts_of_kind h n) FACT_KINDS) ≤ 782
  few_in_all =
      let here : FactKind → ℕ = λ k. length (facts_of_kind h n k) in
      let each : sum_by here FACT_KINDS ≤ sum_by most FACT_KINDS = sum_by-le-sum_by here most FACT_KINDS few_of_kind in
      let all : length (flat_map (facts_of_kind h n) FACT_KINDS) ≡ sum_by here FACT_KINDS = length-flat_map (facts_of_kind h n) FACT_KINDS in
      omega arith

-- the facts of a method have room among the marks of a location
pub facts_have_room : (h : Header) (m : Method) → length m.variables ≤ VARIABLES_LIMIT → length h.flags ≤ FLAGS_LIMIT → length h.pointers ≤ POINTERS_LIMIT
    → length (facts_of h m) ≤ 64 * MARK_WORDS_PER_LOCATION
unfolding facts_of
facts_have_room h m few_variables few_flags few_pointers =
    let names : name_count m ≤ 8 = omega arith in
    let all : length (flat_map (facts_of_kind h (name_count m)) FACT_KINDS) ≤ 782 = few_in_all h (name_count m) names few_flags few_pointers in
    omega arith
