-- The table of facts that a call of a method may know: by kind, then by the first name, by the field, by the second name.
-- Marks, the calls `fact` and `number` and the report go by its order.
use Rattle.std.specs.Prelude.{◌≡◌, ℕ, zero, suc, Bool, not, ◌&&◌, ◌==◌, nat_lt, List, [], ◌∷◌, ◌++◌, length, slice_get, Option, Some, is_some, if◌then◌else◌}
use Rattle.std.specs.List.{flat_map}
use Rattle.std.specs.Option.{option_and_then}
use Rattle.plank_prog.specs.declared.headers.Header.{Header}
use Rattle.plank_prog.specs.declared.blocks.Reference.{Reference}
use Rattle.plank_prog.specs.declared.methods.Method.{Method}
use Rattle.plank_pic.specs.declared.literals.Literal.{Literal}
use Rattle.plank_fact.specs.declared.facts.Fact.{Fact}
use Rattle.plank_fact.specs.declared.kinds.FactKind.{FactKind}
use Rattle.plank_fact.specs.declared.kinds.TheConstants.{FACT_KINDS}

-- ---- names

-- the names of a method by their numbers: root, and then its variables
abbrev pub name_at : ℕ → Reference
name_at zero = Reference.Root
name_at (suc v) = Reference.Variable v

abbrev pub name_count : Method → ℕ
name_count m = suc (length m.variables)

-- ---- lists of facts

-- the lists of the numbers below n, one after the other
unfoldable pub joined : ℕ → (ℕ → List Fact) → List Fact
joined zero of = []
joined (suc n) of = joined n of ++ of n

abbrev pub one : Fact → List Fact
one fact = fact ∷ []

abbrev pub listed_if : Bool → List Fact → List Fact
listed_if there facts = if there then facts else []

-- a fact of each name
abbrev pub of_names : ℕ → (Reference → Fact) → List Fact
of_names n fact = joined n (λ i. one (fact (name_at i)))

-- of each name and field
abbrev pub of_fields : ℕ → ℕ → (Reference → ℕ → Fact) → List Fact
of_fields n fields fact = joined n (λ i. joined fields (λ f. one (fact (name_at i) f)))

-- of each name, field and name
abbrev pub of_links : ℕ → ℕ → (Reference → ℕ → Reference → Fact) → List Fact
of_links n fields fact = joined n (λ i. joined fields (λ f. of_names n (fact (name_at i) f)))

-- of each two names whose numbers pass
abbrev pub of_pairs : (ℕ → ℕ → Bool) → ℕ → (Reference → Reference → Fact) → List Fact
of_pairs counts n fact = joined n (λ i. joined n (λ j. listed_if (counts i j) (one (fact (name_at i) (name_at j)))))

abbrev pub differs : ℕ → ℕ → Bool
differs i j = not (i == j)

-- ---- the table

-- whether nodes may be frozen in chains
abbrev pub has_chains : Header → Bool
has_chains h = (length h.pointers == 1) && is_some h.freeze

-- the facts of a kind in a method with n names
abbrev pub facts_of_kind : Header → ℕ → FactKind → List Fact
facts_of_kind h n FactKind.Same = of_pairs nat_lt n (λ q r. Fact.Now (Literal.Same q r))
facts_of_kind h n FactKind.Apart = of_pairs nat_lt n (λ q r. Fact.Now (Literal.Apart q r))
facts_of_kind h n FactKind.Null = of_names n (λ q. Fact.Now (Literal.Null q))
facts_of_kind h n FactKind.NotNull = of_names n (λ q. Fact.Now (Literal.NotNull q))
facts_of_kind h n FactKind.KeyBelow = of_pairs differs n (λ q r. Fact.Now (Literal.KeyBelow q r))
facts_of_kind h n FactKind.KeyAtMost = of_pairs differs n (λ q r. Fact.Now (Literal.KeyAtMost q r))
facts_of_kind h n FactKind.BelowArgument = of_names n (λ q. Fact.Now (Literal.BelowArgument q))
facts_of_kind h n FactKind.AtMostArgument = of_names n (λ q. Fact.Now (Literal.AtMostArgument q))
facts_of_kind h n FactKind.AboveArgument = of_names n (λ q. Fact.Now (Literal.AboveArgument q))
facts_of_kind h n FactKind.AtLeastArgument = of_names n (λ q. Fact.Now (Literal.AtLeastArgument q))
facts_of_kind h n FactKind.KeyIsMin = of_names n (λ q. Fact.Now (Literal.KeyIsMin q))
facts_of_kind h n FactKind.AboveMin = of_names n (λ q. Fact.Now (Literal.AboveMin q))
facts_of_kind h n FactKind.BelowMax = of_names n (λ q. Fact.Now (Literal.BelowMax q))
facts_of_kind h n FactKind.KeyIsMax = of_names n (λ q. Fact.Now (Literal.KeyIsMax q))
facts_of_kind h n FactKind.Flag = of_fields n (length h.flags) (λ q f. Fact.Now (Literal.Flag q f))
facts_of_kind h n FactKind.NoFlag = of_fields n (length h.flags) (λ q f. Fact.Now (Literal.NoFlag q f))
facts_of_kind h n FactKind.Leads = of_links n (length h.pointers) (λ q f r. Fact.Now (Literal.Leads q f r))
facts_of_kind h n FactKind.LeadsNowhere = of_fields n (length h.pointers) (λ q f. Fact.Now (Literal.LeadsNowhere q f))
facts_of_kind h n FactKind.Locked = listed_if h.has_lock (of_names n (λ q. Fact.Now (Literal.Locked q)))
facts_of_kind h n FactKind.Owned = of_names n (λ q. Fact.Now (Literal.Owned q))
facts_of_kind h n FactKind.Shared = of_names n (λ q. Fact.Now (Literal.Shared q))
facts_of_kind h n FactKind.Visited = of_names n (λ q. Fact.Now (Literal.Visited q))
facts_of_kind h n FactKind.InSet = one (Fact.Now Literal.InSet)
facts_of_kind h n FactKind.NotInSet = one (Fact.Now Literal.NotInSet)
facts_of_kind h n FactKind.Chain = listed_if (has_chains h) (of_pairs differs n (λ q r. Fact.Now (Literal.Chain q r)))
facts_of_kind h n FactKind.PastVisited = of_names n (λ q. Fact.Past (Literal.Visited q))
facts_of_kind h n FactKind.PastFlag = of_fields n (length h.flags) (λ q f. Fact.Past (Literal.Flag q f))
facts_of_kind h n FactKind.PastNoFlag = of_fields n (length h.flags) (λ q f. Fact.Past (Literal.NoFlag q f))
facts_of_kind h n FactKind.PastInSet = one (Fact.Past Literal.InSet)
facts_of_kind h n FactKind.PastNotInSet = one (Fact.Past Literal.NotInSet)
facts_of_kind h n FactKind.Spent = one (Fact.Now Literal.Spent)
facts_of_kind h n FactKind.Unspent = one (Fact.Now Literal.Unspent)

-- the facts of a method, kind by kind; a fact's number is its place
unfoldable pub facts_of : Header → Method → List Fact
facts_of h m = flat_map (facts_of_kind h (name_count m)) FACT_KINDS

-- f is the fact of this number
abbrev pub IsNumbered : Header → Method → ℕ → Fact → Type 0
IsNumbered h m n f = slice_get (facts_of h m) n ≡ Some f

abbrev pub IsFactOf : Header → Method → Fact → Type 0
IsFactOf h m f = (n : ℕ) × IsNumbered h m n f

-- the fact of this number in the table of the m-th method
abbrev pub fact_at : Header → List Method → ℕ → ℕ → Option Fact
fact_at h methods m n = option_and_then (λ method. slice_get (facts_of h method) n) (slice_get methods m)
