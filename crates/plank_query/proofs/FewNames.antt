-- The pictures at a location of a lawful program have at most 15 names: a block binds a variable once, and reads no more
-- variables than its method has.
use Rattle.std.proofs.Common.{◌≡◌, ℕ, zero, suc, ◌+◌, ◌-◌, ◌<◌, ◌≤◌, ◌==◌, Bool, true, false, not, List, [], ◌∷◌, length, Some, refl, sym, ◌∙◌, ap, subst, inl, inr, arith}
use Rattle.std.specs.Prelude.{◌&&◌, nat_lt, slice_get, if◌then◌else◌}
use Rattle.std.specs.List.{list_all}
use Rattle.std.proofs.lemmas.Bool.{false≢true, and_parts, and_from, cases_Bool, cond-true, cond-false, ltb-true, eqb-true, eq-eqb, lt-ltb}
use Rattle.plank_prog.specs.declared.headers.Header.{Header}
use Rattle.plank_prog.specs.declared.blocks.Reference.{Reference}
use Rattle.plank_prog.specs.declared.blocks.Bind.{Bind}
use Rattle.plank_prog.specs.declared.blocks.Block.{Block}
use Rattle.plank_prog.specs.declared.methods.Action.{Action}
use Rattle.plank_prog.specs.declared.methods.Location.{Location}
use Rattle.plank_prog.specs.declared.methods.Method.{Method}
use Rattle.plank_prog.specs.Names.{all_pairs}
use Rattle.plank_prog.specs.Blocks.{same_reference, block_reads, reference_fits, bind_fits, write_fits, block_parts_fit, binds_stand_alone, writes_agree, locks_stand_alone, is_lawful_block}
use Rattle.plank_prog.specs.Methods.{is_lawful_action, is_lawful_location, is_lawful_method, are_lawful_methods}
use Rattle.plank_prog.proofs.HeaderFacts.{list_all_at}
use Rattle.plank_pic.specs.Calls.{own_names, binds_of}
use Rattle.plank_fact.specs.Effects.{read_below}
use Rattle.plank_fact.proofs.Limits.{few_variables}
use Rattle.plank_query.specs.Sites.{read_in_all, action_reads}
use Rattle.plank_query.proofs.Reading.{block_so}

-- ---- variables that are read

module _ (b : Block) (variables : ℕ) (within : (w : ℕ) → block_reads b (Reference.Variable w) ≡ true → w < variables) where
  pub few_read : (u : ℕ) → (read_below b u ≤ variables) × (read_below b u ≤ u)
  few_read zero = (omega arith, omega arith)
  few_read (suc u) =
      let before = few_read u in let a = before.0 in let c = before.1 in
      elim (cases_Bool (block_reads b (Reference.Variable u))) [
        | inl r ↦ (let e : read_below b (suc u) ≡ read_below b u + 1 = ap (λ k. read_below b u + k) (cond-true (block_reads b (Reference.Variable u)) 1 0 r) in
            let lt : u < variables = within u r in (omega (arith, e, lt, c), omega (arith, e, c)))
        | inr n ↦ (let e : read_below b (suc u) ≡ read_below b u + 0 = ap (λ k. read_below b u + k) (cond-false (block_reads b (Reference.Variable u)) 1 0 n) in
            (omega (arith, e, a), omega (arith, e, c)))
      ]

pub few_in_all : (b : Block) (variables : ℕ) → ((w : ℕ) → block_reads b (Reference.Variable w) ≡ true → w < variables) → read_in_all b ≤ variables
unfolding read_in_all
few_in_all b variables within = (few_read b variables within 256).0

-- the more variables, the more are read
read_more : (b : Block) (u d : ℕ) → read_below b u ≤ read_below b (d + u)
read_more b u zero = subst (λ k. read_below b u ≤ read_below b k) (the_same u) (omega arith)
  where
    the_same : (n : ℕ) → n ≡ 0 + n
    the_same n = omega arith
read_more b u (suc d) = subst (λ k. read_below b u ≤ read_below b k) next (elim (cases_Bool (block_reads b (Reference.Variable (d + u)))) [
  | inl r ↦ (let e : read_below b (suc (d + u)) ≡ read_below b (d + u) + 1 = ap (λ k. read_below b (d + u) + k) (cond-true (block_reads b (Reference.Variable (d + u))) 1 0 r) in
      let before = read_more b u d in omega (arith, e, before))
  | inr n ↦ (let e : read_below b (suc (d + u)) ≡ read_below b (d + u) + 0 = ap (λ k. read_below b (d + u) + k) (cond-false (block_reads b (Reference.Variable (d + u))) 1 0 n) in
      let before = read_more b u d in omega (arith, e, before))
])
  where
    next : suc (d + u) ≡ suc d + u
    next = omega arith

pub read_few : (b : Block) (u : ℕ) → u ≤ 256 → read_below b u ≤ read_in_all b
unfolding read_in_all
read_few b u le =
    let sum : (256 - u) + u ≡ 256 = omega (arith, le) in
    subst (λ k. read_below b u ≤ read_below b k) sum (read_more b u (256 - u))

-- ---- variables that are bound

abbrev apart : Bind → Bind → Bool
apart d e = not (d.to == e.to)

abbrev below : ℕ → Bind → Bool
below n d = nat_lt d.to n

-- those that do not bind n
abbrev without : ℕ → List Bind → List Bind
without n [] = []
without n (d ∷ ds) = if d.to == n then without n ds else d ∷ without n ds

module _ (n : ℕ) where
  -- one that is apart from each of the others is not there twice
  none_else : (d : Bind) (ds : List Bind) → d.to ≡ n → list_all (apart d) ds ≡ true → without n ds ≡ ds
  none_else d [] same all = refl
  none_else d (e ∷ es) same all =
      let w = and_parts (apart d e) (list_all (apart d) es) all in
      let differs : (e.to == n) ≡ false = subst (λ k. (e.to == k) ≡ false) same (other d e w.0) in
      cond-false (e.to == n) (without n es) (e ∷ without n es) differs ∙ ap (λ xs. e ∷ xs) (none_else d es same w.1)
    where
      other : (d e : Bind) → apart d e ≡ true → (e.to == d.to) ≡ false
      other d e not_same = elim (cases_Bool (e.to == d.to)) [
        | inl yes_same ↦ absurd (false≢true (sym (ap not (eq-eqb d.to e.to (sym (eqb-true e.to d.to yes_same)))) ∙ not_same))
        | inr no_same ↦ no_same
      ]

  -- so at most one is left out
  one_less : (ds : List Bind) → all_pairs apart ds ≡ true → length ds ≤ suc (length (without n ds))
  one_less [] all = omega arith
  one_less (d ∷ ds) all =
      let w = and_parts (list_all (apart d) ds) (all_pairs apart ds) all in
      elim (cases_Bool (d.to == n)) [
        | inl is ↦ (let e : length (without n (d ∷ ds)) ≡ length ds =
            ap length (cond-true (d.to == n) (without n ds) (d ∷ without n ds) is ∙ none_else d ds (eqb-true d.to n is) w.0) in omega (arith, e))
        | inr is_not ↦ (let e : length (without n (d ∷ ds)) ≡ suc (length (without n ds)) =
            ap length (cond-false (d.to == n) (without n ds) (d ∷ without n ds) is_not) in
            let rest = one_less ds w.1 in omega (arith, e, rest))
      ]

  -- what passes a test still does
  still : (test : Bind → Bool) (ds : List Bind) → list_all test ds ≡ true → list_all test (without n ds) ≡ true
  still test [] all = refl
  still test (d ∷ ds) all =
      let w = and_parts (test d) (list_all test ds) all in
      elim (cases_Bool (d.to == n)) [
        | inl is ↦ ap (list_all test) (cond-true (d.to == n) (without n ds) (d ∷ without n ds) is) ∙ still test ds w.1
        | inr is_not ↦ ap (list_all test) (cond-false (d.to == n) (without n ds) (d ∷ without n ds) is_not) ∙ and_from (test d) _ w.0 (still test ds w.1)
      ]

  still_apart : (ds : List Bind) → all_pairs apart ds ≡ true → all_pairs apart (without n ds) ≡ true
  still_apart [] all = refl
  still_apart (d ∷ ds) all =
      let w = and_parts (list_all (apart d) ds) (all_pairs apart ds) all in
      elim (cases_Bool (d.to == n)) [
        | inl is ↦ ap (all_pairs apart) (cond-true (d.to == n) (without n ds) (d ∷ without n ds) is) ∙ still_apart ds w.1
        | inr is_not ↦ ap (all_pairs apart) (cond-false (d.to == n) (without n ds) (d ∷ without n ds) is_not) ∙ and_from (list_all (apart d) (without n ds)) _ (still (apart d) ds w.0) (still_apart ds w.1)
      ]

  -- and what lies below n + 1 and is left lies below n
  lower : (ds : List Bind) → list_all (below (suc n)) ds ≡ true → list_all (below n) (without n ds) ≡ true
  lower [] all = refl
  lower (d ∷ ds) all =
      let w = and_parts (below (suc n) d) (list_all (below (suc n)) ds) all in
      elim (cases_Bool (d.to == n)) [
        | inl is ↦ ap (list_all (below n)) (cond-true (d.to == n) (without n ds) (d ∷ without n ds) is) ∙ lower ds w.1
        | inr is_not ↦ ap (list_all (below n)) (cond-false (d.to == n) (without n ds) (d ∷ without n ds) is_not) ∙ and_from (below n d) _ (under d w.0 is_not) (lower ds w.1)
      ]
    where
      under : (d : Bind) → below (suc n) d ≡ true → (d.to == n) ≡ false → below n d ≡ true
      under d is differs =
          let le : d.to < suc n = ltb-true d.to (suc n) is in
          let ne : d.to ≡ n → ⊥ = λ e. false≢true (sym differs ∙ eq-eqb d.to n e) in
          lt-ltb d.to n (omega (arith, le, ne))

pub few_binds : (n : ℕ) (ds : List Bind) → all_pairs apart ds ≡ true → list_all (below n) ds ≡ true → length ds ≤ n
few_binds zero [] all below_all = omega arith
few_binds zero (d ∷ ds) all below_all = (let lt : d.to < 0 = ltb-true d.to 0 (and_parts (below 0 d) (list_all (below 0) ds) below_all).0 in absurd (omega (arith, lt)))
few_binds (suc n) ds all below_all =
    let less = one_less n ds all in
    let rest = few_binds n (without n ds) (still_apart n ds all) (lower n ds below_all) in
    omega (arith, less, rest)

-- ---- what a lawful block keeps

module _ (h : Header) (variables locations : ℕ) (b : Block) (lawful : is_lawful_block h variables locations b ≡ true) where
  before_locks : (block_parts_fit h variables b && nat_lt b.yes locations && nat_lt b.no locations && all_pairs (λ q r. not (same_reference q r)) b.with && binds_stand_alone b) ≡ true
  before_locks = (and_parts _ (all_pairs writes_agree b.writes) (and_parts _ (locks_stand_alone b) lawful).0).0

  before_binds : (block_parts_fit h variables b && nat_lt b.yes locations && nat_lt b.no locations && all_pairs (λ q r. not (same_reference q r)) b.with) ≡ true
  before_binds = (and_parts _ (binds_stand_alone b) before_locks).0

  parts : block_parts_fit h variables b ≡ true
  parts =
      (and_parts (block_parts_fit h variables b) (nat_lt b.yes locations)
      (and_parts (block_parts_fit h variables b && nat_lt b.yes locations) (nat_lt b.no locations)
      (and_parts (block_parts_fit h variables b && nat_lt b.yes locations && nat_lt b.no locations) _ before_binds).0).0).0

  binds_apart : all_pairs apart b.binds ≡ true
  binds_apart =
      (and_parts (all_pairs apart b.binds) _
      (and_parts (block_parts_fit h variables b && nat_lt b.yes locations && nat_lt b.no locations && all_pairs (λ q r. not (same_reference q r)) b.with) (binds_stand_alone b) before_locks).1).0

  binds_fit : list_all (bind_fits h variables) b.binds ≡ true
  binds_fit = (and_parts _ (list_all (bind_fits h variables) b.binds) (and_parts _ (list_all (write_fits h variables) b.writes) parts).0).1

  each_below : (ds : List Bind) → list_all (bind_fits h variables) ds ≡ true → list_all (below variables) ds ≡ true
  each_below [] all = refl
  each_below (d ∷ ds) all =
      let w = and_parts (bind_fits h variables d) (list_all (bind_fits h variables) ds) all in
      and_from (below variables d) _ (and_parts (below variables d) _ (and_parts (below variables d && reference_fits variables d.from) _ w.0).0).0 (each_below ds w.1)

  pub block_within : length b.binds ≤ variables
  block_within = few_binds variables b.binds binds_apart (each_below b.binds binds_fit)

  pub reads_within : (w : ℕ) → block_reads b (Reference.Variable w) ≡ true → w < variables
  reads_within w reads = ltb-true w variables (block_so h variables (Reference.Variable w) b reads parts)

-- ---- locations of a lawful program

module _ (h : Header) (methods : List Method) (lawful : are_lawful_methods h methods ≡ true) where
  module _ (m l : ℕ) (method : Method) (location : Location) (called : slice_get methods m ≡ Some method) (there : slice_get method.locations l ≡ Some location) where
    lawful_method : is_lawful_method h method ≡ true
    lawful_method = list_all_at (is_lawful_method h) methods m method (and_parts _ (list_all (is_lawful_method h) methods) lawful).1 called

    pub lawful_action : is_lawful_action h (length method.variables) (length method.locations) location.action ≡ true
    lawful_action =
        let each = is_lawful_location h (length method.variables) (length method.locations) in
        (and_parts (is_lawful_action h (length method.variables) (length method.locations) location.action) _
        (list_all_at each method.locations l location (and_parts _ (list_all each method.locations) lawful_method).1 there)).0

    pub few_own_variables : length method.variables ≤ 7
    few_own_variables = few_variables h methods lawful m method called

    binds_within : (action : Action) → is_lawful_action h (length method.variables) (length method.locations) action ≡ true → length (binds_of action) ≤ length method.variables
    binds_within (Action.Block b) is = block_within h (length method.variables) (length method.locations) b is
    binds_within (Action.Copy to from next) is = omega arith
    binds_within (Action.New to next) is = omega arith
    binds_within (Action.Return answer) is = omega arith

    pub few_own_names : own_names (length method.variables) location.action ≤ 16
    few_own_names = let few = few_own_variables in let binds = binds_within location.action lawful_action in omega (arith, few, binds)

    read_within : (action : Action) → is_lawful_action h (length method.variables) (length method.locations) action ≡ true → action_reads action ≤ length method.variables
    read_within (Action.Block b) is = few_in_all b (length method.variables) (reads_within h (length method.variables) (length method.locations) b is)
    read_within (Action.Copy to from next) is = omega arith
    read_within (Action.New to next) is = omega arith
    read_within (Action.Return answer) is = omega arith

    pub few_site_names : (n : ℕ) (other : Method) → slice_get methods n ≡ Some other → suc (length other.variables) + action_reads location.action ≤ 16
    few_site_names n other called_other =
        let few = few_own_variables in let own = few_variables h methods lawful n other called_other in
        let reads = read_within location.action lawful_action in omega (arith, few, own, reads)
