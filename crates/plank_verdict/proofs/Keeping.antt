-- What is kept of the facts of a method, number by number, is what the definition of an effect lists.
use Rattle.std.specs.Prelude.{◌≡◌, ℕ, suc, ◌+◌, ◌*◌, ◌≤◌, Bool, true, false, not, ◌&&◌, List, [], ◌∷◌, ◌++◌, length, slice_get, Option, Some, None, if◌then◌else◌}
use Rattle.std.specs.Option.{option_map_or, option_and_then}
use Rattle.std.proofs.Common.{refl, sym, ◌∙◌, ap, inl, inr, arith, add-one, drop}
use Rattle.std.proofs.lemmas.List.{append-nil, drop_all, drop_more}
use Rattle.std.proofs.lemmas.Option.{none-some, same_Some, slice_get_cases, slice_get_past}
use Rattle.plank_base.specs.declared.limits.TheConstants.{MARK_WORDS_PER_LOCATION}
use Rattle.plank_bits.specs.Words.{has}
use Rattle.plank_prog.specs.declared.blocks.Block.{Block}
use Rattle.plank_prog.specs.declared.headers.Header.{Header}
use Rattle.plank_prog.specs.declared.methods.Action.{Action}
use Rattle.plank_prog.specs.declared.methods.Location.{Location}
use Rattle.plank_prog.specs.declared.methods.Method.{Method}
use Rattle.plank_prog.specs.declared.programs.Program.{Program}
use Rattle.plank_prog.proofs.HeaderFacts.{few_flags, few_pointers}
use Rattle.plank_fact.specs.declared.facts.Fact.{Fact}
use Rattle.plank_fact.specs.Outlines.{Point, mark_number}
use Rattle.plank_fact.specs.ReportedEffects.{is_kept, kept_from}
use Rattle.plank_fact.specs.Tables.{facts_of, fact_at}
use Rattle.plank_fact.proofs.Counts.{facts_have_room}
use Rattle.plank_fact.proofs.Limits.{few_variables}
use Rattle.plank_verdict.specs.Kept.{table, listed_if, block_in, block_at, AreKept}

append_third : {A : Type 0} (xs ys zs : List A) → (xs ++ ys) ++ zs ≡ xs ++ (ys ++ zs)
append_third [] ys zs = refl
append_third (x ∷ xs) ys zs = ap (λ vs. x ∷ vs) (append_third xs ys zs)

-- ---- one fact more, and the end

module _ (marks : ℕ → Bool) (b : Block) (T : List Fact) where
  kept_step : (n : ℕ) (f : Fact) (fs : List Fact) → kept_from marks b n (f ∷ fs) ≡ listed_if (not (marks n) && is_kept b f) f ++ kept_from marks b (n + 1) fs
  kept_step n f fs = by_kept (not (marks n) && is_kept b f)
    where
      by_kept : (c : Bool) → (if c then f ∷ kept_from marks b (suc n) fs else kept_from marks b (suc n) fs) ≡ listed_if c f ++ kept_from marks b (n + 1) fs
      by_kept true = ap (λ m. f ∷ kept_from marks b m fs) (sym (add-one n))
      by_kept false = ap (λ m. kept_from marks b m fs) (sym (add-one n))

  drop_step : (n : ℕ) (f : Fact) → slice_get T n ≡ Some f → drop n T ≡ f ∷ drop (n + 1) T
  drop_step n f is =
      elim (slice_get_cases T n).1 [
        | inl w ↦ drop_more T n w.0 w.1 ∙ ap (λ g. g ∷ drop (n + 1) T) (w.3 ∙ same_Some w.0 f (sym w.2 ∙ is))
        | inr w ↦ absurd (none-some f (sym w.1 ∙ is))
      ]

  pub kept_more : (n : ℕ) (f : Fact) (old new all : List Fact) → slice_get T n ≡ Some f → old ++ kept_from marks b n (drop n T) ≡ all
      → new ≡ old ++ listed_if (not (marks n) && is_kept b f) f → new ++ kept_from marks b (n + 1) (drop (n + 1) T) ≡ all
  kept_more n f old new all is so added =
      ap (λ xs. xs ++ kept_from marks b (n + 1) (drop (n + 1) T)) added
      ∙ append_third old (listed_if (not (marks n) && is_kept b f) f) (kept_from marks b (n + 1) (drop (n + 1) T))
      ∙ ap (λ xs. old ++ xs) (sym (kept_step n f (drop (n + 1) T)))
      ∙ ap (λ xs. old ++ kept_from marks b n xs) (sym (drop_step n f is))
      ∙ so

  pub kept_end : (n : ℕ) (found all : List Fact) → length T ≤ n → found ++ kept_from marks b n (drop n T) ≡ all → found ≡ all
  kept_end n found all past so = sym (append-nil found) ∙ ap (λ xs. found ++ kept_from marks b n xs) (sym (drop_all n T past)) ∙ so

-- ---- the table of a method

module _ (h : Header) (methods : List Method) (m : ℕ) where
  pub table_at : (n : ℕ) → fact_at h methods m n ≡ slice_get (table h methods m) n
  table_at n = by_method (slice_get methods m)
    where
      by_method : (o : Option Method) → option_and_then (λ method. slice_get (facts_of h method) n) o ≡ slice_get (option_map_or (facts_of h) o []) n
      by_method None = sym (slice_get_past [] n (omega arith))
      by_method (Some method) = refl

  pub table_ends : (n : ℕ) → fact_at h methods m n ≡ None → length (table h methods m) ≤ n
  table_ends n none =
      elim (slice_get_cases (table h methods m) n).1 [
        | inl w ↦ absurd (none-some w.0 (sym none ∙ table_at n ∙ w.2))
        | inr w ↦ w.0
      ]

pub table_has_room : (p : Program) (m : ℕ) → length (table p.header p.methods m) ≤ 64 * MARK_WORDS_PER_LOCATION
table_has_room p m = by_method (slice_get p.methods m) refl
  where
    by_method : (o : Option Method) → slice_get p.methods m ≡ o → length (option_map_or (facts_of p.header) o []) ≤ 64 * MARK_WORDS_PER_LOCATION
    by_method None is = omega arith
    by_method (Some method) is =
        facts_have_room p.header method (few_variables p.header p.methods p.methods_are_lawful m method is) (few_flags p.header p.header_is_lawful) (few_pointers p.header p.header_is_lawful)

-- ---- the same, said of a location

kept_same : (p q : ℕ → Bool) (b : Block) → ((n : ℕ) → p n ≡ q n) → (n : ℕ) (fs : List Fact) → kept_from p b n fs ≡ kept_from q b n fs
kept_same p q b same n [] = refl
kept_same p q b same n (f ∷ fs) =
    ap (λ c. if not c && is_kept b f then f ∷ kept_from p b (suc n) fs else kept_from p b (suc n) fs) (same n)
    ∙ ap (λ xs. if not (q n) && is_kept b f then f ∷ xs else xs) (kept_same p q b same (suc n) fs)

module _ (p : Program) (words : List ℕ) (m l : ℕ) (x : Point p.methods) (xm : x.m ≡ m) (xl : x.l ≡ l) where
  pub block_here : (b : Block) → x.location.action ≡ Action.Block b → block_at p.methods m l ≡ Some b
  block_here b action =
      ap (λ i. block_at p.methods i l) (sym xm) ∙ ap (λ i. block_at p.methods x.m i) (sym xl)
      ∙ ap (λ (o : Option Method). option_and_then (λ location. block_in location.action) (option_and_then (λ method. slice_get method.locations x.l) o)) x.called
      ∙ ap (λ (o : Option Location). option_and_then (λ location. block_in location.action) o) x.there
      ∙ ap block_in action

  same_mark : (first : ℕ) → first ≡ mark_number p.methods m l 0 → (n : ℕ) → first + n ≡ mark_number p.methods x.m x.l n
  same_mark first is n =
      let sum : first + n ≡ mark_number p.methods m l n = omega arith in
      sum ∙ ap (λ k. mark_number p.methods k l n) (sym xm) ∙ ap (λ k. mark_number p.methods x.m k n) (sym xl)

  same_table : table p.header p.methods m ≡ facts_of p.header x.method
  same_table = ap (table p.header p.methods) (sym xm) ∙ ap (λ (o : Option Method). option_map_or (facts_of p.header) o []) x.called

  pub kept_here : (first : ℕ) → first ≡ mark_number p.methods m l 0 → (b : Block)
      → kept_from (λ n. has words (first + n)) b 0 (table p.header p.methods m) ≡ kept_from (λ n. has words (mark_number p.methods x.m x.l n)) b 0 (facts_of p.header x.method)
  kept_here first is b =
      kept_same (λ n. has words (first + n)) (λ n. has words (mark_number p.methods x.m x.l n)) b (λ n. ap (has words) (same_mark first is n)) 0 (table p.header p.methods m)
      ∙ ap (kept_from (λ n. has words (mark_number p.methods x.m x.l n)) b 0) same_table

-- where a block stands, and its facts were gone through
pub are_kept : (p : Program) (words : List ℕ) (m l first : ℕ) (block : Block) (facts : List Fact) → block_at p.methods m l ≡ Some block → first ≡ mark_number p.methods m l 0
    → facts ≡ kept_from (λ n. has words (first + n)) block 0 (table p.header p.methods m) → AreKept p words m l facts
are_kept p words m l first block facts there is so x xm xl b action =
    so ∙ ap (λ c. kept_from (λ n. has words (first + n)) c 0 (table p.header p.methods m)) (same_Some block b (sym there ∙ block_here p words m l x xm xl b action))
    ∙ kept_here p words m l x xm xl first is b

-- where none stands
pub none_kept : (p : Program) (words : List ℕ) (m l : ℕ) (facts : List Fact) → block_at p.methods m l ≡ None → AreKept p words m l facts
none_kept p words m l facts none x xm xl b action = absurd (none-some b (sym none ∙ block_here p words m l x xm xl b action))
