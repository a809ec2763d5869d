-- The facts of a kind stand where they are counted out.
use Rattle.std.specs.Prelude.{◌≡◌, ℕ, zero, suc, ◌+◌, ◌*◌, ◌-◌, ◌/◌, ◌%◌, ◌<◌, ◌≤◌, not, nat_lt, Bool, true, false, List, length, slice_get, Some, if◌then◌else◌}
use Rattle.std.proofs.Common.{refl, sym, ◌∙◌, ap, inl, inr, arith}
use Rattle.std.proofs.lemmas.Bool.{lt-ltb, le-ltb, ne_eqb, eq-eqb, cases_lt, cases_order}
use Rattle.std.proofs.lemmas.List.{length-append}
use Rattle.std.proofs.lemmas.Option.{slice_get_within, same_Some}
use Rattle.plank_prog.specs.declared.headers.Header.{Header}
use Rattle.plank_pic.specs.declared.literals.Literal.{Literal}
use Rattle.plank_fact.specs.declared.facts.Fact.{Fact}
use Rattle.plank_fact.specs.declared.kinds.FactKind.{FactKind}
use Rattle.plank_fact.specs.declared.layouts.Parts.{Parts}
use Rattle.plank_fact.specs.declared.layouts.Seconds.{Seconds}
use Rattle.plank_fact.specs.declared.layouts.Layout.{Layout}
use Rattle.plank_fact.specs.Tables.{joined, one, listed_if, differs, name_at, of_names, of_pairs, has_chains, facts_of_kind}
use Rattle.plank_fact.specs.Places.{at, fact_of, sizes_of, layout_of, count_of, second_of, second_count, width, start, size_of, IsPlace}
use Rattle.plank_fact.proofs.Joined.{joined_found, length-joined}
use Rattle.plank_fact.proofs.Rows.{start-zero, start-next, place_in_row}

-- ---- facts of one first name and field, by the second name

abbrev beside : Seconds → ℕ → ℕ → (ℕ → Fact) → List Fact
beside Seconds.Absent n i g = one (g 0)
beside Seconds.Every n i g = joined n (λ j. one (g j))
beside Seconds.Others n i g = joined n (λ j. listed_if (differs i j) (one (g j)))
beside Seconds.Later n i g = joined n (λ j. listed_if (nat_lt i j) (one (g j)))

length-every : (n : ℕ) (g : ℕ → Fact) → length (joined n (λ j. one (g j))) ≡ n
length-every n g = length-joined n 1 (λ j. one (g j)) (λ i below. refl) ∙ (let same : n * 1 ≡ n = omega arith in same)

there_if : (b : Bool) (x : Fact) → b ≡ true → slice_get (listed_if b (one x)) 0 ≡ Some x
there_if b x e = ap (λ v. slice_get (listed_if v (one x)) 0) e

length-there : (b : Bool) (x : Fact) → b ≡ true → length (listed_if b (one x)) ≡ 1
length-there b x e = ap (λ v. length (listed_if v (one x))) e

length-left_out : (b : Bool) (x : Fact) → b ≡ false → length (listed_if b (one x)) ≡ 0
length-left_out b x e = ap (λ v. length (listed_if v (one x))) e

differs_so : (i j : ℕ) → (i ≡ j → ⊥) → differs i j ≡ true
differs_so i j apart = ap not (ne_eqb i j apart)

module _ (i : ℕ) (g : ℕ → Fact) where
  others_below : (j : ℕ) → j ≤ i → length (joined j (λ v. listed_if (differs i v) (one (g v)))) ≡ j
  unfolding joined
  others_below zero h = refl
  others_below (suc j) h =
      let here = length-there (differs i j) (g j) (differs_so i j (λ e. absurd (omega arith))) in
      omega (arith, length-append (joined j (λ v. listed_if (differs i v) (one (g v)))) (listed_if (differs i j) (one (g j))), others_below j (omega arith))

  others_above : (j : ℕ) → i < j → suc (length (joined j (λ v. listed_if (differs i v) (one (g v))))) ≡ j
  unfolding joined
  others_above zero h = absurd (omega arith)
  others_above (suc j) h =
      elim (cases_order i j) [
        | inl same ↦
            (let here = length-left_out (differs i j) (g j) (ap not (eq-eqb i j same)) in
            let before = others_below j (let e : i ≡ j = same in omega arith) in
            omega (arith, length-append (joined j (λ v. listed_if (differs i v) (one (g v)))) (listed_if (differs i j) (one (g j)))))
        | inr order ↦ elim order [
          | inl less ↦
              (let here = length-there (differs i j) (g j) (differs_so i j (λ e. let l : i < j = less in absurd (omega arith))) in
              let before = others_above j less in
              omega (arith, length-append (joined j (λ v. listed_if (differs i v) (one (g v)))) (listed_if (differs i j) (one (g j)))))
          | inr more ↦ (let l : j < i = more in absurd (omega arith))
        ]
      ]

  length-later : (j : ℕ) → length (joined j (λ v. listed_if (nat_lt i v) (one (g v)))) ≡ j - suc i
  unfolding joined
  length-later zero = omega arith
  length-later (suc j) =
      let before = length-later j in
      elim (cases_lt i j) [
        | inl less ↦
            (let here = length-there (nat_lt i j) (g j) (lt-ltb i j less) in
            let l : i < j = less in
            omega (arith, length-append (joined j (λ v. listed_if (nat_lt i v) (one (g v)))) (listed_if (nat_lt i j) (one (g j)))))
        | inr more ↦
            (let here = length-left_out (nat_lt i j) (g j) (le-ltb i j more) in
            let l : j ≤ i = more in
            omega (arith, length-append (joined j (λ v. listed_if (nat_lt i v) (one (g v)))) (listed_if (nat_lt i j) (one (g j)))))
      ]

length-beside : (s : Seconds) (n i : ℕ) (g : ℕ → Fact) → i < n → length (beside s n i g) ≡ count_of s n i
length-beside Seconds.Absent n i g below = refl
length-beside Seconds.Every n i g below = length-every n g
length-beside Seconds.Others n i g below = omega (arith, others_above i g n below)
length-beside Seconds.Later n i g below = length-later i g n

others_found : (n i r : ℕ) (g : ℕ → Fact) → i < n → r < n - 1
    → slice_get (joined n (λ j. listed_if (differs i j) (one (g j)))) r ≡ Some (g (if nat_lt r i then r else suc r))
others_found n i r g below h =
    elim (cases_lt r i) [
      | inl less ↦
          (let l : r < i = less in
          let found = joined_found n (λ j. listed_if (differs i j) (one (g j))) r 0 r (g r) (omega arith) (omega (arith, others_below i g r (omega arith)))
          (there_if (differs i r) (g r) (differs_so i r (λ e. absurd (omega arith)))) in
          found ∙ ap (λ b. Some (g (if b then r else suc r))) (sym (lt-ltb r i less)))
      | inr more ↦
          (let l : i ≤ r = more in
          let found = joined_found n (λ j. listed_if (differs i j) (one (g j))) (suc r) 0 r (g (suc r)) (omega arith) (omega (arith, others_above i g (suc r) (omega arith)))
          (there_if (differs i (suc r)) (g (suc r)) (differs_so i (suc r) (λ e. absurd (omega arith)))) in
          found ∙ ap (λ b. Some (g (if b then r else suc r))) (sym (le-ltb r i more)))
    ]

beside_found : (s : Seconds) (n i r : ℕ) (g : ℕ → Fact) → i < n → r < count_of s n i → slice_get (beside s n i g) r ≡ Some (g (second_of s i r))
beside_found Seconds.Absent n i zero g below h = refl
beside_found Seconds.Absent n i (suc r) g below h = absurd (omega arith)
beside_found Seconds.Every n i r g below h = joined_found n (λ j. one (g j)) r 0 r (g r) h (omega (arith, length-every r g)) refl
beside_found Seconds.Others n i r g below h = others_found n i r g below h
beside_found Seconds.Later n i r g below h =
    joined_found n (λ j. listed_if (nat_lt i j) (one (g j))) (suc (i + r)) 0 r (g (suc (i + r))) (omega arith) (omega (arith, length-later i g (suc (i + r))))
    (there_if (nat_lt i (suc (i + r))) (g (suc (i + r))) (lt-ltb i (suc (i + r)) (omega arith)))

-- ---- facts of one first name, and of a kind

abbrev row : Layout → (Parts → Fact) → ℕ → List Fact
row L g i = joined L.fields (λ f. beside L.seconds L.firsts i (λ j. g (at i f j)))

abbrev pub counted_out : Layout → (Parts → Fact) → List Fact
counted_out L g = joined L.firsts (row L g)

module _ (L : Layout) (g : Parts → Fact) where
  length-fields : (i n : ℕ) → i < L.firsts → length (joined n (λ f. beside L.seconds L.firsts i (λ j. g (at i f j)))) ≡ n * second_count L i
  length-fields i n below = length-joined n (second_count L i) (λ f. beside L.seconds L.firsts i (λ j. g (at i f j))) (λ f h. length-beside L.seconds L.firsts i (λ j. g (at i f j)) below)

  length-rows : (i : ℕ) → i ≤ L.firsts → length (joined i (row L g)) ≡ start L i
  unfolding joined
  length-rows zero h = sym (start-zero L)
  length-rows (suc i) h =
      let before = length-rows i (omega arith) in
      let last = length-fields i L.fields (omega arith) in
      let next : start L (suc i) ≡ start L i + width L i = ap (start L) (let one : suc i ≡ i + 1 = omega arith in one) ∙ start-next L i in
      omega (arith, length-append (joined i (row L g)) (row L g i))

  pub length-counted_out : length (counted_out L g) ≡ size_of L
  length-counted_out = length-rows L.firsts (omega arith)

  pub counted_found : (p : Parts) (place : ℕ) → IsPlace L p place → slice_get (counted_out L g) place ≡ Some (g p)
  counted_found p place w =
      let rest = p.field * second_count L p.first + w.rank in
      let whole : place ≡ length (joined p.first (row L g)) + rest = w.is ∙ ap (λ v. v + rest) (sym (length-rows p.first (let h = w.first in omega arith))) in
      let here = beside_found L.seconds L.firsts p.first w.rank (λ j. g (at p.first p.field j)) w.first w.listed in
      let in_row = joined_found L.fields (λ f. beside L.seconds L.firsts p.first (λ j. g (at p.first f j))) p.field w.rank rest (g (at p.first p.field (second_of L.seconds p.first w.rank))) w.field
      (ap (λ v. v + w.rank) (sym (length-fields p.first p.field w.first))) here in
      joined_found L.firsts (row L g) p.first rest place (g (at p.first p.field (second_of L.seconds p.first w.rank))) w.first whole in_row
      ∙ ap (λ j. Some (g (at p.first p.field j))) (sym w.second)

-- each place within the size has its parts
pub place_exists : (L : Layout) (n place : ℕ) → n ≤ L.firsts → place < start L n → (p : Parts) × IsPlace L p place
place_exists L zero place h below = absurd (omega (arith, start-zero L))
place_exists L (suc n) place h below =
    let next : start L (suc n) ≡ start L n + width L n = ap (start L) (let one : suc n ≡ n + 1 = omega arith in one) ∙ start-next L n in
    elim (cases_lt place (start L n)) [
      | inl less ↦ place_exists L n place (omega arith) less
      | inr more ↦
          (let l : start L n ≤ place = more in
          let rest = place - start L n in
          let c = second_count L n in (
            at n (rest / c) (second_of L.seconds n (rest % c)),
            place_in_row L n c rest (second_of L.seconds n (rest % c)) place (omega arith) refl (omega arith) refl (omega arith),
          ))
    ]

-- the fact at a place among the facts of a kind
pub counted_there : (L : Layout) (g : Parts → Fact) (place : ℕ) (x : Fact) → slice_get (counted_out L g) place ≡ Some x
    → (p : Parts) × IsPlace L p place × (x ≡ g p)
counted_there L g place x h =
    let within = slice_get_within (counted_out L g) place x h in
    let w = place_exists L L.firsts place (omega arith) (omega (arith, length-counted_out L g)) in
    (w.0, w.1, same_Some x (g w.0) (sym h ∙ counted_found L g w.0 place w.1))

-- ---- the facts of each kind are counted out so

locked_so : (b : Bool) (n : ℕ) → listed_if b (of_names n (λ q. Fact.Now (Literal.Locked q))) ≡ joined (if b then n else 0) (λ i. joined 1 (λ f. one (Fact.Now (Literal.Locked (name_at i)))))
unfolding joined
locked_so true n = refl
locked_so false n = refl

chained_so : (b : Bool) (n : ℕ) → listed_if b (of_pairs differs n (λ q r. Fact.Now (Literal.Chain q r)))
    ≡ joined (if b then n else 0) (λ i. joined 1 (λ f. joined (if b then n else 0) (λ j. listed_if (differs i j) (one (Fact.Now (Literal.Chain (name_at i) (name_at j)))))))
unfolding joined
chained_so true n = refl
chained_so false n = refl

pub facts_of_kind-counted : (h : Header) (n : ℕ) (k : FactKind) → facts_of_kind h n k ≡ counted_out (layout_of (sizes_of h n) k) (fact_of k)
unfolding joined
facts_of_kind-counted h n FactKind.Same = refl
facts_of_kind-counted h n FactKind.Apart = refl
facts_of_kind-counted h n FactKind.Null = refl
facts_of_kind-counted h n FactKind.NotNull = refl
facts_of_kind-counted h n FactKind.KeyBelow = refl
facts_of_kind-counted h n FactKind.KeyAtMost = refl
facts_of_kind-counted h n FactKind.BelowArgument = refl
facts_of_kind-counted h n FactKind.AtMostArgument = refl
facts_of_kind-counted h n FactKind.AboveArgument = refl
facts_of_kind-counted h n FactKind.AtLeastArgument = refl
facts_of_kind-counted h n FactKind.KeyIsMin = refl
facts_of_kind-counted h n FactKind.AboveMin = refl
facts_of_kind-counted h n FactKind.BelowMax = refl
facts_of_kind-counted h n FactKind.KeyIsMax = refl
facts_of_kind-counted h n FactKind.Flag = refl
facts_of_kind-counted h n FactKind.NoFlag = refl
facts_of_kind-counted h n FactKind.Leads = refl
facts_of_kind-counted h n FactKind.LeadsNowhere = refl
facts_of_kind-counted h n FactKind.Locked = locked_so h.has_lock n
facts_of_kind-counted h n FactKind.Owned = refl
facts_of_kind-counted h n FactKind.Shared = refl
facts_of_kind-counted h n FactKind.Visited = refl
facts_of_kind-counted h n FactKind.InSet = refl
facts_of_kind-counted h n FactKind.NotInSet = refl
facts_of_kind-counted h n FactKind.Chain = chained_so (has_chains h) n
facts_of_kind-counted h n FactKind.PastVisited = refl
facts_of_kind-counted h n FactKind.PastFlag = refl
facts_of_kind-counted h n FactKind.PastNoFlag = refl
facts_of_kind-counted h n FactKind.PastInSet = refl
facts_of_kind-counted h n FactKind.PastNotInSet = refl
facts_of_kind-counted h n FactKind.Spent = refl
facts_of_kind-counted h n FactKind.Unspent = refl
