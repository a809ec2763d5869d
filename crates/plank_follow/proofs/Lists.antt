-- What lists of literals have.
use Rattle.std.specs.Prelude.{◌≡◌, ◌↔◌, ℕ, ◌*◌, ◌<◌, Bool, true, false, List, map, slice_get, Option, Some, None, Contains, if◌then◌else◌, option_map}
use Rattle.std.proofs.Common.{refl, sym, ◌∙◌, ap, subst}
use Rattle.std.proofs.lemmas.Bool.{cond-true}
use Rattle.std.proofs.lemmas.Option.{same_Some, none-some, slice_get-map}
use Rattle.plank_base.specs.declared.limits.TheConstants.{MARK_WORDS_PER_LOCATION}
use Rattle.plank_prog.specs.declared.headers.Header.{Header}
use Rattle.plank_prog.specs.declared.methods.Method.{Method}
use Rattle.plank_prog.specs.declared.programs.Program.{Program}
use Rattle.plank_pic.specs.declared.literals.Literal.{Literal}
use Rattle.plank_fact.specs.declared.facts.Fact.{Fact}
use Rattle.plank_fact.specs.Literals.{is_lasting}
use Rattle.plank_fact.specs.Tables.{IsNumbered, fact_at}
use Rattle.plank_claim.specs.Claims.{listed_below}
use Rattle.plank_claim.proofs.Added.{below_in, in_below}
use Rattle.plank_shown.proofs.Exact.{same_table, room}
use Rattle.plank_follow.specs.Literals.{now_of, past_of, now_at, kept_lasting, lasting_at, literal_of, literal_at}

-- the present fact is in the set
abbrev pub IsNowIn : Header → Method → (ℕ → Bool) → Literal → Type 0
IsNowIn h m set L = (n : ℕ) × IsNumbered h m n (Fact.Now L) × (set n ≡ true)

now_so : (o : Option Fact) (L : Literal) → now_of o ≡ Some L → o ≡ Some (Fact.Now L)
now_so None L e = absurd (none-some L e)
now_so (Some (Fact.Now K)) L e = ap (λ k. Some (Fact.Now k)) (same_Some K L e)
now_so (Some (Fact.Past K)) L e = absurd (none-some L e)

pub past_so : (o : Option Fact) (L : Literal) → past_of o ≡ Some L → o ≡ Some (Fact.Past L)
past_so None L e = absurd (none-some L e)
past_so (Some (Fact.Now K)) L e = absurd (none-some L e)
past_so (Some (Fact.Past K)) L e = ap (λ k. Some (Fact.Past k)) (same_Some K L e)

lasting_so : (o : Option Literal) (L : Literal) → kept_lasting o ≡ Some L → (o ≡ Some L) × (is_lasting L ≡ true)
lasting_so None L e = absurd (none-some L e)
lasting_so (Some K) L e = by_test (is_lasting K) refl
  where
    by_test : (b : Bool) → is_lasting K ≡ b → (Some K ≡ Some L) × (is_lasting L ≡ true)
    by_test true t = let same = same_Some K L (sym (cond-true (is_lasting K) (Some K) None t) ∙ e) in (ap Some same, subst (λ k. is_lasting k ≡ true) same t)
    by_test false t = absurd (none-some L (sym (ap (λ b. if b then Some K else None) t) ∙ e))

module _ (p : Program) (m : ℕ) (method : Method) (called : slice_get p.methods m ≡ Some method) (set : ℕ → Bool) where
  at_so : (n : ℕ) (L : Literal) → now_at p.header p.methods m set n ≡ Some L → IsNowIn p.header method set L
  at_so n L e = by_test (set n) refl
    where
      by_test : (b : Bool) → set n ≡ b → IsNowIn p.header method set L
      by_test true t = (n, sym (same_table p m method called n) ∙ now_so (fact_at p.header p.methods m n) L (sym (cond-true (set n) (now_of (fact_at p.header p.methods m n)) None t) ∙ e), t)
      by_test false t = absurd (none-some L (sym (ap (λ b. if b then now_of (fact_at p.header p.methods m n) else None) t) ∙ e))

  so_at : (L : Literal) (w : IsNowIn p.header method set L) → now_at p.header p.methods m set w.0 ≡ Some L
  so_at L w = cond-true (set w.0) (now_of (fact_at p.header p.methods m w.0)) None w.2 ∙ ap now_of (same_table p m method called w.0 ∙ w.1)

  small : (L : Literal) (w : IsNowIn p.header method set L) → w.0 < 64 * MARK_WORDS_PER_LOCATION
  small L w = room p m method called w.0 (Fact.Now L) w.1

  module _ (literals : List Literal) where
    pub presents_are : literals ≡ listed_below (now_at p.header p.methods m set) (64 * MARK_WORDS_PER_LOCATION) → (L : Literal) → Contains literals L ↔ IsNowIn p.header method set L
    presents_are are L = (
      λ w. let v = in_below (now_at p.header p.methods m set) (64 * MARK_WORDS_PER_LOCATION) L (subst (λ (xs : List Literal). Contains xs L) are w) in at_so v.0 L v.2,
      λ w. subst (λ (xs : List Literal). Contains xs L) (sym are) (below_in (now_at p.header p.methods m set) (64 * MARK_WORDS_PER_LOCATION) w.0 L (small L w) (so_at L w)),
    )

    pub lasting_are : literals ≡ listed_below (lasting_at p.header p.methods m set) (64 * MARK_WORDS_PER_LOCATION) → (L : Literal) → Contains literals L ↔ ((is_lasting L ≡ true) × IsNowIn p.header method set L)
    lasting_are are L = (
      λ w.
          let v = in_below (lasting_at p.header p.methods m set) (64 * MARK_WORDS_PER_LOCATION) L (subst (λ (xs : List Literal). Contains xs L) are w) in
          let u = lasting_so (now_at p.header p.methods m set v.0) L v.2 in
          (u.1, at_so v.0 L u.0),
      λ w. subst (λ (xs : List Literal). Contains xs L) (sym are) (below_in (lasting_at p.header p.methods m set) (64 * MARK_WORDS_PER_LOCATION) w.1.0 L (small L w.1)
          (ap kept_lasting (so_at L w.1) ∙ cond-true (is_lasting L) (Some L) None w.0)),
    )

  -- what the fact of a number at a place of a list says
  pub literal_there : (numbers : List ℕ) (literals : List Literal) → literals ≡ map (literal_at p.header p.methods m) numbers → (i n : ℕ) → slice_get numbers i ≡ Some n
      → (L : Literal) → IsNumbered p.header method n (Fact.Past L) → slice_get literals i ≡ Some L
  literal_there numbers literals are i n at L is =
      ap (λ (xs : List Literal). slice_get xs i) are ∙ slice_get-map (literal_at p.header p.methods m) numbers i ∙ ap (option_map (literal_at p.header p.methods m)) at
      ∙ ap (λ o. Some (literal_of o)) (same_table p m method called n ∙ is)
