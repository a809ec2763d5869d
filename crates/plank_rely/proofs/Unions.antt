-- Sets of facts that grow by what the next site, or the next method, breaks.
use Rattle.std.specs.Prelude.{◌≡◌, ◌⊎◌, ℕ, ◌+◌, ◌<◌, Bool, true, false, not, ◌&&◌, ◌||◌, length, slice_get, Option}
use Rattle.std.specs.Option.{option_map_or}
use Rattle.std.proofs.Common.{refl, sym, ◌∙◌, ap, inl, inr, arith}
use Rattle.std.proofs.lemmas.Bool.{true≢false, false≢true, cases_eq, or_cases, or_left, or_right}
use Rattle.std.proofs.lemmas.Option.{slice_get_within}
use Rattle.plank_prog.specs.declared.headers.Header.{Header}
use Rattle.plank_prog.specs.declared.methods.Method.{Method}
use Rattle.plank_prog.specs.Methods.{location_count}
use Rattle.plank_pic.specs.declared.literals.Literal.{Literal}
use Rattle.plank_fact.specs.declared.facts.Fact.{Fact}
use Rattle.plank_fact.specs.Outlines.{Outline, Point}
use Rattle.plank_fact.specs.Forced.{IsBroken}
use Rattle.plank_marks.proofs.Rooms.{IsThere}
use Rattle.plank_unit.specs.Units.{IsBrokenFact}
use Rattle.plank_method.specs.Deciding.{IsExact}
use Rattle.plank_rely.specs.Breaking.{IsBrokenBy, IsFactBrokenBy, IsBrokenWithin, IsBrokenBefore}

open_there : (a b c : Bool) → c ≡ (a && not b) → a ≡ true → b ≡ false → c ≡ true
open_there true true c e t f = absurd (true≢false f)
open_there true false c e t f = e
open_there false b c e t f = absurd (false≢true t)

module _ (h : Header) (m : Method) (wanted : ℕ → Bool) where
  -- nothing yet
  pub none_exact : (found : ℕ → Bool) (H : Fact → Type 0) → ((k : ℕ) → found k ≡ false) → ((f : Fact) → H f → ⊥) → IsExact h m wanted found H
  none_exact found H none no_fact n f is w = (λ e. absurd (true≢false (sym e ∙ none n)), λ holds. absurd (no_fact f holds))

  -- what was found, and what more is found of the others
  pub union_exact : (found rest more both : ℕ → Bool) (First Then Either : Fact → Type 0) → ((k : ℕ) → rest k ≡ (wanted k && not (found k))) → ((k : ℕ) → both k ≡ (found k || more k))
      → IsExact h m wanted found First → IsExact h m rest more Then → ((f : Fact) → Either f → First f ⊎ Then f) → ((f : Fact) → First f → Either f) → ((f : Fact) → Then f → Either f)
      → IsExact h m wanted both Either
  union_exact found rest more both First Then Either open_is both_is first then split from_first from_then n f is w = (
    λ e. forward (or_cases (found n) (more n) (sym (both_is n) ∙ e)) (found n) refl,
    λ either. both_is n ∙ backward (split f either) (found n) refl,
  )
    where
      forward : (found n ≡ true) ⊎ (more n ≡ true) → (b : Bool) → found n ≡ b → Either f
      forward cases true t = from_first f ((first n f is w).0 t)
      forward (inl a) false t = absurd (true≢false (sym a ∙ t))
      forward (inr c) false t = from_then f ((then n f is (open_there (wanted n) (found n) (rest n) (open_is n) w t)).0 c)

      backward : First f ⊎ Then f → (b : Bool) → found n ≡ b → (found n || more n) ≡ true
      backward cases true t = or_left (found n) (more n) t
      backward (inl a) false t = or_left (found n) (more n) ((first n f is w).1 a)
      backward (inr c) false t = or_right (found n) (more n) ((then n f is (open_there (wanted n) (found n) (rest n) (open_is n) w t)).1 c)

  -- the same of another word
  pub alike_exact : (found : ℕ → Bool) (H K : Fact → Type 0) → IsExact h m wanted found H → ((f : Fact) → H f → K f) → ((f : Fact) → K f → H f) → IsExact h m wanted found K
  alike_exact found H K exact to from n f is w = (λ e. to f ((exact n f is w).0 e), λ holds. (exact n f is w).1 (from f holds))

module _ (O : Outline) (x : Point O.methods) where
  -- what a site of a location breaks
  pub record IsBrokenHere (m l : ℕ) (f : Fact) : Type 0 where
    pub site : Point O.methods
    pub of_method : site.m ≡ m
    pub of_location : site.l ≡ l
    pub breaks : IsFactBrokenBy O x site f

  pub here_exact : (h : Header) (method : Method) (wanted found : ℕ → Bool) (m l : ℕ) → IsThere O.methods m l
      → ((s : Point O.methods) → s.m ≡ m → s.l ≡ l → IsExact h method wanted found (IsFactBrokenBy O x s)) → IsExact h method wanted found (IsBrokenHere m l)
  here_exact h method wanted found m l there exact n f is w = (
    λ e. record { site = there.point; of_method = there.of_method; of_location = there.of_location; breaks = (exact there.point there.of_method there.of_location n f is w).0 e },
    λ v. (exact v.site v.of_method v.of_location n f is w).1 v.breaks,
  )

  broken_so : (site : Point O.methods) (L : Literal) → IsBrokenBy O x site L → IsBroken O x L
  broken_so site L v = record { site = site; before = v.before; after = v.after; effect = v.effect; claimed = v.claimed; usable = v.usable; false_after = v.false_after }

  broken_by : (L : Literal) (w : IsBroken O x L) → IsBrokenBy O x w.site L
  broken_by L w = record { before = w.before; after = w.after; effect = w.effect; claimed = w.claimed; usable = w.usable; false_after = w.false_after }

  pub none_within : (m : ℕ) (f : Fact) → IsBrokenWithin O x m 0 f → ⊥
  none_within m f w = let below = w.4 in absurd (omega arith)

  pub within_more : (m l : ℕ) (f : Fact) → IsBrokenWithin O x m l f → IsBrokenWithin O x m (l + 1) f
  within_more m l f w = (w.0, w.1, w.2, w.3, (let below = w.4 in omega arith))

  pub within_here : (m l : ℕ) (f : Fact) → IsBrokenHere m l f → IsBrokenWithin O x m (l + 1) f
  unfolding broken_so
  within_here m l f v =
      let at = v.of_location in
      (v.breaks.0, v.breaks.1, broken_so v.site v.breaks.0 v.breaks.2, v.of_method, (let s : v.site.l < l + 1 = omega arith in s))

  pub within_cases : (m l : ℕ) (f : Fact) → IsBrokenWithin O x m (l + 1) f → IsBrokenWithin O x m l f ⊎ IsBrokenHere m l f
  within_cases m l f w =
      let below = w.4 in
      elim (cases_eq w.2.site.l l) [
        | inl same ↦ inr (record { site = w.2.site; of_method = w.3; of_location = same; breaks = (w.0, w.1, broken_by w.0 w.2) })
        | inr other ↦ inl (w.0, w.1, w.2, w.3, omega arith)
      ]

  pub none_before : (f : Fact) → IsBrokenBefore O x 0 f → ⊥
  none_before f w = let below = w.3 in absurd (omega arith)

  pub before_more : (m : ℕ) (f : Fact) → IsBrokenBefore O x m f → IsBrokenBefore O x (m + 1) f
  before_more m f w = (w.0, w.1, w.2, (let below = w.3 in omega arith))

  pub before_within : (m l : ℕ) (f : Fact) → IsBrokenWithin O x m l f → IsBrokenBefore O x (m + 1) f
  before_within m l f w = (w.0, w.1, w.2, (let at = w.3 in omega arith))

  pub before_cases : (m : ℕ) (f : Fact) → IsBrokenBefore O x (m + 1) f → IsBrokenBefore O x m f ⊎ IsBrokenWithin O x m (option_map_or location_count (slice_get O.methods m) 0) f
  before_cases m f w =
      let below = w.3 in
      elim (cases_eq w.2.site.m m) [
        | inl same ↦
            let site = w.2.site in
            let within = slice_get_within site.method.locations site.l site.location site.there in
            let all : option_map_or location_count (slice_get O.methods m) 0 ≡ length site.method.locations = ap (λ (o : Option Method). option_map_or location_count o 0) (ap (slice_get O.methods) (sym same) ∙ site.called) in
            inr (w.0, w.1, w.2, same, omega arith)
        | inr other ↦ inl (w.0, w.1, w.2, omega arith)
      ]

  pub all_before : (f : Fact) → IsBrokenFact O x f → IsBrokenBefore O x (length O.methods) f
  all_before f w = (w.0, w.1, w.2, slice_get_within O.methods w.2.site.m w.2.site.method w.2.site.called)

  pub before_all : (f : Fact) → IsBrokenBefore O x (length O.methods) f → IsBrokenFact O x f
  before_all f w = (w.0, w.1, w.2)
