-- Steps that lead to a location: what the test of exits says, and what is left after them.
use Rattle.std.specs.Prelude.{◌≡◌, ℕ, ◌+◌, ◌<◌, true, false, ◌&&◌, List, length, slice_get, Option, Some, None}
use Rattle.std.specs.Option.{option_map_or}
use Rattle.std.proofs.Common.{refl, sym, ◌∙◌, ap, subst, inl, inr, arith}
use Rattle.std.proofs.lemmas.Bool.{true≢false, false≢true, eqb-true, eq-eqb, cases_eq}
use Rattle.std.proofs.lemmas.Option.{same_Some, slice_get_within}
use Rattle.plank_prog.specs.Methods.{location_count}
use Rattle.plank_bits.specs.Words.{has}
use Rattle.plank_prog.specs.declared.methods.Location.{Location}
use Rattle.plank_prog.specs.declared.methods.Method.{Method}
use Rattle.plank_prog.specs.declared.programs.Program.{Program}
use Rattle.plank_pic.specs.declared.literals.Exit.{Exit}
use Rattle.plank_fact.specs.declared.facts.Fact.{Fact}
use Rattle.plank_fact.specs.Tables.{IsNumbered}
use Rattle.plank_fact.specs.Outlines.{Outline, Point}
use Rattle.plank_fact.specs.OwnSteps.{location_after, LeadsTo}
use Rattle.plank_fact.specs.After.{IsAfter}
use Rattle.plank_unit.specs.Units.{IsRefutedBySteps, after, IsHadBySteps}
use Rattle.plank_method.specs.Deciding.{outline_of, IsExact}
use Rattle.plank_method.specs.Runs.{is_at, leads, IsSiftedAt, IsHadAtEntry, IsHadAfter, IsHadAfterBoth, IsHadFrom}
use Rattle.plank_method.proofs.Sifting.{all_left, known_left}

at_place : (to : ℕ) (o : Option ℕ) → is_at to o ≡ true → o ≡ Some to
at_place to None e = absurd (false≢true e)
at_place to (Some l) e = ap Some (eqb-true l to e)

-- the place from which an exit leads
record IsFrom (methods : List Method) (m from : ℕ) (e : Exit) (to : ℕ) : Type 0 where
  pub point : Point methods
  pub of_method : point.m ≡ m
  pub of_location : point.l ≡ from
  pub goes : location_after e point.location.action ≡ Some to

found_from : (methods : List Method) (m from : ℕ) (e : Exit) (to : ℕ) → leads methods m from e to ≡ true → IsFrom methods m from e to
found_from methods m from e to is = by_method (slice_get methods m) refl is
  where
    by_location : (method : Method) → slice_get methods m ≡ Some method → (o : Option Location) → slice_get method.locations from ≡ o → option_map_or (λ location. is_at to (location_after e location.action)) o false ≡ true → IsFrom methods m from e to
    by_location method called None there t = absurd (false≢true t)
    by_location method called (Some location) there t = record {
      point = record { m = m; l = from; method = method; location = location; called = called; there = there };
      of_method = refl;
      of_location = refl;
      goes = at_place to (location_after e location.action) t;
    }

    by_method : (o : Option Method) → slice_get methods m ≡ o → option_map_or (λ (method : Method). option_map_or (λ location. is_at to (location_after e location.action)) (slice_get method.locations from) false) o false ≡ true → IsFrom methods m from e to
    by_method None called t = absurd (false≢true t)
    by_method (Some method) called t = by_location method called (slice_get method.locations from) refl t

leads_there : (methods : List Method) (y x : Point methods) (e : Exit) → LeadsTo y e x → leads methods y.m y.l e x.l ≡ true
leads_there methods y x e w =
    ap (λ (o : Option Method). option_map_or (λ (method : Method). option_map_or (λ location. is_at x.l (location_after e location.action)) (slice_get method.locations y.l) false) o false) y.called
    ∙ ap (λ (o : Option Location). option_map_or (λ location. is_at x.l (location_after e location.action)) o false) y.there
    ∙ ap (is_at x.l) w.leads ∙ eq-eqb x.l x.l refl

module _ (p : Program) (marks : List ℕ) (m from : ℕ) (e : Exit) (l : ℕ) where
  -- where no step leads there
  pub none_leads : (claimed : List ℕ) → leads p.methods m from e l ≡ false → IsSiftedAt p marks m l claimed claimed (λ O x. IsHadAfter from e O x) (λ O x. IsRefutedBySteps O x)
  none_leads claimed none = λ x of_method of_location.
      all_left p.header x.method (has claimed) (IsHadAfter from e (outline_of p marks) x) (IsRefutedBySteps (outline_of p marks) x)
      (λ n f is c y at_from w.
      let there = leads_there p.methods y x e w in
      let same : leads p.methods y.m y.l e x.l ≡ leads p.methods m from e l =
      ap (λ k. leads p.methods k y.l e x.l) (sym w.same_method ∙ of_method) ∙ ap (λ k. leads p.methods m k e x.l) at_from ∙ ap (λ k. leads p.methods m from e k) of_location in
      absurd (true≢false (sym there ∙ same ∙ none)))

  -- where one does
  pub after_left : (claimed known left : List ℕ) → leads p.methods m from e l ≡ true → ((k : ℕ) → has left k ≡ (has claimed k && has known k))
      → ((x : Point p.methods) → x.m ≡ m → x.l ≡ from → IsExact p.header x.method (has claimed) (has known) (IsAfter (outline_of p marks) x e))
      → IsSiftedAt p marks m l claimed left (λ O x. IsHadAfter from e O x) (λ O x. IsRefutedBySteps O x)
  after_left claimed known left goes meets exact = λ x of_method of_location.
      let w = found_from p.methods m from e l goes in
      let y = w.point in
      let one : y.method ≡ x.method = same_Some y.method x.method (sym y.called ∙ ap (slice_get p.methods) (w.of_method ∙ sym of_method) ∙ x.called) in
      known_left p.header x.method (has claimed) (has known) (has left) (IsHadAfter from e (outline_of p marks) x) (IsRefutedBySteps (outline_of p marks) x) meets
      (λ n f is c k z at_from leads.
      let of_m : z.m ≡ m = sym leads.same_method ∙ of_method in
      let its : x.method ≡ z.method = same_Some x.method z.method (sym x.called ∙ ap (slice_get p.methods) leads.same_method ∙ z.called) in
      (exact z of_m at_from n f (subst (λ v. IsNumbered p.header v n f) its is) c).0 k)
      (λ n f is c away. after y e (record { same_method = of_method ∙ sym w.of_method; leads = w.goes ∙ ap Some (sym of_location) })
      (λ so. true≢false (sym ((exact y w.of_method w.of_location n f (subst (λ v. IsNumbered p.header v n f) (sym one) is) c).1 so) ∙ away)))

pub both_exits : (l : ℕ) (O : Outline) (x : Point O.methods) (f : Fact) → IsHadAfter l Exit.Yes O x f → IsHadAfter l Exit.No O x f → IsHadAfterBoth l O x f
both_exits l O x f yes_had no_had Exit.Yes = yes_had
both_exits l O x f yes_had no_had Exit.No = no_had

pub no_locations : (O : Outline) (x : Point O.methods) (f : Fact) → IsHadFrom 0 O x f
no_locations O x f l below = absurd (omega arith)

pub one_location_more : (count : ℕ) (O : Outline) (x : Point O.methods) (f : Fact) → IsHadFrom count O x f → IsHadAfterBoth count O x f → IsHadFrom (count + 1) O x f
one_location_more count O x f earlier this l below =
    elim (cases_eq l count) [
      | inl same ↦ subst (λ k. IsHadAfterBoth k O x f) (sym same) this
      | inr other ↦ earlier l (omega arith)
    ]

-- after the steps of all locations of the method
pub had_from_all : (p : Program) (marks : List ℕ) (m count : ℕ) → count ≡ option_map_or location_count (slice_get p.methods m) 0
    → (x : Point p.methods) → x.m ≡ m → (f : Fact) → IsHadAtEntry (outline_of p marks) x f → IsHadFrom count (outline_of p marks) x f → IsHadBySteps (outline_of p marks) x f
had_from_all p marks m count count_is x of_method f entry from_all = record {
  entry = entry;
  after = λ from e leads. from_all from.l (of_count from (sym leads.same_method ∙ of_method)) e from refl leads;
}
  where
    of_count : (from : Point p.methods) → from.m ≡ m → from.l < count
    of_count from here =
        let within = slice_get_within from.method.locations from.l from.location from.there in
        let all : count ≡ length from.method.locations = count_is ∙ ap (λ (o : Option Method). option_map_or location_count o 0) (ap (slice_get p.methods) (sym here) ∙ from.called) in
        omega arith
