-- Locations are few, and their marks are some of the program's.
use Rattle.std.specs.Prelude.{◌≡◌, ℕ, ◌+◌, ◌*◌, ◌<◌, ◌≤◌, ◌&&◌, nat_le, nat_lt, true, List, length, sum_by, slice_get, Option, Some}
use Rattle.std.specs.Option.{option_map_or}
use Rattle.std.specs.List.{list_all}
use Rattle.std.specs.Cmp.{first_so, second_so}
use Rattle.std.proofs.Common.{refl, ap, subst, inl, inr, get_or, arith}
use Rattle.std.proofs.lemmas.Bool.{leb-true}
use Rattle.std.proofs.lemmas.List.Sums.{sum_by_more, sum_by_more_le, sum_by-take-le}
use Rattle.std.proofs.lemmas.Option.{slice_get_within, slice_get_cases, get_or_from_slice_get}
use Rattle.plank_base.specs.declared.limits.TheConstants.{METHODS_LIMIT, LOCATIONS_LIMIT, SITES_LIMIT, MARK_WORDS_PER_LOCATION}
use Rattle.plank_prog.specs.declared.headers.Header.{Header}
use Rattle.plank_prog.specs.declared.methods.Method.{Method}
use Rattle.plank_prog.specs.Names.{all_pairs, names_differ}
use Rattle.plank_prog.specs.Methods.{location_count, site_count, is_lawful_method, are_methods_within_limits, are_lawful_methods}
use Rattle.plank_fact.specs.Outlines.{Point, locations_before, mark_number}
use Rattle.plank_marks.specs.Marks.{mark_words}

pub few_locations : (h : Header) (methods : List Method) → are_lawful_methods h methods ≡ true → sum_by location_count methods ≤ LOCATIONS_LIMIT
few_locations h methods lawful =
    let some = nat_lt 0 (length methods) in
    let few = nat_le (length methods) METHODS_LIMIT in
    let locations = nat_le (sum_by location_count methods) LOCATIONS_LIMIT in
    let sites = nat_le (sum_by site_count methods) SITES_LIMIT in
    let apart = all_pairs (λ m n. names_differ m.name n.name) methods in
    let each = list_all (is_lawful_method h) methods in
    leb-true (sum_by location_count methods) LOCATIONS_LIMIT
    (second_so (some && few) locations (first_so (some && few && locations) sites (first_so (are_methods_within_limits methods) apart (first_so (are_methods_within_limits methods && apart) each lawful))))

-- the locations before a method and its own are among all
pub within_all : (methods : List Method) (m : ℕ) (method : Method) → slice_get methods m ≡ Some method → locations_before methods m + location_count method ≤ sum_by location_count methods
within_all methods m method called =
    let whole = sum_by_more_le location_count methods m method (slice_get_within methods m method called) in
    let its = ap location_count (get_or_from_slice_get methods m method method called) in
    omega arith

pub few_of_method : (h : Header) (methods : List Method) → are_lawful_methods h methods ≡ true → (m : ℕ) (method : Method) → slice_get methods m ≡ Some method → location_count method ≤ LOCATIONS_LIMIT
few_of_method h methods lawful m method called =
    let all = few_locations h methods lawful in
    let within = within_all methods m method called in
    omega arith

pub few_before : (h : Header) (methods : List Method) → are_lawful_methods h methods ≡ true → (m : ℕ) → locations_before methods m ≤ LOCATIONS_LIMIT
few_before h methods lawful m =
    let all = few_locations h methods lawful in
    let within = sum_by-take-le location_count methods m in
    omega arith

-- the marks of the l-th location of a method
pub marks_within : (methods : List Method) (m l : ℕ) (method : Method) → slice_get methods m ≡ Some method → l < location_count method
    → mark_number methods m l 0 + 64 * MARK_WORDS_PER_LOCATION ≤ 64 * mark_words methods
marks_within methods m l method called below =
    let within = within_all methods m method called in
    omega arith

-- one method more
pub before_more : (methods : List Method) (m : ℕ) → m < length methods → locations_before methods m + option_map_or location_count (slice_get methods m) 0 ≡ locations_before methods (m + 1)
before_more methods m below =
    elim (slice_get_cases methods m).1 [
      | inl w ↦
          let more = sum_by_more location_count methods m w.0 below in
          let its : location_count (get_or methods m w.0) ≡ location_count w.0 = ap location_count w.3 in
          let read : option_map_or location_count (slice_get methods m) 0 ≡ location_count w.0 = ap (λ (o : Option Method). option_map_or location_count o 0) w.2 in
          omega arith
      | inr w ↦ let past = w.0 in absurd (omega arith)
    ]

-- a location by its numbers
pub record IsThere (methods : List Method) (m l : ℕ) : Type 0 where
  pub point : Point methods
  pub of_method : point.m ≡ m
  pub of_location : point.l ≡ l

pub point_at : (methods : List Method) (m l : ℕ) → m < length methods → l < option_map_or location_count (slice_get methods m) 0 → IsThere methods m l
point_at methods m l below within =
    elim (slice_get_cases methods m).1 [
      | inl w ↦
          let method = w.0 in
          let called = w.2 in
          let read : option_map_or location_count (slice_get methods m) 0 ≡ location_count method = ap (λ (o : Option Method). option_map_or location_count o 0) called in
          elim (slice_get_cases method.locations l).1 [
            | inl v ↦ record { point = record { m = m; l = l; method = method; location = v.0; called = called; there = v.2 }; of_method = refl; of_location = refl }
            | inr v ↦ let past = v.0 in absurd (omega arith)
          ]
      | inr w ↦ let past = w.0 in absurd (omega arith)
    ]

-- the marks of a location that is there
pub room_at : (methods : List Method) (m l : ℕ) → m < length methods → l < option_map_or location_count (slice_get methods m) 0
    → mark_number methods m l 0 + 64 * MARK_WORDS_PER_LOCATION ≤ 64 * mark_words methods
room_at methods m l below within =
    let w = point_at methods m l below within in
    let x = w.point in
    let room = marks_within methods x.m x.l x.method x.called (slice_get_within x.method.locations x.l x.location x.there) in
    subst (λ k. mark_number methods k l 0 + 64 * MARK_WORDS_PER_LOCATION ≤ 64 * mark_words methods) w.of_method
    (subst (λ k. mark_number methods x.m k 0 + 64 * MARK_WORDS_PER_LOCATION ≤ 64 * mark_words methods) w.of_location room)

-- a location of a method has a small number
pub few_at : (h : Header) (methods : List Method) → are_lawful_methods h methods ≡ true → (m l : ℕ) → l < option_map_or location_count (slice_get methods m) 0 → l < LOCATIONS_LIMIT
few_at h methods lawful m l within =
    elim (slice_get_cases methods m).1 [
      | inl w ↦
          let few = few_of_method h methods lawful m w.0 w.2 in
          let read : option_map_or location_count (slice_get methods m) 0 ≡ location_count w.0 = ap (λ (o : Option Method). option_map_or location_count o 0) w.2 in
          omega arith
      | inr w ↦
          let read : option_map_or location_count (slice_get methods m) 0 ≡ 0 = ap (λ (o : Option Method). option_map_or location_count o 0) w.1 in
          absurd (omega arith)
    ]
