-- The numbers of locations: each location has its own, below how many there are.
use Rattle.std.specs.Prelude.{◌≡◌, ℕ, zero, suc, ◌+◌, ◌-◌, ◌<◌, ◌≤◌, List, length, sum_by, slice_get, Option, Some}
use Rattle.std.specs.Option.{option_map_or}
use Rattle.std.proofs.Common.{refl, sym, ◌∙◌, ap, subst, inl, inr, arith}
use Rattle.std.proofs.Math.Seq.{take-length}
use Rattle.std.proofs.lemmas.Bool.{cases_eq, cases_lt}
use Rattle.std.proofs.lemmas.Option.{slice_get_within}
use Rattle.plank_prog.specs.declared.methods.Method.{Method}
use Rattle.plank_prog.specs.Methods.{location_count}
use Rattle.plank_fact.specs.Outlines.{Point, locations_before, location_number}
use Rattle.plank_marks.proofs.Rooms.{within_all, before_more}

module _ (methods : List Method) where
  pub all_before : locations_before methods (length methods) ≡ sum_by location_count methods
  all_before = ap (sum_by location_count) (take-length methods)

  pub number_within : (x : Point methods) → location_number methods x.m x.l < sum_by location_count methods
  number_within x =
      let there = slice_get_within x.method.locations x.l x.location x.there in
      let all = within_all methods x.m x.method x.called in
      omega arith

  -- the locations before a later method
  before_later : (m d : ℕ) → m + d ≤ length methods → locations_before methods m ≤ locations_before methods (m + d)
  before_later m zero within = let same : m + 0 ≡ m = omega arith in subst (λ n. locations_before methods m ≤ locations_before methods n) (sym same) (omega arith)
  before_later m (suc d) within =
      let so = before_later m d (omega arith) in
      let more = before_more methods (m + d) (omega arith) in
      let next : m + suc d ≡ m + d + 1 = omega arith in
      let at : locations_before methods (m + suc d) ≡ locations_before methods (m + d + 1) = ap (locations_before methods) next in
      omega arith

  -- the locations of an earlier method come before
  earlier : (x : Point methods) (m : ℕ) → x.m < m → m ≤ length methods → location_number methods x.m x.l < locations_before methods m
  earlier x m below within =
      let there = slice_get_within x.method.locations x.l x.location x.there in
      let here = slice_get_within methods x.m x.method x.called in
      let more = before_more methods x.m here in
      let its : option_map_or location_count (slice_get methods x.m) 0 ≡ length x.method.locations = ap (λ (o : Option Method). option_map_or location_count o 0) x.called in
      let rest : x.m + 1 + (m - (x.m + 1)) ≡ m = omega arith in
      let later = before_later (x.m + 1) (m - (x.m + 1)) (omega arith) in
      let at : locations_before methods (x.m + 1 + (m - (x.m + 1))) ≡ locations_before methods m = ap (locations_before methods) rest in
      omega arith

  pub same_method : (x y : Point methods) → location_number methods x.m x.l ≡ location_number methods y.m y.l → x.m ≡ y.m
  same_method x y same =
      elim (cases_lt x.m y.m) [
        | inl before ↦
            let less = earlier x y.m before (let here = slice_get_within methods y.m y.method y.called in omega arith) in
            absurd (omega arith)
        | inr not_before ↦ elim (cases_lt y.m x.m) [
          | inl after ↦
              let less = earlier y x.m after (let here = slice_get_within methods x.m x.method x.called in omega arith) in
              absurd (omega arith)
          | inr not_after ↦ omega arith
        ]
      ]

  pub same_location : (x y : Point methods) → location_number methods x.m x.l ≡ location_number methods y.m y.l → x.l ≡ y.l
  same_location x y same =
      let one = ap (locations_before methods) (same_method x y same) in
      omega arith
