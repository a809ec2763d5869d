-- The obligation edges, by the question about a picture of one node. A structure has two pointer fields at most.
use Rattle.std.specs.Prelude.{◌≡◌, ℕ, zero, suc, ◌<◌, ◌≤◌, true, false, List, [], ◌∷◌, length, slice_get, slice_index_or, Option, Some, None}
use Rattle.std.specs.Option.{option_map_or}
use Rattle.std.proofs.Common.{refl, subst, arith}
use Rattle.std.proofs.lemmas.Bool.{false≢true}
use Rattle.std.proofs.lemmas.Option.{slice_get_within}
use Rattle.plank_prog.specs.declared.headers.Pointer.{Pointer}
use Rattle.plank_prog.specs.declared.headers.Header.{Header}
use Rattle.plank_prog.specs.Conditions.{View, value}
use Rattle.plank_prog.specs.Headers.{is_lawful_header}
use Rattle.plank_prog.proofs.HeaderFacts.{few_pointers}
use Rattle.plank_pic.specs.declared.parts.KeyName.{KeyName}
use Rattle.plank_pic.specs.Pictures.{Picture, node_view, view_admits}
use Rattle.plank_fact.specs.Obligations.{EdgesFail}
use Rattle.plank_query.specs.declared.situations.Situation.{Situation}
use Rattle.plank_query.specs.declared.predicates.Claim.{Claim}
use Rattle.plank_query.specs.declared.goals.Goal.{Goal}
use Rattle.plank_query.specs.Predicates.{holds, AreRight}
use Rattle.plank_goals.proofs.Gathered.{one_in, nothing_at}
use Rattle.plank_demand.specs.Asked.{IsOneReached, not_null, is_shared, admits, twice_claims}

module _ (h : Header) (p : Picture) where
  right_none : AreRight h Situation.Node p []
  right_none c w = absurd (nothing_at c w)

  right_cons : (c : Claim) (cs : List Claim) → holds h Situation.Node p c.predicate ≡ c.value → AreRight h Situation.Node p cs → AreRight h Situation.Node p (c ∷ cs)
  right_cons c cs first rest d w = by_place w.0 w.1 w.2
    where
      by_place : (i : ℕ) → i < length (c ∷ cs) → slice_index_or (c ∷ cs) i d ≡ d → holds h Situation.Node p d.predicate ≡ d.value
      by_place zero below e = subst (λ (k : Claim). holds h Situation.Node p k.predicate ≡ k.value) e first
      by_place (suc i) below e = rest d (i, omega (arith, below), e)

module _ (h : Header) (lawful : is_lawful_header h ≡ true) where
  -- a field that admits a key is there
  field_there : (v : View) (f : ℕ) → view_admits h v f ≡ true → f < length h.pointers
  field_there v f e = by_field (slice_get h.pointers f) refl e
    where
      by_field : (o : Option Pointer) → slice_get h.pointers f ≡ o → option_map_or (λ q. option_map_or (value v) q.edge false) o false ≡ true → f < length h.pointers
      by_field None at t = absurd (false≢true t)
      by_field (Some q) at t = slice_get_within h.pointers f q at

  pub edges_from : IsOneReached h Situation.Node twice_claims (Goal.Anything ∷ []) → EdgesFail h
  edges_from w =
      let r = w.reached in
      record {
        picture = r.before;
        lawful = r.situated.lawful;
        named = r.right (not_null 0) (0, omega arith, refl);
        shared = r.right (is_shared 0) (1, omega arith, refl);
        first = 0;
        second = 1;
        apart = omega arith;
        first_admits = r.right (admits 0 0) (2, omega arith, refl);
        second_admits = r.right (admits 0 1) (3, omega arith, refl);
      }

  pub edges_to : EdgesFail h → IsOneReached h Situation.Node twice_claims (Goal.Anything ∷ [])
  edges_to w =
      let few : length h.pointers ≤ 2 = few_pointers h lawful in
      let within = field_there (node_view w.picture KeyName.Any 0) w.second w.second_admits in
      let apart = w.apart in
      let first : w.first ≡ 0 = omega arith in
      let second : w.second ≡ 1 = omega arith in
      let admits_first = subst (λ f. view_admits h (node_view w.picture KeyName.Any 0) f ≡ true) first w.first_admits in
      let admits_second = subst (λ f. view_admits h (node_view w.picture KeyName.Any 0) f ≡ true) second w.second_admits in
      record {
        goal = Goal.Anything;
        asked = one_in Goal.Anything;
        reached = record {
          before = w.picture;
          after = w.picture;
          situated = record { lawful = w.lawful; fit = λ i below. refl; step = refl };
          right = right_cons h w.picture (not_null 0) (is_shared 0 ∷ admits 0 0 ∷ admits 0 1 ∷ []) w.named
              (right_cons h w.picture (is_shared 0) (admits 0 0 ∷ admits 0 1 ∷ []) w.shared
              (right_cons h w.picture (admits 0 0) (admits 0 1 ∷ []) admits_first
              (right_cons h w.picture (admits 0 1) [] admits_second (right_none h w.picture))));
          holds = refl;
        };
      }
