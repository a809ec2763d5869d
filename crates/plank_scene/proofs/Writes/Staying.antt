-- Chains and their stop nodes after a write of a node that was not shared and frozen.
use Rattle.std.proofs.Common.{◌≡◌, ◌⊎◌, ℕ, zero, suc, ◌<◌, ◌==◌, true, false, not, Option, Some, None, refl, sym, ◌∙◌, ap, subst, inl, inr}
use Rattle.std.specs.Prelude.{◌&&◌, is_some}
use Rattle.std.proofs.lemmas.Bool.{true≢false, and_left, and_right, cases_Bool, eq-eqb}
use Rattle.std.proofs.lemmas.Option.{none-some}
use Rattle.plank_base.specs.Paths.{Path, Extends}
use Rattle.plank_base.proofs.Paths.{chain_law, one_end, wider}
use Rattle.plank_prog.specs.declared.headers.Header.{Header}
use Rattle.plank_pic.specs.declared.parts.KeyName.{KeyName}
use Rattle.plank_pic.specs.declared.parts.Part.{Part}
use Rattle.plank_pic.specs.Frames.{Frame}
use Rattle.plank_pic.specs.Below.{some_below}
use Rattle.plank_pic.specs.Pictures.{Picture}
use Rattle.plank_pic.specs.Lawful.{part_fits}
use Rattle.plank_scene.specs.Scenes.{Scene, leads, is_node, is_nameless, is_fast_in, fast_next, walk, is_chain, stop_of, stop_node, is_in_slot, is_visited_ever, picks_in, shown}
use Rattle.plank_scene.specs.Worlds.{IsScene}
use Rattle.plank_scene.proofs.Scenes.Showing.{on_both_true, on_both_at, shown_says, shown_true}
use Rattle.plank_scene.proofs.Scenes.Paths.{chain_path, path_chain, fast_step, step_fast, stop_found, stop_there}
use Rattle.plank_scene.proofs.Scenes.Targets.{first_of_chain}
use Rattle.plank_scene.proofs.Writes.Reading.{Reads}
use Rattle.plank_scene.proofs.Writes.Sides.{IsStep}
use Rattle.plank_scene.proofs.Writes.Rights.{on_way, along, along_walk, chain_along, stops_on, before_walk}
use Rattle.plank_scene.proofs.Scenes.Chains.{chain_named, chain_shown}

pub same_option : {A : Type 0} {o r : Option A} → ((z : A) → o ≡ Some z → r ≡ Some z) → ((z : A) → r ≡ Some z → o ≡ Some z) → o ≡ r
same_option {A} {o} {r} f g = by_cases o r refl refl
  where
    by_cases : (u v : Option A) → o ≡ u → r ≡ v → o ≡ r
    by_cases None None e d = e ∙ sym d
    by_cases None (Some z) e d = absurd (none-some z (sym e ∙ g z d))
    by_cases (Some z) v e d = e ∙ sym (f z e)

module _ (F : Frame) (S T : Scene) (k : KeyName) (isS : IsScene F S) (isT : IsScene F T) (x : ℕ)
    (step : IsStep F S T x) (same_names : T.named ≡ S.named) (M : Picture) (readsM : Reads F M S T k)
    (nf : is_fast_in F.header S x ≡ false) where
  abbrev H : Header
  H = F.header

  abbrev B : Picture
  B = shown F S

  abbrev W : Picture
  W = shown F T

  apart_from : (a : ℕ) → is_fast_in H S a ≡ true → a ≡ x → ⊥
  apart_from a c e = true≢false (sym c ∙ ap (is_fast_in H S) e ∙ nf)

  -- the chains of before are there after
  pub chains_stay : Extends (fast_next H S) (fast_next H T)
  chains_stay a m e =
      let w = fast_step H S isS.owned a m e in
      let other = apart_from a w.1 in
      step_fast H T isT.owned a m w.0 (step.fast a other w.1) (step.lead a 0 other ∙ w.2)

  -- and their stop nodes
  module _ (y q : ℕ) (chain : Path (fast_next H S) y q) (m : ℕ) (first : fast_next H S y ≡ Some m) where
    go : ℕ → Option ℕ
    go = along F M S T k isS isT readsM x (step.stops k) (step.ever k) (step.agree k) (λ b. step.lead b 0)

    go_T : Extends go (walk H T k)
    unfolding go
    go_T = along_walk F M S T k isS isT readsM x (step.stops k) (step.ever k) (step.agree k) (λ b. step.lead b 0)

    go_S : Extends go (walk H S k)
    unfolding go
    go_S = before_walk F M S T k isS isT readsM x (step.stops k) (step.ever k) (step.agree k) (λ b. step.lead b 0) nf y q chain m first

    cases : Path go y q ⊎ ((z : ℕ) × Path go y z × (walk H S k z ≡ None) × (walk H T k z ≡ None))
    unfolding go
    cases = elim (chain_law (chain_along F M S T k isS isT readsM x (step.stops k) (step.ever k) (step.agree k) (λ b. step.lead b 0) nf) chain) [
      | inl p ↦ inl p
      | inr w ↦ let v = stops_on F M S T k isS isT readsM x (step.stops k) (step.ever k) (step.agree k) (λ b. step.lead b 0) nf y q chain m first w in inr (v.0, v.1, v.2, v.3)
    ]

    other_y : y ≡ x → ⊥
    other_y = apart_from y (fast_step H S isS.owned y m first).1

    pub stop_stays : stop_of H S k y q ≡ stop_of H T k y q
    stop_stays = same_option
        (λ z e.
        let found = stop_found H S isS.owned k y q z e in
        elim cases [
          | inl p ↦ absurd (found.1.0 (wider go_S p))
          | inr w ↦
              let same : w.0 ≡ z = one_end (wider go_S w.1) w.2 found.0.0 found.0.1 in
              subst (λ b. stop_of H T k y q ≡ Some b) same
              (stop_there H T isT.owned k y q w.0 found.1.1.0 (wider go_T w.1, w.3)
              (λ p. found.1.0 (wider go_S (on_way go_T w.3 w.1 p))) (sym (step.agree k y other_y) ∙ found.1.1.1))
        ])
        (λ z e.
        let found = stop_found H T isT.owned k y q z e in
        elim cases [
          | inl p ↦ absurd (found.1.0 (wider go_T p))
          | inr w ↦
              let same : w.0 ≡ z = one_end (wider go_T w.1) w.3 found.0.0 found.0.1 in
              subst (λ b. stop_of H S k y q ≡ Some b) same
              (stop_there H S isS.owned k y q w.0 found.1.1.0 (wider go_S w.1, w.2)
              (λ p. found.1.0 (wider go_T (on_way go_S w.2 w.1 p))) (step.agree k y other_y ∙ found.1.1.1))
        ])

  slot_same : (o : Option ℕ) (s : ℕ) → is_in_slot H S k o s ≡ is_in_slot H T k o s
  slot_same o zero = ap (is_node o) (sym (step.stops k 0))
  slot_same o (suc s) = ap (λ r. not (is_node o r) && is_node o (stop_node H S k 1)) (sym (step.stops k 0)) ∙ ap (λ r. not (is_node o (stop_node H T k 0)) && is_node o r) (sym (step.stops k 1))

  nameless_same : (o : Option ℕ) → is_nameless F S o ≡ is_nameless F T o
  nameless_same o = ap (λ (n : ℕ → Option ℕ). is_some o && not (some_below (λ j. is_node o (n j)) F.names)) (sym same_names)

  -- a chain keeps what it picks
  picks_stay : (s y q : ℕ) → is_chain H S y q ≡ true → picks_in F S k s y q ≡ picks_in F T k s y q
  picks_stay s y q c =
      elim (cases_Bool (y == q)) [
        | inl same ↦ none S same ∙ sym (none T same)
        | inr other ↦
            let path = chain_path H S isS.owned y q c in
            let apart : y ≡ q → ⊥ = λ e. true≢false (sym (eq-eqb y q e) ∙ other) in
            let first = first_of_chain F S isS y q apart path in
            let fast_y = (fast_step H S isS.owned y first.0 first.1).1 in
            let d = path_chain H T isT.owned y q (wider chains_stay path) in
            ap (λ b. b && not (y == q) && is_nameless F S (leads S y 0) && is_visited_ever H S k y && is_in_slot H S k (stop_of H S k y q) s) (c ∙ sym d)
            ∙ ap (λ o. is_chain H T y q && not (y == q) && is_nameless F S o && is_visited_ever H S k y && is_in_slot H S k (stop_of H S k y q) s) (sym (step.lead y 0 (apart_from y fast_y)))
            ∙ ap (λ b. is_chain H T y q && not (y == q) && b && is_visited_ever H S k y && is_in_slot H S k (stop_of H S k y q) s) (nameless_same (leads T y 0))
            ∙ ap (λ b. is_chain H T y q && not (y == q) && is_nameless F T (leads T y 0) && b && is_in_slot H S k (stop_of H S k y q) s) (sym (step.ever k y))
            ∙ ap (λ o. is_chain H T y q && not (y == q) && is_nameless F T (leads T y 0) && is_visited_ever H T k y && is_in_slot H S k o s) (stop_stays y q path first.0 first.1)
            ∙ ap (λ b. is_chain H T y q && not (y == q) && is_nameless F T (leads T y 0) && is_visited_ever H T k y && b) (slot_same (stop_of H T k y q) s)
      ]
    where
      none : (U : Scene) → (y == q) ≡ true → picks_in F U k s y q ≡ false
      none U e = and_left _ _ (and_left _ _ (and_left _ _ (and_right (is_chain H U y q) (not (y == q)) (ap not e))))

  pub chain_kept : (i j : ℕ) → i < F.names → j < F.names → B (Part.Chain i j) ≡ true → W (Part.Chain i j) ≡ true
  chain_kept i j bi bj e =
      let w = chain_named F S isS i j e in
      chain_shown F T isT i j w.0 w.1 bi bj (ap (λ n. n i) same_names ∙ w.2) (ap (λ n. n j) same_names ∙ w.3) (wider chains_stay w.4)

  pub picks_kept : (i j s : ℕ) → part_fits F (Part.Picks k i j s) ≡ true → B (Part.Chain i j) ≡ true → B (Part.Picks k i j s) ≡ W (Part.Picks k i j s)
  picks_kept i j s fits e =
      let w = on_both_true (is_chain H S) (S.named i) (S.named j) (shown_true F S (Part.Chain i j) e).1 in
      shown_says F S (Part.Picks k i j s) fits ∙ on_both_at (picks_in F S k s) w.2 w.3 ∙ picks_stay s w.0 w.1 w.4
      ∙ sym (on_both_at (picks_in F T k s) (ap (λ n. n i) same_names ∙ w.2) (ap (λ n. n j) same_names ∙ w.3)) ∙ sym (shown_says F T (Part.Picks k i j s) fits)
