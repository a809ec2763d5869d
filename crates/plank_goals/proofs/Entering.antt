-- Where a walk enters a chain, a chain to another node is there.
use Rattle.std.specs.Prelude.{◌≡◌, ℕ, ◌<◌, ◌==◌, Bool, true, false, not, ◌||◌, nat_lt, Option, Some, None, if◌then◌else◌}
use Rattle.std.specs.Option.{option_map_or}
use Rattle.std.proofs.Common.{refl, sym, ◌∙◌, ap, subst, inl, inr}
use Rattle.std.proofs.lemmas.Bool.{false≢true, and_parts, or_cases, ltb-true, eqb-true}
use Rattle.std.proofs.lemmas.Option.{same_Some, none-some}
use Rattle.plank_pic.specs.declared.parts.KeyName.{KeyName}
use Rattle.plank_pic.specs.declared.parts.Part.{Part}
use Rattle.plank_pic.specs.declared.parts.Target.{Target}
use Rattle.plank_pic.specs.declared.parts.Term.{Term}
use Rattle.plank_pic.specs.Frames.{Frame}
use Rattle.plank_pic.specs.Pictures.{Picture, place, edge, leads_to, chains_on, chain_target, outer_target, pointer_target, target}
use Rattle.plank_pic.specs.Lawful.{chains_are_there, keys_ordered, order_of, IsLawful}
use Rattle.plank_pic.specs.Outcomes.{passes}
use Rattle.plank_pic.specs.Steps.{Change, mixed}
use Rattle.plank_pic.specs.Keeps.{chain_of, enters_chain}
use Rattle.plank_pic.specs.Below.{least_below}
use Rattle.plank_pic.proofs.Below.{least_some}
use Rattle.plank_goals.proofs.Basics.{implied, there}

module _ (F : Frame) (P : Picture) (k : KeyName) where
  two_stops : (i q : ℕ) (a b : Bool) → chain_of (if a then Target.Stops i q 0 else if b then Target.Stops i q 1 else Target.Jumps q) ≡ Some q
  two_stops i q true b = refl
  two_stops i q false true = refl
  two_stops i q false false = refl

  of_outer : (i f q : ℕ) → chain_of (outer_target F P k i f) ≡ Some q → chains_on P i q ≡ true
  of_outer i f q e = by_least (least_below (chains_on P i) F.names) refl e
    where
      by_least : (o : Option ℕ) → least_below (chains_on P i) F.names ≡ o → chain_of (elim o [ Some r ↦ chain_target P k i r | None ↦ Target.Out (place i f) ]) ≡ Some q → chains_on P i q ≡ true
      by_least None at c = absurd (none-some q c)
      by_least (Some r) at c =
          subst (λ n. chains_on P i n ≡ true) (same_Some r q (sym (two_stops i r (P (Part.Picks k i r 0)) (P (Part.Picks k i r 1))) ∙ c))
          (least_some (chains_on P i) F.names r at).1

  of_pointer : (i f q : ℕ) → chain_of (pointer_target F P k i f) ≡ Some q → chains_on P i q ≡ true
  of_pointer i f q e = by_least (least_below (leads_to P (place i f)) F.names) e
    where
      by_least : (o : Option ℕ) → chain_of (elim o [ Some j ↦ Target.To j | None ↦ outer_target F P k i f ]) ≡ Some q → chains_on P i q ≡ true
      by_least None c = of_outer i f q c
      by_least (Some j) c = absurd (none-some q c)

  of_target : (i q : ℕ) → chain_of (target F P k i) ≡ Some q → chains_on P i q ≡ true
  of_target i q e = by_edge (edge F.header P k i) e
    where
      by_edge : (o : Option ℕ) → chain_of (elim o [ Some f ↦ pointer_target F P k i f | None ↦ Target.Ends ]) ≡ Some q → chains_on P i q ≡ true
      by_edge None c = absurd (none-some q c)
      by_edge (Some f) c = of_pointer i f q c

  entered : (at y q : ℕ) → enters_chain F P k at y q ≡ true → chains_on P y q ≡ true
  entered at y q e = by_chain (chain_of (target F P k y)) refl (and_parts (passes F P k at y) _ e).1
    where
      by_chain : (o : Option ℕ) → chain_of (target F P k y) ≡ o → option_map_or (λ n. n == q) o false ≡ true → chains_on P y q ≡ true
      by_chain None at_none c = absurd (false≢true c)
      by_chain (Some r) at_some c = of_target y q (at_some ∙ ap Some (eqb-true r q c))

-- what a chain that is entered is, in a lawful picture
pub record IsChainOf (F : Frame) (p : Picture) (y q : ℕ) : Type 0 where
  pub from_within : y < F.names
  pub to_within : q < F.names
  pub one_pointer : chains_are_there F ≡ true
  pub ordered : keys_ordered (order_of F 0) p (Term.Node y) (Term.Node q) ≡ true

module _ (F : Frame) (c : Change) (k : KeyName) (p : Picture) (lawful : IsLawful F p) (y q : ℕ) where
  either_entered : (enters_chain F p k c.at y q || enters_chain F (mixed p c) k c.at y q) ≡ true → chains_on p y q ≡ true
  either_entered e =
      elim (or_cases (enters_chain F p k c.at y q) (enters_chain F (mixed p c) k c.at y q) e) [
        | inl before ↦ entered F p k c.at y q before
        | inr after ↦ entered F (mixed p c) k c.at y q after
      ]

  pub entered_chain : (enters_chain F p k c.at y q || enters_chain F (mixed p c) k c.at y q) ≡ true → IsChainOf F p y q
  entered_chain e =
      let on = either_entered e in
      let parts = and_parts (p (Part.Chain y q)) (not (p (Part.Same y q))) on in
      let fit = and_parts (nat_lt y F.names) (nat_lt q F.names) (there F p lawful.possible.picture.fits (Part.Chain y q) parts.0) in
      let from = ltb-true y F.names fit.0 in
      let to = ltb-true q F.names fit.1 in
      let begins = implied (chains_on p y q) _ (lawful.possible.chain_first y q from to) on in
      record {
        from_within = from;
        to_within = to;
        one_pointer = (and_parts (chains_are_there F) _ (and_parts _ (not (p (Part.PointerNull (place y 0)))) begins).0).0;
        ordered = implied (chains_on p y q) _ (lawful.chain_order y q from to) on;
      }
