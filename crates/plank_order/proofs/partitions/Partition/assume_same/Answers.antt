-- The facts stay closed, and the partitions that meet them are those that meet the assumption too.
use Rattle.std.proofs.Common.{◌≡◌, ℕ, ◌↔◌, bit_or, get_or, sym, ◌∙◌, subst}
use Rattle.plank_order.specs.Partitions.{PartitionFacts, Meets}
use Rattle.plank_order.proofs.RowLemmas.{is_set-or, or_after}
use Rattle.plank_order.proofs.PartitionLaws.{name_small, closed_with_same, meets_with_same, partition}
use Rattle.plank_order.proofs.partitions.Partition.assume_same.Goals as goal

pub invariant_of-self : goal.invariant_of-self
invariant_of-self c =
    let members : ℕ = bit_or (get_or c.self.inside.same c.args.a.0 0) (get_or c.self.inside.same c.args.b.0 0) in
    let others : ℕ = bit_or (get_or c.self.inside.apart c.args.a.0 0) (get_or c.self.inside.apart c.args.b.0 0) in
    closed_with_same _ _ c.self.invariant c.args.a.0 c.args.b.0
    (name_small _ _ c.self.view_is c.self.invariant _ c.requires.first) (name_small _ _ c.self.view_is c.self.invariant _ c.requires.second)
    c.self.invariant.few (sym c.if-relates.ensures) members others
    (λ y. is_set-or _ _ y)
    (λ y. is_set-or _ _ y)
    (λ x y. c.extend-2.ensures x y ∙ or_after _ _ _ (c.extend.ensures x y))
    (λ x y. c.extend-6.ensures x y ∙ or_after _ _ _ (c.extend-5.ensures x y ∙ or_after _ _ _ (c.extend-4.ensures x y ∙ or_after _ _ _ (c.extend-3.ensures x y))))

pub returns-clause-partitions : goal.returns-clause-partitions
returns-clause-partitions c =
    let members : ℕ = bit_or (get_or c.self.inside.same c.args.a.0 0) (get_or c.self.inside.same c.args.b.0 0) in
    let others : ℕ = bit_or (get_or c.self.inside.apart c.args.a.0 0) (get_or c.self.inside.apart c.args.b.0 0) in
    let now : PartitionFacts = record { names = c.self.inside.names; same = c.extend-2.new.rows; apart = c.extend-6.new.rows } in
    subst (λ k. (group : ℕ → ℕ) → Meets now group ↔ (Meets k group × (group c.args.a.0 ≡ group c.args.b.0))) c.self.view_is
    (meets_with_same _ now c.self.invariant c.args.a.0 c.args.b.0
    (name_small _ _ c.self.view_is c.self.invariant _ c.requires.first) (name_small _ _ c.self.view_is c.self.invariant _ c.requires.second)
    c.self.invariant.few (sym c.if-relates.ensures) members others
    (λ y. is_set-or _ _ y)
    (λ y. is_set-or _ _ y)
    (λ x y. c.extend-2.ensures x y ∙ or_after _ _ _ (c.extend.ensures x y))
    (λ x y. c.extend-6.ensures x y ∙ or_after _ _ _ (c.extend-5.ensures x y ∙ or_after _ _ _ (c.extend-4.ensures x y ∙ or_after _ _ _ (c.extend-3.ensures x y)))))

pub returns-clause-some : goal.returns-clause-some
returns-clause-some c =
    let now : PartitionFacts = record { names = c.self.inside.names; same = c.extend-2.new.rows; apart = c.extend-6.new.rows } in
    partition now (invariant_of-self c)
