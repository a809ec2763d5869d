-- The facts stay closed, and the partitions that meet them are those that meet the assumption too.
use Rattle.std.proofs.Common.{◌≢◌, ℕ, ◌↔◌, sym, ◌∙◌, subst}
use Rattle.plank_order.specs.Partitions.{PartitionFacts, Meets}
use Rattle.plank_order.proofs.RowLemmas.{or_after}
use Rattle.plank_order.proofs.PartitionLaws.{name_small, closed_with_apart, meets_with_apart, partition}
use Rattle.plank_order.proofs.partitions.Partition.assume_apart.Goals as goal

pub invariant_of-self : goal.invariant_of-self
invariant_of-self c =
    closed_with_apart _ c.self.invariant c.args.a.0 c.args.b.0
    (name_small _ _ c.self.view_is c.self.invariant _ c.requires.first) (name_small _ _ c.self.view_is c.self.invariant _ c.requires.second)
    (sym c.if-relates.ensures) c.extend-2.new.rows
    (λ x y. c.extend-2.ensures x y ∙ or_after _ _ _ (c.extend.ensures x y))

pub returns-clause-partitions : goal.returns-clause-partitions
returns-clause-partitions c =
    let now : PartitionFacts = record { names = c.self.inside.names; same = c.self.inside.same; apart = c.extend-2.new.rows } in
    subst (λ k. (group : ℕ → ℕ) → Meets now group ↔ (Meets k group × (group c.args.a.0 ≢ group c.args.b.0))) c.self.view_is
    (meets_with_apart _ c.self.invariant c.args.a.0 c.args.b.0
    (name_small _ _ c.self.view_is c.self.invariant _ c.requires.first) (name_small _ _ c.self.view_is c.self.invariant _ c.requires.second)
    (sym c.if-relates.ensures) c.extend-2.new.rows
    (λ x y. c.extend-2.ensures x y ∙ or_after _ _ _ (c.extend.ensures x y)))

pub returns-clause-some : goal.returns-clause-some
returns-clause-some c =
    let now : PartitionFacts = record { names = c.self.inside.names; same = c.self.inside.same; apart = c.extend-2.new.rows } in
    partition now (invariant_of-self c)
