-- The laws of paths, each from its lemma.
use Rattle.std.proofs.Common.{subst, sym, inl, inr}
use Rattle.plank_base.specs.Paths.{Path, here}
use Rattle.plank_base.proofs.Paths.{one_line, one_end, wider, append, first_visit, no_return, beyond_is_met, visits_from_path, path_from_visits, off-extends, off-agree, same_paths, cycle_never_ends, chain_law}
use Rattle.plank_base.proofs.laws.path_laws.Goals as goal

pub returns-clause-one_line : goal.returns-clause-one_line
returns-clause-one_line c = λ f a b d p q. one_line p q

pub returns-clause-one_end : goal.returns-clause-one_end
returns-clause-one_end c = λ f a b d p q. one_end p.0 p.1 q.0 q.1

pub returns-clause-wider : goal.returns-clause-wider
returns-clause-wider c = λ f g a b h p. wider h p

pub returns-clause-first_visit : goal.returns-clause-first_visit
returns-clause-first_visit c = λ f x a b.
    (first_visit x, λ v. elim v [ inl p ↦ wider (off-extends f x) p | inr w ↦ append (wider (off-extends f x) w.0) w.1 ])

pub returns-clause-last_visit : goal.returns-clause-last_visit
returns-clause-last_visit c = λ f x b.
    (no_return x, λ v. elim v [ inl e ↦ subst (λ y. Path f x y) (sym e) here | inr w ↦ beyond_is_met x w ])

pub returns-clause-visits : goal.returns-clause-visits
returns-clause-visits c = λ f x a b. (visits_from_path x, path_from_visits x)

pub returns-clause-agree : goal.returns-clause-agree
returns-clause-agree c = λ f g x a b h p. same_paths (off-agree f g x h) p

pub returns-clause-cycle : goal.returns-clause-cycle
returns-clause-cycle c = λ f x w. cycle_never_ends x w

pub returns-clause-chain : goal.returns-clause-chain
returns-clause-chain c = λ r e p q h w. chain_law h w
