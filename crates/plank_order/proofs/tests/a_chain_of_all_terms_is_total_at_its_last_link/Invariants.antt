-- The terms stay.
use Rattle.std.proofs.Common.{◌≡◌}
use Rattle.plank_order.proofs.tests.a_chain_of_all_terms_is_total_at_its_last_link.Given as goal

abbrev pub invariant-loop-k : goal.invariant-loop-k
invariant-loop-k g l = l.order.terms ≡ 24
