use Rattle.std.proofs.Common.{◌≡◌, ◌↔◌, ◌≤◌, ◌||◌, pos, length, subst, sym, ap, ◌∙◌}
use Rattle.std.specs.Prelude.{IsTrue}
use Rattle.plank_base.specs.declared.limits.TheConstants.{NODES_LIMIT}
use Rattle.plank_heap.specs.declared.heaps.Heap.{Heap}
use Rattle.plank_heap.specs.Walks.{contains}
use Rattle.plank_pic.specs.Below.{some_below}
use Rattle.plank_fact.specs.Start.{breaks_rules, StartFails}
use Rattle.std.proofs.lemmas.Bool.{or_left}
use Rattle.plank_start.proofs.StartTests.{broken_test, set_test, start_decides, few_start_nodes}
use Rattle.plank_start.proofs.heaps.start_fails.Goals as goal
use Rattle.plank_start.proofs.heaps.start_fails.Goals.{then-some_breaks_rules, else-some_breaks_rules}

pub some_breaks_rules-requires-clause-few : goal.some_breaks_rules-requires-clause-few
some_breaks_rules-requires-clause-few c =
    subst (λ (heap : Heap). length heap.nodes ≤ NODES_LIMIT) (sym c.in_ok-heap.ensures.heap)
    (few_start_nodes c.args.program.now.header c.args.program.now.header_is_lawful)

pub returns : goal.returns
returns c =
    let h = c.args.program.now.header in
    let lawful = c.args.program.now.header_is_lawful in
    let broken : c.some_breaks_rules.result ≡ broken_test h lawful =
    c.some_breaks_rules.ensures ∙ ap (λ (heap : Heap). some_below (breaks_rules h heap (pos 0)) (length heap.nodes)) c.in_ok-heap.ensures.heap in
    let whole : c.if-some_breaks_rules.result ≡ (broken_test h lawful || set_test h lawful) = elim c.if-some_breaks_rules.branch [
      | then-some_breaks_rules w ↦ w.result-is ∙ w.if-some_breaks_rules.true ∙ sym (or_left (broken_test h lawful) (set_test h lawful) (sym broken ∙ w.if-some_breaks_rules.true))
      | else-some_breaks_rules w ↦
          w.result-is ∙ w.in_set.ensures.test ∙ ap (λ (heap : Heap). contains h heap (pos 0)) c.in_ok-heap.ensures.heap
          ∙ ap (λ b. b || set_test h lawful) (sym w.if-some_breaks_rules.false ∙ broken)
    ] in
    subst (λ b. IsTrue b ↔ StartFails h) (sym whole) (start_decides h lawful)
