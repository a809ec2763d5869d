-- A text of whose broken rules none is first breaks no rule.
use Rattle.std.proofs.Common.{sym, ◌∙◌}
use Rattle.plank_rules.specs.BrokenRules.{broken_rules}
use Rattle.plank_rules.proofs.FirstIsLeast.{none_broken}
use Rattle.plank_rules.proofs.typed.checked.Goals as goal

pub invariant_of-result : goal.invariant_of-result
invariant_of-result c = record {
  names_are = c.in_ok-names.ensures;
  rules = none_broken (broken_rules c.args.text.now) (sym c.in_ok-first_broken.ensures ∙ c.in-None.is);
}
