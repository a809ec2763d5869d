-- The statements are looked at in the scope of their method.
use Rattle.std.proofs.Common.{◌≡◌, ◌∙◌, List, OnOk, ap, subst}
use Rattle.std.specs.List.{flat_map}
use Rattle.plank_rules.specs.declared.broken.Broken.{Broken}
use Rattle.plank_rules.specs.Faults.{after}
use Rattle.plank_rules.specs.StatementRules.{statement_rules}
use Rattle.plank_rules.specs.MethodRules.{statements_rules}
use Rattle.plank_rules.proofs.method_rules.add_statements_rules.Goals as goal

pub returns : goal.returns
unfolding statements_rules
returns c =
    subst (λ (broken : List Broken). OnOk c.add_each_statement.result (c.add_each_statement.new.found.first ≡ after c.args.found.now.first broken))
    (ap (λ statements. flat_map (statement_rules c.args.header.now c.in_ok-scope.scope) statements) c.as_slice.ensures
    ∙ ap (λ scope. flat_map (statement_rules c.args.header.now scope) c.args.method.now.statements) c.in_ok-scope.ensures)
    c.add_each_statement.ensures
