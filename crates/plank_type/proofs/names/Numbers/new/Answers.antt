-- The names of a well typed text are those that it declares, in its order.
use Rattle.std.proofs.Common.{sym, ◌∙◌, subst}
use Rattle.plank_rules.specs.declared.names.Declared.{Declared}
use Rattle.plank_type.specs.Numbers.{HasFewNames}
use Rattle.plank_type.proofs.AsWritten.{declared_as_written}
use Rattle.plank_type.proofs.WithinLimits.{few_names}
use Rattle.plank_type.proofs.names.Numbers.new.Goals as goal

pub invariant_of-result : goal.invariant_of-result
invariant_of-result c =
    let typed = c.args.limited.typed.now in
    let as_written = typed.names_are ∙ declared_as_written typed.text.now typed.rules in
    (as_written, subst (λ (names : Declared). HasFewNames names) (sym as_written) (few_names typed.text.now c.args.limited.within))

pub returns : goal.returns
returns c =
    let typed = c.args.limited.typed.now in
    typed.names_are ∙ declared_as_written typed.text.now typed.rules
