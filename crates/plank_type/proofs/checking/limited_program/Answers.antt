-- What the lowered text has too much of, the text has.
use Rattle.std.proofs.Common.{sym, ◌∙◌, ap, subst}
use Rattle.plank_rules.specs.declared.typed.Typed.{Typed}
use Rattle.plank_rules.specs.FirstOf.{first_of}
use Rattle.plank_type.specs.declared.faults.TypeFault.{TypeFault}
use Rattle.plank_type.specs.Limits.{first_excess}
use Rattle.plank_type.specs.Checks.{IsFaultOf}
use Rattle.plank_type.proofs.checking.limited_program.Goals as goal

pub returns-in-Some-clause-fault : goal.returns-in-Some-clause-fault
returns-in-Some-clause-fault c =
    let typed = c.args.limited.typed.now in
    subst (λ (f : TypeFault). IsFaultOf typed.text.now f) (sym c.too_many.ensures) (record {
      rules = ap first_of typed.rules;
      limits = ap (λ (t : Typed). first_excess t.text.now) (sym c.in-Ok.ensures) ∙ sym c.excess.ensures ∙ c.in-Some.is;
    })
