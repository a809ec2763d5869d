use Rattle.std.proofs.Common.{sym, ◌∙◌, ap, subst}
use Rattle.std.proofs.lemmas.Bool.{true≢false}
use Rattle.std.proofs.lemmas.Option.{none-some, same_Some}
use Rattle.plank_shown.proofs.Exact.{same_table}
use Rattle.plank_follow.specs.Literals.{past_of}
use Rattle.plank_follow.specs.Together.{IsWitnessedIn}
use Rattle.plank_follow.proofs.together.add_number.Goals as goal

pub returns-then-not-has-clause-grows : goal.returns-then-not-has-clause-grows
returns-then-not-has-clause-grows c = λ L there. there

pub returns-then-not-has-clause-said : goal.returns-then-not-has-clause-said
returns-then-not-has-clause-said c = λ m called P is e. absurd (true≢false (sym e ∙ sym c.has.ensures.value ∙ c.if-not-has.true))

pub returns-in_ok-add_witness-in-Some-clause-grows : goal.returns-in_ok-add_witness-in-Some-clause-grows
returns-in_ok-add_witness-in-Some-clause-grows c = c.in_ok-add_witness-in-Some.ensures.grows

pub returns-in_ok-add_witness-in-Some-clause-said : goal.returns-in_ok-add_witness-in-Some-clause-said
returns-in_ok-add_witness-in-Some-clause-said c = λ m called P is e.
    subst (λ Q. IsWitnessedIn c.add_witness.new.all.items Q)
    (same_Some c.in-Some.past P (sym c.in-Some.is ∙ c.past_of.ensures ∙ ap past_of (c.fact.ensures ∙ same_table c.args.program.now c.args.method m called c.args.number ∙ is))) c.in_ok-add_witness-in-Some.ensures.said

pub returns-in-None-clause-grows : goal.returns-in-None-clause-grows
returns-in-None-clause-grows c = λ L there. there

pub returns-in-None-clause-said : goal.returns-in-None-clause-said
returns-in-None-clause-said c = λ m called P is e.
    absurd (none-some P (sym c.in-None.is ∙ c.past_of.ensures ∙ ap past_of (c.fact.ensures ∙ same_table c.args.program.now c.args.method m called c.args.number ∙ is)))
