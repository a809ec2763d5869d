use Rattle.std.proofs.Common.{sym, ap, ◌∙◌}
use Rattle.std.proofs.lemmas.Option.{none-some}
use Rattle.std.proofs.lemmas.Result.{IfOk-weaker}
use Rattle.plank_bits.specs.Words.{has}
use Rattle.plank_method.specs.Deciding.{outline_of}
use Rattle.plank_shown.proofs.Exact.{same_table}
use Rattle.plank_follow.specs.Literals.{past_of}
use Rattle.plank_follow.proofs.Lists.{past_so}
use Rattle.plank_follow.proofs.Additions.{from_number, from_none}
use Rattle.plank_follow.proofs.rules.Rules.more_of.Goals as goal

pub returns-in-None : goal.returns-in-None
returns-in-None g c = λ m called.
    let p = c.args.self.now.program.now in
    let O = outline_of p c.args.self.now.marks.now in
    from_none O m c.args.self.now.lasting.now c.args.self.now.presents.now c.args.number
    (λ P is. none-some P (sym c.in-None.is ∙ c.past_of.ensures ∙ ap past_of (c.fact.ensures ∙ same_table p c.args.self.now.method m called c.args.number ∙ is))) (has c.args.known.now)

pub returns-in-Some : goal.returns-in-Some
returns-in-Some g c =
    let p = c.args.self.now.program.now in
    let O = outline_of p c.args.self.now.marks.now in
    IfOk-weaker c.more_from.result _ _ (λ more w m called.
    from_number O m c.args.self.now.lasting.now c.args.self.now.presents.now c.in-Some.past c.args.number
    (sym (same_table p c.args.self.now.method m called c.args.number) ∙ sym c.fact.ensures ∙ past_so c.fact.result c.in-Some.past (sym c.past_of.ensures ∙ c.in-Some.is))
    (has c.args.known.now) (has more) (w m called)) c.more_from.ensures
