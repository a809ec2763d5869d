use Rattle.std.proofs.Common.{◌∙◌}
use Rattle.plank_search.proofs.Questions.{none_prepared, none_asked, found_asked}
use Rattle.plank_search.proofs.session.Session.ask.Goals as goal

pub returns-then-not-self-clause-none : goal.returns-then-not-self-clause-none
returns-then-not-self-clause-none g c =
    rw (← c.self.view_is)
    (none_prepared (g.R.Rules.meaning c.self.inside.rules.now) (g.R.Rules.constraint_count c.self.inside.rules.now) c.self.inside.clauses.now
    c.args.question.now c.args.claims.now c.self.inside.given c.self.inside.prepared.items c.self.inside.possible c.self.invariant c.if-not-self.true)

pub returns-then-not-branch-clause-none : goal.returns-then-not-branch-clause-none
returns-then-not-branch-clause-none g c =
    rw (← c.self.view_is)
    (none_asked (g.R.Rules.meaning c.self.inside.rules.now) (g.R.Rules.constraint_count c.self.inside.rules.now) c.self.inside.clauses.now
    c.args.question.now c.args.claims.now c.self.inside.given c.self.inside.prepared.items c.self.inside.possible c.restore.new.self c.answer-found.new.values c.self.invariant
    c.if-not-self.false (c.restore.ensures ∙ c.in_ok-from_slice.ensures.items ∙ c.as_slice.ensures.value)
    (rw (c.if-not-branch.true, c.new.ensures) at c.in_ok-found.ensures))

pub returns-clause-found : goal.returns-clause-found
returns-clause-found g c =
    rw (← c.self.view_is)
    (found_asked (g.R.Rules.meaning c.self.inside.rules.now) (g.R.Rules.constraint_count c.self.inside.rules.now) c.self.inside.clauses.now
    c.args.question.now c.args.claims.now c.self.inside.given c.self.inside.prepared.items c.self.inside.possible c.restore.new.self c.answer-found.new.values c.in_ok-fill.field-0 c.self.invariant
    c.if-not-self.false (c.restore.ensures ∙ c.in_ok-from_slice.ensures.items ∙ c.as_slice.ensures.value)
    (rw (c.if-not-branch.false, c.new.ensures) at c.in_ok-found.ensures) c.in_ok-fill.ensures)
