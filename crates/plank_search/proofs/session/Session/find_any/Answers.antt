use Rattle.plank_search.proofs.Alternatives.{of_found, of_none, solution-for, none-for, with_goal, without_goal}
use Rattle.plank_search.proofs.session.Session.find_any.Goals as goal

pub returns-clause-found : goal.returns-clause-found
returns-clause-found g c =
    of_found _ _ c.ask.result
    (solution-for _ _ c.args.self.now.given
    (with_goal (g.R.Rules.meaning c.args.self.now.rules) (g.R.Rules.constraint_count c.args.self.now.rules) c.args.self.now.clauses c.args.claims.now c.args.goals.now))
    (rw c.in_ok-some_goal.ensures at c.ask.ensures.found)

pub returns-clause-none : goal.returns-clause-none
returns-clause-none g c =
    of_none _ _ c.ask.result
    (none-for _ _ c.args.self.now.given
    (without_goal (g.R.Rules.meaning c.args.self.now.rules) (g.R.Rules.constraint_count c.args.self.now.rules) c.args.self.now.clauses c.args.claims.now c.args.goals.now))
    (rw c.in_ok-some_goal.ensures at c.ask.ensures.none)
