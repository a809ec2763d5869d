use Rattle.std.proofs.Common.{append-nil}
use Rattle.plank_search.specs.Meanings.{Meets}
use Rattle.plank_search.proofs.Alternatives.{if_some, if_none, solution-for, none-for, no-claims, with_no-claims}
use Rattle.plank_search.proofs.session.find_counted.Goals as goal

pub returns-clause-found : goal.returns-clause-found
returns-clause-found g c =
    if_some _ _ c.in_ok-found.found
    (solution-for _ _ c.args.given.now
    (no-claims (Meets (g.R.Rules.meaning c.args.rules.now) (g.R.Rules.constraint_count c.args.rules.now) c.args.clauses.now)))
    (rw (c.in_ok-session.ensures, c.new-2.ensures, append-nil c.args.clauses.now) at c.in_ok-found.ensures.found)

pub returns-clause-none : goal.returns-clause-none
returns-clause-none g c =
    if_none _ _ c.in_ok-found.found
    (none-for _ _ c.args.given.now
    (with_no-claims (Meets (g.R.Rules.meaning c.args.rules.now) (g.R.Rules.constraint_count c.args.rules.now) c.args.clauses.now)))
    (rw (c.in_ok-session.ensures, c.new-2.ensures, append-nil c.args.clauses.now) at c.in_ok-found.ensures.none)
