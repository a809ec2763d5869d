-- What the session answers, of the question's goals.
use Rattle.std.proofs.Common.{◌≡◌, ℕ, Bool, List, Option, ◌∙◌, ap, sym, subst}
use Rattle.plank_search.specs.Assignments.{full_of}
use Rattle.plank_search.specs.Answers.{IsSolution}
use Rattle.plank_solve.specs.Rulings.{open_numbers}
use Rattle.plank_solve.proofs.Rounds.{no_more_left, more_found, found_whole, found_agrees}
use Rattle.plank_solve.proofs.solver.more.Goals as goal

same_solution : (meets : (ℕ → Bool) → Type 0) (given : List (Option Bool)) (xs ys : List Bool) → ys ≡ xs → IsSolution meets given xs → IsSolution meets given ys
same_solution meets given xs ys e s = subst (IsSolution meets given) (sym e) s

pub returns-in-None-clause-none : goal.returns-in-None-clause-none
returns-in-None-clause-none c =
    no_more_left c.args.question.now c.args.ruling.now c.requires.ruling c.args.reached.now c.args.session.now.rules c.args.session.now.clauses c.args.session.now.given c.as_slice.result.now
    c.requires.rules c.requires.clauses c.requires.given
    (c.as_slice.ensures.value ∙ c.in_ok-left.ensures ∙ ap (λ n. open_numbers n c.args.reached.now) c.len.ensures)
    (rw c.in-None.is at c.in_ok-found.ensures.none)

pub reached_now-requires-clause-whole : goal.reached_now-requires-clause-whole
reached_now-requires-clause-whole c = found_whole c.in_ok-values.values c.as_slice-2.result.now c.in_ok-values.ensures

pub returns-clause-more : goal.returns-clause-more
returns-clause-more c =
    more_found c.args.question.now c.args.ruling.now c.requires.ruling c.args.reached.now c.args.session.now.rules c.args.session.now.clauses c.args.session.now.given c.as_slice.result.now
    c.requires.rules c.requires.clauses c.requires.given
    (c.as_slice.ensures.value ∙ c.in_ok-left.ensures ∙ ap (λ n. open_numbers n c.args.reached.now) c.len.ensures)
    c.in_ok-now.now.items c.as_slice-2.result.now c.requires.count
    (same_solution _ _ c.in-Some.found c.as_slice-2.result.now c.as_slice-2.ensures (rw c.in-Some.is at c.in_ok-found.ensures.found))
    (c.in_ok-now.ensures (full_of c.as_slice-2.result.now) (found_agrees c.in_ok-values.values c.as_slice-2.result.now c.in_ok-values.ensures))
