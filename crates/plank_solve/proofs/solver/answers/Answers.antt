-- The session asks what is asked of the question, and each round keeps what is marked.
use Rattle.std.proofs.Common.{◌+◌, length, replicate, None, false, sym, ◌∙◌, ap, subst}
use Rattle.std.proofs.lemmas.List.{length-replicate}
use Rattle.plank_solve.specs.Rulings.{NoMore, AreSound}
use Rattle.plank_solve.proofs.Rounds.{none_sound, more_sound, are_answers}
use Rattle.plank_solve.proofs.solver.answers.Goals as goal

pub rounds-init : goal.rounds-init
rounds-init c = record {
  rules = ap (λ s. s.rules) c.in_ok-session.ensures;
  clauses = ap (λ s. s.clauses) c.in_ok-session.ensures ∙ c.new-clauses.ensures;
  given = ap (λ s. s.given) c.in_ok-session.ensures ∙ c.as_slice.ensures.value ∙ c.in_ok-given.ensures
      ∙ ap (λ n. replicate n None) (c.in_ok-total.ensures ∙ ap (λ n. n + length c.args.question.now.goals.now) c.len.ensures);
  count = ap length c.in_ok-reached.ensures ∙ length-replicate (length c.args.question.now.goals.now) false;
  sound = none_sound c.args.question.now (length c.args.question.now.goals.now) c.in_ok-reached.reached.items c.in_ok-reached.ensures;
}

pub rounds-preserved : goal.rounds-preserved
rounds-preserved c =
    let more = rw c.in-Some.is at c.in_ok-now.ensures.more in
    record {
      rules = ap (λ s. s.rules) c.more.ensures.same ∙ c.rounds.invariant.rules;
      clauses = ap (λ s. s.clauses) c.more.ensures.same ∙ c.rounds.invariant.clauses;
      given = ap (λ s. s.given) c.more.ensures.same ∙ c.rounds.invariant.given;
      count = more.same_length ∙ ap length c.as_slice-in-rounds.ensures.value ∙ c.rounds.invariant.count;
      sound = more_sound c.args.question.now c.as_slice-in-rounds.result.now c.in-Some.now.items more (subst (AreSound c.args.question.now) (sym c.as_slice-in-rounds.ensures.value) c.rounds.invariant.sound);
    }

pub returns-clause-exact : goal.returns-clause-exact
returns-clause-exact c =
    are_answers c.args.question.now c.rounds.reached.items c.rounds.invariant.count c.rounds.invariant.sound
    (subst (NoMore c.args.question.now) c.as_slice-in-rounds.ensures.value (rw c.in_default.is at c.in_ok-now.ensures.none))
