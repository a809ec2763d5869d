-- The answers of an oracle, as a set of numbers.
use Rattle.std.proofs.Common.{◌≡◌, ℕ, ◌<◌, Bool, true, List, length, sym, ◌∙◌, subst}
use Rattle.std.proofs.lemmas.Option.{slice_get_within}
use Rattle.plank_query.specs.declared.questions.Question.{Question}
use Rattle.plank_query.specs.Questions.{AreAnswers}
use Rattle.plank_past.specs.Answered.{is_on, AreReached}
use Rattle.plank_past.proofs.Numbers.{on_yes, yes_on}

pub are_reached : (q : Question) (answers : List Bool) (found : ℕ → Bool) → length answers ≡ length q.goals.now → AreAnswers q answers → ((k : ℕ) → found k ≡ is_on answers k) → AreReached q found
are_reached q answers found count exact is = record {
  within = λ k f. subst (λ n. k < n) count (slice_get_within answers k true (on_yes answers k (sym (is k) ∙ f)));
  each = λ k goal there. (
    λ f. (exact k goal there).0 (on_yes answers k (sym (is k) ∙ f)),
    λ r. is k ∙ yes_on answers k ((exact k goal there).1 r),
  );
}
