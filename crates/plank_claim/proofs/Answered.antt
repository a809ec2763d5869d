-- The answers to a question that claims nothing of the picture after.
use Rattle.std.specs.Prelude.{◌≡◌, Bool, List, [], Contains}
use Rattle.std.proofs.Common.{rules, subst}
use Rattle.plank_query.specs.declared.predicates.Claim.{Claim}
use Rattle.plank_query.specs.declared.questions.Question.{Question}
use Rattle.plank_query.specs.Questions.{AreAnswers}
use Rattle.plank_claim.specs.Asked.{AreReached}

pub nothing_in : (c : Claim) → Contains [] c → ⊥
nothing_in c w = search rules

pub are_reached : (q : Question) → q.after.now ≡ [] → (answers : List Bool) → AreAnswers q answers → AreReached q.header.now q.situation q.before.now q.goals.now answers
are_reached q none answers are i goal there = (
  λ e.
      let w = (are i goal there).0 e in
      record { before = w.before; after = w.after; situated = w.meets.situated; right = w.meets.right_before; holds = w.holds },
  λ w. (are i goal there).1 (record {
    before = w.before;
    after = w.after;
    meets = record { situated = w.situated; right_before = w.right; right_after = λ c in_none. absurd (nothing_in c (subst (λ (cs : List Claim). Contains cs c) none in_none)) };
    holds = w.holds;
  }),
)
