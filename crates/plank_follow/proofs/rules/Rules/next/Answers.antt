use Rattle.std.proofs.Common.{◌≡◌, sym, ◌∙◌, ap, true, false, inl, inr}
use Rattle.std.specs.Prelude.{not}
use Rattle.std.proofs.lemmas.Bool.{cases_Bool, and_parts, and_from, not-true}
use Rattle.plank_bits.specs.Words.{has}
use Rattle.plank_follow.proofs.Sorts.{are_of_kind, none_member, member_so}
use Rattle.plank_follow.proofs.rules.Rules.next.Goals as goal

pub returns-clause-found : goal.returns-clause-found
returns-clause-found g c =
    member_so (has c.minus.result) c.next_from.result c.next_from.ensures.found (λ n. has c.args.known.now n ≡ true)
    (λ n e. (and_parts (has c.args.known.now n) (has c.args.self.now.past.now n) (sym (c.meet.ensures n) ∙ (and_parts (has c.meet.result n) (not (has c.args.done.now n)) (sym (c.minus.ensures n) ∙ e)).0)).0)

pub returns-clause-open : goal.returns-clause-open
returns-clause-open g c =
    member_so (has c.minus.result) c.next_from.result c.next_from.ensures.found (λ n. has c.args.done.now n ≡ false)
    (λ n e. not-true (has c.args.done.now n) (and_parts (has c.meet.result n) (not (has c.args.done.now n)) (sym (c.minus.ensures n) ∙ e)).1)

pub returns-clause-none : goal.returns-clause-none
returns-clause-none g c = λ none m called k C is knows. elim (cases_Bool (has c.args.done.now k)) [
  | inl done ↦ done
  | inr left ↦ absurd (none_member (has c.minus.result) c.next_from.result c.next_from.ensures.none none k
      (c.minus.ensures k ∙ and_from (has c.meet.result k) (not (has c.args.done.now k))
      (c.meet.ensures k ∙ and_from (has c.args.known.now k) (has c.args.self.now.past.now k) knows ((are_of_kind c.args.self.now.program.now c.args.self.now.method true (has c.args.self.now.past.now) c.args.self.now.past_is m called k).1 (C, is)))
      (ap not left)))
]
