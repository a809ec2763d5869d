use Rattle.std.proofs.Common.{◌*◌, List, true, refl, sym, ◌∙◌, subst}
use Rattle.std.proofs.lemmas.Bool.{and_parts}
use Rattle.plank_base.specs.declared.limits.TheConstants.{MARK_WORDS_PER_LOCATION}
use Rattle.plank_bits.specs.Words.{has}
use Rattle.plank_pic.specs.declared.literals.Literal.{Literal}
use Rattle.plank_fact.specs.declared.facts.Fact.{Fact}
use Rattle.plank_method.specs.Deciding.{outline_of}
use Rattle.plank_shown.proofs.Exact.{room}
use Rattle.plank_follow.specs.Together.{AreTogether}
use Rattle.plank_follow.proofs.Joined.{all_used, kind_small}
use Rattle.plank_follow.proofs.rules.Rules.done_at_once.Goals as goal

pub returns-then-subset-clause-small : goal.returns-then-subset-clause-small
returns-then-subset-clause-small g c = λ k e.
    let s = c.args.self.now in
    kind_small s.program.now s.method true k (sym (s.past_is k) ∙ (and_parts (has c.args.known.now k) (has s.past.now k) (sym (c.meet.ensures k) ∙ e)).1)

pub returns-then-subset-clause-within : goal.returns-then-subset-clause-within
returns-then-subset-clause-within g c = λ k e. (and_parts (has c.args.known.now k) (has c.args.self.now.past.now k) (sym (c.meet.ensures k) ∙ e)).0

pub returns-then-subset-clause-used : goal.returns-then-subset-clause-used
returns-then-subset-clause-used g c = λ m called.
    let s = c.args.self.now in
    let p = s.program.now in
    let all = c.as_slice.result.now in
    let so = subst (λ (xs : List Literal). AreTogether p.header m s.lasting.now s.presents.now (has c.args.known.now) (64 * MARK_WORDS_PER_LOCATION) xs) (sym c.as_slice.ensures.value) (c.in_ok-all.ensures m called) in
    all_used (outline_of p s.marks.now) m s.lasting.now s.presents.now all so.lasts so.is_so (64 * MARK_WORDS_PER_LOCATION) (has c.args.known.now) so (λ k P is. room p s.method m called k (Fact.Past P) is)
    c.in-Some-past_of.past (has c.in_ok-more.more) (c.in_ok-more.ensures m called) (c.if-subset.ensures.0 refl) (has c.meet.result)
    (λ k e. (and_parts (has c.args.known.now k) (has s.past.now k) (sym (c.meet.ensures k) ∙ e)).0)
