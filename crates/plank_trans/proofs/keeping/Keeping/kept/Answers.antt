use Rattle.std.proofs.Common.{sym, ◌∙◌, ap, subst, inl, inr}
use Rattle.std.specs.Prelude.{slice_get, ◌&&◌, ◌==◌}
use Rattle.std.proofs.lemmas.Bool.{or_cases, and_parts, eqb-true}
use Rattle.plank_bits.specs.Words.{has}
use Rattle.plank_fact.specs.declared.facts.Fact.{Fact}
use Rattle.plank_fact.specs.Tables.{IsNumbered}
use Rattle.plank_shown.proofs.Exact.{same_table}
use Rattle.plank_trans.proofs.keeping.Keeping.kept.Goals as goal

pub loop-number-preserved : goal.loop-number-preserved
loop-number-preserved c = λ x w n L at e.
    let s = c.args.self.now in
    let k = c.loop-number.number in
    let added = c.is_kept_fact.result in
    let called = ap (slice_get s.program.now.methods) (sym w.of_method) ∙ x.called in
    elim (or_cases (has c.loop-number.set n) (added && (n == k)) (sym (c.with_if-set.ensures n) ∙ e)) [
      | inl old ↦ c.loop-number.invariant x w n L at old
      | inr new_one ↦
          let both = and_parts added (n == k) new_one in
          let here = subst (λ i. IsNumbered s.program.now.header x.method i (Fact.Past L)) (eqb-true n k both.1) at in
          c.is_kept_fact.ensures x L w (c.fact-found.ensures ∙ same_table s.program.now s.at.method x.method called k ∙ here) (k, here) both.0
    ]
