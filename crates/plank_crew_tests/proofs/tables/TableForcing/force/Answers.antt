-- One more rule.
use Rattle.std.proofs.Common.{◌≡◌, ◌↔◌, ◌⊎◌, ◌*◌, ◌<◌, true, length, slice_index_or, sym, ◌∙◌, subst, rules}
use Rattle.std.proofs.lemmas.List.{get_or_default}
use Rattle.plank_bits.specs.Words.{has}
use Rattle.plank_crew_tests.specs.declared.tables.Rule.{Rule}
use Rattle.plank_crew_tests.specs.Rules.{Applies}
use Rattle.plank_crew_tests.proofs.Applying.{forced_more}
use Rattle.plank_crew_tests.proofs.tables.TableForcing.force.Goals as goal

pub loop-i-preserved : goal.loop-i-preserved
loop-i-preserved g c =
    let t = c.args.self.now in
    let marks = has c.args.marks.now in
    let one = c.index.result.now in
    let within : c.loop-i.i < length t.rules.items = search rules in
    let at : (d : Rule) → slice_index_or t.rules.items c.loop-i.i d ≡ one = λ d. get_or_default t.rules.items c.loop-i.i d one within ∙ sym c.index.ensures in
    let size = c.loop-i.invariant.size in
    record {
      size = c.apply.ensures.length ∙ size;
      marks = λ k.
          forced_more t.rules.items t.words c.loop-i.i c.args.m marks k one at (has c.loop-i.found k) (has c.apply.new.found k) (c.loop-i.invariant.marks k) (subst (λ n. (has c.apply.new.found k ≡ true) ↔ ((has c.loop-i.found k ≡ true) ⊎ ((k < 64 * n) × Applies one c.args.m marks k))) size (c.apply.ensures.marks k));
    }
