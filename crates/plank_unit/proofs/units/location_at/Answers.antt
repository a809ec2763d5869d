-- One method more: were it the last, all locations would come before.
use Rattle.std.specs.Prelude.{◌≡◌, ◌+◌, ◌<◌, ◌≤◌, length, sum_by}
use Rattle.std.proofs.Common.{inl, inr, ap, subst, ◌∙◌, arith}
use Rattle.std.proofs.lemmas.Bool.{cases_lt}
use Rattle.plank_prog.specs.Methods.{location_count}
use Rattle.plank_fact.specs.Outlines.{locations_before}
use Rattle.plank_marks.proofs.Rooms.{before_more}
use Rattle.plank_unit.proofs.Numbers.{all_before}
use Rattle.plank_unit.proofs.units.location_at.Goals as goal

pub loop-before-preserved : goal.loop-before-preserved
loop-before-preserved c =
    let methods = c.args.program.now.methods in
    let m = c.loop-before.method in
    let so = c.loop-before.invariant in
    let more = before_more methods m so.there in
    let count = c.location_count-count.ensures.count in
    let low = c.requires in
    let test = c.if-number-before.false in
    let before : c.loop-before.before + c.location_count-count.result ≡ locations_before methods (m + 1) = omega (arith, so.before, more, count) in
    let next : m + 1 < length methods = elim (cases_lt (m + 1) (length methods)) [
      | inl h ↦ h
      | inr h ↦
          let last : m + 1 ≡ length methods = omega (arith, h, so.there) in
          let all : locations_before methods (m + 1) ≡ sum_by location_count methods = ap (locations_before methods) last ∙ all_before methods in
          absurd (omega (arith, before, all, test, low, so.within))
    ] in
    record {
      before = before;
      within = omega (arith, test, so.within);
      there = next;
    }
