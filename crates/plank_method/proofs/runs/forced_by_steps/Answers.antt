-- What is not left is forced.
use Rattle.std.specs.Prelude.{◌≡◌, ◌*◌, ℕ, slice_get}
use Rattle.std.specs.Option.{option_map_or}
use Rattle.std.proofs.Common.{ap, subst, ◌∙◌}
use Rattle.plank_base.specs.declared.limits.TheConstants.{MARK_WORDS_PER_LOCATION}
use Rattle.plank_bits.specs.Words.{has}
use Rattle.plank_prog.specs.declared.programs.Program.{Program}
use Rattle.plank_fact.specs.Outlines.{mark_number}
use Rattle.plank_marks.proofs.Rooms.{point_at}
use Rattle.plank_unit.specs.Units.{IsRefutedBySteps, IsHadBySteps}
use Rattle.plank_method.specs.Marks.{facts_below}
use Rattle.plank_method.specs.Deciding.{outline_of}
use Rattle.plank_method.proofs.ForcedMarks.{found_there}
use Rattle.plank_method.proofs.UnitMarks.{had_not_refuted}
use Rattle.plank_method.proofs.runs.forced_by_steps.Goals as goal

pub returns : goal.returns
returns g c =
    let p = g.D.Deciding.program c.args.deciding.now in
    let marks = c.args.marks.now in
    let m = c.args.at.method in
    let l = c.args.at.location in
    found_there p marks m l c.first_mark-first.result (c.first_mark-first.ensures.first ∙ ap (λ (q : Program). mark_number q.methods m l 0) c.program.ensures)
    c.facts_of-facts.result c.unmarked-claimed.result c.in_ok-left.left c.minus-forced.result
    (λ k. c.facts_of-facts.ensures k ∙ ap (λ (q : Program). facts_below q.header q.methods m (64 * MARK_WORDS_PER_LOCATION) k) c.program-2.ensures)
    c.unmarked-claimed.ensures (λ O x. IsHadBySteps O x) (λ O x. IsRefutedBySteps O x) c.in_ok-left.ensures c.minus-forced.ensures (had_not_refuted (outline_of p marks))
    (point_at p.methods m l c.requires.method c.requires.location) c.in_ok-found.found (c.in_ok-found.ensures.length ∙ c.len.ensures) c.in_ok-found.ensures.marks
