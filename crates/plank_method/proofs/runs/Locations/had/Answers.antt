-- What is left after both is had by steps.
use Rattle.std.proofs.Common.{ap, ◌∙◌}
use Rattle.std.specs.Prelude.{slice_get}
use Rattle.std.specs.Option.{option_map_or}
use Rattle.plank_prog.specs.declared.programs.Program.{Program}
use Rattle.plank_prog.specs.Methods.{location_count}
use Rattle.plank_unit.specs.Units.{IsRefutedBySteps, IsHadBySteps}
use Rattle.plank_method.specs.Deciding.{outline_of}
use Rattle.plank_method.specs.Runs.{IsSifted, IsHadAtEntry, IsHadFrom}
use Rattle.plank_method.proofs.Sifting.{both_left}
use Rattle.plank_method.proofs.Exits.{had_from_all}
use Rattle.plank_bits.specs.Words.{has}
use Rattle.plank_method.proofs.runs.Locations.had.Goals as goal

pub returns : goal.returns
returns g c = λ x of_method of_location.
    let p = g.D.Deciding.program c.args.self.now.deciding.now in
    let marks = c.args.self.now.marks.now in
    let m = c.args.self.now.method in
    let count = c.location_count-count.result in
    let O = outline_of p marks in
    both_left p.header x.method (has c.args.claimed.now) (has c.in_ok-begun.begun) (has c.in_ok-stepped.stepped) (IsHadAtEntry O x) (IsHadFrom count O x) (IsRefutedBySteps O x) (IsHadBySteps O x)
    (c.in_ok-begun.ensures x of_method of_location) (c.in_ok-stepped.ensures x of_method of_location)
    (had_from_all p marks m count (c.location_count-count.ensures.count ∙ ap (λ (q : Program). option_map_or location_count (slice_get q.methods m) 0) c.program.ensures) x of_method)
