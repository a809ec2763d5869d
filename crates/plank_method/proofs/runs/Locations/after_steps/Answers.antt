use Rattle.std.proofs.Common.{◌+◌}
use Rattle.plank_method.specs.Runs.{IsHadAfterBoth, IsHadFrom}
use Rattle.plank_unit.specs.Units.{IsRefutedBySteps}
use Rattle.plank_method.specs.Deciding.{outline_of}
use Rattle.plank_method.proofs.Sifting.{sifted_both, sifted_none}
use Rattle.plank_method.proofs.Exits.{no_locations, one_location_more}
use Rattle.plank_method.proofs.runs.Locations.after_steps.Goals as goal

pub loop-from-init : goal.loop-from-init
loop-from-init g c =
    sifted_none (g.D.Deciding.program c.args.self.now.deciding.now) c.args.self.now.marks.now c.args.self.now.method c.args.location c.args.claimed.now (λ O x. IsHadFrom 0 O x) (λ O x. IsRefutedBySteps O x) no_locations

pub loop-from-preserved : goal.loop-from-preserved
loop-from-preserved g c =
    sifted_both (g.D.Deciding.program c.args.self.now.deciding.now) c.args.self.now.marks.now c.args.self.now.method c.args.location c.args.claimed.now c.loop-from.left c.in_ok-left.left
    (λ O x. IsHadFrom c.loop-from.from O x) (λ O x. IsHadAfterBoth c.loop-from.from O x) (λ O x. IsHadFrom (c.loop-from.from + 1) O x) (λ O x. IsRefutedBySteps O x)
    c.loop-from.invariant c.in_ok-left.ensures (one_location_more c.loop-from.from (outline_of (g.D.Deciding.program c.args.self.now.deciding.now) c.args.self.now.marks.now))
