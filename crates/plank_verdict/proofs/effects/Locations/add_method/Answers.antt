use Rattle.std.specs.Prelude.{◌≡◌, slice_get}
use Rattle.std.specs.Option.{option_map_or}
use Rattle.std.proofs.Common.{subst, arith}
use Rattle.plank_prog.specs.Methods.{location_count}
use Rattle.plank_judge.specs.Verdicts.{outline_of}
use Rattle.plank_verdict.specs.Effects.{AreEffectsBefore, next_method}
use Rattle.plank_verdict.proofs.effects.Locations.add_method.Goals as goal

pub returns : goal.returns
returns g c =
    let near = c.loop-location.auto.location-end in
    let far = c.loop-location-test.false in
    let count = c.location_count-location-end.ensures.count in
    let all : c.loop-location.location ≡ option_map_or location_count (slice_get c.args.self.now.program.now.methods c.args.method) 0 = omega arith in
    next_method (subst (λ n. AreEffectsBefore (outline_of c.args.self.now.program.now c.args.self.now.marks.now) c.args.method n c.loop-location.effects.items) all c.loop-location.invariant)
