use Rattle.std.proofs.Common.{arith}
use Rattle.plank_bits.specs.Words.{has}
use Rattle.plank_fact.specs.Forced.{outline}
use Rattle.plank_marks.proofs.Rooms.{point_at}
use Rattle.plank_past.proofs.Growth.{one_location, all_locations}
use Rattle.plank_past.proofs.Refuted.{within_count}
use Rattle.plank_past.proofs.past.Asked.more_of_method.Goals as goal

pub loop-location-preserved : goal.loop-location-preserved
loop-location-preserved g c = λ m called.
    let O = outline c.args.self.now.program.now.header c.args.self.now.program.now.methods (has c.args.self.now.marks.now) in
    one_location c.args.self.now.hinds.now.conclusions.now O m c.args.self.now.hinds.now c.args.present c.args.method c.loop-location.location (has c.args.refuted.now) (has c.loop-location.found) _
    (point_at O.methods c.args.method c.loop-location.location c.requires (let below = c.loop-location-test.true in let count = c.location_count-location-end.ensures.count in omega arith))
    (c.loop-location.invariant m called)
    (λ x of_method of_location. c.in_ok-found.ensures m x called of_method of_location)

pub returns : goal.returns
returns g c = λ m called.
    let O = outline c.args.self.now.program.now.header c.args.self.now.program.now.methods (has c.args.self.now.marks.now) in
    all_locations c.args.self.now.hinds.now.conclusions.now O m c.args.self.now.hinds.now c.args.present c.args.method c.loop-location.location (has c.args.refuted.now) (has c.loop-location.found)
    (within_count O c.args.method c.loop-location.location (let past = c.loop-location-test.false in let count = c.location_count-location-end.ensures.count in omega arith))
    (c.loop-location.invariant m called)
