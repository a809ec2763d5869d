use Rattle.std.proofs.Common.{◌<◌, ◌+◌, subst, arith, ◌≡◌}
use Rattle.std.specs.Prelude.{slice_get}
use Rattle.std.specs.Option.{option_map_or}
use Rattle.plank_bits.specs.Words.{has}
use Rattle.plank_prog.specs.Methods.{location_count}
use Rattle.plank_marks.proofs.Rooms.{point_at}
use Rattle.plank_method.specs.Deciding.{outline_of, IsExact}
use Rattle.plank_rely.specs.Breaking.{IsBrokenWithin}
use Rattle.plank_rely.proofs.Unions.{none_exact, union_exact, here_exact, IsBrokenHere, none_within, within_more, within_here, within_cases}
use Rattle.plank_rely.proofs.asking.Claimed.broken_by_method.Goals as goal

pub loop-location-init : goal.loop-location-init
loop-location-init g c = λ x of_method of_location.
    none_exact c.args.self.now.program.now.header x.method (has c.args.wanted.now) (has c.empty-found.result) (IsBrokenWithin (outline_of c.args.self.now.program.now c.args.self.now.marks.now) x c.args.method 0)
    c.empty-found.ensures (none_within (outline_of c.args.self.now.program.now c.args.self.now.marks.now) x c.args.method)

pub loop-location-preserved : goal.loop-location-preserved
loop-location-preserved g c = λ x of_method of_location.
    let p = c.args.self.now.program.now in
    let O = outline_of p c.args.self.now.marks.now in
    let m = c.args.method in
    let l = c.loop-location.location in
    let there = point_at p.methods m l c.requires.other (subst (λ n. l < n) c.location_count-location-end.ensures.count c.loop-location-test.true) in
    union_exact p.header x.method (has c.args.wanted.now) (has c.loop-location.found) (has c.minus-left.result) (has c.in_ok-more.more) (has c.union-found.result)
    (IsBrokenWithin O x m l) (IsBrokenHere O x m l) (IsBrokenWithin O x m (l + 1)) c.minus-left.ensures c.union-found.ensures
    (c.loop-location.invariant x of_method of_location)
    (here_exact O x p.header x.method (has c.minus-left.result) (has c.in_ok-more.more) m l there (λ s em el. c.in_ok-more.ensures x s of_method of_location em el))
    (within_cases O x m l) (within_more O x m l) (within_here O x m l)

pub returns : goal.returns
returns g c = λ x of_method of_location.
    let p = c.args.self.now.program.now in
    let O = outline_of p c.args.self.now.marks.now in
    let near = c.loop-location.auto.location-end in
    let far = c.loop-location-test.false in
    let count = c.location_count-location-end.ensures.count in
    let all : c.loop-location.location ≡ option_map_or location_count (slice_get p.methods c.args.method) 0 = omega arith in
    subst (λ n. IsExact p.header x.method (has c.args.wanted.now) (has c.loop-location.found) (IsBrokenWithin O x c.args.method n)) all (c.loop-location.invariant x of_method of_location)
