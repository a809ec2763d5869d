use Rattle.std.proofs.Common.{◌+◌, length, subst, arith, ◌≡◌}
use Rattle.std.specs.Prelude.{slice_get}
use Rattle.std.specs.Option.{option_map_or}
use Rattle.plank_bits.specs.Words.{has}
use Rattle.plank_prog.specs.Methods.{location_count}
use Rattle.plank_unit.specs.Units.{IsBrokenFact}
use Rattle.plank_method.specs.Deciding.{outline_of, IsExact}
use Rattle.plank_rely.specs.Breaking.{IsBrokenWithin, IsBrokenBefore}
use Rattle.plank_rely.proofs.Unions.{none_exact, union_exact, alike_exact, none_before, before_more, before_within, before_cases, all_before, before_all}
use Rattle.plank_rely.proofs.asking.Claimed.broken.Goals as goal

pub loop-method-init : goal.loop-method-init
loop-method-init g c = λ x of_method of_location.
    none_exact c.args.self.now.program.now.header x.method (has c.args.wanted.now) (has c.empty-found.result) (IsBrokenBefore (outline_of c.args.self.now.program.now c.args.self.now.marks.now) x 0)
    c.empty-found.ensures (none_before (outline_of c.args.self.now.program.now c.args.self.now.marks.now) x)

pub loop-method-preserved : goal.loop-method-preserved
loop-method-preserved g c = λ x of_method of_location.
    let p = c.args.self.now.program.now in
    let O = outline_of p c.args.self.now.marks.now in
    let m = c.loop-method.method in
    union_exact p.header x.method (has c.args.wanted.now) (has c.loop-method.found) (has c.minus-left.result) (has c.in_ok-more.more) (has c.union-found.result)
    (IsBrokenBefore O x m) (IsBrokenWithin O x m (option_map_or location_count (slice_get p.methods m) 0)) (IsBrokenBefore O x (m + 1)) c.minus-left.ensures c.union-found.ensures
    (c.loop-method.invariant x of_method of_location) (c.in_ok-more.ensures x of_method of_location)
    (before_cases O x m) (before_more O x m) (before_within O x m (option_map_or location_count (slice_get p.methods m) 0))

pub returns : goal.returns
returns g c = λ x of_method of_location.
    let p = c.args.self.now.program.now in
    let O = outline_of p c.args.self.now.marks.now in
    let near = c.loop-method.auto.method-end in
    let far = c.loop-method-test.false in
    let count = c.len-method-end.ensures in
    let all : c.loop-method.method ≡ length p.methods = omega arith in
    alike_exact p.header x.method (has c.args.wanted.now) (has c.loop-method.found) (IsBrokenBefore O x (length p.methods)) (IsBrokenFact O x)
    (subst (λ n. IsExact p.header x.method (has c.args.wanted.now) (has c.loop-method.found) (IsBrokenBefore O x n)) all (c.loop-method.invariant x of_method of_location))
    (before_all O x) (all_before O x)
