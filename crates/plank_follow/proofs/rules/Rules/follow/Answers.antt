use Rattle.std.proofs.Common.{refl}
use Rattle.plank_bits.specs.Words.{has}
use Rattle.plank_method.specs.Deciding.{outline_of}
use Rattle.plank_follow.proofs.Ways.{start_suffices, way_begins, way_goes_on, way_ends, way_suffices, still_small, more_done}
use Rattle.plank_follow.proofs.rules.Rules.follow.Goals as goal

pub returns-in_default : goal.returns-in_default
returns-in_default g c = λ m called.
    way_ends (outline_of c.args.self.now.program.now c.args.self.now.marks.now) m c.args.self.now.lasting.now c.args.self.now.presents.now (has c.args.start.now) (has c.loop-alloc.known) (has c.loop-alloc.done)
    (c.loop-alloc.invariant.1 m called) (c.in_default.ensures.none refl m called) (has c.args.wanted.now)

pub returns-then-subset : goal.returns-then-subset
returns-then-subset g c = λ m called.
    start_suffices (outline_of c.args.self.now.program.now c.args.self.now.marks.now) m c.args.self.now.lasting.now c.args.self.now.presents.now (has c.args.start.now) (has c.args.wanted.now) (c.if-subset.ensures.0 refl)

pub loop-alloc-init : goal.loop-alloc-init
loop-alloc-init g c = (
  c.in_ok-done.ensures.small,
  λ m called.
      way_begins (outline_of c.args.self.now.program.now c.args.self.now.marks.now) m c.args.self.now.lasting.now c.args.self.now.presents.now (has c.args.start.now) (has c.in_ok-done.done) c.in_ok-done.ensures.within
      (c.in_ok-done.ensures.used m called),
)

pub loop-alloc-smaller : goal.loop-alloc-smaller
loop-alloc-smaller g c =
    more_done (has c.loop-alloc.done) (has c.with-done.result) c.in-Some.number c.with-done.ensures c.in-Some.ensures.open
    (still_small (has c.loop-alloc.done) (has c.with-done.result) c.in-Some.number c.with-done.ensures c.loop-alloc.invariant.0 c.in-Some.ensures.below)

pub loop-alloc-preserved : goal.loop-alloc-preserved
loop-alloc-preserved g c = (
  still_small (has c.loop-alloc.done) (has c.with-done.result) c.in-Some.number c.with-done.ensures c.loop-alloc.invariant.0 c.in-Some.ensures.below,
  λ m called.
      way_goes_on (outline_of c.args.self.now.program.now c.args.self.now.marks.now) m c.args.self.now.lasting.now c.args.self.now.presents.now (has c.args.start.now) (has c.loop-alloc.known) (has c.loop-alloc.done)
      (has c.in_ok-known.known) (has c.with-done.result) c.in-Some.number c.in-Some.ensures.found (c.loop-alloc.invariant.1 m called) (c.in_ok-known.ensures m called) c.with-done.ensures,
)

pub returns : goal.returns
returns g c = λ m called.
    way_suffices (outline_of c.args.self.now.program.now c.args.self.now.marks.now) m c.args.self.now.lasting.now c.args.self.now.presents.now (has c.args.start.now) (has c.loop-alloc.known) (has c.loop-alloc.done) (has c.args.wanted.now)
    (c.loop-alloc.invariant.1 m called) (c.subset-in-loop-alloc.ensures.0 c.loop-alloc-test.false)
