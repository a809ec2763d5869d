-- What is known follows, and all follows from it that follows from what is done; each step does one more.
use Rattle.std.proofs.Common.{◌≡◌, ◌*◌, ◌-◌}
use Rattle.std.specs.Prelude.{slice_get, Some}
use Rattle.plank_base.specs.declared.limits.TheConstants.{MARK_WORDS_PER_LOCATION}
use Rattle.plank_bits.specs.Words.{has, count_below}
use Rattle.plank_prog.specs.declared.methods.Method.{Method}
use Rattle.plank_method.specs.Deciding.{outline_of}
use Rattle.plank_follow.specs.Together.{AreSmall}
use Rattle.plank_follow.proofs.Ways.{IsOnTheWay}
use Rattle.plank_follow.proofs.rules.Rules.follow.Given as goal

abbrev pub invariant-loop-alloc : goal.invariant-loop-alloc
invariant-loop-alloc g l = AreSmall (has l.done) × ((m : Method) → slice_get l.self.program.now.methods l.self.method ≡ Some m →
    IsOnTheWay (outline_of l.self.program.now l.self.marks.now) m l.self.lasting.now l.self.presents.now (has l.start) (has l.known) (has l.done))

abbrev pub decreases-loop-alloc : goal.decreases-loop-alloc
decreases-loop-alloc g l = 64 * MARK_WORDS_PER_LOCATION - count_below (has l.done) (64 * MARK_WORDS_PER_LOCATION)
