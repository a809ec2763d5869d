use Rattle.std.proofs.Common.{◌*◌}
use Rattle.plank_base.specs.declared.limits.TheConstants.{MARK_WORDS_PER_LOCATION}
use Rattle.plank_bits.specs.Words.{has}
use Rattle.plank_claim.specs.Claims.{claim_at}
use Rattle.plank_claim.proofs.Added.{none_listed, one_listed, all_listed}
use Rattle.plank_claim.proofs.Ends.{none_past}
use Rattle.plank_claim.proofs.claims.Marked.add.Goals as goal

pub loop-number-init : goal.loop-number-init
loop-number-init c =
    none_listed (claim_at c.args.self.now.program.now.header c.args.self.now.program.now.methods c.args.self.now.method (has c.args.self.now.marks.now) c.args.self.now.first c.args.speaker c.args.known.now) c.args.claims.now.items

pub loop-number-preserved : goal.loop-number-preserved
loop-number-preserved c =
    one_listed (claim_at c.args.self.now.program.now.header c.args.self.now.program.now.methods c.args.self.now.method (has c.args.self.now.marks.now) c.args.self.now.first c.args.speaker c.args.known.now) c.loop-number.number
    c.args.claims.now.items c.loop-number.claims.items c.push.new.claims.items c.claim.result c.loop-number.invariant c.claim.ensures c.in_ok-push.ensures

pub returns-then-is_past : goal.returns-then-is_past
returns-then-is_past c =
    let near = c.loop-number.auto.number-end in
    all_listed (claim_at c.args.self.now.program.now.header c.args.self.now.program.now.methods c.args.self.now.method (has c.args.self.now.marks.now) c.args.self.now.first c.args.speaker c.args.known.now) c.loop-number.number (64 * MARK_WORDS_PER_LOCATION)
    c.args.claims.now.items c.loop-number.claims.items near
    (none_past c.args.self.now.program.now.header c.args.self.now.program.now.methods c.args.self.now.method (has c.args.self.now.marks.now) c.args.self.now.first c.args.speaker c.args.known.now c.loop-number.number (c.is_past.ensures c.if-is_past.true))
    c.loop-number.invariant
