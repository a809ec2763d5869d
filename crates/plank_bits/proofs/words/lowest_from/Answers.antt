-- The lowest bit of the word without its first bits.
use Rattle.std.proofs.Common.{refl, arith}
use Rattle.plank_bits.proofs.WordLemmas.{lowest-none, lowest-found}
use Rattle.plank_bits.proofs.words.lowest_from.Goals as goal

pub returns-then-rest-eq0 : goal.returns-then-rest-eq0
returns-then-rest-eq0 c =
    record { found = tt; below = tt; none = lowest-none c.args.word c.args.k _ (omega arith) c.requires refl c.if-rest-eq0.true }

pub returns-else-rest-eq0 : goal.returns-else-rest-eq0
returns-else-rest-eq0 c =
    let lowest = lowest-found c.args.word c.args.k _ (omega arith) c.requires refl (omega arith) in
    record { found = lowest.0; below = lowest.1; none = tt }
