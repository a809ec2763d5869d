-- What is no word, or no two parts.
use Rattle.plank_trace.proofs.SameBytes.{are_other, negated}
use Rattle.plank_trace.proofs.ReadLines.{other_word, one_part_behind}
use Rattle.plank_trace.proofs.parts.parts_behind.Goals as goal

pub returns-then-ne : goal.returns-then-ne
returns-then-ne c = (
  λ same. are_other c.args.bytes.now c.as_slice.result.now _ c.if-eq.ensures c.as_slice.ensures same,
  other_word c.args.bytes.now c.in-Some.word.now c.in-Some.rest.now c.in-Some.ensures.0 c.in-Some.ensures.1
      (λ same. are_other c.in-Some.word.now c.as_slice-2.result.now _ (negated _ c.if-ne.ensures) c.as_slice-2.ensures same),
)

pub returns-in-None : goal.returns-in-None
returns-in-None c = (
  λ same. are_other c.args.bytes.now c.as_slice.result.now _ c.if-eq.ensures c.as_slice.ensures same,
  one_part_behind c.args.bytes.now c.in-Some.word.now c.in-Some.rest.now c.in-Some.ensures.0 c.in-Some.ensures.1 c.in-None.ensures,
)
