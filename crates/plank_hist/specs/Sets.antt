-- The set of keys as a sequential object; it starts empty.
use Rattle.std.specs.Prelude.{Bool, true, false, not, ℤ, List, map, if◌then◌else◌}
use Rattle.std.specs.Bool.{beq}
use Rattle.std.specs.Ordering.{int_eq}
use Rattle.plank_base.specs.declared.operations.Op.{Op}
use Rattle.plank_base.specs.declared.operations.Op.TheVariants.{Contains, Insert, Delete}
use Rattle.plank_hist.specs.declared.calls.SeqCall.{SeqCall}
use Rattle.plank_hist.specs.Objects.{Object, Finished, replayed, legal}

-- what a call answers where its key is present, or is not
abbrev pub answer_of : Op → Bool → Bool
answer_of Contains present = present
answer_of Insert present = not present
answer_of Delete present = present

-- whether its key is present after a call, by whether it was before
abbrev pub present_after : Op → Bool → Bool
present_after Contains present = present
present_after Insert present = true
present_after Delete present = false

-- the state of a set is the test of its keys; an input is an operation with its key
abbrev pub set_of_keys : Object (ℤ → Bool) (Op × ℤ) Bool
set_of_keys = record {
  first = λ key. false;
  allows = λ holds input answer. beq answer (answer_of input.0 (holds input.1));
  after = λ holds input key. if int_eq key input.1 then present_after input.0 (holds key) else holds key;
}

abbrev pub finished : SeqCall → Finished (Op × ℤ) Bool
finished call = record { input = (call.op, call.key); answer = call.answer }

-- the keys that are present after these calls of a set that starts empty
abbrev pub holds_after : List SeqCall → ℤ → Bool
holds_after calls = replayed set_of_keys set_of_keys.first (map finished calls)

-- whether these calls are legal for a set that starts empty
abbrev pub is_legal_of_set : List SeqCall → Bool
is_legal_of_set calls = legal set_of_keys (map finished calls)
