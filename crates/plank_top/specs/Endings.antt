-- How a call ends, by what the source gave and what the sink took.
use Rattle.std.specs.Prelude.{◌≡◌, ℕ, ◌+◌, ◌<◌, List, length, take, Option}
use Rattle.std.specs.Io.KnownBytes.{Appends, Keeps}
use Rattle.plank_base.specs.declared.limits.TheConstants.{BYTES_LIMIT}
use Rattle.plank_io.specs.Faults.{Rose}
use Rattle.plank_io.specs.Whole.{GivesAll, GivesOver, ConsumesUpTo}
use Rattle.plank_top.specs.declared.status.Status.{Status}
use Rattle.plank_top.specs.declared.status.Status.TheVariants as status
use Rattle.plank_words.specs.declared.commands.Command.{Command}
use Rattle.plank_top.specs.Answers.{Answer, too_many_bytes}
use Rattle.plank_top.specs.Commands.{Answers}

-- what a source or a sink tells of its bytes before a call and after it, and its counts of faults
pub record Told : Type 0 where
  pub before : Option (List ℕ)
  pub after : Option (List ℕ)
  pub faults_before : ℕ
  pub faults_after : ℕ

abbrev pub told : Option (List ℕ) → Option (List ℕ) → ℕ → ℕ → Told
told before after faults_before faults_after =
    record { before = before; after = after; faults_before = faults_before; faults_after = faults_after }

-- The call ends with the answer: the whole output was taken; or the sink's count of faults rose, and a
-- proper front of the output was taken; or memory was refused, and nothing was written.
pub data Ends (sink : Told) (ended : Status) (answer : Answer) : Type 0 where
  whole : ended ≡ answer.status → Appends sink.before sink.after answer.output → Ends sink ended answer
  write_fault : ended ≡ status.WriteFault → Rose sink.faults_before sink.faults_after → (n : ℕ) → n < length answer.output → Appends sink.before sink.after (take n answer.output) → Ends sink ended answer
  out_of_memory : ended ≡ status.OutOfMemory → Keeps sink.before sink.after → Ends sink ended answer

-- the call ends with such an answer, or memory was refused before the answer was known
pub data Concludes (IsAnswer : Answer → Type 0) (sink : Told) (ended : Status) : Type 0 where
  answered : (answer : Answer) → IsAnswer answer → Ends sink ended answer → Concludes IsAnswer sink ended
  unknown : ended ≡ status.OutOfMemory → Keeps sink.before sink.after → Concludes IsAnswer sink ended

-- The call serves the command: it reads a whole text and ends with the answer to it; or the text is too
-- long, and it ends with that; or the source's count of faults rose, and nothing was written; or memory
-- was refused before the text was read, and nothing was written. It never reads past the first byte that
-- is too many.
pub data Serves (command : Command) (source sink : Told) (ended : Status) : Type 0 where
  whole_text : (text : List ℕ) → GivesAll source.before source.after BYTES_LIMIT text → Concludes (Answers command text) sink ended → Serves command source sink ended
  too_long : (text : List ℕ) → GivesOver source.before source.after BYTES_LIMIT text → Ends sink ended too_many_bytes → Serves command source sink ended
  read_fault : ended ≡ status.ReadFault → Rose source.faults_before source.faults_after → ConsumesUpTo source.before source.after BYTES_LIMIT → Keeps sink.before sink.after → Serves command source sink ended
  no_memory : ended ≡ status.OutOfMemory → ConsumesUpTo source.before source.after (BYTES_LIMIT + 1) → Keeps sink.before sink.after → Serves command source sink ended
