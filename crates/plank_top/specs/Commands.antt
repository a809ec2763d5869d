-- What there is to know of each command: its answer to a text, the texts that it does more with than refuse them, and how
-- it ends on these.
use Rattle.std.specs.Prelude.{◌≡◌, ℕ, List}
use Rattle.plank_base.specs.declared.obligations.Obligation.{Obligation}
use Rattle.plank_top.specs.declared.status.Status.{Status}
use Rattle.plank_top.specs.declared.status.Status.TheVariants as status
use Rattle.plank_words.specs.declared.commands.Command.{Command}
use Rattle.plank_words.specs.declared.commands.Command.TheVariants.{Verify, Effects, Print, Trace}
use Rattle.plank_top.specs.declared.replies.Telling.TheVariants.{Whole, WithoutVerdict}
use Rattle.plank_top.specs.Answers.{Answer, IsJudgingAnswer, IsPrintAnswer}
use Rattle.plank_top.specs.Trees.{IsOfGrammar, IsInOrder}
use Rattle.plank_top.specs.Traced.{IsTraceAnswer, IsRunnable, EndsTracing}

-- a command's answer to a text
abbrev pub Answers : Command → List ℕ → Answer → Type 0
Answers Verify text answer = IsJudgingAnswer Whole text answer
Answers Effects text answer = IsJudgingAnswer WithoutVerdict text answer
Answers Print text answer = IsPrintAnswer text answer
Answers Trace text answer = IsTraceAnswer text answer

-- the texts that the command takes
abbrev pub Takes : Command → List ℕ → Type 0
Takes Verify text = IsInOrder text
Takes Effects text = IsInOrder text
Takes Print text = IsOfGrammar text
Takes Trace text = IsRunnable text

-- the call ends with a verdict, or memory was refused
pub data EndsJudging (ended : Status) : Type 0 where
  accepted : ended ≡ status.Accepted → EndsJudging ended
  rejected : (o : Obligation) → ended ≡ status.Rejected o → EndsJudging ended
  no_memory : ended ≡ status.OutOfMemory → EndsJudging ended

-- the call has done what it was asked for, or memory was refused
pub data EndsDone (ended : Status) : Type 0 where
  done : ended ≡ status.Done → EndsDone ended
  no_memory : ended ≡ status.OutOfMemory → EndsDone ended

-- how the command ends on a text that it takes
abbrev pub EndsOnTaken : Command → Status → Type 0
EndsOnTaken Verify ended = EndsJudging ended
EndsOnTaken Effects ended = EndsDone ended
EndsOnTaken Print ended = EndsDone ended
EndsOnTaken Trace ended = EndsTracing ended
