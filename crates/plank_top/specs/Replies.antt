-- The reply that the program holds, as an answer.
use Rattle.plank_top.specs.declared.replies.Reply.{Reply}
use Rattle.plank_top.specs.Answers.{Answer}

abbrev pub answer_in : Reply → Answer
answer_in reply = record { status = reply.status; output = reply.output.items }
