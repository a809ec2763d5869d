-- Accepted is said of sound texts alone: from how a call served to the runs of the text's program.
use Rattle.std.proofs.Common.{◌≡◌, ℕ, List, refl, sym, ap, ◌∙◌}
use Rattle.plank_base.specs.declared.limits.TheConstants.{BYTES_LIMIT}
use Rattle.plank_ast.specs.declared.texts.Text.{Text}
use Rattle.plank_prog.specs.declared.programs.Program.{Program}
use Rattle.plank_sem.specs.Runs.{AllRunsLinearizable, NoNullReads}
use Rattle.plank_judge.specs.declared.verdicts.Verdict.{Verdict}
use Rattle.plank_verdict.specs.declared.judging.Judged.{Judged}
use Rattle.plank_verdict.specs.Judged.{IsJudged}
use Rattle.plank_io.specs.Whole.{GivesAll}
use Rattle.plank_top.specs.declared.status.Status.{Status}
use Rattle.plank_top.specs.declared.status.Status.TheVariants as status
use Rattle.plank_words.specs.declared.commands.Command.{Command}
use Rattle.plank_words.specs.declared.commands.Command.TheVariants.{Verify, Effects, Print, Trace}
use Rattle.plank_top.specs.Trees.{IsTextOf, IsUnreadable, malformed, too_deep}
use Rattle.plank_top.specs.declared.replies.Telling.{Telling}
use Rattle.plank_top.specs.declared.replies.Telling.TheVariants.{Whole, WithoutVerdict, Summary}
use Rattle.plank_top.specs.Answers.{Answer, IsJudgement, ill_typed, too_large, judged, IsJudgingAnswer, unreadable, readable, unprintable, printable, status_of, IsLargeAnswer}
use Rattle.plank_top.specs.Endings.{Told, Ends, whole, write_fault, out_of_memory, Concludes, answered, unknown, Serves, whole_text, too_long, read_fault, no_memory}
use Rattle.plank_top.specs.Commands.{Answers}
use Rattle.plank_trace.specs.declared.lines.Line.{Line}
use Rattle.plank_top.specs.Traced.{IsRunOf, IsScheduledAnswer, IsTraceAnswer}
use Rattle.plank_top.specs.Soundness.{IsSound}

-- the law of programs that were judged and accepted
pub record RunsLaw : Type 0 where
  pub linearizable : (p : Program) (said : Judged) → IsJudged p said → said.verdict ≡ Verdict.Accepted → AllRunsLinearizable p.header p.methods
  pub no_null_reads : (p : Program) (said : Judged) → IsJudged p said → said.verdict ≡ Verdict.Accepted → NoNullReads p.header p.methods

is_accepted : (verdict : Verdict) → status_of verdict ≡ status.Accepted → verdict ≡ Verdict.Accepted
is_accepted Verdict.Accepted same = refl
is_accepted (Verdict.Rejected o) same = absurd (cc same)

refusal_is_no_acceptance : (bytes : List ℕ) (refused : Status) → IsUnreadable bytes refused → refused ≡ status.Accepted → ⊥
refusal_is_no_acceptance bytes refused (malformed p why is) same = cc
refusal_is_no_acceptance bytes refused (too_deep why is) same = cc

judgement_is_sound : RunsLaw → (telling : Telling) (bytes : List ℕ) (t : Text) (answer : Answer) → IsTextOf bytes t → IsJudgement telling t answer → answer.status ≡ status.Accepted → IsSound bytes
judgement_is_sound law telling bytes t answer read (ill_typed b first is) same = absurd (let wrong = ap (λ (a : Answer). a.status) is in cc)
judgement_is_sound law telling bytes t answer read (too_large e first over is) same = absurd (let wrong = ap (λ (a : Answer). a.status) is in cc)
judgement_is_sound law WithoutVerdict bytes t answer read (judged p typed said so is) same = absurd (let wrong = ap (λ (a : Answer). a.status) is in cc)
judgement_is_sound law (Summary methods) bytes t answer read (judged p typed said so is) same = absurd (let wrong = ap (λ (a : Answer). a.status) is in cc)
judgement_is_sound law Whole bytes t answer read (judged p typed said so is) same =
    let accepted = is_accepted said.verdict (sym (ap (λ (a : Answer). a.status) is) ∙ same) in
    record {
      text = t;
      read = read;
      program = p;
      typed = typed;
      linearizable = law.linearizable p said so accepted;
      no_null_reads = law.no_null_reads p said so accepted;
    }

judging_is_sound : RunsLaw → (telling : Telling) (bytes : List ℕ) (answer : Answer) → IsJudgingAnswer telling bytes answer → answer.status ≡ status.Accepted → IsSound bytes
judging_is_sound law telling bytes answer (unreadable refused why is) same = absurd (refusal_is_no_acceptance bytes refused why (sym (ap (λ (a : Answer). a.status) is) ∙ same))
judging_is_sound law telling bytes answer (readable t read judgement) same = judgement_is_sound law telling bytes t answer read judgement same

-- no run of a schedule is told as a verdict
run_is_no_acceptance : (lines : List Line) (t : Text) (answer : Answer) → IsRunOf lines t answer → answer.status ≡ status.Accepted → ⊥
run_is_no_acceptance lines t answer (IsRunOf.ill_typed b first is) same = let wrong = ap (λ (a : Answer). a.status) is in cc
run_is_no_acceptance lines t answer (IsRunOf.too_large e first over is) same = let wrong = ap (λ (a : Answer). a.status) is in cc
run_is_no_acceptance lines t answer (IsRunOf.traced p typed trace so is) same = let wrong = ap (λ (a : Answer). a.status) is in cc
run_is_no_acceptance lines t answer (IsRunOf.bad_step p typed i so is) same = let wrong = ap (λ (a : Answer). a.status) is in cc

schedule_is_no_acceptance : (lines : List Line) (text : List ℕ) (answer : Answer) → IsScheduledAnswer lines text answer → answer.status ≡ status.Accepted → ⊥
schedule_is_no_acceptance lines text answer (IsScheduledAnswer.too_long over first is) same = let wrong = ap (λ (a : Answer). a.status) is in cc
schedule_is_no_acceptance lines text answer (IsScheduledAnswer.unreadable within refused why is) same = refusal_is_no_acceptance text refused why (sym (ap (λ (a : Answer). a.status) is) ∙ same)
schedule_is_no_acceptance lines text answer (IsScheduledAnswer.readable within t read run) same = run_is_no_acceptance lines t answer run same

trace_is_no_acceptance : (bytes : List ℕ) (answer : Answer) → IsTraceAnswer bytes answer → answer.status ≡ status.Accepted → ⊥
trace_is_no_acceptance bytes answer (IsTraceAnswer.bad_schedule i bad is) same = let wrong = ap (λ (a : Answer). a.status) is in cc
trace_is_no_acceptance bytes answer (IsTraceAnswer.scheduled lines text read why) same = schedule_is_no_acceptance lines text answer why same

answer_is_sound : RunsLaw → (command : Command) (bytes : List ℕ) (answer : Answer) → Answers command bytes answer → answer.status ≡ status.Accepted → IsSound bytes
answer_is_sound law Verify bytes answer why same = judging_is_sound law Whole bytes answer why same
answer_is_sound law Effects bytes answer why same = judging_is_sound law WithoutVerdict bytes answer why same
answer_is_sound law Print bytes answer (unprintable refused why is) same = absurd (refusal_is_no_acceptance bytes refused why (sym (ap (λ (a : Answer). a.status) is) ∙ same))
answer_is_sound law Print bytes answer (printable t read is) same = absurd (let wrong = ap (λ (a : Answer). a.status) is in cc)
answer_is_sound law Trace bytes answer why same = absurd (trace_is_no_acceptance bytes answer why same)

ending_is_answer : (sink : Told) (ended : Status) (answer : Answer) → Ends sink ended answer → ended ≡ status.Accepted → answer.status ≡ status.Accepted
ending_is_answer sink ended answer (whole is taken) same = sym is ∙ same
ending_is_answer sink ended answer (write_fault is rose n short taken) same = absurd (cc)
ending_is_answer sink ended answer (out_of_memory is kept) same = absurd (cc)

conclusion_is_sound : RunsLaw → (command : Command) (bytes : List ℕ) (sink : Told) (ended : Status) → Concludes (Answers command bytes) sink ended → ended ≡ status.Accepted → IsSound bytes
conclusion_is_sound law command bytes sink ended (answered answer answers ends) same =
    answer_is_sound law command bytes answer answers (ending_is_answer sink ended answer ends same)
conclusion_is_sound law command bytes sink ended (unknown is kept) same = absurd (cc)

summary_is_no_acceptance : (methods : ℕ) (t : Text) (answer : Answer) → IsJudgement (Summary methods) t answer → answer.status ≡ status.Accepted → ⊥
summary_is_no_acceptance methods t answer (ill_typed b first is) same = let wrong = ap (λ (a : Answer). a.status) is in cc
summary_is_no_acceptance methods t answer (too_large e first over is) same = let wrong = ap (λ (a : Answer). a.status) is in cc
summary_is_no_acceptance methods t answer (judged p typed said so is) same = let wrong = ap (λ (a : Answer). a.status) is in cc

large_answer_is_no_acceptance : (methods : ℕ) (answer : Answer) → IsLargeAnswer methods answer → answer.status ≡ status.Accepted → ⊥
large_answer_is_no_acceptance methods answer (unreadable refused why is) same = refusal_is_no_acceptance _ refused why (sym (ap (λ (a : Answer). a.status) is) ∙ same)
large_answer_is_no_acceptance methods answer (readable t read judgement) same = summary_is_no_acceptance methods t answer judgement same

-- a large text is never told to be accepted by the status
pub large_is_no_acceptance : (methods : ℕ) (sink : Told) (ended : Status) → Concludes (IsLargeAnswer methods) sink ended → ended ≡ status.Accepted → ⊥
large_is_no_acceptance methods sink ended (answered answer why ends) same = large_answer_is_no_acceptance methods answer why (ending_is_answer sink ended answer ends same)
large_is_no_acceptance methods sink ended (unknown is kept) same = cc

-- a call that ends with Accepted has read a sound text
pub accepted_is_sound : RunsLaw → (command : Command) (source sink : Told) (ended : Status) → Serves command source sink ended → ended ≡ status.Accepted → (text : List ℕ) × GivesAll source.before source.after BYTES_LIMIT text × IsSound text
accepted_is_sound law command source sink ended (whole_text text gives concludes) same = (text, gives, conclusion_is_sound law command text sink ended concludes same)
accepted_is_sound law command source sink ended (too_long text gives ends) same = absurd (let wrong = ending_is_answer sink ended _ ends same in cc)
accepted_is_sound law command source sink ended (read_fault is rose consumed kept) same = absurd (cc)
accepted_is_sound law command source sink ended (no_memory is consumed kept) same = absurd (cc)
