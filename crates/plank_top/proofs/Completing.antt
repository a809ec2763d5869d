-- What a command takes is no refusal: a text is read as one tree, and what a call answers to it is said of that tree.
use Rattle.std.proofs.Common.{◌≡◌, ℕ, ◌+◌, ◌≤◌, List, length, ◌++◌, refl, sym, ap, subst, ◌∙◌, arith}
use Rattle.std.specs.Prelude.{true, Bool, Some, None, Ok, Err}
use Rattle.std.proofs.Math.Bool.{Bool-set}
use Rattle.std.proofs.lemmas.List.{length-append}
use Rattle.std.specs.Prelude.{Option, IfSome}
use Rattle.std.specs.Io.KnownBytes.{Consumes}
use Rattle.plank_base.specs.declared.limits.TheConstants.{BYTES_LIMIT}
use Rattle.plank_lex.specs.declared.tokens.Token.{Token}
use Rattle.plank_lex.specs.Tokens.{tokens_of}
use Rattle.plank_ast.specs.declared.texts.Text.{Text}
use Rattle.plank_ast.specs.Spelling.{is_lawful}
use Rattle.plank_parse.specs.Texts.{Parts, parts_of, parts_spelling, reading_of}
use Rattle.plank_parse.specs.Grammar.{Spells}
use Rattle.plank_parse.proofs.Promises.{no_text_unexpected, no_text_deep}
use Rattle.plank_base.specs.declared.places.Place.{Place}
use Rattle.plank_rules.specs.BrokenRules.{broken_rules}
use Rattle.plank_rules.specs.FirstOf.{first_of}
use Rattle.plank_type.specs.Limits.{first_excess}
use Rattle.plank_io.specs.Faults.{Rose}
use Rattle.plank_judge.specs.declared.verdicts.Verdict.{Verdict}
use Rattle.plank_io.specs.Whole.{GivesAll, GivesOver}
use Rattle.plank_top.specs.declared.status.Status.{Status}
use Rattle.plank_top.specs.declared.status.Status.TheVariants as status
use Rattle.plank_words.specs.declared.commands.Command.{Command}
use Rattle.plank_words.specs.declared.commands.Command.TheVariants.{Verify, Effects, Print, Trace}
use Rattle.plank_top.specs.declared.replies.Telling.{Telling}
use Rattle.plank_top.specs.declared.replies.Telling.TheVariants.{Whole, WithoutVerdict}
use Rattle.plank_prog.specs.declared.programs.Program.{Program}
use Rattle.plank_verdict.specs.declared.judging.Judged.{Judged}
use Rattle.plank_top.specs.Trees.{IsTextOf, IsOfGrammar, IsInOrder, IsMalformed, IsUnreadable, malformed, too_deep, bad_byte, bad_token}
use Rattle.plank_top.specs.Answers.{Answer, IsJudgement, ill_typed, too_large, judged, IsJudgingAnswer, unreadable, readable, IsPrintAnswer, unprintable, printable, status_of, told_of}
use Rattle.plank_top.specs.Endings.{Told, Ends, whole, write_fault, Concludes, answered, unknown, Serves, whole_text, too_long, read_fault, no_memory}
use Rattle.plank_top.specs.Commands.{Answers, Takes, EndsJudging, accepted, rejected, EndsDone, done, EndsOnTaken}
use Rattle.plank_top.specs.Soundness.{IsGiven}
use Rattle.plank_trace.specs.declared.lines.Line.{Line}
use Rattle.plank_trace.specs.Limits.{first_overrun}
use Rattle.plank_trace.proofs.Scheduling.{one_reading, not_bad_too}
use Rattle.plank_top.specs.Traced.{IsRunOf, IsScheduledAnswer, IsTraceAnswer, IsRunnable, EndsTracing}

-- ---- one tree

text_with : (p : Parts) → is_lawful (parts_spelling p) ≡ true → Text
text_with p lawful = record {
  place = p.place;
  structure = p.structure;
  flags = p.flags;
  pointers = p.pointers;
  lock = p.lock;
  roots = p.roots;
  starts = p.starts;
  edges = p.edges;
  holds = p.holds;
  keeps = p.keeps;
  freeze = p.freeze;
  methods = p.methods;
  lawful = lawful;
}

same_with : (p q : Parts) → p ≡ q → (a : is_lawful (parts_spelling p) ≡ true) (b : is_lawful (parts_spelling q) ≡ true) → text_with p a ≡ text_with q b
same_with p q e a =
    subst (λ (r : Parts). (b : is_lawful (parts_spelling r) ≡ true) → text_with p a ≡ text_with r b) e
    (λ b. ap (text_with p) (Bool-set (is_lawful (parts_spelling p)) true a b))

same_tree : (t u : Text) → parts_of t ≡ parts_of u → t ≡ u
unfolding text_with
same_tree t u e = same_with (parts_of t) (parts_of u) e t.lawful u.lawful

same_tokens : (bytes : List ℕ) (a b : List Token) → tokens_of bytes ≡ Ok a → tokens_of bytes ≡ Ok b → a ≡ b
same_tokens bytes a b x y = cc

one_tree : (bytes : List ℕ) (t u : Text) → IsTextOf bytes t → IsTextOf bytes u → t ≡ u
one_tree bytes t u x y =
    let tokens = same_tokens bytes x.tokens y.tokens x.lexed y.lexed in
    let first = x.read in
    let second = subst (λ ts. reading_of ts ≡ _) (sym tokens) y.read in
    same_tree t u (cc)

not_malformed : (bytes : List ℕ) (t : Text) (p : Place) → IsTextOf bytes t → IsMalformed bytes p → ⊥
not_malformed bytes t p x (bad_byte e) = let lexed = x.lexed in absurd (cc)
not_malformed bytes t p x (bad_token tokens lexed why) = no_text_unexpected tokens p why t (subst (λ ts. Spells ts t) (same_tokens bytes x.tokens tokens x.lexed lexed) x.spelled)

is_readable : (bytes : List ℕ) (t : Text) (refused : Status) → IsTextOf bytes t → IsUnreadable bytes refused → ⊥
is_readable bytes t refused x (malformed p why is) = not_malformed bytes t p x why
is_readable bytes t refused x (too_deep why is) = no_text_deep why.tokens why.place why.deep t (subst (λ ts. Spells ts t) (same_tokens bytes x.tokens why.tokens x.lexed why.lexed) x.spelled)

-- ---- what is answered

-- a text that is in order is judged
pub record IsTold (telling : Telling) (answer : Answer) : Type 0 where
  pub program : Program
  pub said : Judged
  pub is : answer ≡ told_of telling program said

judgement_tells : (telling : Telling) (t u : Text) (answer : Answer) → t ≡ u → IsJudgement telling u answer → (typed : first_of (broken_rules t) ≡ None) → first_excess t ≡ None → IsTold telling answer
judgement_tells telling t u answer one (ill_typed b first is) typed within = absurd (let so = ap (λ (v : Text). first_of (broken_rules v)) one in cc)
judgement_tells telling t u answer one (too_large e first over is) typed within = absurd (let so = ap (λ (v : Text). first_excess v) one in cc)
judgement_tells telling t u answer one (judged p program said so is) typed within = record { program = p; said = said; is = is }

answer_tells : (telling : Telling) (bytes : List ℕ) → IsInOrder bytes → (answer : Answer) → IsJudgingAnswer telling bytes answer → IsTold telling answer
answer_tells telling bytes x answer (unreadable refused why is) = absurd (is_readable bytes x.text refused x.read why)
answer_tells telling bytes x answer (readable t read judgement) =
    judgement_tells telling x.text t answer (one_tree bytes x.text t x.read read) judgement x.typed.rules x.typed.limits

verdict_judges : (verdict : Verdict) (ended : Status) → ended ≡ status_of verdict → EndsJudging ended
verdict_judges Verdict.Accepted ended is = accepted is
verdict_judges (Verdict.Rejected o) ended is = rejected o is

print_done : (bytes : List ℕ) → IsOfGrammar bytes → (answer : Answer) → IsPrintAnswer bytes answer → answer.status ≡ status.Done
print_done bytes x answer (unprintable refused why is) = absurd (is_readable bytes x.text refused x.read why)
print_done bytes x answer (printable t read is) = ap (λ (a : Answer). a.status) is

-- a schedule that can be run is run
run_ends : (lines : List Line) (t u : Text) (answer : Answer) (ended : Status) → t ≡ u → IsRunOf lines u answer → first_of (broken_rules t) ≡ None → first_excess t ≡ None → ended ≡ answer.status → EndsTracing ended
run_ends lines t u answer ended one (IsRunOf.ill_typed b first is) typed within same = absurd (let so = ap (λ (v : Text). first_of (broken_rules v)) one in cc)
run_ends lines t u answer ended one (IsRunOf.too_large e first over is) typed within same = absurd (let so = ap (λ (v : Text). first_excess v) one in cc)
run_ends lines t u answer ended one (IsRunOf.traced p program trace so is) typed within same = EndsTracing.done (same ∙ ap (λ (a : Answer). a.status) is)
run_ends lines t u answer ended one (IsRunOf.bad_step p program i so is) typed within same = EndsTracing.bad_step i (same ∙ ap (λ (a : Answer). a.status) is)

scheduled_ends : (lines : List Line) (text : List ℕ) (answer : Answer) (ended : Status) → first_overrun lines ≡ None → IsInOrder text → IsScheduledAnswer lines text answer → ended ≡ answer.status → EndsTracing ended
scheduled_ends lines text answer ended few x (IsScheduledAnswer.too_long over first is) same = absurd (cc)
scheduled_ends lines text answer ended few x (IsScheduledAnswer.unreadable within refused why is) same = absurd (is_readable text x.text refused x.read why)
scheduled_ends lines text answer ended few x (IsScheduledAnswer.readable within t read run) same =
    run_ends lines x.text t answer ended (one_tree text x.text t x.read read) run x.typed.rules x.typed.limits same

trace_ends : (bytes : List ℕ) (answer : Answer) (ended : Status) → IsRunnable bytes → IsTraceAnswer bytes answer → ended ≡ answer.status → EndsTracing ended
trace_ends bytes answer ended x (IsTraceAnswer.bad_schedule i bad is) same = absurd (not_bad_too bytes x.lines x.text i x.schedule bad)
trace_ends bytes answer ended x (IsTraceAnswer.scheduled lines text read why) same =
    let one = one_reading bytes x.lines lines x.text text x.schedule read in
    scheduled_ends lines text answer ended (subst (λ (ls : List Line). first_overrun ls ≡ None) one.0 x.within) (subst IsInOrder one.1 x.in_order) why same

-- how a command that answered a text that it takes ends
answered_so : (command : Command) (bytes : List ℕ) → Takes command bytes → (answer : Answer) (ended : Status) → Answers command bytes answer → ended ≡ answer.status → EndsOnTaken command ended
answered_so Verify bytes x answer ended why same =
    let told = answer_tells Whole bytes x answer why in
    verdict_judges told.said.verdict ended (same ∙ ap (λ (a : Answer). a.status) told.is)
answered_so Effects bytes x answer ended why same =
    let told = answer_tells WithoutVerdict bytes x answer why in
    done (same ∙ ap (λ (a : Answer). a.status) told.is)
answered_so Print bytes x answer ended why same = done (same ∙ print_done bytes x answer why)
answered_so Trace bytes x answer ended why same = trace_ends bytes answer ended x why same

-- ---- how a call ends

without_memory : (command : Command) (ended : Status) → ended ≡ status.OutOfMemory → EndsOnTaken command ended
without_memory Verify ended is = EndsJudging.no_memory is
without_memory Effects ended is = EndsDone.no_memory is
without_memory Print ended is = EndsDone.no_memory is
without_memory Trace ended is = EndsTracing.no_memory is

ends_so : (command : Command) (bytes : List ℕ) → Takes command bytes → (sink : Told) → (Rose sink.faults_before sink.faults_after → ⊥) → (answer : Answer) (ended : Status) → Answers command bytes answer → Ends sink ended answer → EndsOnTaken command ended
ends_so command bytes x sink kept answer ended why (whole is taken) = answered_so command bytes x answer ended why is
ends_so command bytes x sink kept answer ended why (write_fault is rose n short taken) = absurd (kept rose)
ends_so command bytes x sink kept answer ended why (Ends.out_of_memory is same) = without_memory command ended is

concludes_so : (command : Command) (bytes : List ℕ) → Takes command bytes → (sink : Told) → (Rose sink.faults_before sink.faults_after → ⊥) → (ended : Status) → Concludes (Answers command bytes) sink ended → EndsOnTaken command ended
concludes_so command bytes x sink kept ended (answered answer why e) = ends_so command bytes x sink kept answer ended why e
concludes_so command bytes x sink kept ended (unknown is same) = without_memory command ended is

all_given : (before after : Option (List ℕ)) (bytes text : List ℕ) → before ≡ Some bytes → GivesAll before after BYTES_LIMIT text → text ≡ bytes
all_given before after bytes text e gives = sym (subst (λ (o : Option (List ℕ)). IfSome o (λ left. left ≡ text)) e gives.all)

not_over : (before after : Option (List ℕ)) (bytes text : List ℕ) → before ≡ Some bytes → length bytes ≤ BYTES_LIMIT → GivesOver before after BYTES_LIMIT text → ⊥
not_over before after bytes text e few gives = go after (subst (λ (o : Option (List ℕ)). Consumes o after text) e gives.consumed)
  where
    go : (left : Option (List ℕ)) → Consumes (Some bytes) left text → ⊥
    go None w = w
    go (Some rest) w =
        let both = length-append text rest in
        let so = ap length w in
        let over = gives.over in
        absurd (omega arith)

pub given_is_answered : (command : Command) (source sink : Told) (ended : Status) → IsGiven command source sink → Serves command source sink ended → EndsOnTaken command ended
given_is_answered command source sink ended given (whole_text text gives concludes) =
    concludes_so command given.bytes given.taken sink given.sink_kept ended
    (subst (λ ts. Concludes (Answers command ts) sink ended) (all_given source.before source.after given.bytes text given.all gives) concludes)
given_is_answered command source sink ended given (too_long text gives e) = absurd (not_over source.before source.after given.bytes text given.all given.few gives)
given_is_answered command source sink ended given (read_fault is rose consumed kept) = absurd (given.source_kept rose)
given_is_answered command source sink ended given (no_memory is consumed kept) = without_memory command ended is
