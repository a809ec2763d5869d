-- What each command answers to a text: its status, and the bytes that it writes.
use Rattle.std.specs.Prelude.{◌≡◌, ℕ, ◌+◌, List, Some, None}
use Rattle.plank_base.specs.declared.limits.Thing.TheVariants as thing
use Rattle.plank_base.specs.declared.limits.TheConstants.{BYTES_LIMIT}
use Rattle.plank_ast.specs.declared.texts.Text.{Text}
use Rattle.plank_ast.specs.Layout.{layout}
use Rattle.plank_ast.specs.Texts.{text_tokens}
use Rattle.plank_rules.specs.declared.broken.Broken.{Broken}
use Rattle.plank_rules.specs.BrokenRules.{broken_rules}
use Rattle.plank_rules.specs.FirstOf.{first_of}
use Rattle.plank_type.specs.declared.limits.Excess.{Excess}
use Rattle.plank_type.specs.Limits.{first_excess}
use Rattle.plank_type.specs.Checks.{IsProgramOf}
use Rattle.plank_prog.specs.declared.programs.Program.{Program}
use Rattle.plank_judge.specs.declared.verdicts.Verdict.{Verdict}
use Rattle.plank_verdict.specs.declared.judging.Judged.{Judged}
use Rattle.plank_verdict.specs.Judged.{IsJudged}
use Rattle.plank_top.specs.declared.status.Status.{Status}
use Rattle.plank_top.specs.declared.status.Status.TheVariants as status
use Rattle.plank_report.specs.Pieces.{line}
use Rattle.plank_report.specs.Reports.{effects_text, report_text}
use Rattle.plank_large.specs.Summaries.{summary_text}
use Rattle.plank_large.specs.Texts.{large_text}
use Rattle.plank_top.specs.declared.replies.Telling.{Telling}
use Rattle.plank_top.specs.Lines.{refusal_text}
use Rattle.plank_top.specs.Trees.{IsTextOf, IsUnreadable}

pub record Answer : Type 0 where
  pub status : Status
  pub output : List ℕ

-- a refusal writes its one line
abbrev pub refusal : Status → Answer
refusal status = record { status = status; output = line (refusal_text status) }

-- more bytes than a text may have, of which one more than that was read
abbrev pub too_many_bytes : Answer
too_many_bytes = refusal (status.TooLarge thing.Bytes (BYTES_LIMIT + 1) BYTES_LIMIT)

-- ---- verify and effects

abbrev pub status_of : Verdict → Status
status_of Verdict.Accepted = status.Accepted
status_of (Verdict.Rejected obligation) = status.Rejected obligation

-- what is told of a judged program: the report with the status of its verdict, the report without its last line, or the
-- summary of a large text
abbrev pub told_of : Telling → Program → Judged → Answer
told_of Telling.Whole p said = record { status = status_of said.verdict; output = report_text p said.effects said.verdict }
told_of Telling.WithoutVerdict p said = record { status = status.Done; output = effects_text p said.effects }
told_of (Telling.Summary methods) p said = record { status = status.Done; output = summary_text methods p said.effects said.verdict }

-- A text of the grammar is refused with the first rule that it breaks, else with the first thing that it
-- has too much of; else its program is judged.
pub data IsJudgement (telling : Telling) (t : Text) (answer : Answer) : Type 0 where
  ill_typed : (b : Broken) → first_of (broken_rules t) ≡ Some b → answer ≡ refusal (status.IllTyped b.kind b.place) → IsJudgement telling t answer
  too_large : (e : Excess) → first_of (broken_rules t) ≡ None → first_excess t ≡ Some e → answer ≡ refusal (status.TooLarge e.thing e.count e.limit) → IsJudgement telling t answer
  judged : (p : Program) → IsProgramOf t p → (said : Judged) → IsJudged p said → answer ≡ told_of telling p said → IsJudgement telling t answer

-- the answer of `verify`, which tells the whole report, of `effects`, and to a large text
pub data IsJudgingAnswer (telling : Telling) (bytes : List ℕ) (answer : Answer) : Type 0 where
  unreadable : (refused : Status) → IsUnreadable bytes refused → answer ≡ refusal refused → IsJudgingAnswer telling bytes answer
  readable : (t : Text) → IsTextOf bytes t → IsJudgement telling t answer → IsJudgingAnswer telling bytes answer

-- the answer of `large`: the large text is judged as any other, and its summary is told
abbrev pub IsLargeAnswer : ℕ → Answer → Type 0
IsLargeAnswer methods answer = IsJudgingAnswer (Telling.Summary methods) (large_text methods) answer

-- ---- print

-- the text in canonical form
abbrev pub printed : Text → Answer
printed t = record { status = status.Done; output = layout (text_tokens t) }

-- the answer of `print`, for which a text need not be well typed or within the limits of its program
pub data IsPrintAnswer (bytes : List ℕ) (answer : Answer) : Type 0 where
  unprintable : (refused : Status) → IsUnreadable bytes refused → answer ≡ refusal refused → IsPrintAnswer bytes answer
  printable : (t : Text) → IsTextOf bytes t → answer ≡ printed t → IsPrintAnswer bytes answer
