-- The histories of runs whose methods are no insert and return false: what the law of the empty set asks of them.
use Rattle.std.proofs.Common.{◌≡◌, ◌≢◌, ℕ, Bool, false, ℤ, List, Option, Some, None, refl, sym, ap, ◌∙◌, subst}
use Rattle.std.specs.Prelude.{All, slice_get, option_and_then}
use Rattle.std.specs.Option.{option_map, option_map_or}
use Rattle.std.specs.FinMap as fin
use Rattle.std.proofs.lemmas.Option.{slice_get-map, none-some, same_Some, option_and_then_some}
use Rattle.std.proofs.lemmas.List.Elements.{All-push, All-nil}
use Rattle.plank_base.specs.declared.operations.Op.{Op}
use Rattle.plank_base.specs.declared.operations.Op.TheVariants.{Insert}
use Rattle.plank_base.specs.declared.keys.ThreadId.{ThreadId}
use Rattle.plank_prog.specs.declared.headers.Header.{Header}
use Rattle.plank_prog.specs.declared.methods.Action.{Action}
use Rattle.plank_prog.specs.declared.methods.Location.{Location}
use Rattle.plank_prog.specs.declared.methods.Method.{Method}
use Rattle.plank_prog.specs.declared.methods.MethodKind.{MethodKind}
use Rattle.plank_prog.specs.Methods.{operation}
use Rattle.plank_hist.specs.declared.events.Event.{Event}
use Rattle.plank_hist.specs.declared.events.Event.TheVariants.{Invoke as invocation, Respond as response}
use Rattle.plank_hist.specs.Histories.{invoked, happening_of}
use Rattle.plank_hist.specs.EmptySet.{AnswersFalse, AnswersNoInsert}
use Rattle.plank_sem.specs.declared.calls.Call.{Call}
use Rattle.plank_sem.specs.declared.steps.Act.{Act}
use Rattle.plank_sem.specs.declared.steps.Act.TheVariants.{Invoke, Go}
use Rattle.plank_sem.specs.declared.steps.Choice.{Choice}
use Rattle.plank_sem.specs.Worlds.{WorldState}
use Rattle.plank_sem.specs.Actions.{After, block_run, copied, allocated}
use Rattle.plank_sem.specs.Steps.{stepped, refused, op_of, begun, went_on, performed, action_of, gone_on, acted}
use Rattle.plank_sem.specs.Runs.{Run, begins, goes_on, with_event, history, AnswersFalseWithoutInsert}
use Rattle.plank_sem.proofs.Lists.{found_of_all, mapped}

-- the event begins no insert, and answers false where it answers
abbrev pub IsQuiet : Event → Type 0
IsQuiet (invocation thread op key) = op ≢ Insert
IsQuiet (response thread answer) = answer ≡ false

abbrev pub TellsQuiet : Option Event → Type 0
TellsQuiet None = Unit {0}
TellsQuiet (Some event) = IsQuiet event

abbrev pub IsQuietMethod : Method → Type 0
IsQuietMethod m = (op : Op) → m.kind ≡ MethodKind.Set op → (op ≢ Insert) × All (λ l. l.action ≡ Action.Return false) m.locations

-- the method that is found, where one is
abbrev FoundQuiet : Option Method → Type 0
FoundQuiet None = Unit {0}
FoundQuiet (Some m) = IsQuietMethod m

found_quiet : (methods : List Method) (i : ℕ) (found : Option Method) → AnswersFalseWithoutInsert methods → slice_get methods i ≡ found → FoundQuiet found
found_quiet methods i None all at = tt
found_quiet methods i (Some m) all at = found_of_all IsQuietMethod methods i m all at

operation_set : (kind : MethodKind) (op : Op) → operation kind ≡ Some op → kind ≡ MethodKind.Set op
operation_set (MethodKind.Set o) op e = ap MethodKind.Set (same_Some o op e)
operation_set MethodKind.Upkeep op e = absurd (none-some op e)

-- every action that a call of an operation comes to returns false
action_quiet : (methods : List Method) (call : Call) (op : Op) (action : Action) → AnswersFalseWithoutInsert methods → op_of methods call ≡ Some op → action_of methods call ≡ Some action → action ≡ Action.Return false
action_quiet methods call op action all performs at =
    let found = mapped (λ (l : Location). l.action) (option_and_then (λ (m : Method). slice_get m.locations call.location) (slice_get methods call.method)) action at in
    option_and_then_some (λ (m : Method). operation m.kind) (slice_get methods call.method) op performs
    (λ m called is. sym found.2 ∙ option_and_then_some (λ (n : Method). slice_get n.locations call.location) (slice_get methods call.method) found.0 found.1
    (λ n again here. found_of_all (λ (l : Location). l.action ≡ Action.Return false) n.locations call.location found.0
    (subst (λ (k : Method). All (λ l. l.action ≡ Action.Return false) k.locations) (same_Some m n (sym called ∙ again))
    (found_of_all IsQuietMethod methods call.method m all called op (operation_set m.kind op is)).1) here))

told_of : (event told : Option Event) (w after : WorldState) → stepped event w ≡ stepped told after → event ≡ told
told_of event told w after e = cc

begins_quiet : (thread : ThreadId) (key : ℤ) (kind : MethodKind) → ((op : Op) → kind ≡ MethodKind.Set op → op ≢ Insert) → TellsQuiet (option_map (λ op. invocation thread op key) (operation kind))
begins_quiet thread key (MethodKind.Set op) quiet = quiet op refl
begins_quiet thread key MethodKind.Upkeep quiet = tt

begun_quiet : (w : WorldState) (thread : ThreadId) (m : ℕ) (key : ℤ) (pending : Option Call) (found : Option Method) (event : Option Event) (after : WorldState) → FoundQuiet found → begun w thread m key pending found ≡ stepped event after → TellsQuiet event
begun_quiet w thread m key None (Some method) event after quiet e =
    subst TellsQuiet (told_of _ event _ after e) (begins_quiet thread key method.kind (λ op is. (quiet op is).0))
begun_quiet w thread m key None None event after quiet e = absurd (cc)
begun_quiet w thread m key (Some call) found event after quiet e = absurd (cc)

went_quiet : (w : WorldState) (thread : ThreadId) (made : Option After) (event : Option Event) (after : WorldState) → went_on w thread made ≡ stepped event after → TellsQuiet event
went_quiet w thread None event after e = absurd (cc)
went_quiet w thread (Some made) event after e = subst TellsQuiet (told_of None event _ after e) tt

answers_quiet : (thread : ThreadId) (answer : Bool) (op : Option Op) → ((o : Op) → op ≡ Some o → answer ≡ false) → TellsQuiet (option_map (λ o. response thread answer) op)
answers_quiet thread answer None quiet = tt
answers_quiet thread answer (Some o) quiet = quiet o refl

returned : (answer : Bool) → Action.Return answer ≡ Action.Return false → answer ≡ false
returned answer e = cc

performed_quiet : (methods : List Method) (w : WorldState) (thread : ThreadId) (call : Call) (action : Action) (event : Option Event) (after : WorldState) → ((op : Op) → op_of methods call ≡ Some op → action ≡ Action.Return false)
    → performed methods w thread call action ≡ stepped event after → TellsQuiet event
performed_quiet methods w thread call (Action.Block b) event after quiet e = went_quiet w thread (block_run w.heap thread call b) event after e
performed_quiet methods w thread call (Action.Copy to from next) event after quiet e = went_quiet w thread (Some (copied w.heap call to from next)) event after e
performed_quiet methods w thread call (Action.New to next) event after quiet e = went_quiet w thread (Some (allocated w.heap call to next)) event after e
performed_quiet methods w thread call (Action.Return answer) event after quiet e =
    subst TellsQuiet (told_of _ event _ after e) (answers_quiet thread answer (op_of methods call) (λ op is. returned answer (quiet op is)))

at_quiet : (methods : List Method) (w : WorldState) (thread : ThreadId) (call : Call) (found : Option Action) (event : Option Event) (after : WorldState) → AnswersFalseWithoutInsert methods → action_of methods call ≡ found
    → option_map_or (performed methods w thread call) found refused ≡ stepped event after → TellsQuiet event
at_quiet methods w thread call None event after all at e = absurd (cc)
at_quiet methods w thread call (Some action) event after all at e =
    performed_quiet methods w thread call action event after (λ op performs. action_quiet methods call op action all performs at) e

gone_on_quiet : (methods : List Method) (w : WorldState) (thread : ThreadId) (pending : Option Call) (event : Option Event) (after : WorldState) → AnswersFalseWithoutInsert methods → gone_on methods w thread pending ≡ stepped event after → TellsQuiet event
gone_on_quiet methods w thread (Some call) event after all e = at_quiet methods w thread call (action_of methods call) event after all refl e
gone_on_quiet methods w thread None event after all e = absurd (cc)

acted_quiet : (methods : List Method) (w : WorldState) (thread : ThreadId) (act : Act) (event : Option Event) (after : WorldState) → AnswersFalseWithoutInsert methods → acted methods w thread act ≡ stepped event after → TellsQuiet event
acted_quiet methods w thread (Invoke m key) event after all e =
    begun_quiet w thread m key (fin.get w.calls thread.0) (slice_get methods m) event after (found_quiet methods m _ all refl) e
acted_quiet methods w thread Go event after all e = gone_on_quiet methods w thread (fin.get w.calls thread.0) event after all e

-- one more event that is quiet, or none
with_event_quiet : (events : List Event) (event : Option Event) → All IsQuiet events → TellsQuiet event → All IsQuiet (with_event events event)
with_event_quiet events None all quiet = all
with_event_quiet events (Some event) all quiet = All-push IsQuiet events event all quiet

-- every event of such a run is quiet
pub history_quiet : {h : Header} {methods : List Method} {choices : List Choice} {told : List (Option Event)} {worlds : List WorldState} → AnswersFalseWithoutInsert methods → Run h methods choices told worlds → All IsQuiet (history told)
history_quiet all begins = All-nil IsQuiet
history_quiet {h} {methods} all (goes_on {choices} {told} {before} {worlds} run choice event after step) =
    with_event_quiet (history told) event (history_quiet all run) (acted_quiet methods before choice.thread choice.act event after all step)

pub quiet_answers_false : (events : List Event) → All IsQuiet events → AnswersFalse events
quiet_answers_false events all j thread answer at = found_of_all IsQuiet events j (response thread answer) all at

-- an event that begins an insert is not quiet
begins_insert : (event : Option Event) (thread : ℕ) (key : ℤ) → TellsQuiet event → option_map happening_of event ≡ Some (invoked thread (Insert, key)) → ⊥
begins_insert None thread key quiet e = cc
begins_insert (Some (invocation t op k)) thread key quiet e =
    let same : ◌≡◌ {A = Op × ℤ} (op, k) (Insert, key) = cc in quiet (ap (λ (input : Op × ℤ). input.0) same)
begins_insert (Some (response t answer)) thread key quiet e = cc

tells_quiet : (events : List Event) (i : ℕ) (event : Option Event) → All IsQuiet events → slice_get events i ≡ event → TellsQuiet event
tells_quiet events i None all at = tt
tells_quiet events i (Some event) all at = found_of_all IsQuiet events i event all at

pub quiet_no_insert : (events : List Event) → All IsQuiet events → AnswersNoInsert events
quiet_no_insert events all i j key answer begun ends =
    begins_insert (slice_get events i) begun.thread key (tells_quiet events i _ all refl) (sym (slice_get-map happening_of events i) ∙ begun.invocation)
