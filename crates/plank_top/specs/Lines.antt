-- The one line of a refusal.
use Rattle.std.specs.Prelude.{ℕ, List, [], ◌++◌, codes}
use Rattle.std.specs.Fmt.{decimal}
use Rattle.plank_base.specs.declared.limits.Thing.{Thing}
use Rattle.plank_base.specs.declared.limits.Thing.TheVariants.{Bytes, Nesting, Methods, Variables, Flags, Pointers, Nodes, Locations, Sites, EffectFacts}
use Rattle.plank_base.specs.declared.typing.TypeKind.{TypeKind}
use Rattle.plank_base.specs.declared.typing.TypeKind.TheVariants.{Unknown, Twice, WrongKind, BindReused, NoReturn, NotOneRoot}
use Rattle.plank_report.specs.Pieces.{place_text}
use Rattle.plank_trace.specs.declared.limits.Measure.{Measure}
use Rattle.plank_trace.specs.declared.limits.Measure.TheVariants.{Steps, Keys}
use Rattle.plank_top.specs.declared.status.Status.{Status}
use Rattle.plank_top.specs.declared.status.Status.TheVariants.{Accepted, Rejected, Malformed, IllTyped, TooLarge, Usage, ReadFault, WriteFault, OutOfMemory, Done, TooLong, BadSchedule, BadStep}

abbrev pub thing_word : Thing → List ℕ
thing_word Bytes = codes "bytes"
thing_word Nesting = codes "nesting"
thing_word Methods = codes "methods"
thing_word Variables = codes "variables"
thing_word Flags = codes "flags"
thing_word Pointers = codes "pointers"
thing_word Nodes = codes "nodes"
thing_word Locations = codes "locations"
thing_word Sites = codes "sites"
thing_word EffectFacts = codes "effect-facts"

abbrev pub measure_word : Measure → List ℕ
measure_word Steps = codes "steps"
measure_word Keys = codes "keys"

abbrev pub type_word : TypeKind → List ℕ
type_word Unknown = codes "unknown"
type_word Twice = codes "twice"
type_word WrongKind = codes "wrong-kind"
type_word BindReused = codes "bind-reused"
type_word NoReturn = codes "no-return"
type_word NotOneRoot = codes "not-one-root"

-- what the line of a refusal says; a status that is no refusal has no such line
abbrev pub refusal_text : Status → List ℕ
refusal_text (Malformed p) = codes "malformed at " ++ place_text p
refusal_text (IllTyped k p) = codes "ill-typed " ++ type_word k ++ codes " at " ++ place_text p
refusal_text (TooLarge t count limit) = codes "too large " ++ thing_word t ++ codes " " ++ decimal count ++ codes " " ++ decimal limit
refusal_text (TooLong m count limit) = codes "too large " ++ measure_word m ++ codes " " ++ decimal count ++ codes " " ++ decimal limit
refusal_text (BadSchedule i) = codes "bad schedule " ++ decimal i
refusal_text (BadStep i) = codes "bad step " ++ decimal i
refusal_text Usage = codes "usage fault"
refusal_text Accepted = []
refusal_text (Rejected o) = []
refusal_text ReadFault = []
refusal_text WriteFault = []
refusal_text OutOfMemory = []
refusal_text Done = []
