-- The last line of a report.
use Rattle.std.specs.Prelude.{ℕ, Bool, true, false, List, [], ◌++◌, codes, slice_get, if◌then◌else◌}
use Rattle.std.specs.Option.{option_map_or}
use Rattle.plank_base.specs.declared.obligations.Kind.{Kind}
use Rattle.plank_base.specs.declared.obligations.Obligation.{Obligation}
use Rattle.plank_prog.specs.declared.methods.Method.{Method}
use Rattle.plank_judge.specs.declared.verdicts.Verdict.{Verdict}
use Rattle.plank_report.specs.Pieces.{place_text}

abbrev pub kind_word : Kind → List ℕ
kind_word Kind.Start = codes "start"
kind_word Kind.Edges = codes "edges"
kind_word Kind.Null = codes "null"
kind_word Kind.Target = codes "target"
kind_word Kind.Publish = codes "publish"
kind_word Kind.Keep = codes "keep"
kind_word Kind.Order = codes "order"
kind_word Kind.Footprint = codes "footprint"
kind_word Kind.Change = codes "change"
kind_word Kind.Answer = codes "answer"

-- whether an obligation of this kind stands for the whole text, and so has no place
abbrev pub is_of_whole_text : Kind → Bool
is_of_whole_text Kind.Start = true
is_of_whole_text Kind.Edges = true
is_of_whole_text Kind.Null = false
is_of_whole_text Kind.Target = false
is_of_whole_text Kind.Publish = false
is_of_whole_text Kind.Keep = false
is_of_whole_text Kind.Order = false
is_of_whole_text Kind.Footprint = false
is_of_whole_text Kind.Change = false
is_of_whole_text Kind.Answer = false

-- the name of a method by its number; the empty name where there is no such method
abbrev pub method_name : List Method → ℕ → List ℕ
method_name methods m = option_map_or (λ method. method.name) (slice_get methods m) []

-- an obligation by its kind, and by its method and place where it has one
abbrev pub obligation_text : List Method → Obligation → List ℕ
obligation_text methods o =
    if is_of_whole_text o.kind then kind_word o.kind
    else kind_word o.kind ++ codes " in " ++ method_name methods o.method ++ codes " at " ++ place_text o.place

-- accepted where no obligation fails, else rejected with the first that does
abbrev pub verdict_text : List Method → Verdict → List ℕ
verdict_text methods Verdict.Accepted = codes "accepted"
verdict_text methods (Verdict.Rejected o) = codes "rejected " ++ obligation_text methods o
