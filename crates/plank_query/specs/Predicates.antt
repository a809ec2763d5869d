-- What may be said of one picture of a situation, true or false; and claims, which say the truth of it.
use Rattle.std.specs.Prelude.{◌≡◌, Bool, true, List, Contains}
use Rattle.plank_prog.specs.declared.headers.Header.{Header}
use Rattle.plank_pic.specs.declared.parts.KeyName.{KeyName}
use Rattle.plank_pic.specs.Pictures.{Picture, node_view, view_admits}
use Rattle.plank_pic.specs.Lawful.{node_keeps}
use Rattle.plank_pic.specs.Calls.{is_usable}
use Rattle.plank_pic.specs.Truths.{truth, is_owned}
use Rattle.plank_step.specs.Turns.{source_from}
use Rattle.plank_fact.specs.Hindsight.{is_node_shared, is_witnessed}
use Rattle.plank_fact.specs.After.{named_before}
use Rattle.plank_query.specs.declared.situations.Situation.{Situation}
use Rattle.plank_query.specs.declared.predicates.Speaker.{Speaker}
use Rattle.plank_query.specs.declared.predicates.Predicate.{Predicate}
use Rattle.plank_query.specs.declared.predicates.Claim.{Claim}
use Rattle.plank_query.specs.Situations.{frame, caller}

-- whether it is true of the picture
abbrev pub holds : Header → Situation → Picture → Predicate → Bool
holds h S p (Predicate.Says part) = p part
holds h S p (Predicate.IsTrue speaker L) = truth p (caller S speaker) L
holds h S p (Predicate.IsWitnessed L) = is_witnessed p (caller S Speaker.Own) L
holds h S p (Predicate.IsNodeShared L) = is_node_shared p (caller S Speaker.Own) L
holds h S p (Predicate.NamedBefore origin i) = named_before p (source_from origin) i
holds h S p (Predicate.IsUsable i) = is_usable p i
holds h S p (Predicate.IsOwned i) = is_owned p true i
holds h S p (Predicate.Keeps i c) = node_keeps (frame h S) p KeyName.Any i c
holds h S p (Predicate.Admits i f) = view_admits h (node_view p KeyName.Any i) f

-- each of the claims is right
abbrev pub AreRight : Header → Situation → Picture → List Claim → Type 0
AreRight h S p claims = (c : Claim) → Contains claims c → holds h S p c.predicate ≡ c.value
