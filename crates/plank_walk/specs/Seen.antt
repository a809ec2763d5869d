-- What a condition is asked of: a named node or a stop node, on a walked key.
use Rattle.std.specs.Prelude.{Bool, Option, unwrap_or}
use Rattle.plank_prog.specs.declared.conditions.KeyTerm.{KeyTerm}
use Rattle.plank_prog.specs.Conditions.{View}
use Rattle.plank_pic.specs.declared.parts.Term.{Term}
use Rattle.plank_pic.specs.declared.parts.Part.{Part}
use Rattle.plank_pic.specs.Pictures.{Picture, node_view, stop_view_on, term_at}
use Rattle.plank_walk.specs.declared.seen.Seen.{Seen}

abbrev pub seen_view : Picture → Seen → View
seen_view p (Seen.Node k i) = node_view p k i
seen_view p (Seen.Stop k s j visited) = stop_view_on p k s j (unwrap_or visited (p (Part.StopVisited k s)))

-- the term that a term of a condition stands for there
abbrev pub seen_term : Seen → KeyTerm → Term
seen_term (Seen.Node k i) t = term_at (Term.Node i) k t
seen_term (Seen.Stop k s j visited) t = term_at (Term.Stop k s) j t
