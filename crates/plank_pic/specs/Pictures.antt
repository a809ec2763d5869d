-- Pictures: a truth for each part, the edge of a key at a named node and where it leads, chains of frozen nodes, and what
-- a named node or a stop node answers to the conditions of a header. All that speaks of pictures stands on it.
use Rattle.std.specs.Prelude.{ℕ, Bool, false, not, ◌&&◌, length, slice_get, if◌then◌else◌, Option, Some, None}
use Rattle.std.specs.Option.{option_map_or}
use Rattle.plank_prog.specs.declared.conditions.KeyTerm.{KeyTerm}
use Rattle.plank_prog.specs.declared.headers.Header.{Header}
use Rattle.plank_prog.specs.Conditions.{View, value}
use Rattle.plank_pic.specs.declared.parts.KeyName.{KeyName}
use Rattle.plank_pic.specs.declared.parts.Term.{Term}
use Rattle.plank_pic.specs.declared.parts.Place.{Place}
use Rattle.plank_pic.specs.declared.parts.Part.{Part}
use Rattle.plank_pic.specs.Frames.{Frame}
use Rattle.plank_pic.specs.declared.parts.Target.{Target}
use Rattle.plank_pic.specs.Below.{some_below, least_below}

-- a picture says of each part whether it is true
abbrev pub Picture : Type 0
Picture = Part → Bool

abbrev pub place : ℕ → ℕ → Place
place i f = record { name = i; pointer = f }

-- two terms have equal keys; one lies below the other
abbrev pub same_key : Picture → Term → Term → Bool
same_key p s t = p (Part.AtMost s t) && p (Part.AtMost t s)

abbrev pub is_below : Picture → Term → Term → Bool
is_below p s t = p (Part.AtMost s t) && not (p (Part.AtMost t s))

-- the term of the picture that a term of a condition stands for, at a node and a walked key
abbrev pub term_at : Term → KeyName → KeyTerm → Term
term_at x k KeyTerm.Node = x
term_at x k KeyTerm.Walked = Term.Walked k
term_at x k KeyTerm.Min = Term.Min
term_at x k KeyTerm.Max = Term.Max

-- what the node that i names answers to a condition on the key k
abbrev pub node_view : Picture → KeyName → ℕ → View
node_view p k i = record {
  at_most = λ s t. p (Part.AtMost (term_at (Term.Node i) k s) (term_at (Term.Node i) k t));
  flag = λ f. p (Part.Flag i f);
  null = λ f. p (Part.PointerNull (place i f));
  visited = p (Part.Visits k i);
}

-- what a stop node of the key k answers on the walked key j, with this visit bit; its pointer is not null
abbrev pub stop_view_on : Picture → KeyName → ℕ → KeyName → Bool → View
stop_view_on p k s j visited = record {
  at_most = λ a b. p (Part.AtMost (term_at (Term.Stop k s) j a) (term_at (Term.Stop k s) j b));
  flag = λ f. p (Part.StopFlag k s f);
  null = λ f. false;
  visited = visited;
}

-- on its own key, with its own visit bit
abbrev pub stop_view : Picture → KeyName → ℕ → View
stop_view p k s = stop_view_on p k s k (p (Part.StopVisited k s))

-- whether the f-th pointer field admits the walked key of a view
abbrev pub view_admits : Header → View → ℕ → Bool
view_admits h v f = option_map_or (λ q. option_map_or (value v) q.edge false) (slice_get h.pointers f) false

-- the f-th pointer of i is not null and admits the key
abbrev pub goes : Header → Picture → KeyName → ℕ → ℕ → Bool
goes h p k i f = not (p (Part.PointerNull (place i f))) && view_admits h (node_view p k i) f

-- the edge of the key at i: the first pointer that is not null and admits it
abbrev pub edge : Header → Picture → KeyName → ℕ → Option ℕ
edge h p k i = least_below (goes h p k i) (length h.pointers)

abbrev pub is_frozen_view : Header → View → Bool
is_frozen_view h v = option_map_or (value v) h.freeze false

abbrev pub is_frozen : Header → Picture → ℕ → Bool
is_frozen h p i = is_frozen_view h (node_view p KeyName.Own i)

-- shared and frozen: the node cannot change any more, as far as chains know
abbrev pub is_fast : Header → Picture → ℕ → Bool
is_fast h p i = p (Part.Shared i) && is_frozen h p i

-- i is a chain to another node
abbrev pub chains_on : Picture → ℕ → ℕ → Bool
chains_on p i j = p (Part.Chain i j) && not (p (Part.Same i j))

-- some chain has the stop node
abbrev pub picks_from : Picture → KeyName → ℕ → ℕ → ℕ → Bool
picks_from p k s i j = p (Part.Picks k i j s)

abbrev pub is_picked_from : Frame → Picture → KeyName → ℕ → ℕ → Bool
is_picked_from F p k s i = some_below (picks_from p k s i) F.names

abbrev pub is_picked : Frame → Picture → KeyName → ℕ → Bool
is_picked F p k s = some_below (is_picked_from F p k s) F.names

-- the pointer leads to the node that j names
abbrev pub leads_to : Picture → Place → ℕ → Bool
leads_to p x j = p (Part.Leads x j)

-- the own thread, or else the other, has the lock of a node
abbrev pub holds_lock : Picture → Bool → ℕ → Bool
holds_lock p own i = p (Part.Locked i) && (if own then p (Part.LockMine i) else not (p (Part.LockMine i)) && p (Part.LockOthers i))

-- ---- where an edge leads

-- from a chain: to its stop node, or to its end where it has none
abbrev pub chain_target : Picture → KeyName → ℕ → ℕ → Target
chain_target p k i q =
    if p (Part.Picks k i q 0) then Target.Stops i q 0 else if p (Part.Picks k i q 1) then Target.Stops i q 1 else Target.Jumps q

-- from a pointer that leads outside: into the first chain to another node, or out
abbrev pub outer_target : Frame → Picture → KeyName → ℕ → ℕ → Target
outer_target F p k i f = elim (least_below (chains_on p i) F.names) [ Some q ↦ chain_target p k i q | None ↦ Target.Out (place i f) ]

-- from a pointer that is not null: to the first name of its node, or outside
abbrev pub pointer_target : Frame → Picture → KeyName → ℕ → ℕ → Target
pointer_target F p k i f = elim (least_below (leads_to p (place i f)) F.names) [ Some j ↦ Target.To j | None ↦ outer_target F p k i f ]

abbrev pub target : Frame → Picture → KeyName → ℕ → Target
target F p k i = elim (edge F.header p k i) [ Some f ↦ pointer_target F p k i f | None ↦ Target.Ends ]
