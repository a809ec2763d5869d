-- Lawful pictures: what is true of any heap, any names for its nodes and any walked keys. Each rule is a test, and
-- `IsPicture`, `IsPossible` and `IsLawful` gather them: names, nodes and keys fit together; what no step can break; what
-- the obligations of writes keep. Queries of the search ask for lawful pictures, and scenes of runs show them.
use Rattle.std.specs.Prelude.{◌≡◌, ◌<◌, ℕ, Bool, true, false, not, ◌&&◌, ◌||◌, ◌==◌, nat_lt, length, slice_get, is_some, if◌then◌else◌}
use Rattle.std.specs.Bool.{beq}
use Rattle.std.specs.Option.{option_map_or}
use Rattle.std.specs.List.{list_all}
use Rattle.plank_base.specs.declared.keys.Key.{Key}
use Rattle.plank_prog.specs.declared.headers.Header.{Header}
use Rattle.plank_prog.specs.declared.headers.KeyOrder.{KeyOrder}
use Rattle.plank_prog.specs.Conditions.{View, value}
use Rattle.plank_pic.specs.declared.parts.KeyName.{KeyName}
use Rattle.plank_pic.specs.declared.parts.Term.{Term}
use Rattle.plank_pic.specs.declared.parts.Place.{Place}
use Rattle.plank_pic.specs.declared.parts.Part.{Part}
use Rattle.plank_pic.specs.Frames.{Frame}
use Rattle.plank_pic.specs.declared.parts.Target.{Target}
use Rattle.plank_pic.specs.Below.{some_below}
use Rattle.plank_pic.specs.Renaming.{rename_part, instead}
use Rattle.plank_pic.specs.Pictures.{Picture, place, leads_to, same_key, is_below, node_view, stop_view, stop_view_on, view_admits, target, is_frozen_view, is_fast, is_picked}

infixr 4 ◌⇒◌
abbrev pub ◌⇒◌ : Bool → Bool → Bool
a ⇒ b = not a || b

-- ---- which parts there are

abbrev pub place_fits : Frame → Place → Bool
place_fits F x = nat_lt x.name F.names && nat_lt x.pointer (length F.header.pointers)

-- nodes have locks where the structure declares one
abbrev pub lock_fits : Frame → ℕ → Bool
lock_fits F i = nat_lt i F.names && F.header.has_lock

-- stop nodes are there where nodes may be frozen
abbrev pub slot_count : Frame → ℕ
slot_count F = if is_some F.header.freeze && (length F.header.pointers == 1) then 2 else 0

abbrev pub term_fits : Frame → Term → Bool
term_fits F (Term.Node i) = nat_lt i F.names
term_fits F Term.Min = true
term_fits F Term.Max = true
term_fits F (Term.Walked k) = true
term_fits F (Term.Stop k s) = nat_lt s (slot_count F)

abbrev pub part_fits : Frame → Part → Bool
part_fits F (Part.Null i) = nat_lt i F.names
part_fits F (Part.Same i j) = nat_lt i F.names && nat_lt j F.names
part_fits F (Part.Flag i f) = nat_lt i F.names && nat_lt f (length F.header.flags)
part_fits F (Part.Shared i) = nat_lt i F.names
part_fits F (Part.Mine i) = nat_lt i F.names
part_fits F (Part.Locked i) = lock_fits F i
part_fits F (Part.LockMine i) = lock_fits F i
part_fits F (Part.LockOthers i) = lock_fits F i
part_fits F (Part.PointerNull x) = place_fits F x
part_fits F (Part.Beyond x) = place_fits F x
part_fits F (Part.Leads x j) = place_fits F x && nat_lt j F.names
part_fits F (Part.SameBeyond x y) = place_fits F x && place_fits F y
part_fits F (Part.AtMost s t) = term_fits F s && term_fits F t
part_fits F (Part.Visits k i) = nat_lt i F.names
part_fits F (Part.InSet k) = true
part_fits F Part.Spent = true
part_fits F (Part.Chain i j) = nat_lt i F.names && nat_lt j F.names
part_fits F (Part.Picks k i j s) = nat_lt i F.names && nat_lt j F.names && nat_lt s (slot_count F)
part_fits F (Part.StopFlag k s f) = nat_lt s (slot_count F) && nat_lt f (length F.header.flags)
part_fits F (Part.StopVisited k s) = nat_lt s (slot_count F)

-- ---- names and nodes

-- a name that is not null names its own node, and a name that is null none
abbrev pub names_itself : Picture → ℕ → Bool
names_itself p i = beq (p (Part.Same i i)) (not (p (Part.Null i)))

-- the names of one node are those of each of them
abbrev pub same_is_symmetric : Picture → ℕ → ℕ → Bool
same_is_symmetric p i j = p (Part.Same i j) ⇒ p (Part.Same j i)

abbrev pub same_is_transitive : Picture → ℕ → ℕ → ℕ → Bool
same_is_transitive p i j k = (p (Part.Same i j) && p (Part.Same j k)) ⇒ p (Part.Same i k)

-- a part says the same of each name of a node
abbrev pub agrees : Picture → ℕ → ℕ → Part → Bool
agrees p i j part = p (Part.Same i j) ⇒ beq (p (rename_part (instead i j) part)) (p part)

-- nothing but its place in the order is said of a name that is null
abbrev pub null_is_bare : Picture → ℕ → Part → Bool
null_is_bare p i part = (p (Part.Null i) && p part) ⇒ false

-- ---- owners and locks

-- a node that is shared is nobody's own
abbrev pub owned_once : Picture → ℕ → Bool
owned_once p i = not (p (Part.Shared i) && p (Part.Mine i))

-- a lock that is free is nobody's, and the own thread's is not the other's
abbrev pub held_once : Picture → ℕ → Bool
held_once p i = (p (Part.LockMine i) ⇒ p (Part.Locked i)) && (p (Part.LockOthers i) ⇒ (p (Part.Locked i) && not (p (Part.LockMine i))))

-- ---- pointers

-- a pointer is null, leads outside or leads to a named node
abbrev pub leads_somewhere : Frame → Picture → Place → Bool
leads_somewhere F p x =
    p (Part.Null x.name) || p (Part.PointerNull x) || p (Part.Beyond x) || some_below (leads_to p x) F.names

-- and no two of these
abbrev pub leads_once : Picture → Place → ℕ → Bool
leads_once p x j =
    not (p (Part.PointerNull x) && p (Part.Beyond x)) && not (p (Part.Leads x j) && (p (Part.PointerNull x) || p (Part.Beyond x)))

abbrev pub leads_to_one : Picture → Place → ℕ → ℕ → Bool
leads_to_one p x j k = (p (Part.Leads x j) && p (Part.Leads x k)) ⇒ p (Part.Same j k)

-- pointers to outside nodes: which lead to one node
abbrev pub beyond_itself : Picture → Place → Bool
beyond_itself p x = beq (p (Part.SameBeyond x x)) (p (Part.Beyond x))

abbrev pub beyond_is_symmetric : Picture → Place → Place → Bool
beyond_is_symmetric p x y = p (Part.SameBeyond x y) ⇒ p (Part.SameBeyond y x)

abbrev pub beyond_is_transitive : Picture → Place → Place → Place → Bool
beyond_is_transitive p x y z = (p (Part.SameBeyond x y) && p (Part.SameBeyond y z)) ⇒ p (Part.SameBeyond x z)

-- ---- keys

abbrev pub order_is_total : Picture → Term → Term → Bool
order_is_total p s t = p (Part.AtMost s t) || p (Part.AtMost t s)

abbrev pub order_is_transitive : Picture → Term → Term → Term → Bool
order_is_transitive p s t u = (p (Part.AtMost s t) && p (Part.AtMost t u)) ⇒ p (Part.AtMost s u)

-- the least key lies at or below each, and the greatest at or above
abbrev pub lies_between_ends : Picture → Term → Bool
lies_between_ends p t = p (Part.AtMost Term.Min t) && p (Part.AtMost t Term.Max)

abbrev pub is_ordinary_key : Picture → KeyName → Bool
is_ordinary_key p k = is_below p Term.Min (Term.Walked k) && is_below p (Term.Walked k) Term.Max

-- the term of a start node's key
abbrev pub end_term : Key → Term
end_term Key.Min = Term.Min
end_term (Key.Num j) = Term.Max
end_term Key.Max = Term.Max

abbrev pub is_root : Frame → ℕ → Bool
is_root F i = option_map_or (λ r. r == i) F.root false

abbrev pub root_term : Frame → Term
root_term F = option_map_or (λ n. end_term n.key) (slice_get F.header.nodes F.header.root) Term.Max

-- ---- 1 to 6

-- the root is a shared node with its start key, visited by every key
abbrev pub root_is_right : Frame → Picture → ℕ → Bool
root_is_right F p i = is_root F i ⇒ (not (p (Part.Null i)) && p (Part.Shared i) && same_key p (Term.Node i) (root_term F))

abbrev pub root_is_visited : Frame → Picture → KeyName → ℕ → Bool
root_is_visited F p k i = is_root F i ⇒ p (Part.Visits k i)

-- pointers of shared nodes lead to shared nodes
abbrev pub leads_to_shared : Picture → Place → ℕ → Bool
leads_to_shared p x j = (p (Part.Shared x.name) && p (Part.Leads x j)) ⇒ p (Part.Shared j)

-- a node that is not shared is visited by no key, and no other node points to it
abbrev pub own_is_unvisited : Picture → KeyName → ℕ → Bool
own_is_unvisited p k i = p (Part.Visits k i) ⇒ p (Part.Shared i)

abbrev pub own_is_unreached : Picture → Place → ℕ → Bool
own_is_unreached p x j = p (Part.Leads x j) ⇒ (p (Part.Shared j) || p (Part.Same x.name j))

-- the c-th keep
abbrev pub keep_holds : Header → View → ℕ → Bool
keep_holds h v c = option_map_or (λ k. value v k.condition) (slice_get h.keeps c) true

abbrev pub node_keeps : Frame → Picture → KeyName → ℕ → ℕ → Bool
node_keeps F p k i c = p (Part.Shared i) ⇒ keep_holds F.header (node_view p k i) c

-- a pointer's order, along an edge between named nodes and to the outside
abbrev pub keys_ordered : KeyOrder → Picture → Term → Term → Bool
keys_ordered KeyOrder.Ascending p s t = is_below p s t
keys_ordered KeyOrder.Descending p s t = is_below p t s
keys_ordered KeyOrder.Free p s t = true

abbrev pub key_leaves_room : KeyOrder → Picture → Term → Bool
key_leaves_room KeyOrder.Ascending p s = is_below p s Term.Max
key_leaves_room KeyOrder.Descending p s = is_below p Term.Min s
key_leaves_room KeyOrder.Free p s = true

abbrev pub order_of : Frame → ℕ → KeyOrder
order_of F f = option_map_or (λ q. q.order) (slice_get F.header.pointers f) KeyOrder.Free

abbrev pub edge_is_ordered : Frame → Picture → Place → ℕ → Bool
edge_is_ordered F p x j = p (Part.Leads x j) ⇒ keys_ordered (order_of F x.pointer) p (Term.Node x.name) (Term.Node j)

abbrev pub beyond_has_room : Frame → Picture → Place → Bool
beyond_has_room F p x = p (Part.Beyond x) ⇒ key_leaves_room (order_of F x.pointer) p (Term.Node x.name)

-- a visited node sends a key on to a visited node, or gives the set bit
abbrev pub arrives : Frame → Picture → KeyName → ℕ → Target → Bool
arrives F p k i Target.Ends = beq (p (Part.InSet k)) (value (node_view p k i) F.header.holds)
arrives F p k i (Target.To j) = p (Part.Visits k j)
arrives F p k i (Target.Out x) = true
arrives F p k i (Target.Stops y q s) = p (Part.StopVisited k s)
arrives F p k i (Target.Jumps q) = p (Part.Visits k q)

abbrev pub visit_goes_on : Frame → Picture → KeyName → ℕ → Bool
visit_goes_on F p k i = p (Part.Visits k i) ⇒ arrives F p k i (target F p k i)

-- a picked stop node is frozen, meets the keeps, does not admit the key, and gives the set bit where it is visited
abbrev pub stop_is_right : Frame → Picture → KeyName → ℕ → Bool
stop_is_right F p k s = is_picked F p k s ⇒
    (is_frozen_view F.header (stop_view p k s) && not (view_admits F.header (stop_view p k s) 0)
    && (p (Part.StopVisited k s) ⇒ beq (p (Part.InSet k)) (value (stop_view p k s) F.header.holds)))

abbrev pub stop_keeps : Frame → Picture → KeyName → ℕ → ℕ → Bool
stop_keeps F p k s c = is_picked F p k s ⇒ keep_holds F.header (stop_view p k s) c

-- every keep holds
abbrev pub keeps_hold : Header → View → Bool
keeps_hold h v = list_all (λ q. value v q.condition) h.keeps

-- nothing is said of whether another key visits it: for some visit bit every keep holds
abbrev pub stop_keeps_on : Frame → Picture → KeyName → ℕ → KeyName → Bool
stop_keeps_on F p k s j = is_picked F p k s ⇒
    (keeps_hold F.header (stop_view_on p k s j true) || keeps_hold F.header (stop_view_on p k s j false))

-- chains
abbrev pub chain_of_itself : Picture → ℕ → ℕ → Bool
chain_of_itself p i j = p (Part.Same i j) ⇒ p (Part.Chain i j)

abbrev pub chains_are_there : Frame → Bool
chains_are_there F = length F.header.pointers == 1

abbrev pub chain_begins : Frame → Picture → ℕ → ℕ → Bool
chain_begins F p i j = (p (Part.Chain i j) && not (p (Part.Same i j))) ⇒
    (chains_are_there F && is_fast F.header p i && not (p (Part.PointerNull (place i 0))))

abbrev pub chain_is_ordered : Frame → Picture → ℕ → ℕ → Bool
chain_is_ordered F p i j = (p (Part.Chain i j) && not (p (Part.Same i j))) ⇒ keys_ordered (order_of F 0) p (Term.Node i) (Term.Node j)

abbrev pub chain_goes_on : Picture → ℕ → ℕ → ℕ → Bool
chain_goes_on p i j y = (p (Part.Chain i j) && not (p (Part.Same i j)) && p (Part.Leads (place i 0) y)) ⇒ p (Part.Chain y j)

-- a chain grows by the pointer of its end, if that is shared and frozen; in a text with two pointer fields none does
abbrev pub chain_grows : Frame → Picture → ℕ → ℕ → ℕ → Bool
chain_grows F p i j r = (chains_are_there F && p (Part.Chain i j) && is_fast F.header p j && p (Part.Leads (place j 0) r)) ⇒ p (Part.Chain i r)

-- a chain whose first pointer leads outside may have one stop node for a key, which lies between its ends
abbrev pub pick_is_right : Frame → Picture → KeyName → ℕ → ℕ → ℕ → Bool
pick_is_right F p k i j s = p (Part.Picks k i j s) ⇒
    (p (Part.Chain i j) && not (p (Part.Same i j)) && p (Part.Beyond (place i 0)))

abbrev pub pick_is_ordered : Frame → Picture → KeyName → ℕ → ℕ → ℕ → Bool
pick_is_ordered F p k i j s = p (Part.Picks k i j s) ⇒
    (keys_ordered (order_of F 0) p (Term.Node i) (Term.Stop k s) && keys_ordered (order_of F 0) p (Term.Stop k s) (Term.Node j))

abbrev pub picks_once : Picture → KeyName → ℕ → ℕ → Bool
picks_once p k i j = not (p (Part.Picks k i j 0) && p (Part.Picks k i j 1))

-- ---- the whole

-- the parts that speak of a name besides its place in the order
abbrev pub place_of_name : ℕ → Place → Bool
place_of_name i x = x.name == i

abbrev pub speaks_of : ℕ → Part → Bool
speaks_of i (Part.Null j) = false
speaks_of i (Part.Same j k) = (j == i) || (k == i)
speaks_of i (Part.Flag j f) = j == i
speaks_of i (Part.Shared j) = j == i
speaks_of i (Part.Mine j) = j == i
speaks_of i (Part.Locked j) = j == i
speaks_of i (Part.LockMine j) = j == i
speaks_of i (Part.LockOthers j) = j == i
speaks_of i (Part.PointerNull x) = x.name == i
speaks_of i (Part.Beyond x) = x.name == i
speaks_of i (Part.Leads x j) = (x.name == i) || (j == i)
speaks_of i (Part.SameBeyond x y) = (x.name == i) || (y.name == i)
speaks_of i (Part.AtMost s t) = false
speaks_of i (Part.Visits k j) = j == i
speaks_of i (Part.InSet k) = false
speaks_of i Part.Spent = false
speaks_of i (Part.Chain j k) = (j == i) || (k == i)
speaks_of i (Part.Picks k j m s) = (j == i) || (m == i)
speaks_of i (Part.StopFlag k s f) = false
speaks_of i (Part.StopVisited k s) = false

-- names, nodes, pointers and keys fit together
pub record IsPicture (F : Frame) (p : Picture) : Type 0 where
  pub fits : (part : Part) → part_fits F part ≡ false → p part ≡ false
  pub itself : (i : ℕ) → i < F.names → names_itself p i ≡ true
  pub symmetric : (i j : ℕ) → i < F.names → j < F.names → same_is_symmetric p i j ≡ true
  pub transitive : (i j k : ℕ) → i < F.names → j < F.names → k < F.names → same_is_transitive p i j k ≡ true
  pub one_node : (i j : ℕ) (part : Part) → i < F.names → j < F.names → part_fits F part ≡ true → agrees p i j part ≡ true
  pub bare : (i : ℕ) (part : Part) → i < F.names → part_fits F part ≡ true → speaks_of i part ≡ true → null_is_bare p i part ≡ true
  pub owned : (i : ℕ) → i < F.names → owned_once p i ≡ true
  pub held : (i : ℕ) → i < F.names → held_once p i ≡ true
  pub somewhere : (x : Place) → place_fits F x ≡ true → leads_somewhere F p x ≡ true
  pub once : (x : Place) (j : ℕ) → place_fits F x ≡ true → j < F.names → leads_once p x j ≡ true
  pub one_target : (x : Place) (j k : ℕ) → place_fits F x ≡ true → j < F.names → k < F.names → leads_to_one p x j k ≡ true
  pub beyond : (x : Place) → place_fits F x ≡ true → beyond_itself p x ≡ true
  pub beyond_back : (x y : Place) → place_fits F x ≡ true → place_fits F y ≡ true → beyond_is_symmetric p x y ≡ true
  pub beyond_on : (x y z : Place) → place_fits F x ≡ true → place_fits F y ≡ true → place_fits F z ≡ true → beyond_is_transitive p x y z ≡ true
  pub total : (s t : Term) → term_fits F s ≡ true → term_fits F t ≡ true → order_is_total p s t ≡ true
  pub in_order : (s t u : Term) → term_fits F s ≡ true → term_fits F t ≡ true → term_fits F u ≡ true → order_is_transitive p s t u ≡ true

-- what is true of a picture after a step whatever the step: all but the obligations
pub record IsPossible (F : Frame) (p : Picture) : Type 0 where
  pub picture : IsPicture F p
  pub ends : (t : Term) → term_fits F t ≡ true → lies_between_ends p t ≡ true
  pub ordinary : (k : KeyName) → is_ordinary_key p k ≡ true
  pub root : (i : ℕ) → i < F.names → root_is_right F p i ≡ true
  pub root_visited : (k : KeyName) (i : ℕ) → i < F.names → root_is_visited F p k i ≡ true
  pub unvisited : (k : KeyName) (i : ℕ) → i < F.names → own_is_unvisited p k i ≡ true
  pub unreached : (x : Place) (j : ℕ) → place_fits F x ≡ true → j < F.names → own_is_unreached p x j ≡ true
  pub goes_on : (k : KeyName) (i : ℕ) → i < F.names → visit_goes_on F p k i ≡ true
  pub stops : (k : KeyName) (s : ℕ) → s < slot_count F → stop_is_right F p k s ≡ true
  pub chain_itself : (i j : ℕ) → i < F.names → j < F.names → chain_of_itself p i j ≡ true
  pub chain_first : (i j : ℕ) → i < F.names → j < F.names → chain_begins F p i j ≡ true
  pub chain_on : (i j y : ℕ) → i < F.names → j < F.names → y < F.names → chain_goes_on p i j y ≡ true
  pub chain_end : (i j r : ℕ) → i < F.names → j < F.names → r < F.names → chain_grows F p i j r ≡ true
  pub pick : (k : KeyName) (i j s : ℕ) → i < F.names → j < F.names → s < slot_count F → pick_is_right F p k i j s ≡ true
  pub pick_once : (k : KeyName) (i j : ℕ) → i < F.names → j < F.names → picks_once p k i j ≡ true

pub record IsLawful (F : Frame) (p : Picture) : Type 0 where
  pub possible : IsPossible F p
  pub published : (x : Place) (j : ℕ) → place_fits F x ≡ true → j < F.names → leads_to_shared p x j ≡ true
  pub keeps : (k : KeyName) (i c : ℕ) → i < F.names → c < length F.header.keeps → node_keeps F p k i c ≡ true
  pub stop_kept : (k : KeyName) (s c : ℕ) → s < slot_count F → c < length F.header.keeps → stop_keeps F p k s c ≡ true
  pub stop_kept_on : (k j : KeyName) (s : ℕ) → s < slot_count F → stop_keeps_on F p k s j ≡ true
  pub edges : (x : Place) (j : ℕ) → place_fits F x ≡ true → j < F.names → edge_is_ordered F p x j ≡ true
  pub room : (x : Place) → place_fits F x ≡ true → beyond_has_room F p x ≡ true
  pub chain_order : (i j : ℕ) → i < F.names → j < F.names → chain_is_ordered F p i j ≡ true
  pub pick_order : (k : KeyName) (i j s : ℕ) → i < F.names → j < F.names → s < slot_count F → pick_is_ordered F p k i j s ≡ true
