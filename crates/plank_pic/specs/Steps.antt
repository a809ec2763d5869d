-- Steps of a picture: a write of one named node under the same names, and then other names for the nodes. Each part of the
-- picture after is determined by the picture before, or is free. The steps of turns stand on it, and the obligations of
-- writes look at the write alone.
use Rattle.std.specs.Prelude.{◌≡◌, ℕ, Bool, true, false, not, ◌&&◌, ◌||◌, length, Option, Some, None, is_none, if◌then◌else◌}
use Rattle.std.specs.Bool.{beq}
use Rattle.std.specs.Option.{option_map_or}
use Rattle.plank_prog.specs.declared.headers.Header.{Header}
use Rattle.plank_prog.specs.Conditions.{value}
use Rattle.plank_pic.specs.declared.parts.KeyName.{KeyName}
use Rattle.plank_pic.specs.declared.parts.Term.{Term}
use Rattle.plank_pic.specs.declared.parts.Place.{Place}
use Rattle.plank_pic.specs.declared.parts.Part.{Part}
use Rattle.plank_pic.specs.Frames.{Frame}
use Rattle.plank_pic.specs.declared.moves.Moved.{Moved}
use Rattle.plank_pic.specs.declared.parts.Outcome.{Outcome}
use Rattle.plank_pic.specs.Below.{some_below}
use Rattle.plank_pic.specs.Pictures.{Picture, place, target, node_view, stop_view, is_fast, is_picked}
use Rattle.plank_pic.specs.Outcomes.{outcome, passes, enters_by, first_name}
use Rattle.plank_pic.specs.Lawful.{part_fits, IsPossible}

-- ---- a write

-- what a block writes: the node that a name names, with these flags and pointers (to a name's node, or to null)
pub record Change : Type 0 where
  pub at : ℕ
  pub flag : ℕ → Option Bool
  pub pointer : ℕ → Option (Option ℕ)
  -- taken or freed
  pub lock : Option Bool
  -- whether the own thread writes; else the other does
  pub own : Bool

-- a written value is there, and what it is
abbrev pub or_else : {A : Type 0} → (A → Bool) → Option A → Bool → Bool
or_else test written before = option_map_or test written before

-- a part of the written node is new, and each other part is as before
abbrev pub if_written : Picture → Change → ℕ → Bool → Bool → Bool
if_written B c i new old = if B (Part.Same i c.at) then new else old

abbrev pub leads_there : Picture → Option ℕ → ℕ → Bool
leads_there B to j = option_map_or (λ v. B (Part.Same v j)) to false

abbrev pub is_null_value : Picture → Option ℕ → Bool
is_null_value B to = option_map_or (λ v. B (Part.Null v)) to true

abbrev pub is_beyond_still : Picture → Change → Place → Bool
is_beyond_still B c x = if_written B c x.name (is_none (c.pointer x.pointer)) true

-- the picture before with the new fields of the written node
abbrev pub mixed : Picture → Change → Picture
mixed B c (Part.Flag i f) = if_written B c i (or_else (λ b. b) (c.flag f) (B (Part.Flag i f))) (B (Part.Flag i f))
mixed B c (Part.PointerNull x) = if_written B c x.name (or_else (is_null_value B) (c.pointer x.pointer) (B (Part.PointerNull x))) (B (Part.PointerNull x))
mixed B c (Part.Leads x j) = if_written B c x.name (or_else (λ to. leads_there B to j) (c.pointer x.pointer) (B (Part.Leads x j))) (B (Part.Leads x j))
mixed B c (Part.Beyond x) = is_beyond_still B c x && B (Part.Beyond x)
mixed B c (Part.SameBeyond x y) = is_beyond_still B c x && is_beyond_still B c y && B (Part.SameBeyond x y)
mixed B c (Part.Locked i) = if_written B c i (or_else (λ taken. taken) c.lock (B (Part.Locked i))) (B (Part.Locked i))
mixed B c (Part.LockMine i) = if_written B c i (or_else (λ taken. taken && c.own) c.lock (B (Part.LockMine i))) (B (Part.LockMine i))
mixed B c (Part.LockOthers i) = if_written B c i (or_else (λ taken. taken && not c.own) c.lock (B (Part.LockOthers i))) (B (Part.LockOthers i))
mixed B c part = B part

-- ---- how the write moves a key's walk

-- what holds says where an outcome ends or stops, and None where it does neither
abbrev pub end_value : Header → Picture → KeyName → Outcome → Option Bool
end_value h p k (Outcome.EndsAt i) = Some (value (node_view p k i) h.holds)
end_value h p k (Outcome.StopsIn y q s) = Some (value (stop_view p k s) h.holds)
end_value h p k (Outcome.Leaves x) = None
end_value h p k Outcome.Cycles = None

-- both leave to one outside node, or both cycle
abbrev pub go_alike : Picture → Outcome → Outcome → Bool
go_alike B (Outcome.Leaves x) (Outcome.Leaves y) = B (Part.SameBeyond x y)
go_alike B Outcome.Cycles Outcome.Cycles = true
go_alike B o r = false

-- both end or stop
abbrev pub both_end : Option Bool → Option Bool → Moved
both_end (Some was) (Some now) = Moved.BothEnd was now
both_end (Some was) None = Moved.Apart
both_end None r = Moved.Apart

abbrev pub by_outcomes : Header → Picture → Picture → KeyName → Outcome → Outcome → Moved
by_outcomes h B M k o r = if go_alike B o r then Moved.Same else both_end (end_value h B k o) (end_value h M k r)

abbrev pub enters : Frame → Picture → KeyName → ℕ → Bool
enters F p k i = enters_by (target F p k) F.names (first_name F p i)

abbrev pub enters_either : Frame → Picture → Picture → KeyName → ℕ → Bool
enters_either F B M k i = enters F B k i || enters F M k i

abbrev pub movement : Frame → Picture → Picture → KeyName → ℕ → Moved
movement F B M k at =
    if not (B (Part.Visits k at)) then Moved.Untouched
    else if is_fast F.header B at && enters_either F B M k at then Moved.Apart
    else by_outcomes F.header B M k (outcome F B k at) (outcome F M k at)

-- ---- each part after the write: determined, or free

abbrev pub visit_moved : Frame → Picture → Picture → KeyName → ℕ → ℕ → Option Bool
visit_moved F B M k at i =
    if passes F M k at i then Some true
    else if passes F B k at i || (enters_either F B M k at && is_fast F.header B i) then None
    else Some (B (Part.Visits k i))

abbrev pub visit_after : Frame → Picture → Picture → KeyName → ℕ → ℕ → Moved → Option Bool
visit_after F B M k at i Moved.Untouched = Some (B (Part.Visits k i))
visit_after F B M k at i Moved.Same = visit_moved F B M k at i
visit_after F B M k at i (Moved.BothEnd was now) = visit_moved F B M k at i
visit_after F B M k at i Moved.Apart = None

-- a stop node that some chain has
abbrev pub stop_moved : Frame → Picture → Picture → KeyName → ℕ → ℕ → Option Bool
stop_moved F B M k at s =
    if is_picked F B k s && not (enters_either F B M k at) && not (is_fast F.header B at) then Some (B (Part.StopVisited k s)) else None

abbrev pub stop_after : Frame → Picture → Picture → KeyName → ℕ → ℕ → Moved → Option Bool
stop_after F B M k at s Moved.Untouched = Some (B (Part.StopVisited k s))
stop_after F B M k at s Moved.Same = stop_moved F B M k at s
stop_after F B M k at s (Moved.BothEnd was now) = stop_moved F B M k at s
stop_after F B M k at s Moved.Apart = None

abbrev pub set_after : Picture → KeyName → Moved → Option Bool
set_after B k Moved.Untouched = Some (B (Part.InSet k))
set_after B k Moved.Same = Some (B (Part.InSet k))
set_after B k (Moved.BothEnd was now) = Some now
set_after B k Moved.Apart = None

-- the value of a written pointer is shared from now on, if it is another node
abbrev pub is_published : Frame → Picture → Change → ℕ → Bool
is_published F B c i = not (B (Part.Same i c.at)) && some_below (λ f. option_map_or (λ to. leads_there B to i) (c.pointer f) false) (length F.header.pointers)

-- a chain that is true before stays where the written node was not fast; other chains between two nodes are free
abbrev pub chain_after : Frame → Picture → Change → ℕ → ℕ → Option Bool
chain_after F B c i j =
    if B (Part.Same i j) || (B (Part.Chain i j) && not (is_fast F.header B c.at)) then Some true else None

abbrev pub pick_after : Frame → Picture → Change → KeyName → ℕ → ℕ → ℕ → Option Bool
pick_after F B c k i j s =
    if B (Part.Chain i j) && not (is_fast F.header B c.at) then Some (B (Part.Picks k i j s)) else None

abbrev pub flag_of_stop_after : Frame → Picture → Change → KeyName → ℕ → ℕ → Option Bool
flag_of_stop_after F B c k s f =
    if is_picked F B k s && not (is_fast F.header B c.at) then Some (B (Part.StopFlag k s f)) else None

abbrev pub written : Frame → Picture → Change → Part → Option Bool
written F B c (Part.Shared i) = Some (B (Part.Shared i) || is_published F B c i)
written F B c (Part.Visits k i) = visit_after F B (mixed B c) k c.at i (movement F B (mixed B c) k c.at)
written F B c (Part.InSet k) = set_after B k (movement F B (mixed B c) k c.at)
written F B c (Part.StopVisited k s) = stop_after F B (mixed B c) k c.at s (movement F B (mixed B c) k c.at)
written F B c (Part.StopFlag k s f) = flag_of_stop_after F B c k s f
written F B c (Part.Chain i j) = chain_after F B c i j
written F B c (Part.Picks k i j s) = pick_after F B c k i j s
written F B c (Part.Mine i) = Some (B (Part.Mine i) && not (is_published F B c i))
written F B c Part.Spent = None
written F B c part = Some (mixed B c part)

-- what is determined is so
abbrev pub agrees_with : Option Bool → Bool → Bool
agrees_with determined b = option_map_or (beq b) determined true

-- the own call is spent by a write of its own that changes the set bit of its key
abbrev pub spent_after : Picture → Picture → Bool → Bool
spent_after B W own = B Part.Spent || (own && not (beq (B (Part.InSet KeyName.Own)) (W (Part.InSet KeyName.Own))))

pub record IsWrite (F : Frame) (c : Change) (B W : Picture) : Type 0 where
  pub at : B (Part.Null c.at) ≡ false
  pub parts : (part : Part) → part_fits F part ≡ true → agrees_with (written F B c part) (W part) ≡ true
  pub spent : W Part.Spent ≡ spent_after B W c.own

-- ---- other names

-- what a name names from now on
pub data Source : Type 0 where
  Of : ℕ → Source
  Null : Source
  -- a node just allocated, by the own thread
  Fresh : Source

abbrev pub of_name : (ℕ → Bool) → Bool → Bool → Source → Bool
of_name test null fresh (Of n) = test n
of_name test null fresh Null = null
of_name test null fresh Fresh = fresh

abbrev pub of_both : (ℕ → ℕ → Bool) → Bool → Source → Source → Bool
of_both test fresh (Of n) (Of m) = test n m
of_both test fresh Fresh Fresh = fresh
of_both test fresh s t = false

abbrev pub term_of : Source → Term
term_of (Of n) = Term.Node n
term_of Null = Term.Min
term_of Fresh = Term.Walked KeyName.Own

abbrev pub moved_term : (ℕ → Source) → Term → Term
moved_term from (Term.Node i) = term_of (from i)
moved_term from t = t

abbrev pub leads_after : Frame → (ℕ → Source) → Picture → Place → ℕ → Bool
leads_after F from W x j = of_both (λ n m. W (Part.Leads (place n x.pointer) m)) false (from x.name) (from j)

-- a pointer that is not null, and leads to no node that has a name
abbrev pub beyond_after : Frame → (ℕ → Source) → Picture → Place → Bool
beyond_after F from W x =
    of_name (λ n. not (W (Part.Null n)) && not (W (Part.PointerNull (place n x.pointer)))) false false (from x.name)
    && not (some_below (leads_after F from W x) F.names)

abbrev pub meet_beyond : Frame → Picture → Place → Place → Bool
meet_beyond F W x y = W (Part.SameBeyond x y) || some_below (λ m. W (Part.Leads x m) && W (Part.Leads y m)) F.names

abbrev pub picks_after : Picture → KeyName → ℕ → Source → Source → Option Bool
picks_after W k s (Of n) (Of m) = if W (Part.Beyond (place n 0)) then Some (W (Part.Picks k n m s)) else None
picks_after W k s r t = Some false

abbrev pub renamed : Frame → (ℕ → Source) → Picture → Part → Option Bool
renamed F from W (Part.Null i) = Some (of_name (λ n. W (Part.Null n)) true false (from i))
renamed F from W (Part.Same i j) = Some (of_both (λ n m. W (Part.Same n m)) true (from i) (from j))
renamed F from W (Part.Flag i f) = Some (of_name (λ n. W (Part.Flag n f)) false false (from i))
renamed F from W (Part.Shared i) = Some (of_name (λ n. W (Part.Shared n)) false false (from i))
renamed F from W (Part.Mine i) = Some (of_name (λ n. W (Part.Mine n)) false true (from i))
renamed F from W (Part.Locked i) = Some (of_name (λ n. W (Part.Locked n)) false false (from i))
renamed F from W (Part.LockMine i) = Some (of_name (λ n. W (Part.LockMine n)) false false (from i))
renamed F from W (Part.LockOthers i) = Some (of_name (λ n. W (Part.LockOthers n)) false false (from i))
renamed F from W (Part.PointerNull x) = Some (of_name (λ n. W (Part.PointerNull (place n x.pointer))) false true (from x.name))
renamed F from W (Part.Leads x j) = Some (leads_after F from W x j)
renamed F from W (Part.Beyond x) = Some (beyond_after F from W x)
renamed F from W (Part.SameBeyond x y) = Some (beyond_after F from W x && beyond_after F from W y && of_both (λ n m. meet_beyond F W (place n x.pointer) (place m y.pointer)) false (from x.name) (from y.name))
renamed F from W (Part.AtMost s t) = Some (W (Part.AtMost (moved_term from s) (moved_term from t)))
renamed F from W (Part.Visits k i) = Some (of_name (λ n. W (Part.Visits k n)) false false (from i))
renamed F from W (Part.Chain i j) = Some (of_both (λ n m. W (Part.Chain n m)) true (from i) (from j))
renamed F from W (Part.Picks k i j s) = picks_after W k s (from i) (from j)
renamed F from W part = Some (W part)

pub record IsRenaming (F : Frame) (from : ℕ → Source) (W A : Picture) : Type 0 where
  pub parts : (part : Part) → part_fits F part ≡ true → agrees_with (renamed F from W part) (A part) ≡ true

-- ---- the step: a write or none, and then other names; the picture after is possible

pub data WritesOrNot (F : Frame) : Option Change → Picture → Picture → Type 0 where
  nothing : {B : Picture} → WritesOrNot F None B B
  write : {c : Change} {B W : Picture} → IsWrite F c B W → WritesOrNot F (Some c) B W

pub record IsPictureStep (F : Frame) (c : Option Change) (from : ℕ → Source) (B A : Picture) : Type 0 where
  pub between : Picture
  pub writes : WritesOrNot F c B between
  pub names : IsRenaming F from between A
  pub possible : IsPossible F A
