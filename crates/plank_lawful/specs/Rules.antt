-- The rules of lawful pictures as families with indexes: for each family what it asks of a picture at given indexes.
use Rattle.std.specs.Prelude.{ℕ, Bool, not, ◌&&◌, ◌||◌, Option, Some, None}
use Rattle.std.specs.Bool.{beq}
use Rattle.plank_pic.specs.declared.parts.KeyName.{KeyName}
use Rattle.plank_pic.specs.declared.parts.Term.{Term}
use Rattle.plank_pic.specs.declared.parts.Place.{Place}
use Rattle.plank_pic.specs.declared.parts.Part.{Part}
use Rattle.plank_pic.specs.declared.parts.Target.{Target}
use Rattle.plank_pic.specs.Frames.{Frame}
use Rattle.plank_pic.specs.Pictures.{Picture, place, same_key, edge, target, is_fast, chains_on, is_picked, node_view, stop_view}
use Rattle.plank_pic.specs.Lawful as lawful
use Rattle.plank_pic.specs.Lawful.{◌⇒◌}
use Rattle.plank_lawful.specs.declared.asking.Pair.{Pair}
use Rattle.plank_lawful.specs.declared.asking.Asked.{Asked}
use Rattle.plank_lawful.specs.declared.families.NameRule.{NameRule}
use Rattle.plank_lawful.specs.declared.families.NodeRule.{NodeRule}
use Rattle.plank_lawful.specs.declared.families.PointerRule.{PointerRule}
use Rattle.plank_lawful.specs.declared.families.KeyRule.{KeyRule}
use Rattle.plank_lawful.specs.declared.families.WalkRule.{WalkRule}
use Rattle.plank_lawful.specs.declared.families.ChainRule.{ChainRule}
use Rattle.plank_lawful.specs.declared.families.KeptRule.{KeptRule}
use Rattle.plank_lawful.specs.declared.families.Family.{Family}
use Rattle.plank_lawful.specs.declared.families.Rule.{Rule}
use Rattle.plank_lawful.specs.Asked.{all_below, passes}
use Rattle.plank_lawful.specs.Indexes.{key_at, place_at, term_at, fixed_count}

-- each name passes
abbrev pub each_name : Frame → Picture → Asked → Bool
each_name F p asked = all_below (passes p asked) F.names

-- ---- names

-- whether two names name one node does not go by their order
abbrev pub same_both_ways : Picture → ℕ → ℕ → Bool
same_both_ways p i j = lawful.same_is_symmetric p i j && lawful.same_is_symmetric p j i

-- two names of one node are the same for each name
abbrev pub same_go_together : Frame → Picture → ℕ → ℕ → Bool
same_go_together F p i j = p (Part.Same i j) ⇒ each_name F p (Asked.SameAs i j)

-- a name that is null has no node of its own, and no chain leads to it
abbrev pub null_has_no_node : Frame → Picture → ℕ → Bool
null_has_no_node F p i = p (Part.Null i) ⇒
    (not (p (Part.Shared i)) && not (p (Part.Mine i)) && not (p (Part.Locked i)) && each_name F p (Asked.NoChainTo i))

abbrev pub null_has_no_pointer : Frame → Picture → Place → Bool
null_has_no_pointer F p x = p (Part.Null x.name) ⇒
    (not (p (Part.PointerNull x)) && not (p (Part.Beyond x)) && each_name F p (Asked.LeadsNowhere x))

-- ---- names of one node

abbrev pub owners_agree : Picture → ℕ → ℕ → Bool
owners_agree p i j = beq (p (Part.Shared i)) (p (Part.Shared j)) && beq (p (Part.Mine i)) (p (Part.Mine j))

abbrev pub locks_agree : Picture → ℕ → ℕ → Bool
locks_agree p i j =
    beq (p (Part.Locked i)) (p (Part.Locked j)) && beq (p (Part.LockMine i)) (p (Part.LockMine j)) && beq (p (Part.LockOthers i)) (p (Part.LockOthers j))

abbrev pub nodes_agree : Picture → ℕ → ℕ → Bool
nodes_agree p i j = p (Part.Same i j) ⇒ (owners_agree p i j && locks_agree p i j && same_key p (Term.Node i) (Term.Node j))

abbrev pub flags_agree : Picture → ℕ → ℕ → ℕ → Bool
flags_agree p i j f = p (Part.Same i j) ⇒ beq (p (Part.Flag i f)) (p (Part.Flag j f))

abbrev pub visits_agree : Picture → ℕ → ℕ → KeyName → Bool
visits_agree p i j k = p (Part.Same i j) ⇒ beq (p (Part.Visits k i)) (p (Part.Visits k j))

-- pointers that lead outside lead to one node
abbrev pub ends_agree : Picture → Place → Place → Bool
ends_agree p x y = beq (p (Part.PointerNull x)) (p (Part.PointerNull y)) && beq (p (Part.Beyond x)) (p (Part.Beyond y)) && (p (Part.Beyond x) ⇒ p (Part.SameBeyond x y))

abbrev pub pointers_agree : Frame → Picture → ℕ → ℕ → ℕ → Bool
pointers_agree F p i j f = p (Part.Same i j) ⇒ (ends_agree p (place i f) (place j f) && each_name F p (Asked.LeadsAlike i j f))

abbrev pub chains_agree : Frame → Picture → ℕ → ℕ → Bool
chains_agree F p i j = p (Part.Same i j) ⇒ each_name F p (Asked.ChainsAlike i j)

abbrev pub pair : ℕ → ℕ → Pair
pair i j = record { left = i; right = j }

abbrev pub picks_agree : Frame → Picture → ℕ → ℕ → KeyName → Bool
picks_agree F p i j k = p (Part.Same i j) ⇒ (each_name F p (Asked.PicksAlike k (pair i j) 0) && each_name F p (Asked.PicksAlike k (pair i j) 1))

-- ---- pointers

abbrev pub leads_once : Frame → Picture → Place → Bool
leads_once F p x =
    not (p (Part.PointerNull x) && p (Part.Beyond x)) && ((p (Part.PointerNull x) || p (Part.Beyond x)) ⇒ each_name F p (Asked.LeadsNowhere x))

-- the names to which a pointer leads are names of one node
abbrev pub leads_to_one : Frame → Picture → Place → ℕ → Bool
leads_to_one F p x j = p (Part.Leads x j) ⇒ each_name F p (Asked.LeadsTo x j)

abbrev pub beyond_both_ways : Picture → Place → Place → Bool
beyond_both_ways p x y = lawful.beyond_is_symmetric p x y && lawful.beyond_is_symmetric p y x

abbrev pub beyond_go_together : Frame → Picture → Place → Place → ℕ → Bool
beyond_go_together F p x y f = p (Part.SameBeyond x y) ⇒ each_name F p (Asked.BeyondAs x y f)

-- ---- keys

-- what lies at or above the one lies at or above what is below it
abbrev pub order_goes_on : Frame → Picture → Term → Term → Bool
order_goes_on F p s t = p (Part.AtMost s t) ⇒ (each_name F p (Asked.NodeFollows s t) && all_below (passes p (Asked.TermFollows s t)) (fixed_count F))

-- ---- walks

-- a visited node sends a key on to each name that its edge leads to, to what it finds outside, or gives the set bit
abbrev pub sends_by : Frame → Picture → KeyName → ℕ → Option ℕ → Bool
sends_by F p k i None = lawful.arrives F p k i Target.Ends
sends_by F p k i (Some f) = each_name F p (Asked.VisitedFrom k (place i f)) && (p (Part.Beyond (place i f)) ⇒ lawful.arrives F p k i (target F p k i))

abbrev pub visit_sends_on : Frame → Picture → KeyName → ℕ → Bool
visit_sends_on F p k i = p (Part.Visits k i) ⇒ sends_by F p k i (edge F.header p k i)

-- ---- chains

abbrev pub chain_goes_on : Frame → Picture → ℕ → ℕ → Bool
chain_goes_on F p i j = chains_on p i j ⇒ each_name F p (Asked.ChainGoesOn i j)

abbrev pub chain_grows : Frame → Picture → ℕ → ℕ → Bool
chain_grows F p i j = (p (Part.Chain i j) && is_fast F.header p j) ⇒ each_name F p (Asked.ChainGrows i j)

abbrev pub picks_are_right : Frame → Picture → KeyName → ℕ → ℕ → Bool
picks_are_right F p k i j = lawful.pick_is_right F p k i j 0 && lawful.pick_is_right F p k i j 1 && lawful.picks_once p k i j

abbrev pub picks_are_ordered : Frame → Picture → KeyName → ℕ → ℕ → Bool
picks_are_ordered F p k i j = lawful.pick_is_ordered F p k i j 0 && lawful.pick_is_ordered F p k i j 1

-- ---- keeps

abbrev pub node_keeps : Frame → Picture → KeyName → ℕ → Bool
node_keeps F p k i = p (Part.Shared i) ⇒ lawful.keeps_hold F.header (node_view p k i)

abbrev pub stop_keeps : Frame → Picture → KeyName → ℕ → Bool
stop_keeps F p k s = is_picked F p k s ⇒ lawful.keeps_hold F.header (stop_view p k s)

-- ---- the families, by their indexes

abbrev pub name_rule_holds : Frame → Picture → NameRule → ℕ → ℕ → Bool
name_rule_holds F p NameRule.Itself i j = lawful.names_itself p i
name_rule_holds F p NameRule.BothWays i j = same_both_ways p i j
name_rule_holds F p NameRule.Together i j = same_go_together F p i j
name_rule_holds F p NameRule.NullNode i j = null_has_no_node F p i
name_rule_holds F p NameRule.NullFlag i f = lawful.null_is_bare p i (Part.Flag i f)
name_rule_holds F p NameRule.NullPointer x j = null_has_no_pointer F p (place_at F x)
name_rule_holds F p NameRule.Owned i j = lawful.owned_once p i
name_rule_holds F p NameRule.Held i j = lawful.held_once p i

abbrev pub node_rule_holds : Frame → Picture → NodeRule → ℕ → ℕ → ℕ → Bool
node_rule_holds F p NodeRule.Node i j c = nodes_agree p i j
node_rule_holds F p NodeRule.Flags i j f = flags_agree p i j f
node_rule_holds F p NodeRule.Visits i j k = visits_agree p i j (key_at k)
node_rule_holds F p NodeRule.Pointers i j f = pointers_agree F p i j f
node_rule_holds F p NodeRule.Chains i j c = chains_agree F p i j
node_rule_holds F p NodeRule.Picks i j k = picks_agree F p i j (key_at k)

abbrev pub pointer_rule_holds : Frame → Picture → PointerRule → ℕ → ℕ → ℕ → Bool
pointer_rule_holds F p PointerRule.Somewhere x j c = lawful.leads_somewhere F p (place_at F x)
pointer_rule_holds F p PointerRule.Once x j c = leads_once F p (place_at F x)
pointer_rule_holds F p PointerRule.OneTarget x j c = leads_to_one F p (place_at F x) j
pointer_rule_holds F p PointerRule.BeyondItself x j c = lawful.beyond_itself p (place_at F x)
pointer_rule_holds F p PointerRule.BeyondBothWays x y c = beyond_both_ways p (place_at F x) (place_at F y)
pointer_rule_holds F p PointerRule.BeyondTogether x y f = beyond_go_together F p (place_at F x) (place_at F y) f

abbrev pub key_rule_holds : Frame → Picture → KeyRule → ℕ → ℕ → Bool
key_rule_holds F p KeyRule.Total s t = lawful.order_is_total p (term_at F s) (term_at F t)
key_rule_holds F p KeyRule.InOrder s t = order_goes_on F p (term_at F s) (term_at F t)
key_rule_holds F p KeyRule.Ends t c = lawful.lies_between_ends p (term_at F t)
key_rule_holds F p KeyRule.Ordinary k c = lawful.is_ordinary_key p (key_at k)

abbrev pub walk_rule_holds : Frame → Picture → WalkRule → ℕ → ℕ → Bool
walk_rule_holds F p WalkRule.Root i c = lawful.root_is_right F p i
walk_rule_holds F p WalkRule.RootVisited k i = lawful.root_is_visited F p (key_at k) i
walk_rule_holds F p WalkRule.Unvisited k i = lawful.own_is_unvisited p (key_at k) i
walk_rule_holds F p WalkRule.Unreached x j = lawful.own_is_unreached p (place_at F x) j
walk_rule_holds F p WalkRule.GoesOn k i = visit_sends_on F p (key_at k) i
walk_rule_holds F p WalkRule.Stops k s = lawful.stop_is_right F p (key_at k) s

abbrev pub chain_rule_holds : Frame → Picture → ChainRule → ℕ → ℕ → ℕ → Bool
chain_rule_holds F p ChainRule.Itself i j c = lawful.chain_of_itself p i j
chain_rule_holds F p ChainRule.Begins i j c = lawful.chain_begins F p i j
chain_rule_holds F p ChainRule.GoesOn i j c = chain_goes_on F p i j
chain_rule_holds F p ChainRule.Grows i j c = chain_grows F p i j
chain_rule_holds F p ChainRule.Picks k i j = picks_are_right F p (key_at k) i j

-- what lawful pictures have besides
abbrev pub kept_rule_holds : Frame → Picture → KeptRule → ℕ → ℕ → ℕ → Bool
kept_rule_holds F p KeptRule.Published x j c = lawful.leads_to_shared p (place_at F x) j
kept_rule_holds F p KeptRule.Keeps k i c = node_keeps F p (key_at k) i
kept_rule_holds F p KeptRule.StopKeeps k s c = stop_keeps F p (key_at k) s
kept_rule_holds F p KeptRule.StopKeepsOn k s j = lawful.stop_keeps_on F p (key_at k) s (key_at j)
kept_rule_holds F p KeptRule.Edges x j c = lawful.edge_is_ordered F p (place_at F x) j
kept_rule_holds F p KeptRule.Room x j c = lawful.beyond_has_room F p (place_at F x)
kept_rule_holds F p KeptRule.Chains i j c = lawful.chain_is_ordered F p i j
kept_rule_holds F p KeptRule.Picks k i j = picks_are_ordered F p (key_at k) i j

abbrev pub family_holds : Frame → Picture → Family → ℕ → ℕ → ℕ → Bool
family_holds F p (Family.Names rule) a b c = name_rule_holds F p rule a b
family_holds F p (Family.Nodes rule) a b c = node_rule_holds F p rule a b c
family_holds F p (Family.Pointers rule) a b c = pointer_rule_holds F p rule a b c
family_holds F p (Family.Keys rule) a b c = key_rule_holds F p rule a b
family_holds F p (Family.Walks rule) a b c = walk_rule_holds F p rule a b
family_holds F p (Family.Chains rule) a b c = chain_rule_holds F p rule a b c
family_holds F p (Family.Kept rule) a b c = kept_rule_holds F p rule a b c

-- whether a rule holds in a picture
abbrev pub rule_holds : Frame → Rule → Picture → Bool
rule_holds F r p = family_holds F p r.family r.first r.second r.third
