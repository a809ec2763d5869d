-- Rows of cells of a whole picture. The rules of some families ask first, for each second index, whether one part is said,
-- and nothing more where it is not; such parts have the cells of one row.
use Rattle.std.specs.Prelude.{ℕ, Bool, false, List, Option, Some, None}
use Rattle.plank_pic.specs.declared.parts.Part.{Part}
use Rattle.plank_pic.specs.Frames.{Frame}
use Rattle.plank_lawful.specs.declared.families.NameRule.{NameRule}
use Rattle.plank_lawful.specs.declared.families.PointerRule.{PointerRule}
use Rattle.plank_lawful.specs.declared.families.WalkRule.{WalkRule}
use Rattle.plank_lawful.specs.declared.families.ChainRule.{ChainRule}
use Rattle.plank_lawful.specs.declared.families.KeptRule.{KeptRule}
use Rattle.plank_lawful.specs.declared.families.Family.{Family}
use Rattle.plank_lawful.specs.Indexes.{place_at}
use Rattle.plank_parts.specs.Codes.{part_code}
use Rattle.plank_whole.specs.Cells.{is_unsaid}

abbrev pub same_row : ℕ → Option ℕ
same_row i = Some (part_code (Part.Same i 0))

abbrev pub chains_row : ℕ → Option ℕ
chains_row i = Some (part_code (Part.Chain i 0))

abbrev pub leads_row : Frame → ℕ → Option ℕ
leads_row F x = Some (part_code (Part.Leads (place_at F x) 0))

abbrev pub name_row : NameRule → ℕ → Option ℕ
name_row NameRule.Itself i = None
name_row NameRule.BothWays i = None
name_row NameRule.Together i = same_row i
name_row NameRule.NullNode i = None
name_row NameRule.NullFlag i = None
name_row NameRule.NullPointer i = None
name_row NameRule.Owned i = None
name_row NameRule.Held i = None

abbrev pub pointer_row : Frame → PointerRule → ℕ → Option ℕ
pointer_row F PointerRule.Somewhere x = None
pointer_row F PointerRule.Once x = None
pointer_row F PointerRule.OneTarget x = leads_row F x
pointer_row F PointerRule.BeyondItself x = None
pointer_row F PointerRule.BeyondBothWays x = None
pointer_row F PointerRule.BeyondTogether x = None

abbrev pub walk_row : Frame → WalkRule → ℕ → Option ℕ
walk_row F WalkRule.Root a = None
walk_row F WalkRule.RootVisited a = None
walk_row F WalkRule.Unvisited a = None
walk_row F WalkRule.Unreached x = leads_row F x
walk_row F WalkRule.GoesOn a = None
walk_row F WalkRule.Stops a = None

abbrev pub chain_row : ChainRule → ℕ → Option ℕ
chain_row ChainRule.Itself i = same_row i
chain_row ChainRule.Begins i = chains_row i
chain_row ChainRule.GoesOn i = chains_row i
chain_row ChainRule.Grows i = chains_row i
chain_row ChainRule.Picks a = None

abbrev pub kept_row : Frame → KeptRule → ℕ → Option ℕ
kept_row F KeptRule.Published x = leads_row F x
kept_row F KeptRule.Keeps a = None
kept_row F KeptRule.StopKeeps a = None
kept_row F KeptRule.StopKeepsOn a = None
kept_row F KeptRule.Edges x = leads_row F x
kept_row F KeptRule.Room x = None
kept_row F KeptRule.Chains i = chains_row i
kept_row F KeptRule.Picks a = None

-- where the row of a family and a first index begins
abbrev pub row_of : Frame → Family → ℕ → Option ℕ
row_of F (Family.Names rule) a = name_row rule a
row_of F (Family.Nodes rule) a = same_row a
row_of F (Family.Pointers rule) a = pointer_row F rule a
row_of F (Family.Keys rule) a = None
row_of F (Family.Walks rule) a = walk_row F rule a
row_of F (Family.Chains rule) a = chain_row rule a
row_of F (Family.Kept rule) a = kept_row F rule a

-- its cell at a second index says no
abbrev pub is_idle : List Bool → Option ℕ → ℕ → Bool
is_idle said (Some base) b = is_unsaid said base b
is_idle said None b = false
