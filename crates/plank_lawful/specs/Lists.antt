-- The list of all rules of a frame, family by family.
use Rattle.std.specs.Prelude.{ℕ, zero, suc, List, [], ◌∷◌, ◌++◌}
use Rattle.std.specs.List.{flat_map}
use Rattle.plank_pic.specs.Frames.{Frame}
use Rattle.plank_lawful.specs.declared.families.NameRule.{NameRule}
use Rattle.plank_lawful.specs.declared.families.NodeRule.{NodeRule}
use Rattle.plank_lawful.specs.declared.families.PointerRule.{PointerRule}
use Rattle.plank_lawful.specs.declared.families.KeyRule.{KeyRule}
use Rattle.plank_lawful.specs.declared.families.WalkRule.{WalkRule}
use Rattle.plank_lawful.specs.declared.families.ChainRule.{ChainRule}
use Rattle.plank_lawful.specs.declared.families.KeptRule.{KeptRule}
use Rattle.plank_lawful.specs.declared.families.Family.{Family}
use Rattle.plank_lawful.specs.declared.families.Rule.{Rule}
use Rattle.plank_lawful.specs.Families.{count, shape_of}

-- the lists of the numbers below n, one after the other
unfoldable pub joined : {X : Type 0} → (ℕ → List X) → ℕ → List X
joined each zero = []
joined each (suc n) = joined each n ++ each n

abbrev pub rule : Family → ℕ → ℕ → ℕ → Rule
rule family a b c = record { family = family; first = a; second = b; third = c }

-- the rules of a family by its first two indexes, by its first, and all
abbrev pub rule_alone : Family → ℕ → ℕ → ℕ → List Rule
rule_alone family a b c = rule family a b c ∷ []

abbrev pub rules_by_third : Frame → Family → ℕ → ℕ → List Rule
rules_by_third F family a b = joined (rule_alone family a b) (count F (shape_of family).third a)

abbrev pub rules_by_second : Frame → Family → ℕ → List Rule
rules_by_second F family a = joined (rules_by_third F family a) (count F (shape_of family).second a)

abbrev pub rules_of : Frame → Family → List Rule
rules_of F family = joined (rules_by_second F family) (count F (shape_of family).first 0)

abbrev pub rules_of_all : Frame → List Family → List Rule
rules_of_all F families = flat_map (rules_of F) families

-- ---- the families

abbrev pub name_families : List Family
name_families =
    Family.Names NameRule.Itself ∷ Family.Names NameRule.BothWays ∷ Family.Names NameRule.Together ∷ Family.Names NameRule.NullNode
    ∷ Family.Names NameRule.NullFlag ∷ Family.Names NameRule.NullPointer ∷ Family.Names NameRule.Owned ∷ Family.Names NameRule.Held ∷ []

abbrev pub node_families : List Family
node_families =
    Family.Nodes NodeRule.Node ∷ Family.Nodes NodeRule.Flags ∷ Family.Nodes NodeRule.Visits ∷ Family.Nodes NodeRule.Pointers
    ∷ Family.Nodes NodeRule.Chains ∷ Family.Nodes NodeRule.Picks ∷ []

abbrev pub pointer_families : List Family
pointer_families =
    Family.Pointers PointerRule.Somewhere ∷ Family.Pointers PointerRule.Once ∷ Family.Pointers PointerRule.OneTarget
    ∷ Family.Pointers PointerRule.BeyondItself ∷ Family.Pointers PointerRule.BeyondBothWays ∷ Family.Pointers PointerRule.BeyondTogether ∷ []

abbrev pub key_families : List Family
key_families = Family.Keys KeyRule.Total ∷ Family.Keys KeyRule.InOrder ∷ Family.Keys KeyRule.Ends ∷ Family.Keys KeyRule.Ordinary ∷ []

abbrev pub walk_families : List Family
walk_families =
    Family.Walks WalkRule.Root ∷ Family.Walks WalkRule.RootVisited ∷ Family.Walks WalkRule.Unvisited ∷ Family.Walks WalkRule.Unreached
    ∷ Family.Walks WalkRule.GoesOn ∷ Family.Walks WalkRule.Stops ∷ []

abbrev pub chain_families : List Family
chain_families =
    Family.Chains ChainRule.Itself ∷ Family.Chains ChainRule.Begins ∷ Family.Chains ChainRule.GoesOn ∷ Family.Chains ChainRule.Grows
    ∷ Family.Chains ChainRule.Picks ∷ []

abbrev pub kept_families : List Family
kept_families =
    Family.Kept KeptRule.Published ∷ Family.Kept KeptRule.Keeps ∷ Family.Kept KeptRule.StopKeeps ∷ Family.Kept KeptRule.StopKeepsOn
    ∷ Family.Kept KeptRule.Edges ∷ Family.Kept KeptRule.Room ∷ Family.Kept KeptRule.Chains ∷ Family.Kept KeptRule.Picks ∷ []

-- the rules of possible pictures of a frame, and of lawful ones
abbrev pub rules_of_possible : Frame → List Rule
rules_of_possible F =
    rules_of_all F name_families ++ rules_of_all F node_families ++ rules_of_all F pointer_families ++ rules_of_all F key_families
    ++ rules_of_all F walk_families ++ rules_of_all F chain_families

abbrev pub rules_of_lawful : Frame → List Rule
rules_of_lawful F = rules_of_possible F ++ rules_of_all F kept_families
