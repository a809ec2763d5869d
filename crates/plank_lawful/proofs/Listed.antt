-- The lists of rules have each rule of the frame, and no other.
use Rattle.std.proofs.Common.{◌≡◌, zero, suc, ◌<◌, Bool, true, length, List, [], ◌∷◌, ◌++◌, refl, sym, ap, subst, inl, inr, arith}
use Rattle.std.specs.Prelude.{slice_index_or}
use Rattle.std.specs.List.{All, Contains, flat_map, list_all}
use Rattle.std.proofs.lemmas.Bool.{and_parts, true≢false}
use Rattle.std.proofs.lemmas.List.Elements.{All-contains, All-contains_itself, Contains-append_left, Contains-append_right, Contains-append_cases}
use Rattle.plank_pic.specs.Frames.{Frame}
use Rattle.plank_lawful.specs.declared.families.NameRule.{NameRule}
use Rattle.plank_lawful.specs.declared.families.NodeRule.{NodeRule}
use Rattle.plank_lawful.specs.declared.families.PointerRule.{PointerRule}
use Rattle.plank_lawful.specs.declared.families.KeyRule.{KeyRule}
use Rattle.plank_lawful.specs.declared.families.WalkRule.{WalkRule}
use Rattle.plank_lawful.specs.declared.families.ChainRule.{ChainRule}
use Rattle.plank_lawful.specs.declared.families.KeptRule.{KeptRule}
use Rattle.plank_lawful.specs.declared.families.Family.{Family}
use Rattle.plank_lawful.specs.declared.families.Rule.{Rule}
use Rattle.plank_lawful.specs.Families.{count, shape_of, IsWithin, is_possible, ListsRules, ListsPossible}
use Rattle.plank_lawful.specs.Lists
use Rattle.plank_lawful.specs.Lists.{joined, rule, rule_alone, rules_by_third, rules_by_second, rules_of, rules_of_all, rules_of_possible, rules_of_lawful}
use Rattle.plank_pic.specs.Pictures.{Picture}
use Rattle.plank_lawful.specs.Laws.{Holds, MeetsPossible, MeetsRules, ListsAll}
use Rattle.plank_lawful.proofs.Joined.{joined_there, joined_from}

-- ---- lists

flat_there : {X Y : Type 0} (f : X → List Y) (xs : List X) (x : X) (y : Y) → Contains xs x → Contains (f x) y → Contains (flat_map f xs) y
flat_there f [] x y (k, h, e) has = let below : k < 0 = h in absurd (omega arith)
flat_there f (z ∷ xs) x y (zero, h, e) has = Contains-append_left (f z) (flat_map f xs) y (subst (λ v. Contains (f v) y) (sym e) has)
flat_there f (z ∷ xs) x y (suc k, h, e) has = let below : suc k < suc (length xs) = h in Contains-append_right (f z) (flat_map f xs) y (flat_there f xs x y (k, omega arith, e) has)

flat_from : {X Y : Type 0} (f : X → List Y) (xs : List X) (y : Y) → Contains (flat_map f xs) y → (x : X) × Contains xs x × Contains (f x) y
flat_from f [] y (k, h, e) = let below : k < 0 = h in absurd (omega arith)
flat_from f (z ∷ xs) y has =
    elim (Contains-append_cases (f z) (flat_map f xs) y has) [
      | inl now ↦ (z, (0, omega arith, refl), now)
      | inr later ↦ (let w = flat_from f xs y later in let there = w.1 in let below : there.0 < length xs = there.1 in (w.0, (suc there.0, omega arith, there.2), w.2))
    ]

pub passes_in : {X : Type 0} (test : X → Bool) (xs : List X) (x : X) → list_all test xs ≡ true → Contains xs x → test x ≡ true
passes_in test [] x all (k, h, e) = let below : k < 0 = h in absurd (omega arith)
passes_in test (z ∷ xs) x all (zero, h, e) = subst (λ v. test v ≡ true) e (and_parts (test z) (list_all test xs) all).0
passes_in test (z ∷ xs) x all (suc k, h, e) = let below : suc k < suc (length xs) = h in passes_in test xs x (and_parts (test z) (list_all test xs) all).1 (k, omega arith, e)

alone : {X : Type 0} (x y : X) → Contains (x ∷ []) y → x ≡ y
alone x y (zero, h, e) = e
alone x y (suc k, h, e) = let below : suc k < 1 = h in absurd (omega arith)

-- six lists after each other
module _ {X : Type 0} (a b c d e f : List X) (x : X) where
  in_first : Contains a x → Contains (a ++ b ++ c ++ d ++ e ++ f) x
  in_first h = Contains-append_left (a ++ b ++ c ++ d ++ e) f x (Contains-append_left (a ++ b ++ c ++ d) e x (Contains-append_left (a ++ b ++ c) d x (Contains-append_left (a ++ b) c x (Contains-append_left a b x h))))

  in_second : Contains b x → Contains (a ++ b ++ c ++ d ++ e ++ f) x
  in_second h = Contains-append_left (a ++ b ++ c ++ d ++ e) f x (Contains-append_left (a ++ b ++ c ++ d) e x (Contains-append_left (a ++ b ++ c) d x (Contains-append_left (a ++ b) c x (Contains-append_right a b x h))))

  in_third : Contains c x → Contains (a ++ b ++ c ++ d ++ e ++ f) x
  in_third h = Contains-append_left (a ++ b ++ c ++ d ++ e) f x (Contains-append_left (a ++ b ++ c ++ d) e x (Contains-append_left (a ++ b ++ c) d x (Contains-append_right (a ++ b) c x h)))

  in_fourth : Contains d x → Contains (a ++ b ++ c ++ d ++ e ++ f) x
  in_fourth h = Contains-append_left (a ++ b ++ c ++ d ++ e) f x (Contains-append_left (a ++ b ++ c ++ d) e x (Contains-append_right (a ++ b ++ c) d x h))

  in_fifth : Contains e x → Contains (a ++ b ++ c ++ d ++ e ++ f) x
  in_fifth h = Contains-append_left (a ++ b ++ c ++ d ++ e) f x (Contains-append_right (a ++ b ++ c ++ d) e x h)

  in_sixth : Contains f x → Contains (a ++ b ++ c ++ d ++ e ++ f) x
  in_sixth h = Contains-append_right (a ++ b ++ c ++ d ++ e) f x h

  of_six : (P : Type 0) → (Contains a x → P) → (Contains b x → P) → (Contains c x → P) → (Contains d x → P) → (Contains e x → P) → (Contains f x → P) → Contains (a ++ b ++ c ++ d ++ e ++ f) x → P
  of_six P pa pb pc pd pe pf has =
      elim (Contains-append_cases (a ++ b ++ c ++ d ++ e) f x has) [
        | inr h ↦ pf h
        | inl more ↦ elim (Contains-append_cases (a ++ b ++ c ++ d) e x more) [
          | inr h ↦ pe h
          | inl more ↦ elim (Contains-append_cases (a ++ b ++ c) d x more) [
            | inr h ↦ pd h
            | inl more ↦ elim (Contains-append_cases (a ++ b) c x more) [
              | inr h ↦ pc h
              | inl more ↦ elim (Contains-append_cases a b x more) [ inr h ↦ pb h | inl h ↦ pa h ]
            ]
          ]
        ]
      ]

-- ---- the rules of a family

module _ (F : Frame) where
  in_family : (r : Rule) → IsWithin F r → Contains (rules_of F r.family) r
  in_family r w =
      joined_there (rules_by_second F r.family) (count F (shape_of r.family).first 0) r.first r w.first
      (joined_there (rules_by_third F r.family r.first) (count F (shape_of r.family).second r.first) r.second r w.second
      (joined_there (rule_alone r.family r.first r.second) (count F (shape_of r.family).third r.first) r.third r w.third (0, omega arith, refl)))

  from_family : (family : Family) (r : Rule) → Contains (rules_of F family) r → (family ≡ r.family) × IsWithin F r
  from_family family r has =
      let a = joined_from (rules_by_second F family) (count F (shape_of family).first 0) r has in
      let b = joined_from (rules_by_third F family a.0) (count F (shape_of family).second a.0) r a.2 in
      let c = joined_from (rule_alone family a.0 b.0) (count F (shape_of family).third a.0) r b.2 in
      let same : rule family a.0 b.0 c.0 ≡ r = alone (rule family a.0 b.0 c.0) r c.2 in
      (ap (λ v. v.family) same, subst (IsWithin F) same (record { first = a.1; second = b.1; third = c.1 }))

  from_all : (families : List Family) (r : Rule) → Contains (rules_of_all F families) r → Contains families r.family × IsWithin F r
  from_all families r has =
      let w = flat_from (rules_of F) families r has in
      let u = from_family w.0 r w.2 in
      (subst (Contains families) u.0 w.1, u.1)

  -- ---- each family is in its list
  pub name_there : (rule : NameRule) → Contains Lists.name_families (Family.Names rule)
  name_there NameRule.Itself = (0, omega arith, refl)
  name_there NameRule.BothWays = (1, omega arith, refl)
  name_there NameRule.Together = (2, omega arith, refl)
  name_there NameRule.NullNode = (3, omega arith, refl)
  name_there NameRule.NullFlag = (4, omega arith, refl)
  name_there NameRule.NullPointer = (5, omega arith, refl)
  name_there NameRule.Owned = (6, omega arith, refl)
  name_there NameRule.Held = (7, omega arith, refl)

  pub node_there : (rule : NodeRule) → Contains Lists.node_families (Family.Nodes rule)
  node_there NodeRule.Node = (0, omega arith, refl)
  node_there NodeRule.Flags = (1, omega arith, refl)
  node_there NodeRule.Visits = (2, omega arith, refl)
  node_there NodeRule.Pointers = (3, omega arith, refl)
  node_there NodeRule.Chains = (4, omega arith, refl)
  node_there NodeRule.Picks = (5, omega arith, refl)

  pub pointer_there : (rule : PointerRule) → Contains Lists.pointer_families (Family.Pointers rule)
  pointer_there PointerRule.Somewhere = (0, omega arith, refl)
  pointer_there PointerRule.Once = (1, omega arith, refl)
  pointer_there PointerRule.OneTarget = (2, omega arith, refl)
  pointer_there PointerRule.BeyondItself = (3, omega arith, refl)
  pointer_there PointerRule.BeyondBothWays = (4, omega arith, refl)
  pointer_there PointerRule.BeyondTogether = (5, omega arith, refl)

  pub key_there : (rule : KeyRule) → Contains Lists.key_families (Family.Keys rule)
  key_there KeyRule.Total = (0, omega arith, refl)
  key_there KeyRule.InOrder = (1, omega arith, refl)
  key_there KeyRule.Ends = (2, omega arith, refl)
  key_there KeyRule.Ordinary = (3, omega arith, refl)

  pub walk_there : (rule : WalkRule) → Contains Lists.walk_families (Family.Walks rule)
  walk_there WalkRule.Root = (0, omega arith, refl)
  walk_there WalkRule.RootVisited = (1, omega arith, refl)
  walk_there WalkRule.Unvisited = (2, omega arith, refl)
  walk_there WalkRule.Unreached = (3, omega arith, refl)
  walk_there WalkRule.GoesOn = (4, omega arith, refl)
  walk_there WalkRule.Stops = (5, omega arith, refl)

  pub chain_there : (rule : ChainRule) → Contains Lists.chain_families (Family.Chains rule)
  chain_there ChainRule.Itself = (0, omega arith, refl)
  chain_there ChainRule.Begins = (1, omega arith, refl)
  chain_there ChainRule.GoesOn = (2, omega arith, refl)
  chain_there ChainRule.Grows = (3, omega arith, refl)
  chain_there ChainRule.Picks = (4, omega arith, refl)

  pub kept_there : (rule : KeptRule) → Contains Lists.kept_families (Family.Kept rule)
  kept_there KeptRule.Published = (0, omega arith, refl)
  kept_there KeptRule.Keeps = (1, omega arith, refl)
  kept_there KeptRule.StopKeeps = (2, omega arith, refl)
  kept_there KeptRule.StopKeepsOn = (3, omega arith, refl)
  kept_there KeptRule.Edges = (4, omega arith, refl)
  kept_there KeptRule.Room = (5, omega arith, refl)
  kept_there KeptRule.Chains = (6, omega arith, refl)
  kept_there KeptRule.Picks = (7, omega arith, refl)

  -- ---- the whole
  module _ (r : Rule) (family : Family) (has : Contains (rules_of F family) r) where
    among : (families : List Family) → Contains families family → Contains (rules_of_all F families) r
    among families there = flat_there (rules_of F) families family r there has

  possible_there : (family : Family) → is_possible family ≡ true → (r : Rule) → Contains (rules_of F family) r → Contains (rules_of_possible F) r
  possible_there (Family.Names rule) poss r has = in_first (rules_of_all F Lists.name_families) (rules_of_all F Lists.node_families) (rules_of_all F Lists.pointer_families) (rules_of_all F Lists.key_families) (rules_of_all F Lists.walk_families) (rules_of_all F Lists.chain_families) r (among r (Family.Names rule) has Lists.name_families (name_there rule))
  possible_there (Family.Nodes rule) poss r has = in_second (rules_of_all F Lists.name_families) (rules_of_all F Lists.node_families) (rules_of_all F Lists.pointer_families) (rules_of_all F Lists.key_families) (rules_of_all F Lists.walk_families) (rules_of_all F Lists.chain_families) r (among r (Family.Nodes rule) has Lists.node_families (node_there rule))
  possible_there (Family.Pointers rule) poss r has = in_third (rules_of_all F Lists.name_families) (rules_of_all F Lists.node_families) (rules_of_all F Lists.pointer_families) (rules_of_all F Lists.key_families) (rules_of_all F Lists.walk_families) (rules_of_all F Lists.chain_families) r (among r (Family.Pointers rule) has Lists.pointer_families (pointer_there rule))
  possible_there (Family.Keys rule) poss r has = in_fourth (rules_of_all F Lists.name_families) (rules_of_all F Lists.node_families) (rules_of_all F Lists.pointer_families) (rules_of_all F Lists.key_families) (rules_of_all F Lists.walk_families) (rules_of_all F Lists.chain_families) r (among r (Family.Keys rule) has Lists.key_families (key_there rule))
  possible_there (Family.Walks rule) poss r has = in_fifth (rules_of_all F Lists.name_families) (rules_of_all F Lists.node_families) (rules_of_all F Lists.pointer_families) (rules_of_all F Lists.key_families) (rules_of_all F Lists.walk_families) (rules_of_all F Lists.chain_families) r (among r (Family.Walks rule) has Lists.walk_families (walk_there rule))
  possible_there (Family.Chains rule) poss r has = in_sixth (rules_of_all F Lists.name_families) (rules_of_all F Lists.node_families) (rules_of_all F Lists.pointer_families) (rules_of_all F Lists.key_families) (rules_of_all F Lists.walk_families) (rules_of_all F Lists.chain_families) r (among r (Family.Chains rule) has Lists.chain_families (chain_there rule))
  possible_there (Family.Kept rule) poss r has = absurd (true≢false (sym poss))

  group_from : (families : List Family) → list_all is_possible families ≡ true → (r : Rule) → Contains (rules_of_all F families) r → IsWithin F r × (is_possible r.family ≡ true)
  group_from families all r has = let w = from_all families r has in (w.1, passes_in is_possible families r.family all w.0)

  possible_from : (r : Rule) → Contains (rules_of_possible F) r → IsWithin F r × (is_possible r.family ≡ true)
  possible_from r has =
      of_six (rules_of_all F Lists.name_families) (rules_of_all F Lists.node_families) (rules_of_all F Lists.pointer_families) (rules_of_all F Lists.key_families)
      (rules_of_all F Lists.walk_families) (rules_of_all F Lists.chain_families) r (IsWithin F r × (is_possible r.family ≡ true))
      (group_from Lists.name_families refl r) (group_from Lists.node_families refl r) (group_from Lists.pointer_families refl r) (group_from Lists.key_families refl r)
      (group_from Lists.walk_families refl r) (group_from Lists.chain_families refl r) has

  lists_possible : ListsPossible F (rules_of_possible F)
  lists_possible = record {
    each = λ r poss w. possible_there r.family poss r (in_family r w);
    within = λ r has. (possible_from r has).0;
    possible = λ r has. (possible_from r has).1;
  }

  by_family : (family : Family) (r : Rule) → Contains (rules_of F family) r → Contains (rules_of_lawful F) r
  by_family (Family.Names rule) r has = Contains-append_left (rules_of_possible F) (rules_of_all F Lists.kept_families) r (possible_there (Family.Names rule) refl r has)
  by_family (Family.Nodes rule) r has = Contains-append_left (rules_of_possible F) (rules_of_all F Lists.kept_families) r (possible_there (Family.Nodes rule) refl r has)
  by_family (Family.Pointers rule) r has = Contains-append_left (rules_of_possible F) (rules_of_all F Lists.kept_families) r (possible_there (Family.Pointers rule) refl r has)
  by_family (Family.Keys rule) r has = Contains-append_left (rules_of_possible F) (rules_of_all F Lists.kept_families) r (possible_there (Family.Keys rule) refl r has)
  by_family (Family.Walks rule) r has = Contains-append_left (rules_of_possible F) (rules_of_all F Lists.kept_families) r (possible_there (Family.Walks rule) refl r has)
  by_family (Family.Chains rule) r has = Contains-append_left (rules_of_possible F) (rules_of_all F Lists.kept_families) r (possible_there (Family.Chains rule) refl r has)
  by_family (Family.Kept rule) r has = Contains-append_right (rules_of_possible F) (rules_of_all F Lists.kept_families) r (among r (Family.Kept rule) has Lists.kept_families (kept_there rule))

  lawful_from : (r : Rule) → Contains (rules_of_lawful F) r → IsWithin F r
  lawful_from r has =
      elim (Contains-append_cases (rules_of_possible F) (rules_of_all F Lists.kept_families) r has) [
        | inl possible ↦ (possible_from r possible).0
        | inr kept ↦ (from_all Lists.kept_families r kept).1
      ]

  lists_rules : ListsRules F (rules_of_lawful F)
  lists_rules = record { each = λ r w. by_family r.family r (in_family r w); within = lawful_from }

  pub lists_all : ListsAll F
  lists_all = record { possible = lists_possible; lawful = lists_rules }

-- ---- the rules of the lists hold exactly where the rules of the frame do

module _ (F : Frame) (p : Picture) where
  pub possible_listed : All (Holds F p) (rules_of_possible F) → MeetsPossible F p
  possible_listed all r poss w = All-contains (Holds F p) (rules_of_possible F) r all ((lists_all F).possible.each r poss w)

  pub possible_all : MeetsPossible F p → All (Holds F p) (rules_of_possible F)
  possible_all meets k d h =
      let has = All-contains_itself (rules_of_possible F) k d h in
      meets (slice_index_or (rules_of_possible F) k d) ((lists_all F).possible.possible (slice_index_or (rules_of_possible F) k d) has) ((lists_all F).possible.within (slice_index_or (rules_of_possible F) k d) has)

  pub lawful_listed : All (Holds F p) (rules_of_lawful F) → MeetsRules F p
  lawful_listed all r w = All-contains (Holds F p) (rules_of_lawful F) r all ((lists_all F).lawful.each r w)

  pub lawful_all : MeetsRules F p → All (Holds F p) (rules_of_lawful F)
  lawful_all meets k d h = meets (slice_index_or (rules_of_lawful F) k d) ((lists_all F).lawful.within (slice_index_or (rules_of_lawful F) k d) (All-contains_itself (rules_of_lawful F) k d h))
