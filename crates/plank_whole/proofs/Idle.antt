-- A rule holds where the part that it asks first is not said, and such parts stand in a row.
use Rattle.std.proofs.Common.{◌≡◌, ℕ, ◌+◌, ◌*◌, Bool, true, false, Option, refl, sym, ◌∙◌, ap, subst, arith}
use Rattle.std.specs.Prelude.{◌&&◌, slice_index_or}
use Rattle.std.specs.List.{list_all}
use Rattle.std.proofs.lemmas.Bool.{true≢false, and_right}
use Rattle.plank_pic.specs.declared.parts.Part.{Part}
use Rattle.plank_pic.specs.Lawful.{part_fits, ◌⇒◌}
use Rattle.plank_lawful.specs.declared.families.NameRule.{NameRule}
use Rattle.plank_lawful.specs.declared.families.NodeRule.{NodeRule}
use Rattle.plank_lawful.specs.declared.families.PointerRule.{PointerRule}
use Rattle.plank_lawful.specs.declared.families.WalkRule.{WalkRule}
use Rattle.plank_lawful.specs.declared.families.ChainRule.{ChainRule}
use Rattle.plank_lawful.specs.declared.families.KeptRule.{KeptRule}
use Rattle.plank_lawful.specs.declared.families.Family.{Family}
use Rattle.plank_lawful.specs.Indexes.{place_at}
use Rattle.plank_lawful.specs.Lists.{rule, rules_by_third}
use Rattle.plank_lawful.proofs.Tests.{no_of}
use Rattle.plank_parts.specs.Codes.{part_code}
use Rattle.plank_whole.specs.declared.wholes.Picture.{Picture}
use Rattle.plank_whole.specs.Wholes.{frame_of, shown}
use Rattle.plank_whole.specs.Judging.{meets}
use Rattle.plank_whole.specs.Cells.{is_unsaid}
use Rattle.plank_whole.specs.Rows.{name_row, pointer_row, walk_row, chain_row, kept_row, row_of, is_idle}
use Rattle.plank_whole.proofs.Meeting.{third_meets}

pub off : (a b : Bool) → a ≡ false → (a ⇒ b) ≡ true
off true b e = absurd (true≢false e)
off false b e = refl

-- of a premise in two parts, the first or the second
off_first : (a b c : Bool) → a ≡ false → ((a && b) ⇒ c) ≡ true
off_first true b c e = absurd (true≢false e)
off_first false b c e = refl

off_second : (a b c : Bool) → b ≡ false → ((a && b) ⇒ c) ≡ true
off_second true true c e = absurd (true≢false e)
off_second true false c e = refl
off_second false b c e = refl

pub row_code : (kind a b : ℕ) → (kind * 16 + a) * 32 + b ≡ (kind * 16 + a) * 32 + 0 + b
row_code kind a b = omega arith

module _ (w : Picture) (a b : ℕ) where
  -- the part of a cell that says no
  unsaid_part : (part : Part) (base : ℕ) → part_code part ≡ base + b → is_unsaid w.said base b ≡ true → shown w part ≡ false
  unsaid_part part base same none =
      and_right (part_fits (frame_of w) part) (slice_index_or w.said (part_code part) false)
      (ap (λ code. slice_index_or w.said code false) same ∙ no_of (slice_index_or w.said (base + b) false) none)

  same_off : is_unsaid w.said (part_code (Part.Same a 0)) b ≡ true → shown w (Part.Same a b) ≡ false
  same_off = unsaid_part (Part.Same a b) (part_code (Part.Same a 0)) (row_code 3 a b)

  chain_off : is_unsaid w.said (part_code (Part.Chain a 0)) b ≡ true → shown w (Part.Chain a b) ≡ false
  chain_off = unsaid_part (Part.Chain a b) (part_code (Part.Chain a 0)) (row_code 4 a b)

  leads_off : is_unsaid w.said (part_code (Part.Leads (place_at (frame_of w) a) 0)) b ≡ true → shown w (Part.Leads (place_at (frame_of w) a) b) ≡ false
  leads_off =
      unsaid_part (Part.Leads (place_at (frame_of w) a) b) (part_code (Part.Leads (place_at (frame_of w) a) 0))
      (row_code (5 + (place_at (frame_of w) a).pointer) (place_at (frame_of w) a).name b)

  idle_names : (r : NameRule) → is_idle w.said (name_row r a) b ≡ true → (c : ℕ) → meets w (rule (Family.Names r) a b c) ≡ true
  idle_names NameRule.Itself e c = absurd (true≢false (sym e))
  idle_names NameRule.BothWays e c = absurd (true≢false (sym e))
  idle_names NameRule.Together e c = off (shown w (Part.Same a b)) _ (same_off e)
  idle_names NameRule.NullNode e c = absurd (true≢false (sym e))
  idle_names NameRule.NullFlag e c = absurd (true≢false (sym e))
  idle_names NameRule.NullPointer e c = absurd (true≢false (sym e))
  idle_names NameRule.Owned e c = absurd (true≢false (sym e))
  idle_names NameRule.Held e c = absurd (true≢false (sym e))

  idle_nodes : (r : NodeRule) → shown w (Part.Same a b) ≡ false → (c : ℕ) → meets w (rule (Family.Nodes r) a b c) ≡ true
  idle_nodes NodeRule.Node unsaid c = off (shown w (Part.Same a b)) _ unsaid
  idle_nodes NodeRule.Flags unsaid c = off (shown w (Part.Same a b)) _ unsaid
  idle_nodes NodeRule.Visits unsaid c = off (shown w (Part.Same a b)) _ unsaid
  idle_nodes NodeRule.Pointers unsaid c = off (shown w (Part.Same a b)) _ unsaid
  idle_nodes NodeRule.Chains unsaid c = off (shown w (Part.Same a b)) _ unsaid
  idle_nodes NodeRule.Picks unsaid c = off (shown w (Part.Same a b)) _ unsaid

  idle_pointers : (r : PointerRule) → is_idle w.said (pointer_row (frame_of w) r a) b ≡ true → (c : ℕ) → meets w (rule (Family.Pointers r) a b c) ≡ true
  idle_pointers PointerRule.Somewhere e c = absurd (true≢false (sym e))
  idle_pointers PointerRule.Once e c = absurd (true≢false (sym e))
  idle_pointers PointerRule.OneTarget e c = off (shown w (Part.Leads (place_at (frame_of w) a) b)) _ (leads_off e)
  idle_pointers PointerRule.BeyondItself e c = absurd (true≢false (sym e))
  idle_pointers PointerRule.BeyondBothWays e c = absurd (true≢false (sym e))
  idle_pointers PointerRule.BeyondTogether e c = absurd (true≢false (sym e))

  idle_walks : (r : WalkRule) → is_idle w.said (walk_row (frame_of w) r a) b ≡ true → (c : ℕ) → meets w (rule (Family.Walks r) a b c) ≡ true
  idle_walks WalkRule.Root e c = absurd (true≢false (sym e))
  idle_walks WalkRule.RootVisited e c = absurd (true≢false (sym e))
  idle_walks WalkRule.Unvisited e c = absurd (true≢false (sym e))
  idle_walks WalkRule.Unreached e c = off (shown w (Part.Leads (place_at (frame_of w) a) b)) _ (leads_off e)
  idle_walks WalkRule.GoesOn e c = absurd (true≢false (sym e))
  idle_walks WalkRule.Stops e c = absurd (true≢false (sym e))

  idle_chains : (r : ChainRule) → is_idle w.said (chain_row r a) b ≡ true → (c : ℕ) → meets w (rule (Family.Chains r) a b c) ≡ true
  idle_chains ChainRule.Itself e c = off (shown w (Part.Same a b)) _ (same_off e)
  idle_chains ChainRule.Begins e c = off_first (shown w (Part.Chain a b)) _ _ (chain_off e)
  idle_chains ChainRule.GoesOn e c = off_first (shown w (Part.Chain a b)) _ _ (chain_off e)
  idle_chains ChainRule.Grows e c = off_first (shown w (Part.Chain a b)) _ _ (chain_off e)
  idle_chains ChainRule.Picks e c = absurd (true≢false (sym e))

  idle_kept : (r : KeptRule) → is_idle w.said (kept_row (frame_of w) r a) b ≡ true → (c : ℕ) → meets w (rule (Family.Kept r) a b c) ≡ true
  idle_kept KeptRule.Published e c = off_second _ (shown w (Part.Leads (place_at (frame_of w) a) b)) _ (leads_off e)
  idle_kept KeptRule.Keeps e c = absurd (true≢false (sym e))
  idle_kept KeptRule.StopKeeps e c = absurd (true≢false (sym e))
  idle_kept KeptRule.StopKeepsOn e c = absurd (true≢false (sym e))
  idle_kept KeptRule.Edges e c = off (shown w (Part.Leads (place_at (frame_of w) a) b)) _ (leads_off e)
  idle_kept KeptRule.Room e c = absurd (true≢false (sym e))
  idle_kept KeptRule.Chains e c = off_first (shown w (Part.Chain a b)) _ _ (chain_off e)
  idle_kept KeptRule.Picks e c = absurd (true≢false (sym e))

  idle : (family : Family) → is_idle w.said (row_of (frame_of w) family a) b ≡ true → (c : ℕ) → meets w (rule family a b c) ≡ true
  idle (Family.Names r) e = idle_names r e
  idle (Family.Nodes r) e = idle_nodes r (same_off e)
  idle (Family.Pointers r) e = idle_pointers r e
  idle (Family.Keys r) e = absurd (true≢false (sym e))
  idle (Family.Walks r) e = idle_walks r e
  idle (Family.Chains r) e = idle_chains r e
  idle (Family.Kept r) e = idle_kept r e

  pub idle_meets : (family : Family) (row : Option ℕ) → row ≡ row_of (frame_of w) family a → is_idle w.said row b ≡ true → list_all (meets w) (rules_by_third (frame_of w) family a b) ≡ true
  idle_meets family row same e = third_meets w family a b (idle family (subst (λ o. is_idle w.said o b ≡ true) same e))
