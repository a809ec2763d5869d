-- What is read off the two walks is what the definitions of a write say.
use Rattle.std.proofs.Common.{◌≡◌, ℕ, zero, suc, Bool, true, false, not, List, [], ◌∷◌, Option, Some, None, refl, sym, ◌∙◌, ap}
use Rattle.std.specs.Prelude.{◌||◌, ◌&&◌, if◌then◌else◌}
use Rattle.std.specs.List.{list_any}
use Rattle.plank_pic.specs.declared.parts.KeyName.{KeyName}
use Rattle.plank_pic.specs.declared.parts.Part.{Part}
use Rattle.plank_pic.specs.declared.parts.Target.{Target}
use Rattle.plank_pic.specs.declared.moves.Moved.{Moved}
use Rattle.plank_pic.specs.Frames.{Frame}
use Rattle.plank_pic.specs.Pictures.{Picture, target, is_fast, is_picked}
use Rattle.plank_pic.specs.Outcomes.{outcome, passes, passes_by, goes_on_so, first_name}
use Rattle.plank_pic.specs.Steps.{movement, by_outcomes, enters, enters_either, visit_moved, visit_after, stop_moved, stop_after}
use Rattle.plank_walk.specs.Walks.{path_by, path_after, IsWalk, is_on}
use Rattle.plank_step.specs.declared.footprints.Footprint.{Footprint}
use Rattle.plank_step.specs.Footprints.{IsFootprint, has_entered, moved_along, visit_along, visit_left, stop_along, stop_left}

-- a walk passes a node of this kind where one on its path is
passes-path : (to : ℕ → Target) (is : ℕ → Bool) (n i : ℕ) → passes_by to is n i ≡ list_any is (path_by to n i)
unfolding passes_by path_by
passes-path to is zero i = refl
passes-path to is (suc n) i = by_target (λ j. passes-path to is n j) (to i)
  where
    by_target : ((j : ℕ) → passes_by to is n j ≡ list_any is (path_by to n j)) → (t : Target) → (is i || goes_on_so (passes_by to is n) t) ≡ list_any is (path_after (path_by to n) i t)
    by_target rec Target.Ends = refl
    by_target rec (Target.To j) = ap (λ b. is i || b) (rec j)
    by_target rec (Target.Out x) = refl
    by_target rec (Target.Stops y q s) = refl
    by_target rec (Target.Jumps q) = ap (λ b. is i || b) (rec q)

pub passes_on : (F : Frame) (p : Picture) (k : KeyName) (i j : ℕ) (path : List ℕ) → path_by (target F p k) F.names (first_name F p i) ≡ path → passes F p k i j ≡ is_on p path j
passes_on F p k i j path e = passes-path (target F p k) (λ m. p (Part.Same m j)) F.names (first_name F p i) ∙ ap (list_any (λ m. p (Part.Same m j))) e

module _ (F : Frame) (B M : Picture) (k : KeyName) (at : ℕ) (w : Footprint) (is : IsFootprint F B M k at w) where
  entered_is : enters_either F B M k at ≡ has_entered w
  entered_is = ap (λ b. b || enters F M k at) is.before.entered ∙ ap (λ b. w.before.entered || b) is.after.entered

  pub movement_is : movement F B M k at ≡ moved_along F B M k at w
  movement_is =
      ap (λ b. if not (B (Part.Visits k at)) then Moved.Untouched else if is_fast F.header B at && b then Moved.Apart else by_outcomes F.header B M k (outcome F B k at) (outcome F M k at)) entered_is
      ∙ ap (λ o. if not (B (Part.Visits k at)) then Moved.Untouched else if is_fast F.header B at && has_entered w then Moved.Apart else by_outcomes F.header B M k o (outcome F M k at)) is.before.end
      ∙ ap (λ o. if not (B (Part.Visits k at)) then Moved.Untouched else if is_fast F.header B at && has_entered w then Moved.Apart else by_outcomes F.header B M k w.before.end o) is.after.end

  along_is : (i : ℕ) → visit_moved F B M k at i ≡ visit_along F B M k i w
  along_is i =
      ap (λ b. if b then Some true else if passes F B k at i || (enters_either F B M k at && is_fast F.header B i) then None else Some (B (Part.Visits k i))) (passes_on F M k at i w.after.path.items is.after.path)
      ∙ ap (λ b. if is_on M w.after.path.items i then Some true else if b || (enters_either F B M k at && is_fast F.header B i) then None else Some (B (Part.Visits k i))) (passes_on F B k at i w.before.path.items is.before.path)
      ∙ ap (λ b. if is_on M w.after.path.items i then Some true else if is_on B w.before.path.items i || (b && is_fast F.header B i) then None else Some (B (Part.Visits k i))) entered_is

  pub visit_is : (i : ℕ) (m : Moved) → visit_after F B M k at i m ≡ visit_left F B M k i m w
  visit_is i Moved.Untouched = refl
  visit_is i Moved.Same = along_is i
  visit_is i (Moved.BothEnd was now) = along_is i
  visit_is i Moved.Apart = refl

  stop_along_is : (s : ℕ) → stop_moved F B M k at s ≡ stop_along F B k at s w
  stop_along_is s = ap (λ b. if is_picked F B k s && not b && not (is_fast F.header B at) then Some (B (Part.StopVisited k s)) else None) entered_is

  pub stop_is : (s : ℕ) (m : Moved) → stop_after F B M k at s m ≡ stop_left F B k at s m w
  stop_is s Moved.Untouched = refl
  stop_is s Moved.Same = stop_along_is s
  stop_is s (Moved.BothEnd was now) = stop_along_is s
  stop_is s Moved.Apart = refl
