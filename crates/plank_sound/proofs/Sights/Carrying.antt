-- A past fact that is said of another name of the same node is as true.
use Rattle.std.proofs.Common.{◌≡◌, ℕ, ℤ, true, false, not, Option, Some, None, refl, sym, ◌∙◌, ap, inl, inr}
use Rattle.std.specs.Prelude.{◌&&◌, slice_get, option_and_then}
use Rattle.std.specs.Option.{option_map_or}
use Rattle.std.proofs.lemmas.Bool.{true≢false, false≢true, and_parts, or_cases}
use Rattle.plank_prog.specs.declared.headers.Header.{Header}
use Rattle.plank_prog.specs.declared.blocks.Reference.{Reference}
use Rattle.plank_prog.specs.Views.{is_bit_set}
use Rattle.plank_heap.specs.Walks.{walk_visits}
use Rattle.plank_sem.specs.Kept.{GhostWorld}
use Rattle.plank_pic.specs.declared.literals.Literal.{Literal}
use Rattle.plank_pic.specs.declared.parts.Part.{Part}
use Rattle.plank_pic.specs.Frames.{Frame}
use Rattle.plank_pic.specs.Steps.{Source, Of, Null, Fresh}
use Rattle.plank_fact.specs.Literals.{past_name, said_of, can_be_past}
use Rattle.plank_fact.specs.After.{named_before}
use Rattle.plank_scene.specs.Scenes.{Scene, is_shared_in, on, shown}
use Rattle.plank_scene.specs.Worlds.{source_node}
use Rattle.plank_scene.proofs.Scenes.Showing.{shown_true, same_named}
use Rattle.plank_scene.proofs.Scenes.Pictured.{none_of}
use Rattle.plank_sound.specs.Sights.{flag_there, holds_shared, bare_scene, seen_at}

-- a name after a step names what another named before
module _ (F : Frame) (S : Scene) where
  null_so : (j : ℕ) → shown F S (Part.Null j) ≡ true → S.named j ≡ None
  null_so j e = none_of (S.named j) (shown_true F S (Part.Null j) e).1

  pub named_before_so : (from : Source) (fresh j : ℕ) → named_before (shown F S) from j ≡ true → source_node S fresh from ≡ S.named j
  named_before_so (Of i) fresh j e = elim (or_cases (shown F S (Part.Null j) && shown F S (Part.Null i)) (shown F S (Part.Same j i)) e) [
    | inl both ↦ (let w = and_parts (shown F S (Part.Null j)) (shown F S (Part.Null i)) both in null_so i w.1 ∙ sym (null_so j w.0))
    | inr same ↦ sym (same_named F S j i same)
  ]
  named_before_so Null fresh j e = sym (null_so j e)
  named_before_so Fresh fresh j e = absurd (false≢true e)

module _ (h : Header) (w : GhostWorld) (key : ℤ) (thread : ℕ) (new old : Reference → Option ℕ) (to : Reference) where
  pub said_same : (L : Literal) → can_be_past L ≡ true → ((q : Reference) → past_name L ≡ Some q → new to ≡ old q) → holds_shared h (seen_at h w new key thread false) (said_of to L) ≡ holds_shared h (seen_at h w old key thread false) L
  said_same (Literal.Visited q) kind same = ap (λ o. option_map_or (λ x. on (walk_visits h w.world.heap key) o) (option_and_then (λ x. slice_get w.world.heap.nodes x) o) false && on (is_shared_in (bare_scene w key)) o) (same q refl)
  said_same (Literal.Flag q f) kind same = ap (λ o. option_map_or (λ x. flag_there h f && is_bit_set x.flags f) (option_and_then (λ x. slice_get w.world.heap.nodes x) o) false && on (is_shared_in (bare_scene w key)) o) (same q refl)
  said_same (Literal.NoFlag q f) kind same = ap (λ o. option_map_or (λ x. not (flag_there h f && is_bit_set x.flags f)) (option_and_then (λ x. slice_get w.world.heap.nodes x) o) false && on (is_shared_in (bare_scene w key)) o) (same q refl)
  said_same Literal.InSet kind same = refl
  said_same Literal.NotInSet kind same = refl
  said_same (Literal.Same q r) kind same = absurd (true≢false (sym kind))
  said_same (Literal.Apart q r) kind same = absurd (true≢false (sym kind))
  said_same (Literal.Null q) kind same = absurd (true≢false (sym kind))
  said_same (Literal.NotNull q) kind same = absurd (true≢false (sym kind))
  said_same (Literal.KeyBelow q r) kind same = absurd (true≢false (sym kind))
  said_same (Literal.KeyAtMost q r) kind same = absurd (true≢false (sym kind))
  said_same (Literal.BelowArgument q) kind same = absurd (true≢false (sym kind))
  said_same (Literal.AtMostArgument q) kind same = absurd (true≢false (sym kind))
  said_same (Literal.AboveArgument q) kind same = absurd (true≢false (sym kind))
  said_same (Literal.AtLeastArgument q) kind same = absurd (true≢false (sym kind))
  said_same (Literal.KeyIsMin q) kind same = absurd (true≢false (sym kind))
  said_same (Literal.AboveMin q) kind same = absurd (true≢false (sym kind))
  said_same (Literal.BelowMax q) kind same = absurd (true≢false (sym kind))
  said_same (Literal.KeyIsMax q) kind same = absurd (true≢false (sym kind))
  said_same (Literal.Leads q f r) kind same = absurd (true≢false (sym kind))
  said_same (Literal.LeadsNowhere q f) kind same = absurd (true≢false (sym kind))
  said_same (Literal.Locked q) kind same = absurd (true≢false (sym kind))
  said_same (Literal.Owned q) kind same = absurd (true≢false (sym kind))
  said_same (Literal.Shared q) kind same = absurd (true≢false (sym kind))
  said_same (Literal.Chain q r) kind same = absurd (true≢false (sym kind))
  said_same Literal.Spent kind same = absurd (true≢false (sym kind))
  said_same Literal.Unspent kind same = absurd (true≢false (sym kind))
