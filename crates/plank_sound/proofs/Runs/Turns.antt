-- A write whose obligation on the set holds turns no key but that of its call, which had turned none.
use Rattle.std.proofs.Common.{◌≡◌, ℤ, Bool, true, false, not, Option, Some, refl, sym, ◌∙◌, ap, subst}
use Rattle.std.specs.Prelude.{◌&&◌}
use Rattle.std.specs.Bool.{beq}
use Rattle.std.specs.FinMap.{get}
use Rattle.std.proofs.lemmas.Bool.{true≢false, false≢true, and_parts, not-true, true_from_ne_false}
use Rattle.std.proofs.lemmas.Option.{none-some, same_Some}
use Rattle.plank_base.specs.declared.operations.Op.{Op}
use Rattle.plank_base.specs.declared.keys.ThreadId.{ThreadId}
use Rattle.plank_base.specs.declared.obligations.Kind.{Kind}
use Rattle.plank_base.proofs.KeyOrder.{same_numbers}
use Rattle.plank_prog.specs.Headers.{is_lawful_header}
use Rattle.plank_prog.specs.Methods.{are_lawful_methods}
use Rattle.plank_prog.specs.declared.methods.MethodKind.{MethodKind}
use Rattle.plank_heap.specs.Walks.{contains}
use Rattle.plank_hist.specs.declared.events.Event.{Event}
use Rattle.plank_sem.specs.declared.calls.Call.{Call}
use Rattle.plank_sem.specs.Worlds.{WorldState}
use Rattle.plank_sem.specs.Steps.{stepped, performed}
use Rattle.plank_sem.specs.Kept.{GhostWorld, differs, kept_performed}
use Rattle.plank_sem.specs.Facts.{IsSound, HasSizes}
use Rattle.plank_pic.specs.declared.literals.Literal.{Literal}
use Rattle.plank_pic.specs.declared.literals.Exit.{Exit}
use Rattle.plank_pic.specs.declared.parts.KeyName.{KeyName}
use Rattle.plank_pic.specs.declared.parts.Term.{Term}
use Rattle.plank_pic.specs.declared.parts.Part.{Part}
use Rattle.plank_pic.specs.Frames.{Frame}
use Rattle.plank_pic.specs.Pictures.{Picture}
use Rattle.plank_pic.specs.declared.moves.Moved.{Moved}
use Rattle.plank_pic.specs.Steps.{Change, set_after, agrees_with, WritesOrNot, nothing, write}
use Rattle.plank_pic.specs.Blocks.{change_of}
use Rattle.plank_fact.specs.declared.facts.Fact.{Fact}
use Rattle.plank_fact.specs.Outlines.{Outline, Point, IsClaimed}
use Rattle.plank_fact.specs.OwnSteps.{own_frame, turn_at, IsWriteStep}
use Rattle.plank_fact.specs.Writes.{moves, may_turn, is_first_of_call, turns_wrongly}
use Rattle.plank_fact.specs.Obligations.{AllHold}
use Rattle.plank_fact.proofs.Listed.{none_fails}
use Rattle.plank_account.specs.Accounts.{MayTurn}
use Rattle.plank_account.proofs.AccountedSteps.{same_from_beq}
use Rattle.plank_scene.specs.Scenes.{shown}
use Rattle.plank_scene.specs.Worlds.{IsOrderlyWorld}
use Rattle.plank_sound.specs.Sights.{holds, sight_of}
use Rattle.plank_sound.specs.Interference.{IsAt}
use Rattle.plank_sound.proofs.Own.Stepping.{before, unmoved}

-- the set bit after a write is what the movement says
module _ (F : Frame) (c : Change) where
  after_write : (o : Option Change) (B W : Picture) → WritesOrNot F o B W → o ≡ Some c → agrees_with (set_after B KeyName.Any (moves F c B)) (W (Part.InSet KeyName.Any)) ≡ true
  after_write o B W nothing e = absurd (none-some c e)
  after_write o B W (write {c = d} is) e =
      let same : d ≡ c = same_Some d c e in
      subst (λ k. agrees_with (set_after B KeyName.Any (moves F k B)) (W (Part.InSet KeyName.Any)) ≡ true) same (is.parts (Part.InSet KeyName.Any) refl)

module _ (O : Outline) (x : Point O.methods) (hold : AllHold O) (c : Change) (writes : change_of (turn_at O x Exit.Yes) ≡ Some c) (B A : Picture) (taken : IsWriteStep O x B A) where
  abbrev F : Frame
  F = own_frame O x

  set_then : agrees_with (set_after B KeyName.Any (moves F c B)) (A (Part.InSet KeyName.Any)) ≡ true
  set_then =
      let W = taken.step.step.between in
      let same : W (Part.InSet KeyName.Any) ≡ A (Part.InSet KeyName.Any) = sym (same_from_beq (A (Part.InSet KeyName.Any)) (W (Part.InSet KeyName.Any)) (taken.step.step.names.parts (Part.InSet KeyName.Any) refl)) in
      subst (λ b. agrees_with (set_after B KeyName.Any (moves F c B)) b ≡ true) same (after_write F c (change_of (turn_at O x Exit.Yes)) B W taken.step.step.writes writes)

  not_wrong : turns_wrongly x.method.kind B (moves F c B) ≡ true → ⊥
  not_wrong e = none_fails O hold Kind.Change x (record { change = c; writes = writes; before = B; after = A; step = taken; wrong = e })

  -- where the bit changes, the method may turn the key
  pub turned : beq (B (Part.InSet KeyName.Any)) (A (Part.InSet KeyName.Any)) ≡ false → may_turn x.method.kind B (B (Part.InSet KeyName.Any)) ≡ true
  turned differ = by_movement (moves F c B) refl
    where
      itself : (b : Bool) → beq b b ≡ true
      itself true = refl
      itself false = refl

      stays : (a b : Bool) → beq b a ≡ true → beq a b ≡ false → ⊥
      stays a b e d = true≢false (sym (itself a) ∙ ap (beq a) (sym (same_from_beq b a e)) ∙ d)

      by_movement : (m : Moved) → moves F c B ≡ m → may_turn x.method.kind B (B (Part.InSet KeyName.Any)) ≡ true
      by_movement Moved.Untouched e = absurd (stays (B (Part.InSet KeyName.Any)) (A (Part.InSet KeyName.Any)) (sym (ap (λ m. agrees_with (set_after B KeyName.Any m) (A (Part.InSet KeyName.Any))) e) ∙ set_then) differ)
      by_movement Moved.Same e = absurd (stays (B (Part.InSet KeyName.Any)) (A (Part.InSet KeyName.Any)) (sym (ap (λ m. agrees_with (set_after B KeyName.Any m) (A (Part.InSet KeyName.Any))) e) ∙ set_then) differ)
      by_movement (Moved.BothEnd was is) e =
          let now : A (Part.InSet KeyName.Any) ≡ is = same_from_beq (A (Part.InSet KeyName.Any)) is (sym (ap (λ m. agrees_with (set_after B KeyName.Any m) (A (Part.InSet KeyName.Any))) e) ∙ set_then) in
          let changed : not (beq (B (Part.InSet KeyName.Any)) is) ≡ true = ap (λ b. not (beq (B (Part.InSet KeyName.Any)) b)) (sym now) ∙ ap not differ in
          true_from_ne_false (may_turn x.method.kind B (B (Part.InSet KeyName.Any))) (λ d. not_wrong (ap (turns_wrongly x.method.kind B) e ∙ ap (λ b. b && not (may_turn x.method.kind B (B (Part.InSet KeyName.Any)))) changed ∙ ap not d))
      by_movement Moved.Apart e = absurd (not_wrong (ap (turns_wrongly x.method.kind B) e))

-- the method has an operation, which may turn the key, and the key is the call's own, which has turned none
pub record IsFirstTurn (kind : MethodKind) (B : Picture) (was : Bool) : Type 0 where
  pub op : Op
  pub performs : kind ≡ MethodKind.Set op
  pub first : is_first_of_call B ≡ true
  pub allowed : MayTurn op was

first_so : (kind : MethodKind) (B : Picture) (was : Bool) → may_turn kind B was ≡ true → IsFirstTurn kind B was
first_so (MethodKind.Set Op.Contains) B was e = absurd (false≢true e)
first_so (MethodKind.Set Op.Insert) B was e =
    let w = and_parts (is_first_of_call B) (not was) e in
    record { op = Op.Insert; performs = refl; first = w.0; allowed = not-true was w.1 }
first_so (MethodKind.Set Op.Delete) B was e =
    let w = and_parts (is_first_of_call B) was e in
    record { op = Op.Delete; performs = refl; first = w.0; allowed = w.1 }
first_so MethodKind.Upkeep B was e = absurd (false≢true e)

module _ (O : Outline) (header : is_lawful_header O.header ≡ true) (methods : are_lawful_methods O.header O.methods ≡ true)
    (g : GhostWorld) (sound : IsSound O.header g) (sizes : HasSizes g.world) (orderly : IsOrderlyWorld O.header g)
    (thread : ThreadId) (call : Call) (pending : get g.world.calls thread.0 ≡ Some call) (x : Point O.methods) (at : IsAt x call)
    (claims : (L : Literal) → IsClaimed O x (Fact.Now L) → holds O.header (sight_of O.header g thread.0 call x.method) L ≡ true) (key : ℤ)
    (event : Option Event) (after : WorldState) (step : performed O.methods g.world thread call x.location.action ≡ stepped event after)
    (sound_after : IsSound O.header (record { world = after; kept = kept_performed O.header g.world.heap after.heap thread call x.location.action g.kept })) (sizes_after : HasSizes after)
    (later : Call) (now : get after.calls thread.0 ≡ Some later) (hold : AllHold O) (c : Change) (writes : change_of (turn_at O x Exit.Yes) ≡ Some c) where
  abbrev P : Picture
  P = shown (own_frame O x) (before O header methods g sound sizes orderly thread call pending x at claims key event after step sound_after sizes_after later now)

  abbrev W : Picture
  W = shown (own_frame O x) (unmoved O header methods g sound sizes orderly thread call pending x at claims key event after step sound_after sizes_after later now)

  pub record TurnsOwn : Type 0 where
    pub own : key ≡ call.key
    pub first : g.kept.has_changed thread.0 ≡ false
    pub op : Op
    pub performs : x.method.kind ≡ MethodKind.Set op
    pub allowed : MayTurn op (contains O.header g.world.heap key)

  pub turns_own : IsWriteStep O x P W → differs O.header g.world.heap after.heap key ≡ true → TurnsOwn
  turns_own taken differ =
      let may = first_so x.method.kind P (P (Part.InSet KeyName.Any)) (turned O x hold c writes P W taken (not-true (beq (contains O.header g.world.heap key) (contains O.header after.heap key)) differ)) in
      let first = and_parts (P (Part.AtMost (Term.Walked KeyName.Any) (Term.Walked KeyName.Own)) && P (Part.AtMost (Term.Walked KeyName.Own) (Term.Walked KeyName.Any))) (not (P Part.Spent)) may.first in
      let same = and_parts (P (Part.AtMost (Term.Walked KeyName.Any) (Term.Walked KeyName.Own))) (P (Part.AtMost (Term.Walked KeyName.Own) (Term.Walked KeyName.Any))) first.0 in
      record { own = same_numbers key call.key same.0 same.1; first = not-true (g.kept.has_changed thread.0) first.1; op = may.op; performs = may.performs; allowed = may.allowed }
