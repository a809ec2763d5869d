-- A pending call at a point of its outline: the picture of it is an own picture of the point.
use Rattle.std.proofs.Common.{◌≡◌, ℕ, zero, suc, ◌<◌, ℤ, true, not, List, length, Option, Some, None, refl, sym, ◌∙◌, ap, subst, inl, inr, arith}
use Rattle.std.specs.Prelude.{nat_lt, slice_get, unwrap_or}
use Rattle.std.specs.Bool.{beq}
use Rattle.std.specs.Option.{option_flatten}
use Rattle.std.specs.FinMap.{get}
use Rattle.std.proofs.lemmas.Bool.{cases_Bool, ltb-true, cond-true, cond-false}
use Rattle.std.proofs.lemmas.Option.{none-some, same_Some}
use Rattle.plank_base.specs.declared.keys.NodeId.{NodeId}
use Rattle.plank_base.specs.declared.keys.ThreadId.{ThreadId}
use Rattle.plank_prog.specs.declared.blocks.Reference.{Reference}
use Rattle.plank_prog.specs.declared.blocks.Bind.{Bind}
use Rattle.plank_prog.specs.declared.methods.Method.{Method}
use Rattle.plank_prog.specs.Headers.{is_lawful_header}
use Rattle.plank_heap.specs.declared.heaps.Heap.{Heap}
use Rattle.plank_sem.specs.declared.calls.Call.{Call}
use Rattle.plank_sem.specs.Kept.{GhostWorld}
use Rattle.plank_sem.specs.Facts.{IsSound, HasSizes}
use Rattle.plank_sem.proofs.Lists.{flattened}
use Rattle.plank_pic.specs.declared.literals.Literal.{Literal}
use Rattle.plank_pic.specs.Frames.{Frame}
use Rattle.plank_pic.specs.Calls.{binds_of, own_name}
use Rattle.plank_pic.specs.Calls as calls
use Rattle.plank_pic.specs.Truths.{truth}
use Rattle.plank_fact.specs.declared.facts.Fact.{Fact}
use Rattle.plank_fact.specs.Outlines.{Outline, Point, IsClaimed}
use Rattle.plank_fact.specs.OwnSteps.{own_call, own_frame, IsOwnPicture}
use Rattle.plank_scene.specs.Scenes.{Scene, shown}
use Rattle.plank_scene.specs.Worlds.{IsOrderlyWorld}
use Rattle.plank_scene.specs.Turns.{number}
use Rattle.plank_scene.specs.OwnScenes.{own_named, counts_as_mine, own_scene}
use Rattle.plank_scene.proofs.Scenes.Orderly.{shows_lawful}
use Rattle.plank_scene.proofs.Steps.Inhabited.{in_world}
use Rattle.plank_scene.proofs.Keeps.OrderlyWorlds.{orderly_scene}
use Rattle.plank_scene.proofs.Steps.OwnPictures.{own_usable}
use Rattle.plank_scene.proofs.Scenes.Pictured.{no_node}
use Rattle.plank_sound.specs.Sights.{holds, value_at, values_of, seen_in, sight_of}
use Rattle.plank_sound.specs.SeenSteps.{keys_for}
use Rattle.plank_sound.proofs.Sights.Sighted.{HasRole, truth_seen}
use Rattle.plank_sound.proofs.Sights.Seen.{seen_world}

-- ---- names

-- what the names of a call have in its own pictures
pub own_value : (heap : Heap) (call : Call) (binds : List Bind) (m : Method) (later : Heap) (after : Call) → heap.root ≡ later.root → (r : Reference)
    → own_named heap call binds (length m.variables) after.variables ((own_call m).name r) ≡ values_of later after m r
own_value heap call binds m later after root Reference.Root = ap (λ (n : NodeId). Some n.0) root
own_value heap call binds m later after root (Reference.Variable v) = elim (cases_Bool (nat_lt v (length m.variables))) [
  | inl c ↦
      let at : (own_call m).name (Reference.Variable v) ≡ suc v = ap (λ o. unwrap_or o 0) (cond-true (nat_lt v (length m.variables)) (Some (suc v)) None c) in
      ap (own_named heap call binds (length m.variables) after.variables) at
      ∙ cond-true (nat_lt v (length m.variables)) _ _ c ∙ sym (cond-true (nat_lt v (length m.variables)) _ _ c)
      ∙ sym (ap (value_at later after (length m.variables)) at)
  | inr c ↦
      let at : (own_call m).name (Reference.Variable v) ≡ 0 = ap (λ o. unwrap_or o 0) (cond-false (nat_lt v (length m.variables)) (Some (suc v)) None c) in
      ap (own_named heap call binds (length m.variables) after.variables) at ∙ ap (λ (n : NodeId). Some n.0) root ∙ sym (ap (value_at later after (length m.variables)) at)
]

-- each name of a method is one of its pictures
pub own_below : (m : Method) (r : Reference) → (own_call m).name r < suc (length m.variables)
own_below m Reference.Root = omega arith
own_below m (Reference.Variable v) = elim (cases_Bool (nat_lt v (length m.variables))) [
  | inl c ↦
      let at : (own_call m).name (Reference.Variable v) ≡ suc v = ap (λ o. unwrap_or o 0) (cond-true (nat_lt v (length m.variables)) (Some (suc v)) None c) in
      let below = ltb-true v (length m.variables) c in omega (arith, at)
  | inr c ↦
      let at : (own_call m).name (Reference.Variable v) ≡ 0 = ap (λ o. unwrap_or o 0) (cond-false (nat_lt v (length m.variables)) (Some (suc v)) None c) in omega (arith, at)
]

-- the names of a call name nodes that are there
pub values_there : (These : ℕ → Type 0) (heap : Heap) (call : Call) (m : Method) → These heap.root.0 → ((v : ℕ) (y : NodeId) → slice_get call.variables v ≡ Some (Some y) → These y.0)
    → (i x : ℕ) → value_at heap call (length m.variables) i ≡ Some x → These x
values_there These heap call m root all zero x e = subst These (same_Some heap.root.0 x e) root
values_there These heap call m root all (suc v) x e = elim (cases_Bool (nat_lt v (length m.variables))) [
  | inl c ↦ by_value (option_flatten (slice_get call.variables v)) refl (sym (cond-true (nat_lt v (length m.variables)) _ None c) ∙ e)
  | inr c ↦ absurd (none-some x (sym (cond-false (nat_lt v (length m.variables)) (number (option_flatten (slice_get call.variables v))) None c) ∙ e))
]
  where
    by_value : (o : Option NodeId) → option_flatten (slice_get call.variables v) ≡ o → number o ≡ Some x → These x
    by_value None d e = absurd (none-some x e)
    by_value (Some y) d e = subst These (same_Some y.0 x e) (all v y (flattened (slice_get call.variables v) y d))

-- where no other thread is seen, each node that is not shared counts as the own thread's
pub all_mine : (owners : List (Option ℕ)) (x : ℕ) → counts_as_mine owners None x ≡ true
all_mine owners x = ap not (no_node (option_flatten (slice_get owners x)))

module _ (O : Outline) (header : is_lawful_header O.header ≡ true) (g : GhostWorld) (sound : IsSound O.header g) (sizes : HasSizes g.world) (orderly : IsOrderlyWorld O.header g)
    (thread : ThreadId) (call : Call) (pending : get g.world.calls thread.0 ≡ Some call) (x : Point O.methods) (any : ℤ) where
  abbrev pub F : Frame
  F = own_frame O x

  abbrev pub base : Scene
  base = own_scene g thread call x.location.action (length x.method.variables) None (keys_for call.key any)

  -- the scene of the call, before a step to a heap
  abbrev pub here : Heap → Scene
  here ahead = record base { heap = g.world.heap; owners = g.kept.owners; before = g.world.heap; after = ahead; spent = g.kept.has_changed thread.0 }

  at_root : (r : ℕ) → F.root ≡ Some r → base.named r ≡ Some g.world.heap.root.0
  at_root r e = ap base.named (sym (same_Some 0 r e))

  pub seen_here : (ahead : Heap) → seen_in O.header (here ahead) (own_call x.method) thread.0 ≡ sight_of O.header g thread.0 call x.method
  seen_here ahead =
      seen_world O.header (here ahead) (own_call x.method) thread.0 g call.key (values_of g.world.heap call x.method) refl refl refl
      (own_value g.world.heap call (binds_of x.location.action) x.method g.world.heap call refl)
      (λ r y e. values_there (λ z. z < length g.world.heap.nodes) g.world.heap call x.method sound.closed.root (sound.variables_within thread.0 call pending) ((own_call x.method).name r) y e)
      sound.owned

  pub role_here : (ahead : Heap) → HasRole (here ahead) (own_call x.method) thread.0
  role_here ahead = record { part = inl (refl, refl); owned = λ r y e d. ap (λ b. beq b true) (all_mine g.kept.owners y) }

  pub truth_here : (ahead : Heap) (L : Literal) → truth (shown F (here ahead)) (own_call x.method) L ≡ holds O.header (sight_of O.header g thread.0 call x.method) L
  truth_here ahead L =
      truth_seen F (here ahead) (own_call x.method) thread.0 (λ r. let b = own_below x.method r in omega arith) L (λ e. role_here ahead)
      ∙ ap (λ s. holds O.header s L) (seen_here ahead)

  pub picture_here : (ahead : Heap) → calls.IsOwnPicture F (shown F (here ahead))
  picture_here ahead = record {
    lawful = shows_lawful F (here ahead)
        (in_world F g header sound sizes (here ahead) (g.kept.has_changed thread.0) (inl refl) at_root)
        (orderly_scene F g header sound sizes (here ahead) (g.kept.has_changed thread.0) (inl refl) orderly);
    usable = own_usable F g sound thread call pending (here ahead) (g.kept.has_changed thread.0) (length x.method.variables) (binds_of x.location.action) refl
        (λ y own. all_mine g.kept.owners y);
  }

  pub own_here : ((L : Literal) → IsClaimed O x (Fact.Now L) → holds O.header (sight_of O.header g thread.0 call x.method) L ≡ true) → (ahead : Heap) → IsOwnPicture O x (shown F (here ahead))
  own_here claims ahead = record { picture = picture_here ahead; claimed = λ L claimed. truth_here ahead L ∙ claims L claimed }
