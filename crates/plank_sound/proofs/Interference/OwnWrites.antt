-- A write of a pending call, where no obligation fails at its point, leaves an orderly world.
use Rattle.std.proofs.Common.{◌≡◌, ℕ, ◌<◌, ℤ, true, false, length, Option, Some, None, refl, sym, ◌∙◌, ap, inl, inr}
use Rattle.std.specs.Prelude.{slice_get, is_none, unwrap_or, option_map}
use Rattle.std.specs.Option.{option_map_or, option_flatten}
use Rattle.std.specs.FinMap.{get}
use Rattle.std.proofs.lemmas.Option.{slice_get_cases}
use Rattle.plank_base.specs.declared.keys.NodeId.{NodeId}
use Rattle.plank_base.specs.declared.keys.ThreadId.{ThreadId}
use Rattle.plank_prog.specs.Headers.{is_lawful_header}
use Rattle.plank_prog.specs.Methods.{are_lawful_methods}
use Rattle.plank_prog.specs.Conditions.{value}
use Rattle.plank_heap.specs.declared.nodes.Node.{Node}
use Rattle.plank_heap.specs.Heaps.{view_of_node}
use Rattle.plank_heap.specs.Changes.{fresh_node}
use Rattle.plank_heap.specs.Walks.{walk_visits}
use Rattle.plank_hist.specs.declared.events.Event.{Event}
use Rattle.plank_sem.specs.declared.calls.Call.{Call}
use Rattle.plank_sem.specs.Worlds.{WorldState}
use Rattle.plank_sem.specs.Steps.{stepped, performed}
use Rattle.plank_sem.specs.Kept.{GhostWorld, kept_performed}
use Rattle.plank_sem.specs.Facts.{IsSound, HasSizes}
use Rattle.plank_pic.specs.declared.literals.Literal.{Literal}
use Rattle.plank_pic.specs.declared.literals.Exit.{Exit}
use Rattle.plank_pic.specs.declared.parts.KeyName.{KeyName}
use Rattle.plank_pic.specs.Frames.{Frame}
use Rattle.plank_pic.specs.Pictures.{Picture}
use Rattle.plank_pic.specs.Steps.{Change}
use Rattle.plank_pic.specs.Blocks.{change_of}
use Rattle.plank_fact.specs.declared.facts.Fact.{Fact}
use Rattle.plank_fact.specs.Outlines.{Outline, Point, IsClaimed}
use Rattle.plank_fact.specs.OwnSteps.{own_frame, turn_at, IsWriteStep}
use Rattle.plank_fact.specs.Obligations.{AllHold}
use Rattle.plank_fact.proofs.KeptWrites.{kept_write}
use Rattle.plank_scene.specs.Scenes.{Scene, shown}
use Rattle.plank_scene.specs.Worlds.{IsScene, in_order, field_order, IsOrderlyWorld}
use Rattle.plank_scene.proofs.Keeps.KeptWrites.{kept_order, kept_keeps}
use Rattle.plank_scene.proofs.Keeps.OrderlyWorlds.{orderly_scene}
use Rattle.plank_sound.specs.Sights.{holds, sight_of}
use Rattle.plank_sound.specs.Interference.{IsAt}
use Rattle.plank_sound.proofs.Own.Stepping.{before, unmoved, WroteSo}

module _ (O : Outline) (header : is_lawful_header O.header ≡ true) (methods : are_lawful_methods O.header O.methods ≡ true)
    (g : GhostWorld) (sound : IsSound O.header g) (sizes : HasSizes g.world) (orderly : IsOrderlyWorld O.header g)
    (thread : ThreadId) (call : Call) (pending : get g.world.calls thread.0 ≡ Some call) (x : Point O.methods) (at : IsAt x call)
    (claims : (L : Literal) → IsClaimed O x (Fact.Now L) → holds O.header (sight_of O.header g thread.0 call x.method) L ≡ true)
    (event : Option Event) (after : WorldState) (step : performed O.methods g.world thread call x.location.action ≡ stepped event after)
    (sound_after : IsSound O.header (record { world = after; kept = kept_performed O.header g.world.heap after.heap thread call x.location.action g.kept })) (sizes_after : HasSizes after)
    (later : Call) (now : get after.calls thread.0 ≡ Some later) (hold : AllHold O) (c : Change) (writes : change_of (turn_at O x Exit.Yes) ≡ Some c) where
  abbrev F : Frame
  F = own_frame O x

  abbrev later_world : GhostWorld
  later_world = record { world = after; kept = kept_performed O.header g.world.heap after.heap thread call x.location.action g.kept }

  abbrev pub S : ℤ → Scene
  S j = before O header methods g sound sizes orderly thread call pending x at claims j event after step sound_after sizes_after later now

  abbrev pub T : ℤ → Scene
  T j = unmoved O header methods g sound sizes orderly thread call pending x at claims j event after step sound_after sizes_after later now

  abbrev pub WroteAt : ℤ → Type 0
  WroteAt j = WroteSo O header methods g sound sizes orderly thread call pending x at claims j event after step sound_after sizes_after later now c

  -- what the obligations say of the step, for one key
  module _ (j : ℤ) (taken : IsWriteStep O x (shown F (S j)) (shown F (T j))) (wrote : WroteAt j) where
    abbrev B : Picture
    B = shown F (S j)

    abbrev W : Picture
    W = shown F (T j)

    isS : IsScene F (S j)
    isS = record { lawful = header; closed = sound.closed; owned = sound.owned; either = inl refl }

    isT : IsScene F (T j)
    isT = record { lawful = header; closed = sound_after.closed; owned = sound_after.owned; either = inr refl }

    node_is : (y : ℕ) (node : Node) → slice_get after.heap.nodes y ≡ Some node → unwrap_or (slice_get after.heap.nodes y) (fresh_node call.key) ≡ node
    node_is y node e = ap (λ o. unwrap_or o (fresh_node call.key)) e

    -- keeps for this key, and the order of pointers
    pub keeps_then : (y n : ℕ) (node : Node) → n < length O.header.keeps → slice_get later_world.kept.owners y ≡ Some None → slice_get after.heap.nodes y ≡ Some node
        → option_map_or (λ q. value (view_of_node node j (walk_visits O.header after.heap j y)) q.condition) (slice_get O.header.keeps n) true ≡ true
    keeps_then y n node bn shared found =
        kept_keeps F (S j) after.heap later_world.kept.owners (later_world.kept.has_changed thread.0) c wrote.x isS isT wrote.is wrote.nodes wrote.root refl refl wrote.shares wrote.spends
        (orderly_scene F g header sound sizes (S j) (g.kept.has_changed thread.0) (inl refl) orderly) sizes_after.nodes KeyName.Any (kept_write O hold x c writes B W taken) y node n bn found (ap (λ o. option_map_or (λ p. is_none p) o false) shared)

    pub order_then : (y f : ℕ) (node next : Node) (to : NodeId) → slice_get after.heap.nodes y ≡ Some node → slice_get node.pointers f ≡ Some (Some to) → slice_get after.heap.nodes to.0 ≡ Some next → in_order (field_order O.header f) node.key next.key ≡ true
    order_then y f node next to found leads there =
        let lead : option_map (λ (t : NodeId). t.0) (option_flatten (slice_get (unwrap_or (slice_get after.heap.nodes y) (fresh_node call.key)).pointers f)) ≡ Some to.0 =
        ap (λ (z : Node). option_map (λ (t : NodeId). t.0) (option_flatten (slice_get z.pointers f))) (node_is y node found) ∙ ap (λ o. option_map (λ (t : NodeId). t.0) (option_flatten o)) leads in
        ap (λ (z : Node). in_order (field_order O.header f) z.key next.key) (sym (node_is y node found))
        ∙ ap (λ (z : Node). in_order (field_order O.header f) (unwrap_or (slice_get after.heap.nodes y) (fresh_node call.key)).key z.key) (sym (node_is to.0 next there))
        ∙ kept_order F (S j) after.heap later_world.kept.owners (later_world.kept.has_changed thread.0) c wrote.x isS isT wrote.is wrote.nodes wrote.root refl refl wrote.shares wrote.spends
        (orderly_scene F g header sound sizes (S j) (g.kept.has_changed thread.0) (inl refl) orderly) sizes_after.nodes KeyName.Any (kept_write O hold x c writes B W taken) y f to.0 lead

  -- the step as it is seen with a key
  abbrev pub WritesAt : ℤ → Type 0
  WritesAt j = IsWriteStep O x (shown F (S j)) (shown F (T j)) × WroteAt j

  pub orderly_after : ((j : ℤ) → WritesAt j) → IsOrderlyWorld O.header later_world
  orderly_after steps = record {
    keeps = λ j y n node shared found. elim (slice_get_cases O.header.keeps n).1 [
      | inl there ↦ keeps_then j (steps j).0 (steps j).1 y n node there.1 shared found
      | inr past ↦ ap (λ o. option_map_or (λ q. value (view_of_node node j (walk_visits O.header after.heap j y)) q.condition) o true) past.1
    ];
    ordered = λ y f node next to found leads there. order_then call.key (steps call.key).0 (steps call.key).1 y f node next to found leads there;
  }
