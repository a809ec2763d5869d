-- A step of another call that writes is an effect of its point, in pictures that name what the block reads.
use Rattle.std.proofs.Common.{◌≡◌, ◌⊎◌, ℕ, zero, suc, ◌+◌, ◌-◌, ◌<◌, ◌≤◌, ◌==◌, ℤ, Bool, true, false, not, List, [], ◌∷◌, length, Option, Some, None, refl, sym, ◌∙◌, ap, subst, inl, inr, arith}
use Rattle.std.specs.Prelude.{◌&&◌, nat_lt, slice_get, is_none, unwrap_or, option_and_then, if◌then◌else◌}
use Rattle.std.specs.Bool.{beq}
use Rattle.std.specs.List.{list_any}
use Rattle.std.specs.Option.{option_map_or, option_flatten}
use Rattle.std.specs.FinMap.{get}
use Rattle.std.proofs.lemmas.Bool.{true≢false, and_parts, or_left, or_right, cases_Bool, lt-ltb, ltb-true, not-true, cond-true, cond-false, false_from_ne_true}
use Rattle.std.proofs.lemmas.Option.{none-some, same_Some}
use Rattle.plank_base.specs.declared.keys.NodeId.{NodeId}
use Rattle.plank_base.specs.declared.keys.ThreadId.{ThreadId}
use Rattle.plank_prog.specs.declared.blocks.Reference.{Reference}
use Rattle.plank_prog.specs.declared.blocks.Bind.{Bind}
use Rattle.plank_prog.specs.declared.blocks.Block.{Block}
use Rattle.plank_prog.specs.declared.methods.Action.{Action}
use Rattle.plank_prog.specs.declared.methods.Method.{Method}
use Rattle.plank_prog.specs.Names.{all_pairs}
use Rattle.plank_prog.specs.Headers.{is_lawful_header}
use Rattle.plank_prog.specs.Methods.{is_site, is_lawful_action, are_lawful_methods}
use Rattle.plank_prog.specs.Blocks.{block_reads, binds_stand_alone, is_lawful_block}
use Rattle.plank_heap.specs.declared.heaps.Heap.{Heap}
use Rattle.plank_heap.specs.Walks.{walk_visits}
use Rattle.plank_hist.specs.declared.events.Event.{Event}
use Rattle.plank_sem.specs.declared.calls.Call.{Call}
use Rattle.plank_sem.specs.Worlds.{WorldState}
use Rattle.plank_sem.specs.Steps.{stepped, performed}
use Rattle.plank_sem.specs.Kept.{GhostWorld, IsShared, IsOwn, kept_performed}
use Rattle.plank_sem.specs.Facts.{IsSound, HasSizes}
use Rattle.plank_sem.proofs.LawfulActions.{block_parts}
use Rattle.plank_sem.proofs.Lists.{flattened}
use Rattle.plank_pic.specs.declared.literals.Literal.{Literal}
use Rattle.plank_pic.specs.declared.parts.KeyName.{KeyName}
use Rattle.plank_pic.specs.declared.parts.Part.{Part}
use Rattle.plank_pic.specs.Frames.{Frame}
use Rattle.plank_pic.specs.Pictures.{Picture}
use Rattle.plank_pic.specs.Lawful.{IsLawful}
use Rattle.plank_pic.specs.Blocks.{Turn, name, IsWriteStep}
use Rattle.plank_pic.specs.Calls.{is_others}
use Rattle.plank_pic.specs.Truths.{Caller, truth}
use Rattle.plank_fact.specs.declared.facts.Fact.{Fact}
use Rattle.plank_fact.specs.Literals.{is_over, is_of_call}
use Rattle.plank_fact.specs.Tables.{name_count}
use Rattle.plank_fact.specs.Outlines.{Outline, Point, IsClaimed}
use Rattle.plank_fact.specs.Effects.{read_below, other_turn, other_call, joint_frame, is_known_to, IsEffect}
use Rattle.plank_scene.specs.Scenes.{Scene, is_node, is_shared_in, is_mine_in, is_chain, on, on_both, shown}
use Rattle.plank_scene.specs.Worlds.{IsOrderlyWorld}
use Rattle.plank_scene.specs.Turns.{number, Knows, IsTurnOf, KnowsBinds}
use Rattle.plank_scene.specs.OwnScenes.{counts_as_mine}
use Rattle.plank_scene.proofs.Scenes.Showing.{is_node_same, on_at, shown_says}
use Rattle.plank_scene.proofs.Scenes.Orderly.{shows_lawful}
use Rattle.plank_scene.proofs.Steps.Inhabited.{in_world}
use Rattle.plank_scene.proofs.Keeps.OrderlyWorlds.{orderly_scene}
use Rattle.plank_scene.proofs.Steps.OwnPictures.{block_so}
use Rattle.plank_scene.proofs.Steps.OtherSteps.{OtherSeen, other_block_seen}
use Rattle.plank_sound.specs.Sights.{holds, values_of, bare_scene, seen_at, sight_of}
use Rattle.plank_sound.specs.Interference.{IsAt}
use Rattle.plank_sound.specs.JointNames.{reader, read_value, joint_named}
use Rattle.plank_sound.proofs.Sights.Sighted.{HasRole, truth_seen}
use Rattle.plank_sound.proofs.Sights.Seen.{seen_world}
use Rattle.plank_sound.proofs.Own.Stepping.{lawful_at}
use Rattle.plank_sound.proofs.Others.JointNames.{own_is, theirs_is, read_is, rises}
use Rattle.plank_sound.proofs.Sights.KnownNames.{SeesAlike, holds_alike}

-- what a variable of a method names
values_variable : (heap : Heap) (call : Call) (m : Method) (v : ℕ) → v < length m.variables → values_of heap call m (Reference.Variable v) ≡ number (option_flatten (slice_get call.variables v))
values_variable heap call m v lt =
    let fits = lt-ltb v (length m.variables) lt in
    ap (λ o. value (unwrap_or o 0)) (cond-true (nat_lt v (length m.variables)) (Some (suc v)) None fits) ∙ cond-true (nat_lt v (length m.variables)) _ None fits
  where
    value : ℕ → Option ℕ
    value zero = Some heap.root.0
    value (suc u) = if nat_lt u (length m.variables) then number (option_flatten (slice_get call.variables u)) else None

module _ (O : Outline) (header : is_lawful_header O.header ≡ true) (methods : are_lawful_methods O.header O.methods ≡ true)
    (g : GhostWorld) (sound : IsSound O.header g) (sizes : HasSizes g.world) (orderly : IsOrderlyWorld O.header g)
    (actor : ThreadId) (acting : Call) (acts : get g.world.calls actor.0 ≡ Some acting) (site : Point O.methods) (at : IsAt site acting)
    (claims : (L : Literal) → IsClaimed O site (Fact.Now L) → holds O.header (sight_of O.header g actor.0 acting site.method) L ≡ true)
    (m : Method) (named : ℕ → Option ℕ) (root : named 0 ≡ Some g.world.heap.root.0) (own : Option ℕ) (apart : is_node (Some actor.0) own ≡ false)
    (walked : KeyName → ℤ) (key : walked KeyName.Other ≡ acting.key) (unborn : ℕ → ℤ) (spent : Bool)
    (event : Option Event) (after : WorldState) (step : performed O.methods g.world actor acting site.location.action ≡ stepped event after)
    (sound_after : IsSound O.header (record { world = after; kept = kept_performed O.header g.world.heap after.heap actor acting site.location.action g.kept })) (sizes_after : HasSizes after)
    (b : Block) (same : site.location.action ≡ Action.Block b) where
  abbrev n : ℕ
  n = name_count m

  abbrev V : ℕ
  V = length site.method.variables

  abbrev pub joint : Frame
  joint = joint_frame O m site.method b

  abbrev F : Frame
  F = joint

  abbrev t : Turn
  t = other_turn n b

  abbrev c : Caller
  c = other_call n b

  abbrev base : Scene
  base = record {
    heap = g.world.heap;
    owners = g.kept.owners;
    before = g.world.heap;
    after = after.heap;
    named = joint_named n named b V acting;
    walked = walked;
    unborn = unborn;
    mine = counts_as_mine g.kept.owners (Some actor.0);
    own = own;
    other = Some actor.0;
    spent = spent;
  }

  -- the scenes before and after the step
  abbrev pub joint_before : Scene
  joint_before = base

  abbrev made_owners : Action → List (Option ℕ)
  made_owners a = (kept_performed O.header g.world.heap after.heap actor acting a g.kept).owners

  abbrev pub joint_after : Scene
  joint_after = record base { heap = after.heap; owners = made_owners site.location.action }

  abbrev P : Picture
  P = shown F base

  lawful_block : is_lawful_block O.header V (length site.method.locations) b ≡ true
  lawful_block = subst (λ a. is_lawful_action O.header V (length site.method.locations) a ≡ true) same (lawful_at O methods site acting at).1

  -- ---- the block's names

  stand_alone : binds_stand_alone b ≡ true
  stand_alone = (and_parts _ (binds_stand_alone b) (and_parts _ _ (and_parts _ _ lawful_block).0).0).1

  none_read : list_any (λ (d : Bind). block_reads b (Reference.Variable d.to)) b.binds ≡ false
  none_read = not-true _ (and_parts (all_pairs (λ (d : Bind) e. not (d.to == e.to)) b.binds) _ stand_alone).1

  unread : (k : ℕ) (d : Bind) (ds : List Bind) → slice_get ds k ≡ Some d → list_any (λ (e : Bind). block_reads b (Reference.Variable e.to)) ds ≡ false → block_reads b (Reference.Variable d.to) ≡ false
  unread k d [] found none = absurd (none-some d found)
  unread zero d (e ∷ es) found none = false_from_ne_true _ (λ r. true≢false (sym (or_left _ _ (ap (λ (z : Bind). block_reads b (Reference.Variable z.to)) (same_Some e d found) ∙ r)) ∙ none))
  unread (suc k) d (e ∷ es) found none = unread k d es found (false_from_ne_true _ (λ r. true≢false (sym (or_right (block_reads b (Reference.Variable e.to)) _ r) ∙ none)))

  within : (v : ℕ) → block_reads b (Reference.Variable v) ≡ true → v < V
  within v r = ltb-true v V (block_so O.header V (Reference.Variable v) b r (block_parts O.header V (length site.method.locations) b lawful_block))

  named_so : (v : ℕ) → block_reads b (Reference.Variable v) ≡ true → name t (Reference.Variable v) ≡ n + read_below b v
  named_so v r = ap (λ o. unwrap_or o 0) (cond-true (block_reads b (Reference.Variable v)) (Some (n + read_below b v)) None r)

  below_so : (v : ℕ) → block_reads b (Reference.Variable v) ≡ true → n + read_below b v < F.names
  below_so v r = let lt = rises b v V (within v r) r in omega arith

  knows : (r : Reference) → block_reads b r ≡ true → Knows F base t acting r
  knows Reference.Root e = (omega arith, own_is b n named V acting 0 (omega arith) ∙ root)
  knows (Reference.Variable v) e =
      let s = named_so v e in let lt = below_so v e in
      (omega (arith, s, lt), ap base.named s ∙ read_is b n named V acting v (within v e) e)

  knows_binds : KnowsBinds F base t acting b.binds
  knows_binds k i d to found named_i read =
      absurd (none-some i (sym (cond-false (block_reads b (Reference.Variable d.to)) (Some (n + read_below b d.to)) None (unread k d b.binds found none_read)) ∙ named_i))

  -- ---- whose nodes they are of

  theirs : (v x : ℕ) → number (option_flatten (slice_get acting.variables v)) ≡ Some x → IsShared g.kept.owners x ⊎ IsOwn g.kept.owners x actor.0
  theirs v x e = by_value (option_flatten (slice_get acting.variables v)) refl e
    where
      by_value : (o : Option NodeId) → option_flatten (slice_get acting.variables v) ≡ o → number o ≡ Some x → IsShared g.kept.owners x ⊎ IsOwn g.kept.owners x actor.0
      by_value None d e = absurd (none-some x e)
      by_value (Some y) d e = elim (sound.variables actor.0 acting acts v y (flattened (slice_get acting.variables v) y d)) [
        | inl s ↦ inl (subst (λ z. IsShared g.kept.owners z) (same_Some y.0 x e) s)
        | inr o ↦ inr (subst (λ z. IsOwn g.kept.owners z actor.0) (same_Some y.0 x e) o.0)
      ]

  shared_so : (x : ℕ) → IsShared g.kept.owners x → is_shared_in base x ≡ true
  shared_so x s = ap (λ o. option_map_or (λ p. is_none p) o false) s

  mine_so : (x : ℕ) → IsOwn g.kept.owners x actor.0 → base.mine x ≡ false
  mine_so x o = ap (λ q. not (is_node (option_flatten q) (Some actor.0))) o ∙ ap not (is_node_same actor.0)

  others_name : (i : ℕ) → n ≤ i → i < F.names → is_others P i ≡ true
  others_name i le bi = by_name (base.named i) refl
    where
      fits : nat_lt i F.names ≡ true
      fits = lt-ltb i F.names bi

      value_is : base.named i ≡ read_value b V acting (i - n)
      value_is = let back : n + (i - n) ≡ i = omega arith in ap base.named (sym back) ∙ theirs_is b n named V acting (i - n)

      from_reader : (x : ℕ) (o : Option ℕ) → reader b V (i - n) ≡ o → option_and_then (λ w. number (option_flatten (slice_get acting.variables w))) o ≡ Some x → IsShared g.kept.owners x ⊎ IsOwn g.kept.owners x actor.0
      from_reader x None d e = absurd (none-some x e)
      from_reader x (Some w) d e = theirs w x e

      by_name : (o : Option ℕ) → base.named i ≡ o → is_others P i ≡ true
      by_name None e = or_left _ _ (or_left _ _ (shown_says F base (Part.Null i) fits ∙ ap is_none e))
      by_name (Some x) e = elim (from_reader x (reader b V (i - n)) refl (sym value_is ∙ e)) [
        | inl s ↦ or_left _ _ (or_right _ _ (shown_says F base (Part.Shared i) fits ∙ on_at (is_shared_in base) e ∙ shared_so x s))
        | inr o ↦ or_right _ _ (ap not (shown_says F base (Part.Mine i) fits ∙ on_at (is_mine_in base) e ∙ ap (λ d. d && not (is_shared_in base x)) (mine_so x o)))
      ]

  -- ---- what is claimed at the site

  reads_or_root : (r : Reference) → (block_reads b r ≡ true) ⊎ (c.name r ≡ 0)
  reads_or_root Reference.Root = inr refl
  reads_or_root (Reference.Variable v) = elim (cases_Bool (block_reads b (Reference.Variable v))) [
    | inl e ↦ inl e
    | inr e ↦ inr (ap (λ o. unwrap_or o 0) (cond-false (block_reads b (Reference.Variable v)) (Some (n + read_below b v)) None e))
  ]

  name_below : (r : Reference) → c.name r < F.names
  name_below r = elim (reads_or_root r) [ inl e ↦ (knows r e).0 | inr e ↦ omega (arith, e) ]

  root_named : base.named 0 ≡ Some g.world.heap.root.0
  root_named = own_is b n named V acting 0 (omega arith) ∙ root

  value_so : (r : Reference) → block_reads b r ≡ true → base.named (c.name r) ≡ values_of g.world.heap acting site.method r
  value_so Reference.Root e = root_named
  value_so (Reference.Variable v) e = (knows (Reference.Variable v) e).1 ∙ sym (values_variable g.world.heap acting site.method v (within v e))

  from_call : (r : Reference) (x : ℕ) → base.named (c.name r) ≡ Some x → (x ≡ g.world.heap.root.0) ⊎ ((v : ℕ) × (number (option_flatten (slice_get acting.variables v)) ≡ Some x))
  from_call Reference.Root x e = inl (same_Some _ _ (sym e ∙ root_named))
  from_call (Reference.Variable v) x e = elim (reads_or_root (Reference.Variable v)) [
    | inl r ↦ inr (v, sym (knows (Reference.Variable v) r).1 ∙ e)
    | inr z ↦ inl (same_Some _ _ (sym e ∙ ap base.named z ∙ root_named))
  ]

  named_there : (r : Reference) (x : ℕ) → base.named (c.name r) ≡ Some x → x < length g.world.heap.nodes
  named_there r x e = elim (from_call r x e) [
    | inl is ↦ subst (λ y. y < length g.world.heap.nodes) (sym is) sound.closed.root
    | inr of_variable ↦ by_value of_variable.0 (option_flatten (slice_get acting.variables of_variable.0)) refl of_variable.1
  ]
    where
      by_value : (v : ℕ) (o : Option NodeId) → option_flatten (slice_get acting.variables v) ≡ o → number o ≡ Some x → x < length g.world.heap.nodes
      by_value v None d e = absurd (none-some x e)
      by_value v (Some y) d e = subst (λ z. z < length g.world.heap.nodes) (same_Some y.0 x e) (sound.variables_within actor.0 acting acts v y (flattened (slice_get acting.variables v) y d))

  role : HasRole base c actor.0
  role = record {
    part = inr (refl, refl, apart);
    owned = λ r x e unshared. elim (from_call r x e) [
      | inl is ↦ absurd (true≢false (sym (shared_so x (subst (λ y. IsShared g.kept.owners y) (sym is) sound.root_is_shared)) ∙ unshared))
      | inr of_variable ↦ elim (theirs of_variable.0 x of_variable.1) [
        | inl s ↦ absurd (true≢false (sym (shared_so x s) ∙ unshared))
        | inr o ↦ ap (λ d. beq d false) (mine_so x o)
      ]
    ];
  }

  alike : SeesAlike (block_reads b) (seen_at O.header g (λ r. base.named (c.name r)) acting.key actor.0 spent) (sight_of O.header g actor.0 acting site.method)
  alike = record {
    named = value_so;
    node = λ r e. ap (option_and_then (λ x. slice_get g.world.heap.nodes x)) (value_so r e);
    shared = λ r e. ap (on (is_shared_in (bare_scene g acting.key))) (value_so r e);
    visited = λ r e. ap (on (walk_visits O.header g.world.heap acting.key)) (value_so r e);
    chain = λ q r e d. ap (λ o. on_both (is_chain O.header (bare_scene g acting.key)) o (base.named (c.name r))) (value_so q e)
        ∙ ap (on_both (is_chain O.header (bare_scene g acting.key)) (values_of g.world.heap acting site.method q)) (value_so r d);
    in_set = refl;
    key = refl;
    thread = refl;
  }

  claimed_so : (L : Literal) → IsClaimed O site (Fact.Now L) → is_known_to b L ≡ true → truth P c L ≡ true
  claimed_so L claimed known =
      let w = and_parts (not (is_of_call L)) (is_over (block_reads b) L) known in
      truth_seen F base c actor.0 name_below L (λ e. role)
      ∙ ap (λ s. holds O.header s L) (seen_world O.header base c actor.0 g acting.key (λ r. base.named (c.name r)) refl refl key (λ r. refl) named_there sound.owned)
      ∙ holds_alike O.header (block_reads b) (seen_at O.header g (λ r. base.named (c.name r)) acting.key actor.0 spent) (sight_of O.header g actor.0 acting site.method) alike L (not-true (is_of_call L) w.0) w.1
      ∙ claims L claimed

  -- ---- the step

  turns : IsTurnOf base t actor acting
  turns = record { argument = key; own = apart; other = is_node_same actor.0 }

  pub data OtherStepped : Type 0 where
    by_effect : IsEffect O m site (shown F joint_before) (shown F joint_after) → OtherStepped
    unseen : shown F joint_before ≡ shown F joint_after → OtherStepped

  picture_before : IsLawful F (shown F base)
  picture_before = shows_lawful F base
      (in_world F g header sound sizes base spent (inl refl) (λ r e. ap base.named (sym (same_Some 0 r e)) ∙ root_named))
      (orderly_scene F g header sound sizes base spent (inl refl) orderly)

  pub other_stepped : is_site site.location.action ≡ true → OtherStepped
  other_stepped writes =
      by_cases (other_block_seen F header g sound sizes actor acting acts t base turns refl spent b V (length site.method.locations) lawful_block knows knows_binds event after
      (ap (λ a. performed O.methods g.world actor acting a) (sym same) ∙ step) (record {
        sound_after = subst (λ a. IsSound O.header (record { world = after; kept = kept_performed O.header g.world.heap after.heap actor acting a g.kept })) same sound_after;
        sizes_after = sizes_after;
        root_named = λ r e. ap base.named (sym (same_Some 0 r e)) ∙ root_named ∙ ap (λ (z : NodeId). Some z.0) (sound.same_root ∙ sym sound_after.same_root);
      }))
    where
      by_cases : OtherSeen F header g sound sizes actor acting acts t base turns refl spent b V (length site.method.locations) lawful_block knows knows_binds after → OtherStepped
      by_cases (inl seen) = by_effect (record {
        writes = writes;
        block = b;
        here = same;
        lawful = picture_before;
        others = others_name;
        claimed = claimed_so;
        step = subst (λ a. IsWriteStep F t (shown F joint_before) (shown F (record base { heap = after.heap; owners = made_owners a }))) (sym same) seen.1;
      })
      by_cases (inr seen) = unseen (subst (λ a. shown F joint_before ≡ shown F (record base { heap = after.heap; owners = made_owners a })) (sym same) seen.1)
