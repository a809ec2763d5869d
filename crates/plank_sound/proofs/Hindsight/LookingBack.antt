-- The law of hindsight holds of a run whose worlds are orderly and whose older claims are true.
use Rattle.std.proofs.Common.{◌≡◌, ◌⊎◌, ℕ, zero, suc, ◌<◌, ◌≤◌, ℤ, Bool, true, false, List, [], ◌∷◌, length, Option, Some, None, refl, sym, ◌∙◌, ap, subst, inl, inr, arith}
use Rattle.std.specs.Prelude.{slice_get, is_none, unwrap_or, option_map, option_and_then, if◌then◌else◌}
use Rattle.std.specs.Option.{option_map_or}
use Rattle.std.specs.FinMap.{get}
use Rattle.std.proofs.lemmas.Bool.{true≢false, false≢true, and_parts, cases_Bool, lt-ltb}
use Rattle.std.proofs.lemmas.List.{length-append}
use Rattle.std.proofs.lemmas.Option.{none-some, same_Some, slice_get_cases}
use Rattle.plank_base.specs.declared.keys.Key.{Key}
use Rattle.plank_base.specs.declared.keys.NodeId.{NodeId}
use Rattle.plank_base.specs.declared.keys.ThreadId.{ThreadId}
use Rattle.plank_prog.specs.declared.headers.Header.{Header}
use Rattle.plank_prog.specs.declared.blocks.Reference.{Reference}
use Rattle.plank_prog.specs.declared.blocks.Block.{Block}
use Rattle.plank_prog.specs.declared.methods.Action.{Action}
use Rattle.plank_prog.specs.declared.methods.Method.{Method}
use Rattle.plank_prog.specs.Headers.{is_lawful_header}
use Rattle.plank_prog.specs.Methods.{are_lawful_methods}
use Rattle.plank_heap.specs.declared.nodes.Node.{Node}
use Rattle.plank_heap.specs.declared.heaps.Heap.{Heap}
use Rattle.plank_heap.specs.Changes.{fresh_node}
use Rattle.plank_heap.specs.Heaps.{start_heap}
use Rattle.plank_heap.specs.Walks.{walk_visits, contains}
use Rattle.plank_hist.specs.declared.events.Event.{Event}
use Rattle.plank_sem.specs.declared.calls.Call.{Call}
use Rattle.plank_sem.specs.declared.steps.Choice.{Choice}
use Rattle.plank_sem.specs.Worlds.{WorldState}
use Rattle.plank_sem.specs.Kept.{Kept, GhostWorld, ghost_after, kept_performed, GhostRun, ghost_begins, ghost_goes_on, IsShared}
use Rattle.plank_sem.specs.Facts.{IsSound, Stays, HasSizes, AreNumbered}
use Rattle.plank_sem.proofs.Lists.{push_last}
use Rattle.plank_sem.proofs.SoundWorlds.{GoodRun, run_good}
use Rattle.plank_pic.specs.declared.literals.Literal.{Literal}
use Rattle.plank_pic.specs.declared.parts.KeyName.{KeyName}
use Rattle.plank_pic.specs.declared.parts.Part.{Part}
use Rattle.plank_pic.specs.Frames.{Frame}
use Rattle.plank_pic.specs.Pictures.{Picture}
use Rattle.plank_pic.specs.Lawful.{IsLawful}
use Rattle.plank_pic.specs.Truths.{Caller, truth}
use Rattle.plank_fact.specs.declared.facts.Fact.{Fact}
use Rattle.plank_fact.specs.Literals.{is_lasting, past_name, is_field_of, can_be_past}
use Rattle.plank_fact.specs.Tables.{name_count}
use Rattle.plank_fact.specs.Outlines.{Outline, IsClaimed}
use Rattle.plank_fact.specs.OwnSteps.{own_call, method_frame}
use Rattle.plank_fact.specs.Hindsight.{is_node_shared, is_witnessed, AllTrue, IsHindsight}
use Rattle.plank_scene.specs.Scenes.{Scene, node_at, is_shared_in, is_chain, on, on_both, shown}
use Rattle.plank_scene.specs.Worlds.{IsOrderlyWorld}
use Rattle.plank_scene.proofs.Scenes.Showing.{shown_says, shown_true, on_true, on_at}
use Rattle.plank_scene.proofs.Scenes.Orderly.{shows_lawful}
use Rattle.plank_scene.proofs.Steps.Inhabited.{in_world}
use Rattle.plank_scene.proofs.Keeps.OrderlyWorlds.{orderly_scene}
use Rattle.plank_scene.proofs.Steps.QuietSteps.{IsQuiet, same_heap, grown_heap, scene_then, quiet_shows}
use Rattle.plank_sound.specs.Sights.{holds, holds_shared, value_at, values_of, seen_in, seen_at, sight_of}
use Rattle.plank_sound.specs.Interference.{AreNowTrue}
use Rattle.plank_sound.specs.HindsightLaw.{IsTrueNow}
use Rattle.plank_sound.specs.SeenSteps.{ActsAt, keys_of_two}
use Rattle.plank_sound.proofs.Sights.Sighted.{asks_role, truth_seen}
use Rattle.plank_sound.proofs.Sights.Seen.{same_sight}
use Rattle.plank_sound.proofs.Sights.PastSeen.{witnessed_seen, past_seen}
use Rattle.plank_sound.proofs.Sights.LastingFacts.{key_of_node, lasts}
use Rattle.plank_sound.proofs.Sights.LiteralKinds.{lasting_asks_none, field_asks_none, past_asks_none}
use Rattle.plank_sound.proofs.Own.Standing.{own_below, values_there}
use Rattle.plank_sound.proofs.Others.JointNames.{own_is}
use Rattle.plank_sound.proofs.Others.EffectSteps.{OtherStepped, by_effect, unseen, other_stepped, joint, joint_before, joint_after}
use Rattle.plank_sound.proofs.Others.StepViews.{StepView, at_site, quiet, step_view, site_block}

-- what an older world of the run has, looked at from a later one
pub record IsOlder (O : Outline) (g w : GhostWorld) : Type 0 where
  pub sound : IsSound O.header w
  pub sizes : HasSizes w.world
  pub orderly : IsOrderlyWorld O.header w
  pub stays : Stays w g

-- the number of a key
abbrev pub number_of_key : ℤ → Key → ℤ
number_of_key default Key.Min = default
number_of_key default (Key.Num j) = j
number_of_key default Key.Max = default

-- two scenes of one heap, with one call's names, show it the same
module _ (h : Header) (S T : Scene) (c : Caller) (thread : ℕ) (own : c.own ≡ true) (heap : S.heap ≡ T.heap) (owners : S.owners ≡ T.owners) (unborn : S.unborn ≡ T.unborn)
    (names : (r : Reference) → S.named (c.name r) ≡ T.named (c.name r)) (key : S.walked (if c.own then KeyName.Own else KeyName.Other) ≡ T.walked (if c.own then KeyName.Own else KeyName.Other)) (spent : S.spent ≡ T.spent) where
  node_same : (x : ℕ) → node_at S x ≡ node_at T x
  node_same x = ap (λ w. unwrap_or (slice_get w.nodes x) (fresh_node (S.unborn x))) heap ∙ ap (λ (f : ℕ → ℤ). unwrap_or (slice_get T.heap.nodes x) (fresh_node (f x))) unborn

  shared_same : (x : ℕ) → is_shared_in S x ≡ is_shared_in T x
  shared_same x = ap (λ os. option_map_or (λ o. is_none o) (slice_get os x) false) owners

  chain_same : (x y : ℕ) → is_chain h S x y ≡ is_chain h T x y
  chain_same x y = ap (λ w. is_chain h (record S { heap = w }) x y) heap ∙ ap (λ os. is_chain h (record S { heap = T.heap; owners = os }) x y) owners
      ∙ ap (λ f. is_chain h (record S { heap = T.heap; owners = T.owners; unborn = f }) x y) unborn

  on_same : (f k : ℕ → Bool) → ((x : ℕ) → f x ≡ k x) → (o : Option ℕ) → on f o ≡ on k o
  on_same f k same None = refl
  on_same f k same (Some x) = same x

  map_same : (o : Option ℕ) → option_map (node_at S) o ≡ option_map (node_at T) o
  map_same None = refl
  map_same (Some x) = ap Some (node_same x)

  both_same : (o r : Option ℕ) → on_both (is_chain h S) o r ≡ on_both (is_chain h T) o r
  both_same None r = refl
  both_same (Some x) None = refl
  both_same (Some x) (Some y) = chain_same x y

  abbrev k : KeyName
  k = if c.own then KeyName.Own else KeyName.Other

  pub one_sight : seen_in h S c thread ≡ seen_in h T c thread
  one_sight =
      same_sight (seen_in h S c thread) (seen_in h T c thread)
      names
      (λ r. ap (option_map (node_at S)) (names r) ∙ map_same (T.named (c.name r)))
      (λ r. ap (on (is_shared_in S)) (names r) ∙ on_same (is_shared_in S) (is_shared_in T) shared_same (T.named (c.name r)))
      (λ r. ap (on (walk_visits h S.heap (S.walked k))) (names r) ∙ ap (λ w. on (walk_visits h w (S.walked k)) (T.named (c.name r))) heap ∙ ap (λ j. on (walk_visits h T.heap j) (T.named (c.name r))) key)
      (λ q r. ap (λ o. on_both (is_chain h S) o (S.named (c.name r))) (names q) ∙ ap (on_both (is_chain h S) (T.named (c.name q))) (names r) ∙ both_same (T.named (c.name q)) (T.named (c.name r)))
      (ap (λ w. contains h w (S.walked k)) heap ∙ ap (contains h T.heap) key)
      key refl spent

module _ (O : Outline) (header : is_lawful_header O.header ≡ true) (methods : are_lawful_methods O.header O.methods ≡ true)
    (g : GhostWorld) (sound : IsSound O.header g) (numbered : AreNumbered O.header g) (thread : ℕ) (call : Call) (pending : get g.world.calls thread ≡ Some call) (m : Method)
    (Lasting : Literal → Type 0) (lasting : (L : Literal) → Lasting L → (is_lasting L ≡ true) × IsTrueNow O g thread call m L)
    (past : Literal) (conclusion : Literal) (kind : can_be_past conclusion ≡ true) where
  abbrev n : ℕ
  n = name_count m

  abbrev V : ℕ
  V = length m.variables

  abbrev named : ℕ → Option ℕ
  named = value_at g.world.heap call V

  abbrev c : Caller
  c = own_call m

  abbrev F : Frame
  F = method_frame O.header m

  -- the keys that nodes have now
  abbrev present : ℕ → ℤ
  present x = option_map_or (λ (node : Node). number_of_key call.key node.key) (slice_get g.world.heap.nodes x) call.key

  -- an older world, with the names of now
  abbrev pub hind : GhostWorld → Scene
  hind w = record {
    heap = w.world.heap;
    owners = w.kept.owners;
    before = w.world.heap;
    after = w.world.heap;
    named = named;
    walked = λ k. call.key;
    unborn = present;
    mine = λ x. true;
    own = Some thread;
    other = None;
    spent = g.kept.has_changed thread;
  }

  abbrev pub P : GhostWorld → Picture
  P w = shown F (hind w)

  root_named : (w : GhostWorld) → IsOlder O g w → named 0 ≡ Some w.world.heap.root.0
  root_named w old = ap (λ (r : NodeId). Some r.0) old.stays.same_root

  lawful_there : (w : GhostWorld) → IsOlder O g w → IsLawful F (P w)
  lawful_there w old = shows_lawful F (hind w)
      (in_world F w header old.sound old.sizes (hind w) (g.kept.has_changed thread) (inl refl) (λ r e. ap named (sym (same_Some 0 r e)) ∙ root_named w old))
      (orderly_scene F w header old.sound old.sizes (hind w) (g.kept.has_changed thread) (inl refl) old.orderly)

  -- ---- what lasts

  -- a node that is there now has its key in any scene of an older world
  key_there : (w : GhostWorld) → IsOlder O g w → (x : ℕ) (node : Node) → slice_get g.world.heap.nodes x ≡ Some node → (unwrap_or (slice_get w.world.heap.nodes x) (fresh_node (present x))).key ≡ node.key
  key_there w old x node at = elim (slice_get_cases w.world.heap.nodes x).1 [
    | inl found ↦
        let later = old.stays.keys x found.0 found.2 in
        ap (λ o. (unwrap_or o (fresh_node (present x))).key) found.2 ∙ sym later.2 ∙ ap (λ (k : Node). k.key) (same_Some _ _ (sym later.1 ∙ at))
    | inr past ↦ ap (λ o. (unwrap_or o (fresh_node (present x))).key) past.1 ∙ elim (numbered x node at) [
      | inl start ↦ absurd (not_start past.1 start)
      | inr number ↦ ap (λ o. Key.Num (option_map_or (λ (k : Node). number_of_key call.key k.key) o call.key)) at ∙ ap (λ k. Key.Num (number_of_key call.key k)) number.1 ∙ sym number.1
    ]
  ]
    where
      not_start : slice_get w.world.heap.nodes x ≡ None → x < length (start_heap O.header).nodes → ⊥
      not_start none lt = elim (slice_get_cases (start_heap O.header).nodes x).1 [
        | inl found ↦ (let later = old.sound.start_keys x found.0 found.2 in none-some later.0 (sym none ∙ later.1))
        | inr past ↦ absurd (let le = past.0 in omega (arith, le, lt))
      ]

  module _ (frame : Frame) (headers : frame.header ≡ O.header) (S : Scene) (w : GhostWorld) (old : IsOlder O g w) (heap : S.heap ≡ w.world.heap) (unborn : S.unborn ≡ present) (room : n ≤ frame.names)
      (names : (i : ℕ) → i < n → S.named i ≡ named i) (key : S.walked KeyName.Own ≡ call.key) where
    below : (r : Reference) → c.name r < frame.names
    below r = let b = own_below m r in omega (arith, b, room)

    keys_same : (r : Reference) → key_of_node (seen_in frame.header S c thread) r ≡ key_of_node (sight_of O.header g thread call m) r
    keys_same r = ap (λ o. option_map (λ (z : Node). z.key) (option_map (node_at S) o)) (names (c.name r) (own_below m r)) ∙ by_name (named (c.name r)) refl
      where
        by_name : (o : Option ℕ) → named (c.name r) ≡ o → option_map (λ (z : Node). z.key) (option_map (node_at S) o) ≡ option_map (λ (z : Node). z.key) (option_and_then (λ x. slice_get g.world.heap.nodes x) o)
        by_name None e = refl
        by_name (Some x) e = elim (slice_get_cases g.world.heap.nodes x).1 [
          | inl found ↦ ap Some (ap (λ v. (unwrap_or (slice_get v.nodes x) (fresh_node (S.unborn x))).key) heap ∙ ap (λ (f : ℕ → ℤ). (unwrap_or (slice_get w.world.heap.nodes x) (fresh_node (f x))).key) unborn ∙ key_there w old x found.0 found.2)
              ∙ ap (option_map (λ (z : Node). z.key)) (sym found.2)
          | inr past ↦ absurd (let le = past.0 in
              let lt = values_there (λ z. z < length g.world.heap.nodes) g.world.heap call m sound.closed.root (sound.variables_within thread call pending) (c.name r) x e in omega (arith, le, lt))
        ]

    pub lasting_there : (L : Literal) → Lasting L → truth (shown frame S) c L ≡ true
    lasting_there L is =
        let w = lasting L is in
        truth_seen frame S c thread below L (λ e. absurd (lasting_asks_none L w.0 e))
        ∙ lasts frame.header (seen_in frame.header S c thread) (sight_of O.header g thread call m) (λ r. names (c.name r) (own_below m r)) keys_same key L w.0
        ∙ ap (λ h. holds h (sight_of O.header g thread call m) L) headers ∙ w.1

    -- what is witnessed in the scene was so in the world
    pub was_there : S.owners ≡ w.kept.owners → is_witnessed (shown frame S) c conclusion ≡ true → holds_shared O.header (seen_at O.header w (values_of g.world.heap call m) call.key thread false) conclusion ≡ true
    was_there owners e =
        ap (λ h. holds_shared h (seen_at h w (values_of g.world.heap call m) call.key thread false) conclusion) (sym headers)
        ∙ sym (past_seen frame.header S c thread w call.key (values_of g.world.heap call m) heap owners key (λ r. names (c.name r) (own_below m r)) old.sound.owned conclusion kind)
        ∙ sym (witnessed_seen frame S c thread below conclusion (truth_seen frame S c thread below conclusion (λ e. absurd (past_asks_none conclusion kind e))))
        ∙ e

  lasting_in : (w : GhostWorld) → IsOlder O g w → AllTrue Lasting (P w) c
  lasting_in w old L is = lasting_there F refl (hind w) w old refl refl (omega arith) (λ i bi. refl) refl L is

  was_in : (w : GhostWorld) → IsOlder O g w → is_witnessed (P w) c conclusion ≡ true → holds_shared O.header (seen_at O.header w (values_of g.world.heap call m) call.key thread false) conclusion ≡ true
  was_in w old e = was_there F refl (hind w) w old refl refl (omega arith) (λ i bi. refl) refl refl e

  -- a moment among these worlds, not older than so many steps, at which the conclusion was true
  pub record Found (ws : List GhostWorld) (ago : ℕ) : Type 0 where
    pub since : ℕ
    pub young : since ≤ ago
    pub moment : GhostWorld
    pub at : slice_get ws since ≡ Some moment
    pub was : holds_shared O.header (seen_at O.header moment (values_of g.world.heap call m) call.key thread false) conclusion ≡ true

  -- ---- nothing is true now

  pub without_now : IsHindsight O m Lasting past None conclusion → (w : GhostWorld) → IsOlder O g w → is_witnessed (P w) c past ≡ true → holds_shared O.header (seen_at O.header w (values_of g.world.heap call m) call.key thread false) conclusion ≡ true
  without_now law w old e = was_in w old (law.already (P w) (lawful_there w old) (lasting_in w old) e refl)

  -- ---- something is true now

  module _ (b : Literal) (law : IsHindsight O m Lasting past (Some b) conclusion) where
    -- it is a field, of which no role is asked
    field_role : asks_role b ≡ true → ⊥
    field_role = by_name (past_name past) law.fits
      where
        by_name : (o : Option Reference) → option_map_or (λ q. is_field_of q b) o false ≡ true → asks_role b ≡ true → ⊥
        by_name None e d = false≢true e
        by_name (Some q) e d = field_asks_none q b e d

    at_once : (w : GhostWorld) → IsOlder O g w → is_witnessed (P w) c past ≡ true → truth (P w) c b ≡ true → holds_shared O.header (seen_at O.header w (values_of g.world.heap call m) call.key thread false) conclusion ≡ true
    at_once w old e d = was_in w old (law.already (P w) (lawful_there w old) (lasting_in w old) e d)

    -- the field is true alike in scenes that show the call the same
    module _ (f k : Frame) (headers : f.header ≡ k.header) (S T : Scene) (below_f : (r : Reference) → c.name r < f.names) (below_k : (r : Reference) → c.name r < k.names) (same : seen_in f.header S c thread ≡ seen_in f.header T c thread) where
      pub field_same : truth (shown f S) c b ≡ truth (shown k T) c b
      field_same =
          truth_seen f S c thread below_f b (λ e. absurd (field_role e)) ∙ ap (λ s. holds f.header s b) same
          ∙ ap (λ h. holds h (seen_in h T c thread) b) headers ∙ sym (truth_seen k T c thread below_k b (λ e. absurd (field_role e)))

    below_F : (r : Reference) → c.name r < F.names
    below_F r = let lt = own_below m r in omega (arith, lt)

    -- the node of the past fact stays shared
    shared_later : (earlier w : GhostWorld) → Stays earlier w → IsOlder O g earlier → (frame : Frame) → n ≤ frame.names → (S : Scene) → S.owners ≡ w.kept.owners → ((i : ℕ) → i < n → S.named i ≡ named i)
        → is_witnessed (P earlier) c past ≡ true → is_node_shared (shown frame S) c past ≡ true
    shared_later earlier w stays old frame room S owners names e = by_name (past_name past) (and_parts (truth (P earlier) c past) _ e).1
      where
        by_name : (o : Option Reference) → option_map_or (λ q. P earlier (Part.Shared (c.name q))) o true ≡ true → option_map_or (λ q. shown frame S (Part.Shared (c.name q))) o true ≡ true
        by_name None d = refl
        by_name (Some q) d =
            let found = on_true (is_shared_in (hind earlier)) (named (c.name q)) (shown_true F (hind earlier) (Part.Shared (c.name q)) d).1 in
            let lt = own_below m q in
            shown_says frame S (Part.Shared (c.name q)) (lt-ltb (c.name q) frame.names (omega (arith, lt, room)))
            ∙ on_at (is_shared_in S) (names (c.name q) lt ∙ found.1)
            ∙ ap (λ os. option_map_or (λ o. is_none o) (slice_get os found.0) false) owners
            ∙ ap (λ o. option_map_or (λ p. is_none p) o false) (stays.shared found.0 (shared_to found.0 (slice_get earlier.kept.owners found.0) refl found.2))
          where
            shared_to : (y : ℕ) (o : Option (Option ℕ)) → slice_get earlier.kept.owners y ≡ o → option_map_or (λ p. is_none p) o false ≡ true → IsShared earlier.kept.owners y
            shared_to y None at e = absurd (false≢true e)
            shared_to y (Some None) at e = at
            shared_to y (Some (Some t)) at e = absurd (false≢true e)

    -- the field became true by a step: the conclusion is true after it
    module _ (w : GhostWorld) (old : IsOlder O g w) (claims : AreNowTrue O w) (actor : ThreadId) (after : WorldState) (kept : Kept)
        (later_old : IsOlder O g (record { world = after; kept = kept })) (was_false : truth (P w) c b ≡ false) (is_true : truth (P (record { world = after; kept = kept })) c b ≡ true)
        (shared : (frame : Frame) → n ≤ frame.names → (S : Scene) → S.owners ≡ w.kept.owners → ((i : ℕ) → i < n → S.named i ≡ named i) → is_node_shared (shown frame S) c past ≡ true) where
      abbrev later : GhostWorld
      later = record { world = after; kept = kept }

      abbrev Goal : Type 0
      Goal = holds_shared O.header (seen_at O.header later (values_of g.world.heap call m) call.key thread false) conclusion ≡ true

      by_quiet : (other : Call) → IsQuiet w actor.0 other after.heap kept.owners → present (length w.world.heap.nodes) ≡ other.key → ⊥
      by_quiet other is_quiet unborn =
          let T : Scene = scene_then (hind w) after.heap kept.owners in
          let same : shown F (hind w) ≡ shown F T = quiet_shows F header w old.sound (hind w) refl refl refl actor.0 other unborn after.heap kept.owners is_quiet in
          let alike : truth (shown F T) c b ≡ truth (P later) c b = field_same F F refl T (hind later) below_F below_F (one_sight O.header T (hind later) c thread refl refl refl refl (λ r. refl) refl refl) in
          true≢false (sym is_true ∙ sym alike ∙ ap (λ (p : Picture). truth p c b) (sym same) ∙ was_false)

      -- a node that a step allocates has its key ever after
      fresh_key : (other : Call) → IsQuiet w actor.0 other after.heap kept.owners → (present (length w.world.heap.nodes) ≡ other.key) ⊎ (after.heap ≡ w.world.heap)
      fresh_key other (same_heap heap owners) = inr heap
      fresh_key other (grown_heap heap owners) =
          let there : slice_get after.heap.nodes (length w.world.heap.nodes) ≡ Some (fresh_node other.key) = ap (λ (v : Heap). slice_get v.nodes (length w.world.heap.nodes)) heap ∙ push_last w.world.heap.nodes (fresh_node other.key) in
          let now_there = later_old.stays.keys (length w.world.heap.nodes) (fresh_node other.key) there in
          inl (ap (λ o. option_map_or (λ (k : Node). number_of_key call.key k.key) o call.key) now_there.1 ∙ ap (number_of_key call.key) now_there.2)

      unchanged : after.heap ≡ w.world.heap → (other : Call) → IsQuiet w actor.0 other after.heap kept.owners → ⊥
      unchanged heap other (same_heap heap_same owners_same) =
          let alike : truth (P w) c b ≡ truth (P later) c b = field_same F F refl (hind w) (hind later) below_F below_F (one_sight O.header (hind w) (hind later) c thread refl (sym heap_same) (sym owners_same) refl (λ r. refl) refl refl) in
          true≢false (sym is_true ∙ sym alike ∙ was_false)
      unchanged heap other (grown_heap heap_grown owners_grown) = absurd (let e = ap (λ (v : Heap). length v.nodes) (sym heap ∙ heap_grown) in let more = length-append w.world.heap.nodes (fresh_node other.key ∷ []) in omega (arith, e, more))

      flipped_by : StepView O w actor after kept → Goal
      flipped_by (quiet other is_quiet) = elim (fresh_key other is_quiet) [
        | inl unborn ↦ absurd (by_quiet other is_quiet unborn)
        | inr heap ↦ absurd (unchanged heap other is_quiet)
      ]
      flipped_by (at_site acts writes) =
          let block = site_block acts.point.location.action writes in
          by_site block.0 block.1 (other_stepped O header methods w old.sound old.sizes old.orderly actor acts.call acts.pending acts.point acts.at (acting_claims acts) m named (root_named w old) None refl (keys_of_two call.key acts.call.key) refl present (g.kept.has_changed thread) acts.event after acts.step (sound_made acts) later_old.sizes block.0 block.1 writes)
        where
          acting_claims : (acts : ActsAt O w actor after kept) → (L : Literal) → IsClaimed O acts.point (Fact.Now L) → holds O.header (sight_of O.header w actor.0 acts.call acts.point.method) L ≡ true
          acting_claims acts L claimed = claims actor.0 acts.call acts.pending acts.point acts.at L claimed

          sound_made : (acts : ActsAt O w actor after kept) → IsSound O.header (record { world = after; kept = kept_performed O.header w.world.heap after.heap actor acts.call acts.point.location.action w.kept })
          sound_made acts = subst (λ k. IsSound O.header (record { world = after; kept = k })) acts.kept_is later_old.sound

          by_site : (block : Block) (same : acts.point.location.action ≡ Action.Block block)
              → OtherStepped O header methods w old.sound old.sizes old.orderly actor acts.call acts.pending acts.point acts.at (acting_claims acts) m named (root_named w old) None refl (keys_of_two call.key acts.call.key) refl present (g.kept.has_changed thread) acts.event after acts.step (sound_made acts) later_old.sizes block same
              → Goal
          by_site block same seen = by_seen seen
            where
              J : Frame
              J = joint O header methods w old.sound old.sizes old.orderly actor acts.call acts.pending acts.point acts.at (acting_claims acts) m named (root_named w old) None refl (keys_of_two call.key acts.call.key) refl present (g.kept.has_changed thread) acts.event after acts.step (sound_made acts) later_old.sizes block same

              S : Scene
              S = joint_before O header methods w old.sound old.sizes old.orderly actor acts.call acts.pending acts.point acts.at (acting_claims acts) m named (root_named w old) None refl (keys_of_two call.key acts.call.key) refl present (g.kept.has_changed thread) acts.event after acts.step (sound_made acts) later_old.sizes block same

              T : Scene
              T = joint_after O header methods w old.sound old.sizes old.orderly actor acts.call acts.pending acts.point acts.at (acting_claims acts) m named (root_named w old) None refl (keys_of_two call.key acts.call.key) refl present (g.kept.has_changed thread) acts.event after acts.step (sound_made acts) later_old.sizes block same

              below_J : (r : Reference) → c.name r < J.names
              below_J r = let lt = own_below m r in omega (arith, lt)

              owners_T : T.owners ≡ kept.owners
              owners_T = ap (λ (k : Kept). k.owners) (sym acts.kept_is)

              b_before : truth (shown J S) c b ≡ truth (P w) c b
              b_before = field_same J F refl S (hind w) below_J below_F (one_sight O.header S (hind w) c thread refl refl refl refl (λ r. own_is block n named (length acts.point.method.variables) acts.call (c.name r) (own_below m r)) refl refl)

              b_after : truth (shown J T) c b ≡ truth (P later) c b
              b_after = field_same J F refl T (hind later) below_J below_F (one_sight O.header T (hind later) c thread refl refl owners_T refl (λ r. own_is block n named (length acts.point.method.variables) acts.call (c.name r) (own_below m r)) refl refl)

              room : n ≤ J.names
              room = omega arith

              by_seen : OtherStepped O header methods w old.sound old.sizes old.orderly actor acts.call acts.pending acts.point acts.at (acting_claims acts) m named (root_named w old) None refl (keys_of_two call.key acts.call.key) refl present (g.kept.has_changed thread) acts.event after acts.step (sound_made acts) later_old.sizes block same → Goal
              by_seen (by_effect effect) =
                  was_there J refl T later later_old refl refl room (own_is block n named (length acts.point.method.variables) acts.call) refl owners_T
                  (law.later b refl acts.point (shown J S) (shown J T) effect (λ L is. lasting_there J refl S w old refl refl room (own_is block n named (length acts.point.method.variables) acts.call) refl L is) (shared J room S refl (own_is block n named (length acts.point.method.variables) acts.call)) (b_before ∙ was_false) (b_after ∙ is_true))
              by_seen (unseen same_picture) = absurd (true≢false (sym is_true ∙ sym b_after ∙ ap (λ (p : Picture). truth p c b) (sym same_picture) ∙ b_before ∙ was_false))

    abbrev AllOlder : List GhostWorld → Type 0
    AllOlder ws = (i : ℕ) (w : GhostWorld) → slice_get ws i ≡ Some w → IsOlder O g w

    abbrev OlderClaims : List GhostWorld → Type 0
    OlderClaims ws = (i : ℕ) (w : GhostWorld) → slice_get ws (suc i) ≡ Some w → AreNowTrue O w

    -- back through the run, from a world in which the field is true
    pub look_back : {choices : List Choice} {told : List (Option Event)} {ws : List GhostWorld} → GhostRun O.header O.methods choices told ws → AllOlder ws → OlderClaims ws
        → (ago : ℕ) (earlier : GhostWorld) → slice_get ws ago ≡ Some earlier → is_witnessed (P earlier) c past ≡ true → ((w : GhostWorld) → slice_get ws 0 ≡ Some w → truth (P w) c b ≡ true) → Found ws ago
    look_back ghost_begins old claims zero earlier at e d = record { since = 0; young = omega arith; moment = earlier; at = at; was = at_once earlier (old 0 earlier at) e (d earlier at) }
    look_back ghost_begins old claims (suc ago) earlier at e d = absurd (none-some earlier at)
    look_back (ghost_goes_on run choice event after step) old claims zero earlier at e d = record { since = 0; young = omega arith; moment = earlier; at = at; was = at_once earlier (old 0 earlier at) e (d earlier at) }
    look_back (ghost_goes_on {choices} {told} {before} {ghosts} run choice event after step) old claims (suc ago) earlier at e d =
        by_truth (λ is. look_back run (λ i w there. old (suc i) w there) (λ i w there. claims (suc i) w there) ago earlier at e (λ w there. subst (λ v. truth (P v) c b ≡ true) (same_Some before w there) is)) (cases_Bool (truth (P before) c b))
      where
        good : GoodRun O.header O.methods (before ∷ ghosts)
        good = run_good header methods run

        by_truth : (truth (P before) c b ≡ true → Found (before ∷ ghosts) ago) → (truth (P before) c b ≡ true) ⊎ (truth (P before) c b ≡ false) → Found (ghost_after O.header O.methods before choice after ∷ before ∷ ghosts) (suc ago)
        by_truth back (inl is) =
            let found = back is in
            record { since = suc found.since; young = (let le = found.young in omega (arith, le)); moment = found.moment; at = found.at; was = found.was }
        by_truth back (inr was) = record {
          since = 0;
          young = omega arith;
          moment = ghost_after O.header O.methods before choice after;
          at = refl;
          was = flipped_by before (old 1 before refl) (claims 0 before refl) choice.thread after (ghost_after O.header O.methods before choice after).kept (old 0 (ghost_after O.header O.methods before choice after) refl) was
              (d (ghost_after O.header O.methods before choice after) refl)
              (λ frame room S owners names. shared_later earlier before (good.stays 0 ago before earlier (omega arith) refl at) (old (suc ago) earlier at) frame room S owners names e)
              (step_view O before (good.good 0 before refl).fits choice.thread choice.act event after step);
        }
