-- A heap with one more node, which the scene showed before as one that is not there yet: the picture is the same. So are
-- allocations of the own call, by other names, and those of other threads.
use Rattle.std.proofs.Common.{◌≡◌, ℕ, zero, suc, ◌+◌, ◌<◌, ◌==◌, ℤ, Bool, true, false, not, List, [], ◌∷◌, ◌++◌, length, length-append, Option, Some, None, refl, sym, ◌∙◌, ap, subst, inl, inr, arith}
use Rattle.std.specs.Prelude.{◌&&◌, slice_get, slice_set, is_some, is_none, unwrap_or, option_map, option_and_then, if◌then◌else◌}
use Rattle.std.specs.Option.{option_map_or, option_flatten}
use Rattle.std.proofs.lemmas.Bool.{cases_Bool, cases_eq, cond-true, cond-false, false_from_ne_true}
use Rattle.std.proofs.lemmas.Option.{none-some, same_Some}
use Rattle.plank_base.specs.declared.keys.NodeId.{NodeId}
use Rattle.plank_base.specs.Keys.{is_at_most}
use Rattle.plank_base.proofs.Paths.{same_paths, successor_cases}
use Rattle.plank_base.proofs.PathCounts.{meets_decides, end_decides, endless_decides, path_stays}
use Rattle.plank_base.proofs.Digits.{same_tests}
use Rattle.plank_prog.specs.declared.headers.Header.{Header}
use Rattle.plank_prog.specs.declared.headers.Pointer.{Pointer}
use Rattle.plank_prog.specs.declared.blocks.Reference.{Reference}
use Rattle.plank_prog.specs.declared.methods.Action.{Action}
use Rattle.plank_prog.specs.Views.{is_bit_set, is_frozen, holds_at}
use Rattle.plank_heap.specs.declared.nodes.Node.{Node}
use Rattle.plank_heap.specs.Changes.{fresh_node, with_fresh_node}
use Rattle.plank_heap.specs.Walks.{first_admitted, next_from, next, walk_visits, walk_end, holds_of, contains}
use Rattle.plank_heap.proofs.Walking.{walk_undefined, walk_stays, contains-at, contains-cycle}
use Rattle.plank_sem.specs.declared.calls.Call.{Call}
use Rattle.plank_sem.proofs.Lists.{set_elsewhere}
use Rattle.plank_pic.specs.declared.parts.KeyName.{KeyName}
use Rattle.plank_pic.specs.declared.parts.Part.{Part}
use Rattle.plank_pic.specs.Frames.{Frame}
use Rattle.plank_pic.specs.Pictures.{Picture}
use Rattle.plank_pic.specs.Lawful.{part_fits, IsPossible}
use Rattle.plank_pic.specs.Steps.{Source, Of, Fresh, nothing, IsRenaming}
use Rattle.plank_pic.specs.Blocks.{Turn, has_name, IsTurnStep}
use Rattle.plank_scene.specs.Scenes.{has_others_lock, Scene, node_at, leads, leads_from, is_node, is_nameless, is_shared_in, is_fast_in, fast_next, walk, is_chain, stop_of, stop_node, is_in_slot, is_visited_ever, has_lock, key_in, picks_in, on, on_both, says, shown}
use Rattle.plank_scene.specs.Worlds.{IsScene, renamed_scene, source_node, IsJustAllocated, IsSourced}
use Rattle.plank_scene.specs.Turns.{number, VariablesSet}
use Rattle.plank_scene.specs.Writes.{with_heap}
use Rattle.plank_scene.proofs.Writes.Reading.{keys_stay}
use Rattle.plank_scene.proofs.Scenes.Paths.{unborn_unshared, fast_stops, stop_found, stop_there}
use Rattle.plank_scene.proofs.Writes.Staying.{same_option}
use Rattle.plank_scene.proofs.Turns.Renamed.{renaming_shown, no_lead}
use Rattle.plank_scene.proofs.Turns.Putting.{set_at}
use Rattle.plank_scene.proofs.Turns.Turning.{named_so, so_named}

-- ---- one more element

one_more : {X : Type 0} (xs : List X) (d : ℕ → X) (k : ℕ) → unwrap_or (slice_get (xs ++ d (length xs) ∷ []) k) (d k) ≡ unwrap_or (slice_get xs k) (d k)
one_more [] d zero = refl
one_more [] d (suc k) = refl
one_more (x ∷ xs) d zero = refl
one_more (x ∷ xs) d (suc k) = one_more xs (λ i. d (suc i)) k

one_owner : (os : List (Option ℕ)) (t y : ℕ) → option_map_or (λ o. is_none o) (slice_get (os ++ Some t ∷ []) y) false ≡ option_map_or (λ o. is_none o) (slice_get os y) false
one_owner [] t zero = refl
one_owner [] t (suc y) = refl
one_owner (o ∷ os) t zero = refl
one_owner (o ∷ os) t (suc y) = one_owner os t y

-- a fresh node sends nothing on
none_admitted : (adm : Pointer → Bool) (ps : List Pointer) → first_admitted adm ps (None ∷ None ∷ []) ≡ None
none_admitted adm [] = refl
none_admitted adm (p ∷ []) = refl
none_admitted adm (p ∷ q ∷ []) = refl
none_admitted adm (p ∷ q ∷ r ∷ ps) = refl

next_more : (h : Header) (key j : ℤ) (nodes : List Node) (a : ℕ) → option_and_then (next_from h j) (slice_get (nodes ++ fresh_node key ∷ []) a) ≡ option_and_then (next_from h j) (slice_get nodes a)
next_more h key j [] zero = none_admitted (λ p. _) h.pointers
next_more h key j [] (suc a) = refl
next_more h key j (x ∷ xs) zero = refl
next_more h key j (x ∷ xs) (suc a) = next_more h key j xs a

module _ (F : Frame) (S : Scene) (isS : IsScene F S) (key : ℤ) (thread : ℕ) (unborn : S.unborn (length S.heap.nodes) ≡ key) where
  abbrev H : Header
  H = F.header

  abbrev pub grown : Scene
  grown = with_heap S (with_fresh_node S.heap key) (S.owners ++ Some thread ∷ []) S.spent

  abbrev T : Scene
  T = grown

  nodes : (x : ℕ) → node_at T x ≡ node_at S x
  nodes x = ap (λ (j : ℤ). unwrap_or (slice_get (S.heap.nodes ++ fresh_node j ∷ []) x) (fresh_node (S.unborn x))) (sym unborn) ∙ one_more S.heap.nodes (λ i. fresh_node (S.unborn i)) x

  shared : (x : ℕ) → is_shared_in T x ≡ is_shared_in S x
  shared x = one_owner S.owners thread x

  same_lead : (x f : ℕ) → leads T x f ≡ leads S x f
  same_lead x f = ap (λ (z : Node). option_map (λ (to : NodeId). to.0) (option_flatten (slice_get z.pointers f))) (nodes x)

  owned : length T.owners ≡ length T.heap.nodes
  owned = length-append S.owners (Some thread ∷ []) ∙ ap (λ n. n + 1) isS.owned ∙ sym (length-append S.heap.nodes (fresh_node key ∷ []))

  -- ---- chains

  same_fast : (x : ℕ) → fast_next H T x ≡ fast_next H S x
  same_fast x =
      ap (λ b. if (length H.pointers == 1) && (b && is_frozen H (node_at T x).key (node_at T x).flags) then leads T x 0 else None) (shared x)
      ∙ ap (λ (z : Node). if (length H.pointers == 1) && (is_shared_in S x && is_frozen H z.key z.flags) then leads T x 0 else None) (nodes x)
      ∙ ap (λ o. if (length H.pointers == 1) && is_fast_in H S x then o else None) (same_lead x 0)

  chains : (x y : ℕ) → is_chain H T x y ≡ is_chain H S x y
  chains x y = same_tests _ _
      (λ e. (meets_decides x y (fast_stops H S isS.owned)).1 (same_paths same_fast ((meets_decides x y (fast_stops H T owned)).0 e)))
      (λ e. (meets_decides x y (fast_stops H T owned)).1 (same_paths (λ a. sym (same_fast a)) ((meets_decides x y (fast_stops H S isS.owned)).0 e)))

  -- ---- walks

  walks : (k : KeyName) (a : ℕ) → walk H T k a ≡ walk H S k a
  walks k a = next_more H key (S.walked k) S.heap.nodes a

  visits : (k : KeyName) (x : ℕ) → walk_visits H T.heap (S.walked k) x ≡ walk_visits H S.heap (S.walked k) x
  visits k x = same_tests _ _
      (λ e. (meets_decides S.heap.root.0 x (walk_undefined H S.heap (S.walked k))).1 (same_paths (walks k) ((meets_decides S.heap.root.0 x (walk_undefined H T.heap (S.walked k))).0 e)))
      (λ e. (meets_decides S.heap.root.0 x (walk_undefined H T.heap (S.walked k))).1 (same_paths (λ a. sym (walks k a)) ((meets_decides S.heap.root.0 x (walk_undefined H S.heap (S.walked k))).0 e)))

  same_holds : (k : KeyName) (b : ℕ) → b < length S.heap.nodes → holds_of H S.heap (S.walked k) b ≡ holds_of H T.heap (S.walked k) b
  same_holds k b below = ap (λ o. option_map_or (λ (z : Node). holds_at H z.key z.flags (S.walked k)) o false) (sym (old S.heap.nodes b below))
    where
      old : (xs : List Node) (b : ℕ) → b < length xs → slice_get (xs ++ fresh_node key ∷ []) b ≡ slice_get xs b
      old [] b h = absurd (omega arith)
      old (x ∷ xs) zero h = refl
      old (x ∷ xs) (suc b) h = old xs b (omega arith)

  same_set : (k : KeyName) → contains H T.heap (S.walked k) ≡ contains H S.heap (S.walked k)
  same_set k = elim (successor_cases (walk_end H S.heap (S.walked k))) [
    | inr w ↦
        let ends = (end_decides S.heap.root.0 w.0 (walk_undefined H S.heap (S.walked k))).0 w.1 in
        let below : w.0 < length S.heap.nodes = path_stays (walk_stays H S.heap (S.walked k) isS.closed) isS.closed.root ends.0 in
        contains-at H T.heap (S.walked k) w.0 (same_paths (λ a. sym (walks k a)) ends.0, walks k w.0 ∙ ends.1) ∙ sym (same_holds k w.0 below) ∙ sym (contains-at H S.heap (S.walked k) w.0 ends)
    | inl none ↦
        let never = (endless_decides S.heap.root.0 (walk_undefined H S.heap (S.walked k))).0 none in
        contains-cycle H T.heap (S.walked k) (λ b p e. never b (same_paths (walks k) p) (sym (walks k b) ∙ e)) ∙ sym (contains-cycle H S.heap (S.walked k) never)
  ]

  stops : (k : KeyName) (x y : ℕ) → stop_of H T k x y ≡ stop_of H S k x y
  stops k x y = same_option
      (λ z e. let w = stop_found H T owned k x y z e in stop_there H S isS.owned k x y z w.1.1.0 (same_paths (walks k) w.0.0, sym (walks k z) ∙ w.0.1) (λ p. w.1.0 (same_paths (λ a. sym (walks k a)) p)) (sym (walks k x) ∙ w.1.1.1))
      (λ z e. let w = stop_found H S isS.owned k x y z e in stop_there H T owned k x y z w.1.1.0 (same_paths (λ a. sym (walks k a)) w.0.0, walks k z ∙ w.0.1) (λ p. w.1.0 (same_paths (walks k) p)) (walks k x ∙ w.1.1.1))

  same_slot : (k : KeyName) (o : Option ℕ) (s : ℕ) → is_in_slot H T k o s ≡ is_in_slot H S k o s
  same_slot k o zero = refl
  same_slot k o (suc s) = refl

  -- ---- the picture

  same_from : (o : Option ℕ) (f : ℕ) → leads_from T o f ≡ leads_from S o f
  same_from None f = refl
  same_from (Some x) f = same_lead x f

  same_on : (t u : ℕ → Bool) (o : Option ℕ) → ((x : ℕ) → t x ≡ u x) → on t o ≡ on u o
  same_on t u None e = refl
  same_on t u (Some x) e = e x

  same_on_both : (t u : ℕ → ℕ → Bool) (o r : Option ℕ) → ((x y : ℕ) → t x y ≡ u x y) → on_both t o r ≡ on_both u o r
  same_on_both t u None r e = refl
  same_on_both t u (Some x) None e = refl
  same_on_both t u (Some x) (Some y) e = e x y

  same_picks : (k : KeyName) (s x y : ℕ) → picks_in F T k s x y ≡ picks_in F S k s x y
  same_picks k s x y =
      ap (λ b. b && not (x == y) && is_nameless F S (leads T x 0) && is_visited_ever H S k x && is_in_slot H T k (stop_of H T k x y) s) (chains x y)
      ∙ ap (λ o. is_chain H S x y && not (x == y) && is_nameless F S o && is_visited_ever H S k x && is_in_slot H T k (stop_of H T k x y) s) (same_lead x 0)
      ∙ ap (λ b. is_chain H S x y && not (x == y) && is_nameless F S (leads S x 0) && is_visited_ever H S k x && b) (same_slot k (stop_of H T k x y) s ∙ ap (λ o. is_in_slot H S k o s) (stops k x y))

  same_says : (part : Part) → says F S part ≡ says F T part
  same_says (Part.Null i) = refl
  same_says (Part.Same i j) = refl
  same_says (Part.Flag i f) = sym (same_on _ _ (S.named i) (λ x. ap (λ (z : Node). is_bit_set z.flags f) (nodes x)))
  same_says (Part.Shared i) = sym (same_on _ _ (S.named i) shared)
  same_says (Part.Mine i) = sym (same_on _ _ (S.named i) (λ x. ap (λ b. S.mine x && not b) (shared x)))
  same_says (Part.Locked i) = sym (same_on _ _ (S.named i) (λ x. ap (λ (z : Node). is_some z.lock) (nodes x)))
  same_says (Part.LockMine i) = sym (same_on _ _ (S.named i) (λ x. ap (has_lock S.own) (nodes x)))
  same_says (Part.LockOthers i) = sym (same_on _ _ (S.named i) (λ x. ap (has_others_lock S) (nodes x)))
  same_says (Part.PointerNull p) = sym (same_on _ _ (S.named p.name) (λ x. ap is_none (same_lead x p.pointer)))
  same_says (Part.Beyond p) = ap (is_nameless F S) (sym (same_from (S.named p.name) p.pointer))
  same_says (Part.Leads p j) = ap (λ o. is_node o (S.named j)) (sym (same_from (S.named p.name) p.pointer))
  same_says (Part.SameBeyond p q) =
      ap (λ o. is_nameless F S o && is_node o (leads_from S (S.named q.name) q.pointer)) (sym (same_from (S.named p.name) p.pointer))
      ∙ ap (λ o. is_nameless F S (leads_from T (S.named p.name) p.pointer) && is_node (leads_from T (S.named p.name) p.pointer) o) (sym (same_from (S.named q.name) q.pointer))
  same_says (Part.AtMost s t) = ap (λ k. is_at_most k (key_in F S t)) (sym (keys_stay F S (with_fresh_node S.heap key) (S.owners ++ Some thread ∷ []) S.spent (λ y. ap (λ (z : Node). z.key) (nodes y)) s)) ∙ ap (is_at_most (key_in F T s)) (sym (keys_stay F S (with_fresh_node S.heap key) (S.owners ++ Some thread ∷ []) S.spent (λ y. ap (λ (z : Node). z.key) (nodes y)) t))
  same_says (Part.Visits k i) = sym (same_on _ _ (S.named i) (visits k))
  same_says (Part.InSet k) = sym (same_set k)
  same_says Part.Spent = refl
  same_says (Part.Chain i j) = sym (same_on_both _ _ (S.named i) (S.named j) chains)
  same_says (Part.Picks k i j s) = sym (same_on_both _ _ (S.named i) (S.named j) (same_picks k s))
  same_says (Part.StopFlag k zero f) = sym (same_on _ _ (stop_node H S k zero) (λ x. ap (λ (z : Node). is_bit_set z.flags f) (nodes x)))
  same_says (Part.StopFlag k (suc s) f) = sym (same_on _ _ (stop_node H S k (suc s)) (λ x. ap (λ (z : Node). is_bit_set z.flags f) (nodes x)))
  same_says (Part.StopVisited k zero) = sym (same_on _ _ (stop_node H S k zero) (visits k))
  same_says (Part.StopVisited k (suc s)) = sym (same_on _ _ (stop_node H S k (suc s)) (visits k))

  -- an allocation, of whichever thread, leaves the picture as it was
  pub grown_shows : shown F S ≡ shown F grown
  grown_shows = λ i part. ap (λ b. part_fits F part && b) (same_says part) i

  pub grown_set : (k : KeyName) → contains H grown.heap (S.walked k) ≡ contains H S.heap (S.walked k)
  grown_set = same_set

-- ---- the own call's allocation

abbrev pub new_turn : Turn → ℕ → ℕ → Turn
new_turn t to next = record t { action = Action.New to next; yes = true }

module _ (F : Frame) (S : Scene) (isS : IsScene F S) (t : Turn) (thread : ℕ) (call : Call) (to next : ℕ)
    (own_key : S.walked KeyName.Own ≡ call.key) (unborn : S.unborn (length S.heap.nodes) ≡ call.key) (mine : S.mine (length S.heap.nodes) ≡ true)
    (there : (n x : ℕ) → n < F.names → S.named n ≡ Some x → x < length S.heap.nodes) (room : to < length call.variables) where
  abbrev fresh : ℕ
  fresh = length S.heap.nodes

  past_none : {X : Type 0} (xs : List X) → slice_get xs (length xs) ≡ None
  past_none [] = refl
  past_none (x ∷ xs) = past_none xs

  at_fresh : node_at S fresh ≡ fresh_node (S.unborn fresh)
  at_fresh = ap (λ o. unwrap_or o (fresh_node (S.unborn fresh))) (past_none S.heap.nodes)

  -- pointers lead to nodes that are there
  leads_there : (y f z : ℕ) → leads S y f ≡ Some z → z < length S.heap.nodes
  leads_there y f z e = by_node (slice_get S.heap.nodes y) refl
    where
      by_lead : (node : Node) → slice_get S.heap.nodes y ≡ Some node → (o : Option (Option NodeId)) → slice_get node.pointers f ≡ o → option_map (λ (to : NodeId). to.0) (option_flatten o) ≡ Some z → z < length S.heap.nodes
      by_lead node found None at lead = absurd (none-some z lead)
      by_lead node found (Some None) at lead = absurd (none-some z lead)
      by_lead node found (Some (Some to)) at lead = subst (λ v. v < length S.heap.nodes) (same_Some _ _ lead) (isS.closed.pointers y node found f to at)

      by_node : (o : Option Node) → slice_get S.heap.nodes y ≡ o → z < length S.heap.nodes
      by_node None at = absurd (none-some z (sym (ap (λ (n : Node). option_map (λ (to : NodeId). to.0) (option_flatten (slice_get n.pointers f))) (ap (λ o. unwrap_or o (fresh_node (S.unborn y))) at) ∙ no_lead f) ∙ e))
      by_node (Some node) at = by_lead node at (slice_get node.pointers f) refl (sym (ap (λ (n : Node). option_map (λ (to : NodeId). to.0) (option_flatten (slice_get n.pointers f))) (ap (λ o. unwrap_or o (fresh_node (S.unborn y))) at)) ∙ e)

  just_allocated : IsJustAllocated F S fresh
  just_allocated = record {
    fields = at_fresh ∙ ap fresh_node (unborn ∙ sym own_key);
    own = unborn_unshared F.header S isS.owned fresh (omega arith);
    mine = mine;
    unnamed = λ n bn e. let lt = there n fresh bn e in absurd (omega arith);
    unreached = λ y f e. let lt = leads_there y f fresh e in absurd (omega arith);
    unvisited = λ k. false_from_ne_true _ (λ e. let lt : fresh < length S.heap.nodes = path_stays (walk_stays F.header S.heap (S.walked k) isS.closed) isS.closed.root ((meets_decides S.heap.root.0 fresh (walk_undefined F.header S.heap (S.walked k))).0 e) in omega arith);
  }

  module _ (named_after : ℕ → Option ℕ) (set_so : VariablesSet F S (new_turn t to next) call.variables (slice_set call.variables to (Some (record { 0 = length S.heap.nodes }))) named_after) where
    abbrev new_from : ℕ → Source
    new_from i = if has_name t to i then Fresh else Of i

    pub new_sourced : IsSourced F S new_from named_after fresh
    new_sourced = record {
      sources = λ i bi. by_variable i bi (set_so.variable i) refl;
      within = λ i n bi e. elim (cases_Bool (has_name t to i)) [
        | inl it ↦ absurd (let c : Fresh ≡ Of n = sym (cond-true (has_name t to i) Fresh (Of i) it) ∙ e in cc)
        | inr other ↦ (let same : i ≡ n = (let c : Of i ≡ Of n = sym (cond-false (has_name t to i) Fresh (Of i) other) ∙ e in cc) in subst (λ m. m < F.names) same bi)
      ];
      allocated = λ i bi e. just_allocated;
    }
      where
        by_variable : (i : ℕ) → i < F.names → (o : Option ℕ) → set_so.variable i ≡ o → named_after i ≡ source_node S fresh (new_from i)
        by_variable i bi None e =
            set_so.others i bi e ∙ ap (source_node S fresh) (sym (cond-false (has_name t to i) Fresh (Of i) (false_from_ne_true _ (λ it. none-some to (sym e ∙ set_so.has_variable to i (named_so t to i it))))))
        by_variable i bi (Some v) e =
            let was = set_so.was v i bi e in
            let new : Option NodeId = Some (record { 0 = length S.heap.nodes }) in
            set_so.is v i bi e ∙ elim (cases_eq v to) [
              | inl same ↦
                  ap (λ u. number (option_flatten (slice_get (slice_set call.variables to new) u))) same
                  ∙ ap (λ o. number (option_flatten o)) (set_at call.variables to new room)
                  ∙ ap (source_node S fresh) (sym (cond-true (has_name t to i) Fresh (Of i) (so_named t to i (ap (λ u. t.name_of (Reference.Variable u)) (sym same) ∙ was.0))))
              | inr other ↦
                  ap (λ o. number (option_flatten o)) (set_elsewhere call.variables to new v other) ∙ sym was.1
                  ∙ ap (source_node S fresh) (sym (cond-false (has_name t to i) Fresh (Of i) (false_from_ne_true _ (λ it. other (same_Some _ _ (sym e ∙ set_so.has_variable to i (named_so t to i it)))))))
            ]

    abbrev A : Scene
    A = renamed_scene (with_heap S (with_fresh_node S.heap call.key) (S.owners ++ Some thread ∷ []) S.spent) named_after

    isN : IsScene F (renamed_scene S named_after)
    isN = record { lawful = isS.lawful; closed = isS.closed; owned = isS.owned; either = isS.either }

    pub new_step : IsPossible F (shown F A) → IsTurnStep F (new_turn t to next) (shown F S) (shown F A)
    new_step possible = record {
      runs = refl;
      step = record {
        between = shown F S;
        writes = nothing;
        names = subst (λ (P : Picture). IsRenaming F new_from (shown F S) P) (grown_shows F (renamed_scene S named_after) isN call.key thread unborn) (renaming_shown F S isS new_from named_after fresh new_sourced);
        possible = possible;
      };
    }
