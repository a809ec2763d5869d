-- Every ghost world of a run is sound, and what stays from one to a later one.
use Rattle.std.proofs.Common.{◌≡◌, ◌≢◌, ℕ, zero, suc, ◌≤◌, ℤ, Bool, true, false, List, [], ◌∷◌, ◌++◌, length, map, Option, Some, None, refl, sym, ap, ◌∙◌, subst, inl, inr, arith}
use Rattle.std.proofs.lemmas.List.{length-map}
use Rattle.std.specs.Prelude.{slice_get, option_map, if◌then◌else◌}
use Rattle.std.specs.Option.{option_map_or}
use Rattle.std.specs.FinMap.{get, insert, get-empty}
use Rattle.std.specs.Ordering.{nat_cmp}
use Rattle.std.proofs.lemmas.Bool.{eq-eqb, ne_eqb}
use Rattle.std.proofs.lemmas.Option.{none-some, same_Some, option_and_then_some}
use Rattle.plank_base.specs.declared.limits.TheConstants.{VARIABLES_LIMIT}
use Rattle.plank_base.specs.declared.keys.NodeId.{NodeId}
use Rattle.plank_base.specs.declared.keys.ThreadId.{ThreadId}
use Rattle.plank_prog.specs.declared.headers.Header.{Header}
use Rattle.plank_prog.specs.declared.blocks.Value.{Value}
use Rattle.plank_prog.specs.declared.blocks.Block.{Block}
use Rattle.plank_prog.specs.declared.methods.Action.{Action}
use Rattle.plank_prog.specs.declared.methods.Method.{Method}
use Rattle.plank_prog.specs.Headers.{is_lawful_header}
use Rattle.plank_prog.specs.Methods.{are_lawful_methods}
use Rattle.plank_heap.specs.declared.nodes.Node.{Node}
use Rattle.plank_heap.specs.declared.heaps.Heap.{Heap}
use Rattle.plank_heap.specs.Heaps.{IsClosed, start_heap}
use Rattle.plank_hist.specs.declared.events.Event.{Event}
use Rattle.plank_sem.specs.declared.calls.Call.{Call}
use Rattle.plank_sem.specs.declared.steps.Act.{Act}
use Rattle.plank_sem.specs.declared.steps.Act.TheVariants.{Invoke, Go}
use Rattle.plank_sem.specs.declared.steps.Choice.{Choice}
use Rattle.plank_sem.specs.Worlds.{WorldState, fresh_call}
use Rattle.plank_sem.specs.Reads.{value_of, tests_value}
use Rattle.plank_sem.specs.Actions.{After, gone_to, bound, written, taken_yes, taken_no, block_run, copied, allocated}
use Rattle.plank_sem.specs.Steps.{stepped, refused, begun, went_on, performed, action_of, gone_on, acted, next}
use Rattle.plank_sem.specs.Fits.{AllNamed, Fits}
use Rattle.plank_sem.specs.Kept.{IsOwn, updated, owners_written, owners_after, kept_invoked, kept_performed, kept_gone_on, kept_acted, GhostWorld, ghost_start, ghost_after, GhostRun, ghost_begins, ghost_goes_on}
use Rattle.plank_sem.specs.Facts.{IsUsable, IsSound, Stays}
use Rattle.plank_heap.proofs.Starts.{start_closed}
use Rattle.plank_sem.proofs.Lists.{push_last}
use Rattle.plank_sem.proofs.CallMaps.{found_after_insert, found_after_remove}
use Rattle.plank_sem.proofs.NamedNodes.{all_named_set, value_in, bound_in}
use Rattle.plank_sem.proofs.FitsKept.{fits_kept, none_named, world_of}
use Rattle.plank_sem.proofs.Sharing.{Moves}
use Rattle.plank_sem.proofs.SoundHeaps.{HeapSound, HeapMoves, heap_stays, writes_move, fresh_moves, root_shared, usable_leads, shared_leads, path_shared, keys_same, keys_then}

-- ---- calls

-- what is allocated is still allocated
abbrev pub Includes : List ℕ → List ℕ → Type 0
Includes before after = (x : ℕ) → ((k : ℕ) × (slice_get before k ≡ Some x)) → ((k : ℕ) × (slice_get after k ≡ Some x))

usable_moves : (owners after : List (Option ℕ)) (allocated more : List ℕ) (thread x : ℕ) → Moves owners after → Includes allocated more
    → IsUsable owners allocated thread x → IsUsable after more thread x
usable_moves owners after allocated more thread x moves includes (inl shared) = inl (moves.shared x shared)
usable_moves owners after allocated more thread x moves includes (inr own) =
    elim (moves.own x thread own.0) [ inl still ↦ inr (still, includes x own.1) | inr shared ↦ inl shared ]

-- a call goes on: heap and owners move, and its variables are usable
pub record CallMoves (h : Header) (owners after_owners : List (Option ℕ)) (more : List ℕ) (thread : ℕ) (before : Heap) (after : After) : Type 0 where
  pub heap : HeapMoves h owners after_owners before after.heap
  pub variables : AllNamed (IsUsable after_owners more thread) after.call.variables

module _ (h : Header) (owners : List (Option ℕ)) (allocated_nodes : List ℕ) (heap : Heap) (thread : ThreadId) (call : Call)
    (closed : IsClosed heap) (sound : HeapSound h owners heap) (usable : AllNamed (IsUsable owners allocated_nodes thread.0) call.variables) where
  root_usable : IsUsable owners allocated_nodes thread.0 heap.root.0
  root_usable = inl (root_shared h owners heap closed sound)

  value_usable : (to : Value) (x : NodeId) → value_of heap call to ≡ Some x → IsUsable owners allocated_nodes thread.0 x.0
  value_usable to x is = value_in (IsUsable owners allocated_nodes thread.0) heap call root_usable usable to x is

  all_usable_moves : (after : List (Option ℕ)) (variables : List (Option NodeId)) → Moves owners after
      → AllNamed (IsUsable owners allocated_nodes thread.0) variables → AllNamed (IsUsable after allocated_nodes thread.0) variables
  all_usable_moves after variables moves all v x at =
      usable_moves owners after allocated_nodes allocated_nodes thread.0 x.0 moves (λ y k. k) (all v x at)

  yes_moves : (b : Block) (after : After) → taken_yes heap thread call b ≡ Some after
      → CallMoves h owners (owners_written heap call b.writes (Some true) owners) allocated_nodes thread.0 heap after
  yes_moves b after e =
      option_and_then_some (λ (variables : List (Option NodeId)). option_map (λ next. record { heap = next; call = gone_to call b.yes variables }) (written heap thread call b.writes)) (bound heap call b.binds call.variables) after e
      (λ variables is rest. option_and_then_some (λ (next : Heap). Some (record { heap = next; call = gone_to call b.yes variables })) (written heap thread call b.writes) after rest
      (λ next is_written same. subst (CallMoves h owners (owners_written heap call b.writes (Some true) owners) allocated_nodes thread.0 heap) (same_Some _ after same)
      (let moves = writes_move h owners heap thread call sound b.writes next is_written in
      record {
        heap = moves;
        variables = all_usable_moves (owners_written heap call b.writes (Some true) owners) variables moves.moves
            (bound_in (IsUsable owners allocated_nodes thread.0) heap call root_usable usable (usable_leads h owners heap closed sound allocated_nodes thread.0) b.binds call.variables variables usable is);
      })))

  exit_moves : (b : Block) (passed : Bool) (after : After) → (if passed then taken_yes heap thread call b else Some (taken_no heap call b)) ≡ Some after
      → CallMoves h owners (owners_written heap call b.writes (Some passed) owners) allocated_nodes thread.0 heap after
  exit_moves b true after e = yes_moves b after e
  exit_moves b false after e =
      subst (CallMoves h owners owners allocated_nodes thread.0 heap) (same_Some _ after e) (record { heap = heap_stays h owners heap sound; variables = usable })

  pub block_moves : (b : Block) (after : After) → block_run heap thread call b ≡ Some after
      → CallMoves h owners (owners_written heap call b.writes (tests_value heap thread call b.tests) owners) allocated_nodes thread.0 heap after
  block_moves b after e =
      option_and_then_some (λ (passed : Bool). if passed then taken_yes heap thread call b else Some (taken_no heap call b)) (tests_value heap thread call b.tests) after e
      (λ passed is rest. subst (λ o. CallMoves h owners (owners_written heap call b.writes o owners) allocated_nodes thread.0 heap after) (sym is) (exit_moves b passed after rest))

  pub copied_moves : (to : ℕ) (from : Value) (next : ℕ) → CallMoves h owners owners allocated_nodes thread.0 heap (copied heap call to from next)
  copied_moves to from next = record {
    heap = heap_stays h owners heap sound;
    variables = all_named_set (IsUsable owners allocated_nodes thread.0) call.variables to (value_of heap call from) usable (value_usable from);
  }

  pub allocated_moves : (to next : ℕ) → CallMoves h owners (owners ++ Some thread.0 ∷ []) (length heap.nodes ∷ allocated_nodes) thread.0 heap (allocated heap call to next)
  allocated_moves to next =
      let moves = fresh_moves h owners heap call.key thread.0 closed sound in
      let after = owners ++ Some thread.0 ∷ [] in
      let more = length heap.nodes ∷ allocated_nodes in
      let fresh : NodeId = record { 0 = length heap.nodes } in
      let own : IsOwn after (length heap.nodes) thread.0 = subst (λ n. IsOwn after n thread.0) sound.owned (push_last owners (Some thread.0)) in
      record {
        heap = moves;
        variables = all_named_set (IsUsable after more thread.0) call.variables to (Some fresh)
            (λ v x at. usable_moves owners after allocated_nodes more thread.0 x.0 moves.moves (λ y k. (suc k.0, k.1)) (usable v x at))
            (λ x is. subst (λ (y : NodeId). IsUsable after more thread.0 y.0) (same_Some fresh x is) (inr (own, (0, refl))));
      }

-- ---- ghost worlds

-- a ghost world whose parts are sound
pub record Good (h : Header) (methods : List Method) (g : GhostWorld) : Type 0 where
  pub fits : Fits methods g.world
  pub heap : HeapSound h g.kept.owners g.world.heap
  pub variables : (thread : ℕ) (call : Call) → get g.world.calls thread ≡ Some call → AllNamed (IsUsable g.kept.owners (g.kept.allocated thread) thread) call.variables

-- such a world comes after another, from which much stays
pub record Goes (h : Header) (methods : List Method) (before after : GhostWorld) : Type 0 where
  pub heap : HeapSound h after.kept.owners after.world.heap
  pub variables : (thread : ℕ) (call : Call) → get after.world.calls thread ≡ Some call → AllNamed (IsUsable after.kept.owners (after.kept.allocated thread) thread) call.variables
  pub stays : Stays before after

at_same : {A : Type 0} (f : ℕ → A) (t : ℕ) (value : A) (x : ℕ) → x ≡ t → updated f t value x ≡ value
at_same f t value x same = ap (λ b. if b then value else f x) (eq-eqb x t same)

at_other : {A : Type 0} (f : ℕ → A) (t : ℕ) (value : A) (x : ℕ) → x ≢ t → updated f t value x ≡ f x
at_other f t value x other = ap (λ b. if b then value else f x) (ne_eqb x t other)

module _ (h : Header) (methods : List Method) (before : GhostWorld) (good : Good h methods before) where
  -- the call of a thread has gone on
  moved : (thread : ThreadId) (call : Call) (after : After) (owners : List (Option ℕ)) (more : List ℕ) (changes : ℕ → Bool)
      → CallMoves h before.kept.owners owners more thread.0 before.world.heap after
      → Goes h methods before (record {
        world = record { heap = after.heap; calls = insert before.world.calls thread.0 after.call };
        kept = record { owners = owners; allocated = updated before.kept.allocated thread.0 more; has_changed = changes };
      })
  moved thread call after owners more changes moves = record {
    heap = moves.heap.sound;
    variables = λ t found at.
        elim (found_after_insert before.world.calls thread.0 after.call t found at) [
          | inl e ↦
              subst (λ nodes. AllNamed (IsUsable owners nodes t) found.variables) (sym (at_same before.kept.allocated thread.0 more t e.0))
              (subst (λ u. AllNamed (IsUsable owners more u) found.variables) (sym e.0)
              (subst (λ (c : Call). AllNamed (IsUsable owners more thread.0) c.variables) e.1 moves.variables))
          | inr e ↦
              subst (λ nodes. AllNamed (IsUsable owners nodes t) found.variables) (sym (at_other before.kept.allocated thread.0 more t e.0))
              (λ v x named. usable_moves before.kept.owners owners (before.kept.allocated t) (before.kept.allocated t) t x.0 moves.heap.moves (λ y k. k) (good.variables t found e.1 v x named))
        ];
    stays = record { same_root = moves.heap.same_root; keys = moves.heap.keys; shared = moves.heap.moves.shared };
  }

  begun_goes : (thread : ThreadId) (m : ℕ) (key : ℤ) (pending : Option Call) (method : Option Method) (event : Option Event) (after : WorldState)
      → begun before.world thread m key pending method ≡ stepped event after → Goes h methods before (record { world = after; kept = kept_invoked thread before.kept })
  begun_goes thread m key None (Some method) event after e =
      subst (λ w. Goes h methods before (record { world = w; kept = kept_invoked thread before.kept })) (world_of _ event _ after e) (record {
        heap = good.heap;
        variables = λ t found at.
            elim (found_after_insert before.world.calls thread.0 (fresh_call m key) t found at) [
              | inl same ↦ subst (λ (c : Call). AllNamed (IsUsable before.kept.owners ((kept_invoked thread before.kept).allocated t) t) c.variables) same.1
                  (none_named (IsUsable before.kept.owners ((kept_invoked thread before.kept).allocated t) t) VARIABLES_LIMIT)
              | inr other ↦
                  subst (λ nodes. AllNamed (IsUsable before.kept.owners nodes t) found.variables) (sym (at_other before.kept.allocated thread.0 [] t other.0)) (good.variables t found other.1)
            ];
        stays = record { same_root = refl; keys = keys_same before.world.heap; shared = λ x s. s };
      })
  begun_goes thread m key None None event after e = absurd (cc)
  begun_goes thread m key (Some call) method event after e = absurd (cc)

  went_on_goes : (thread : ThreadId) (call : Call) (made : Option After) (owners : List (Option ℕ)) (more : List ℕ) (changes : Heap → ℕ → Bool) (event : Option Event) (after : WorldState)
      → ((a : After) → made ≡ Some a → CallMoves h before.kept.owners owners more thread.0 before.world.heap a)
      → went_on before.world thread made ≡ stepped event after
      → Goes h methods before (record { world = after; kept = record { owners = owners; allocated = updated before.kept.allocated thread.0 more; has_changed = changes after.heap } })
  went_on_goes thread call None owners more changes event after moves e = absurd (cc)
  went_on_goes thread call (Some a) owners more changes event after moves e =
      subst (λ w. Goes h methods before (record { world = w; kept = record { owners = owners; allocated = updated before.kept.allocated thread.0 more; has_changed = changes w.heap } }))
      (world_of _ event _ after e) (moved thread call a owners more (changes a.heap) (moves a refl))

  performed_goes : (thread : ThreadId) (call : Call) (action : Action) (event : Option Event) (after : WorldState) → get before.world.calls thread.0 ≡ Some call
      → performed methods before.world thread call action ≡ stepped event after
      → Goes h methods before (record { world = after; kept = kept_performed h before.world.heap after.heap thread call action before.kept })
  performed_goes thread call (Action.Block b) event after at e =
      went_on_goes thread call (block_run before.world.heap thread call b) (owners_after before.world.heap thread call (Action.Block b) before.kept.owners) (before.kept.allocated thread.0)
      (λ heap. (kept_performed h before.world.heap heap thread call (Action.Block b) before.kept).has_changed) event after
      (λ a is. block_moves h before.kept.owners (before.kept.allocated thread.0) before.world.heap thread call good.fits.heap good.heap (good.variables thread.0 call at) b a is) e
  performed_goes thread call (Action.Copy to from next) event after at e =
      went_on_goes thread call (Some (copied before.world.heap call to from next)) before.kept.owners (before.kept.allocated thread.0)
      (λ heap. (kept_performed h before.world.heap heap thread call (Action.Copy to from next) before.kept).has_changed) event after
      (λ a is. subst (CallMoves h before.kept.owners before.kept.owners (before.kept.allocated thread.0) thread.0 before.world.heap) (same_Some _ a is)
      (copied_moves h before.kept.owners (before.kept.allocated thread.0) before.world.heap thread call good.fits.heap good.heap (good.variables thread.0 call at) to from next)) e
  performed_goes thread call (Action.New to next) event after at e =
      went_on_goes thread call (Some (allocated before.world.heap call to next)) (before.kept.owners ++ Some thread.0 ∷ []) (length before.world.heap.nodes ∷ before.kept.allocated thread.0)
      (λ heap. (kept_performed h before.world.heap heap thread call (Action.New to next) before.kept).has_changed) event after
      (λ a is. subst (CallMoves h before.kept.owners (before.kept.owners ++ Some thread.0 ∷ []) (length before.world.heap.nodes ∷ before.kept.allocated thread.0) thread.0 before.world.heap) (same_Some _ a is)
      (allocated_moves h before.kept.owners (before.kept.allocated thread.0) before.world.heap thread call good.fits.heap good.heap (good.variables thread.0 call at) to next)) e
  performed_goes thread call (Action.Return answer) event after at e =
      subst (λ w. Goes h methods before (record { world = w; kept = kept_performed h before.world.heap w.heap thread call (Action.Return answer) before.kept }))
      (world_of _ event _ after e) (record {
        heap = good.heap;
        variables = λ t found is.
            let old = found_after_remove before.world.calls thread.0 t found is in
            subst (λ nodes. AllNamed (IsUsable before.kept.owners nodes t) found.variables) (sym (at_other before.kept.allocated thread.0 (before.kept.allocated thread.0) t old.0)) (good.variables t found old.1);
        stays = record { same_root = refl; keys = keys_same before.world.heap; shared = λ x s. s };
      })

  at_goes : (thread : ThreadId) (call : Call) (action : Option Action) (event : Option Event) (after : WorldState) → get before.world.calls thread.0 ≡ Some call
      → option_map_or (performed methods before.world thread call) action refused ≡ stepped event after
      → Goes h methods before (record { world = after; kept = option_map_or (λ a. kept_performed h before.world.heap after.heap thread call a before.kept) action before.kept })
  at_goes thread call None event after at e = absurd (cc)
  at_goes thread call (Some action) event after at e = performed_goes thread call action event after at e

  gone_on_goes : (thread : ThreadId) (pending : Option Call) (event : Option Event) (after : WorldState) → get before.world.calls thread.0 ≡ pending
      → gone_on methods before.world thread pending ≡ stepped event after
      → Goes h methods before (record { world = after; kept = kept_gone_on h methods before.world.heap after.heap thread pending before.kept })
  gone_on_goes thread None event after at e = absurd (cc)
  gone_on_goes thread (Some call) event after at e = at_goes thread call (action_of methods call) event after at e

  acted_goes : (thread : ThreadId) (act : Act) (event : Option Event) (after : WorldState) → acted methods before.world thread act ≡ stepped event after
      → Goes h methods before (record { world = after; kept = kept_acted h methods before.world after thread act before.kept })
  acted_goes thread (Invoke m key) event after e = begun_goes thread m key (get before.world.calls thread.0) (slice_get methods m) event after e
  acted_goes thread Go event after e = gone_on_goes thread (get before.world.calls thread.0) event after refl e

  pub step_goes : (choice : Choice) (event : Option Event) (after : WorldState) → next methods before.world choice ≡ stepped event after
      → Goes h methods before (ghost_after h methods before choice after)
  step_goes choice event after e = acted_goes choice.thread choice.act event after e

  pub step_good : are_lawful_methods h methods ≡ true → (choice : Choice) (event : Option Event) (after : WorldState) → next methods before.world choice ≡ stepped event after
      → Good h methods (ghost_after h methods before choice after)
  step_good lawful choice event after e =
      let goes = step_goes choice event after e in
      record { fits = fits_kept h methods lawful before.world choice event after good.fits e; heap = goes.heap; variables = goes.variables }

-- ---- the start

-- the start nodes are shared
no_owner : (nodes : List Node) (x t : ℕ) → IsOwn (map (λ (y : Node). None) nodes) x t → ⊥
no_owner [] x t own = none-some (Some t) own
no_owner (y ∷ ys) zero t own = none-some t (same_Some None (Some t) own)
no_owner (y ∷ ys) (suc x) t own = no_owner ys x t own

pub start_good : (h : Header) (methods : List Method) → is_lawful_header h ≡ true → Good h methods (ghost_start h)
start_good h methods lawful = record {
  fits = record { heap = start_closed h lawful; calls = λ thread call at. absurd (none-some call (sym (get-empty nat_cmp thread) ∙ at)) };
  heap = record {
    owned = length-map {B = Option ℕ} (start_heap h).nodes (λ (y : Node). None);
    same_root = refl;
    keys = keys_same (start_heap h);
    root = λ t own. no_owner (start_heap h).nodes (start_heap h).root.0 t own;
    apart = λ y node found f to t leads own. absurd (no_owner (start_heap h).nodes to.0 t own);
  };
  variables = λ thread call at. absurd (none-some call (sym (get-empty nat_cmp thread) ∙ at));
}

-- ---- runs

-- a good world is sound
pub good_sound : (h : Header) (methods : List Method) (g : GhostWorld) → Good h methods g → IsSound h g
good_sound h methods g good =
    let leads = shared_leads h g.kept.owners g.world.heap good.fits.heap good.heap in
    let root = root_shared h g.kept.owners g.world.heap good.fits.heap good.heap in
    record {
      closed = good.fits.heap;
      variables_within = λ thread call at. (good.fits.calls thread call at).variables;
      owned = good.heap.owned;
      same_root = good.heap.same_root;
      start_keys = good.heap.keys;
      root_is_shared = root;
      own_is_apart = λ x thread y own points. good.heap.apart y points.0 points.3 points.1 points.2 thread points.4 (subst (λ z. IsOwn g.kept.owners z thread) (sym points.5) own) ∙ points.5;
      variables = good.variables;
      shared_leads = leads;
      visited_is_shared = λ j x path. path_shared h g.kept.owners g.world.heap j leads path root;
    }

stays_same : (g : GhostWorld) → Stays g g
stays_same g = record { same_root = refl; keys = keys_same g.world.heap; shared = λ x s. s }

stays_then : (a b c : GhostWorld) → Stays a b → Stays b c → Stays a c
stays_then a b c first second = record {
  same_root = second.same_root ∙ first.same_root;
  keys = keys_then a.world.heap b.world.heap c.world.heap first.keys second.keys;
  shared = λ x s. second.shared x (first.shared x s);
}

-- of a run, newest first: each world is good, and from each the newest has what stays
pub record GoodRun (h : Header) (methods : List Method) (ghosts : List GhostWorld) : Type 0 where
  pub good : (i : ℕ) (g : GhostWorld) → slice_get ghosts i ≡ Some g → Good h methods g
  pub stays : (i k : ℕ) (later earlier : GhostWorld) → i ≤ k → slice_get ghosts i ≡ Some later → slice_get ghosts k ≡ Some earlier → Stays earlier later

one_good : (h : Header) (methods : List Method) (g : GhostWorld) → Good h methods g → GoodRun h methods (g ∷ [])
one_good h methods g good = record { good = here_good; stays = here_stays }
  where
    here_good : (i : ℕ) (x : GhostWorld) → slice_get (g ∷ []) i ≡ Some x → Good h methods x
    here_good zero x at = subst (Good h methods) (same_Some g x at) good
    here_good (suc i) x at = absurd (none-some x at)

    here_stays : (i k : ℕ) (later earlier : GhostWorld) → i ≤ k → slice_get (g ∷ []) i ≡ Some later → slice_get (g ∷ []) k ≡ Some earlier → Stays earlier later
    here_stays zero zero later earlier le at was = subst (λ x. Stays x later) (same_Some g earlier was) (subst (Stays g) (same_Some g later at) (stays_same g))
    here_stays zero (suc k) later earlier le at was = absurd (none-some earlier was)
    here_stays (suc i) k later earlier le at was = absurd (none-some later at)

more_good : (h : Header) (methods : List Method) (before : GhostWorld) (ghosts : List GhostWorld) (g : GhostWorld) → Good h methods g → Stays before g
    → GoodRun h methods (before ∷ ghosts) → GoodRun h methods (g ∷ before ∷ ghosts)
more_good h methods before ghosts g good stays run = record { good = each_good; stays = each_stays }
  where
    each_good : (i : ℕ) (x : GhostWorld) → slice_get (g ∷ before ∷ ghosts) i ≡ Some x → Good h methods x
    each_good zero x at = subst (Good h methods) (same_Some g x at) good
    each_good (suc i) x at = run.good i x at

    each_stays : (i k : ℕ) (later earlier : GhostWorld) → i ≤ k → slice_get (g ∷ before ∷ ghosts) i ≡ Some later → slice_get (g ∷ before ∷ ghosts) k ≡ Some earlier → Stays earlier later
    each_stays zero zero later earlier le at was = subst (λ x. Stays x later) (same_Some g earlier was) (subst (Stays g) (same_Some g later at) (stays_same g))
    each_stays zero (suc k) later earlier le at was =
        subst (Stays earlier) (same_Some g later at) (stays_then earlier before g (run.stays 0 k before earlier (omega arith) refl was) stays)
    each_stays (suc i) zero later earlier le at was = absurd (omega arith)
    each_stays (suc i) (suc k) later earlier le at was = run.stays i k later earlier (omega arith) at was

pub run_good : {h : Header} {methods : List Method} {choices : List Choice} {told : List (Option Event)} {ghosts : List GhostWorld} → is_lawful_header h ≡ true → are_lawful_methods h methods ≡ true
    → GhostRun h methods choices told ghosts → GoodRun h methods ghosts
run_good {h} {methods} header lawful ghost_begins = one_good h methods (ghost_start h) (start_good h methods header)
run_good {h} {methods} header lawful (ghost_goes_on {choices} {told} {before} {ghosts} run choice event after step) =
    let rest = run_good header lawful run in
    let good = rest.good 0 before refl in
    more_good h methods before ghosts (ghost_after h methods before choice after) (step_good h methods before good lawful choice event after step)
    (step_goes h methods before good choice event after step).stays rest
