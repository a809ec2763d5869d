-- The own call's steps between its own pictures, from the soundness of the two worlds alone.
use Rattle.std.proofs.Common.{◌≡◌, ℕ, suc, ◌<◌, ◌≤◌, ◌==◌, ℤ, true, false, not, List, length, Option, Some, None, refl, sym, ◌∙◌, ap, subst, inl, inr, arith}
use Rattle.std.specs.Prelude.{nat_lt, if◌then◌else◌}
use Rattle.std.specs.Option.{option_flatten}
use Rattle.std.specs.FinMap.{get}
use Rattle.std.proofs.lemmas.Bool.{cases_Bool, and_parts, ltb-true, cond-false}
use Rattle.std.proofs.lemmas.Option.{none-some, same_Some, slice_get_past}
use Rattle.plank_base.specs.declared.keys.NodeId.{NodeId}
use Rattle.plank_base.specs.declared.keys.ThreadId.{ThreadId}
use Rattle.plank_base.specs.declared.limits.TheConstants.{VARIABLES_LIMIT}
use Rattle.plank_prog.specs.declared.blocks.Reference.{Reference}
use Rattle.plank_prog.specs.declared.blocks.Value.{Value}
use Rattle.plank_prog.specs.declared.blocks.Bind.{Bind}
use Rattle.plank_prog.specs.declared.blocks.Block.{Block}
use Rattle.plank_prog.specs.declared.methods.Action.{Action}
use Rattle.plank_prog.specs.Names.{all_pairs}
use Rattle.plank_prog.specs.Headers.{is_lawful_header}
use Rattle.plank_prog.specs.Blocks.{value_fits, block_reads, binds_stand_alone, is_lawful_block}
use Rattle.plank_prog.specs.declared.methods.Method.{Method}
use Rattle.plank_hist.specs.declared.events.Event.{Event}
use Rattle.plank_sem.specs.declared.calls.Call.{Call}
use Rattle.plank_sem.specs.Worlds.{WorldState}
use Rattle.plank_sem.specs.Steps.{stepped, performed}
use Rattle.plank_sem.specs.Kept.{GhostWorld, kept_performed}
use Rattle.plank_sem.specs.Facts.{IsSound, HasSizes}
use Rattle.plank_sem.proofs.FitsKept.{closed_leads}
use Rattle.plank_sem.proofs.LawfulActions.{block_parts}
use Rattle.plank_pic.specs.declared.parts.KeyName.{KeyName}
use Rattle.plank_pic.specs.Frames.{Frame}
use Rattle.plank_pic.specs.Steps.{Of, Fresh}
use Rattle.plank_pic.specs.Blocks.{Turn, has_name, value_source, IsTurnStep}
use Rattle.plank_pic.specs.Calls.{binds_of, own_names, own_name, own_turn}
use Rattle.plank_scene.specs.Scenes.{Scene, is_node, shown}
use Rattle.plank_scene.specs.Worlds.{source_node}
use Rattle.plank_scene.specs.Turns.{Knows, VariablesSet, KnowsBinds}
use Rattle.plank_scene.specs.OwnScenes.{own_named, counts_as_mine, own_scene}
use Rattle.plank_scene.proofs.Steps.WorldSteps.{SeesCall, Leaves, BlockSeen, block_seen, copy_seen, copy_sources, new_seen, new_sources, sees_before, sees_after}
use Rattle.plank_scene.proofs.Turns.Turning.{copy_turn}
use Rattle.plank_scene.proofs.Turns.Idle.{new_turn}
use Rattle.plank_scene.proofs.Steps.OwnPictures.{named_these, block_so, value_so, own_knows, own_reads, own_set}

module _ (F : Frame) (lawful : is_lawful_header F.header ≡ true) (g : GhostWorld) (sound : IsSound F.header g) (sizes : HasSizes g.world) (thread : ThreadId) (call : Call) (pending : get g.world.calls thread.0 ≡ Some call)
    (variables locations : ℕ) (few : variables ≤ VARIABLES_LIMIT) (action : Action) (names : F.names ≡ own_names variables action) (root : F.root ≡ Some 0)
    (other : Option ℕ) (apart : is_node (Some thread.0) other ≡ false) (walked : KeyName → ℤ) (key : walked KeyName.Own ≡ call.key)
    (methods : List Method) (event : Option Event) (after : WorldState) (step : performed methods g.world thread call action ≡ stepped event after)
    (sound_after : IsSound F.header (record { world = after; kept = kept_performed F.header g.world.heap after.heap thread call action g.kept })) (sizes_after : HasSizes after)
    (later : Call) (now : get after.calls thread.0 ≡ Some later) where
  abbrev t : Turn
  t = own_turn variables action true

  abbrev base : Scene
  base = own_scene g thread call action variables other walked

  abbrev pub named_later : ℕ → Option ℕ
  named_later = own_named g.world.heap call (binds_of action) variables later.variables

  pub sees : SeesCall F base t thread call
  sees = record { mine = refl; own = refl; apart = apart; key = key }

  same_root : g.world.heap.root ≡ after.heap.root
  same_root = sound.same_root ∙ sym sound_after.same_root

  at_root : (r : ℕ) → F.root ≡ Some r → r ≡ 0
  at_root r e = same_Some r 0 (sym e ∙ root)

  left : Leaves F lawful g sound sizes thread call pending t base sees named_later action after
  left = record {
    sound_after = sound_after;
    sizes_after = sizes_after;
    set_so = λ c e. let same : later ≡ c = same_Some later c (sym now ∙ e) in
        subst (λ (d : Call). VariablesSet F base t call.variables d.variables named_later) same (own_set F base call variables action true names refl later.variables);
    root_before = λ r e. ap base.named (at_root r e) ∙ ap (λ (n : NodeId). Some n.0) same_root;
    root_after = λ r e. ap named_later (at_root r e) ∙ ap (λ (n : NodeId). Some n.0) same_root;
  }

  pub within_limit : (v i : ℕ) → own_name variables (Reference.Variable v) ≡ Some i → v < VARIABLES_LIMIT
  within_limit v i e = elim (cases_Bool (nat_lt v variables)) [
    | inl c ↦ (let below : v < variables = ltb-true v variables c in omega (arith, few))
    | inr c ↦ absurd (none-some i (sym (cond-false (nat_lt v variables) (Some (suc v)) None c) ∙ e))
  ]

  -- a block of the own call, by either exit
  module _ (b : Block) (same : action ≡ Action.Block b) (lawful_block : is_lawful_block F.header variables locations b ≡ true) where
    stand_alone : binds_stand_alone b ≡ true
    stand_alone = (and_parts _ (binds_stand_alone b) (and_parts _ _ (and_parts _ _ lawful_block).0).0).1

    pub apart_binds : all_pairs (λ (d : Bind) e. not (d.to == e.to)) b.binds ≡ true
    apart_binds = (and_parts (all_pairs (λ (d : Bind) e. not (d.to == e.to)) b.binds) _ stand_alone).0

    pub knows_block : (r : Reference) → block_reads b r ≡ true → Knows F base t call r
    knows_block r e = own_knows F base call variables action true names refl r (block_so F.header variables r b e (block_parts F.header variables locations b lawful_block))

    pub knows_binds : KnowsBinds F base t call b.binds
    knows_binds =
        subst (λ ds. KnowsBinds F base t call ds) (ap binds_of same)
        (own_reads F base call variables action true names refl (subst (λ ds. all_pairs (λ (d : Bind) e. not (d.to == e.to)) ds ≡ true) (sym (ap binds_of same)) apart_binds))

    pub own_block_seen : BlockSeen F lawful g sound sizes thread call pending t base sees named_later b variables locations lawful_block knows_block (λ passed. knows_binds) within_limit after
    own_block_seen =
        block_seen F lawful g sound sizes thread call pending t base sees named_later b variables locations lawful_block knows_block (λ passed. knows_binds) within_limit event after
        (ap (λ a. performed methods g.world thread call a) (sym same) ∙ step) (subst (λ a. Leaves F lawful g sound sizes thread call pending t base sees named_later a after) same left)

  -- a copy
  module _ (to next : ℕ) (from : Value) (same : action ≡ Action.Copy to from next) (within : to < variables) (fits : value_fits variables from ≡ true) where
    pub own_copy_seen : IsTurnStep F (copy_turn t to from next) (shown F (sees_before F lawful g sound sizes thread call pending t base sees named_later after)) (shown F (sees_after F lawful g sound sizes thread call pending t base sees named_later (Action.Copy to from next) after named_later))
    own_copy_seen =
        copy_seen F lawful g sound sizes thread call pending t base sees named_later to next from (let le = few in omega arith)
        (λ r e. own_knows F base call variables action true names refl r (value_so F.header variables r from e fits)) event after
        (ap (λ a. performed methods g.world thread call a) (sym same) ∙ step) (subst (λ a. Leaves F lawful g sound sizes thread call pending t base sees named_later a after) same left)

    pub own_copy_sources : (i : ℕ) → i < F.names → named_later i ≡ source_node base 0 (if has_name t to i then value_source (copy_turn t to from next) from else Of i)
    own_copy_sources =
        copy_sources F lawful g sound sizes thread call pending t base sees named_later to next from (let le = few in omega arith)
        (λ r e. own_knows F base call variables action true names refl r (value_so F.header variables r from e fits)) event after
        (ap (λ a. performed methods g.world thread call a) (sym same) ∙ step) (subst (λ a. Leaves F lawful g sound sizes thread call pending t base sees named_later a after) same left)

  -- an allocation
  module _ (to next : ℕ) (same : action ≡ Action.New to next) (within : to < variables) where
    fresh_mine : counts_as_mine g.kept.owners other (length g.world.heap.nodes) ≡ true
    fresh_mine = ap (λ o. not (is_node (option_flatten o) other)) (slice_get_past g.kept.owners (length g.world.heap.nodes) (let even = sound.owned in omega arith))

    there : (n x : ℕ) → n < F.names → base.named n ≡ Some x → x < length g.world.heap.nodes
    there n x bn e =
        named_these (λ y. y < length g.world.heap.nodes) g.world.heap call (binds_of action) variables sound.closed.root (sound.variables_within thread.0 call pending) (closed_leads g.world.heap sound.closed) n x e

    pub own_new_seen : IsTurnStep F (new_turn t to next) (shown F (sees_before F lawful g sound sizes thread call pending t base sees named_later after)) (shown F (sees_after F lawful g sound sizes thread call pending t base sees named_later (Action.New to next) after named_later))
    own_new_seen =
        new_seen F lawful g sound sizes thread call pending t base sees named_later to next (let le = few in omega arith) refl fresh_mine there event after
        (ap (λ a. performed methods g.world thread call a) (sym same) ∙ step) (subst (λ a. Leaves F lawful g sound sizes thread call pending t base sees named_later a after) same left)

    pub own_new_sources : (i : ℕ) → i < F.names → named_later i ≡ source_node base (length g.world.heap.nodes) (if has_name t to i then Fresh else Of i)
    own_new_sources =
        new_sources F lawful g sound sizes thread call pending t base sees named_later to next (let le = few in omega arith) refl fresh_mine there event after
        (ap (λ a. performed methods g.world thread call a) (sym same) ∙ step) (subst (λ a. Leaves F lawful g sound sizes thread call pending t base sees named_later a after) same left)
