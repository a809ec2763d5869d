-- Each node of a world of a run is a start node, or has a number as its key.
use Rattle.std.proofs.Common.{◌≡◌, ◌⊎◌, ℕ, ◌≤◌, ℤ, Bool, true, false, List, [], ◌∷◌, length, length-set, Option, Some, None, sym, ◌∙◌, ap, inl, inr, arith}
use Rattle.std.specs.Prelude.{slice_get, option_map, if◌then◌else◌}
use Rattle.std.proofs.lemmas.Option.{none-some, same_Some, slice_get_cases, slice_get_within, option_and_then_some}
use Rattle.plank_base.specs.declared.keys.NodeId.{NodeId}
use Rattle.plank_base.specs.declared.keys.ThreadId.{ThreadId}
use Rattle.plank_prog.specs.declared.headers.Header.{Header}
use Rattle.plank_prog.specs.declared.blocks.Block.{Block}
use Rattle.plank_prog.specs.declared.blocks.Write.{Write}
use Rattle.plank_prog.specs.declared.methods.Action.{Action}
use Rattle.plank_prog.specs.declared.methods.Method.{Method}
use Rattle.plank_prog.specs.Headers.{is_lawful_header}
use Rattle.plank_prog.specs.Methods.{are_lawful_methods}
use Rattle.plank_heap.specs.declared.nodes.Node.{Node}
use Rattle.plank_heap.specs.declared.heaps.Heap.{Heap}
use Rattle.plank_heap.specs.Heaps.{start_heap}
use Rattle.plank_heap.specs.Changes.{fresh_node, with_node, with_fresh_node}
use Rattle.plank_hist.specs.declared.events.Event.{Event}
use Rattle.plank_sem.specs.declared.calls.Call.{Call}
use Rattle.plank_sem.specs.declared.steps.Act.{Act}
use Rattle.plank_sem.specs.declared.steps.Choice.{Choice}
use Rattle.plank_sem.specs.Worlds.{WorldState}
use Rattle.plank_sem.specs.Reads.{tests_value}
use Rattle.plank_sem.specs.Actions.{After, gone_to, bound, changed_by, written, written_in, taken_yes, taken_no, block_run, copied, allocated}
use Rattle.plank_sem.specs.Kept.{GhostWorld, GhostRun}
use Rattle.plank_sem.specs.Facts.{KeysStay, HasNumber, AreNumbered}
use Rattle.plank_sem.proofs.Lists.{found_after_push}
use Rattle.plank_sem.proofs.SoundWorlds.{Good, step_goes, step_good, start_good}
use Rattle.plank_sem.proofs.StepCases.{StepWas, began, went, finished, acted_cases, made_by}
use Rattle.plank_sem.proofs.RunInduction.{of_every_world}

-- a write adds no node
pub written_room : (heap : Heap) (thread : ThreadId) (call : Call) (ws : List Write) (later : Heap) → written heap thread call ws ≡ Some later → length later.nodes ≡ length heap.nodes
written_room heap thread call [] later e = ap (λ (w : Heap). length w.nodes) (sym (same_Some heap later e))
written_room heap thread call (w ∷ ws) later e =
    option_and_then_some (λ (x : NodeId). option_map (λ node. with_node heap x.0 (changed_by heap thread call (w ∷ ws) node)) (slice_get heap.nodes x.0)) (written_in (w ∷ ws) heap call) later e
    (λ x at rest. option_and_then_some (λ (node : Node). Some (with_node heap x.0 (changed_by heap thread call (w ∷ ws) node))) (slice_get heap.nodes x.0) later rest
    (λ node found same. ap (λ (v : Heap). length v.nodes) (sym (same_Some _ later same)) ∙ length-set heap.nodes x.0 (changed_by heap thread call (w ∷ ws) node)))

module _ (heap : Heap) (thread : ThreadId) (call : Call) where
  yes_room : (b : Block) (after : After) → taken_yes heap thread call b ≡ Some after → length after.heap.nodes ≡ length heap.nodes
  yes_room b after e =
      option_and_then_some (λ (variables : List (Option NodeId)). option_map (λ next. record { heap = next; call = gone_to call b.yes variables }) (written heap thread call b.writes)) (bound heap call b.binds call.variables) after e
      (λ variables is rest. option_and_then_some (λ (next : Heap). Some (record { heap = next; call = gone_to call b.yes variables })) (written heap thread call b.writes) after rest
      (λ next wrote same. ap (λ (a : After). length a.heap.nodes) (sym (same_Some _ after same)) ∙ written_room heap thread call b.writes next wrote))

  exit_room : (b : Block) (passed : Bool) (after : After) → (if passed then taken_yes heap thread call b else Some (taken_no heap call b)) ≡ Some after → length after.heap.nodes ≡ length heap.nodes
  exit_room b true after e = yes_room b after e
  exit_room b false after e = ap (λ (a : After). length a.heap.nodes) (sym (same_Some (taken_no heap call b) after e))

  -- a block adds no node
  pub block_room : (b : Block) (after : After) → block_run heap thread call b ≡ Some after → length after.heap.nodes ≡ length heap.nodes
  block_room b after e =
      option_and_then_some (λ (passed : Bool). if passed then taken_yes heap thread call b else Some (taken_no heap call b)) (tests_value heap thread call b.tests) after e
      (λ passed is rest. exit_room b passed after rest)

-- a step adds no node, or a fresh one
abbrev pub AddsFresh : Heap → Heap → Type 0
AddsFresh before after = (length after.nodes ≡ length before.nodes) ⊎ ((key : ℤ) × (after ≡ with_fresh_node before key))

made_adds : (heap : Heap) (thread : ThreadId) (call : Call) (action : Action) (made : After) → made_by heap thread call action ≡ Some made → AddsFresh heap made.heap
made_adds heap thread call (Action.Block b) made e = inl (block_room heap thread call b made e)
made_adds heap thread call (Action.Copy to from location) made e =
    inl (ap (λ (a : After). length a.heap.nodes) (sym (same_Some (copied heap call to from location) made e)))
made_adds heap thread call (Action.New to location) made e =
    inr (call.key, ap (λ (a : After). a.heap) (sym (same_Some (allocated heap call to location) made e)))
made_adds heap thread call (Action.Return answer) made e = absurd (none-some made e)

pub step_adds : (methods : List Method) (before : WorldState) (thread : ThreadId) (act : Act) (event : Option Event) (after : WorldState) → StepWas methods before thread act event after → AddsFresh before.heap after.heap
step_adds methods before thread act event after (began m key method is called same_event same_world) = inl (ap (λ (w : WorldState). length w.heap.nodes) same_world)
step_adds methods before thread act event after (went call action made is pending at makes same_event same_world) =
    elim (made_adds before.heap thread call action made makes) [
      | inl same ↦ inl (ap (λ (w : WorldState). length w.heap.nodes) same_world ∙ same)
      | inr fresh ↦ inr (fresh.0, ap (λ (w : WorldState). w.heap) same_world ∙ fresh.1)
    ]
step_adds methods before thread act event after (finished call answer is pending at same_event same_world) = inl (ap (λ (w : WorldState). length w.heap.nodes) same_world)

module _ (h : Header) (before after : Heap) (numbered : (x : ℕ) (node : Node) → slice_get before.nodes x ≡ Some node → HasNumber h x node) (keys : KeysStay before after) where
  new_numbered : (x : ℕ) (node : Node) → slice_get after.nodes x ≡ Some node → length before.nodes ≤ x → slice_get before.nodes x ≡ None → AddsFresh before after → HasNumber h x node
  new_numbered x node at past none (inl room) = let within = slice_get_within after.nodes x node at in absurd (omega (arith, room, within, past))
  new_numbered x node at past none (inr fresh) =
      elim (found_after_push before.nodes (fresh_node fresh.0) x node (ap (λ (w : Heap). slice_get w.nodes x) (sym fresh.1) ∙ at)) [
        | inl old ↦ absurd (none-some node (sym none ∙ old))
        | inr last ↦ inr (fresh.0, ap (λ (n : Node). n.key) (sym last.1))
      ]

  numbered_after : AddsFresh before after → (x : ℕ) (node : Node) → slice_get after.nodes x ≡ Some node → HasNumber h x node
  numbered_after adds x node at = elim (slice_get_cases before.nodes x).1 [
    | inl found ↦
        let later = keys x found.0 found.2 in
        let same : later.0 ≡ node = same_Some _ _ (sym later.1 ∙ at) in
        elim (numbered x found.0 found.2) [ inl start ↦ inl start | inr number ↦ inr (number.0, ap (λ (n : Node). n.key) (sym same) ∙ later.2 ∙ number.1) ]
    | inr past ↦ new_numbered x node at past.0 past.1 adds
  ]

module _ (h : Header) (methods : List Method) (header : is_lawful_header h ≡ true) (lawful : are_lawful_methods h methods ≡ true) where
  abbrev IsFine : GhostWorld → Type 0
  IsFine g = Good h methods g × AreNumbered h g

  pub run_numbered : {choices : List Choice} {told : List (Option Event)} {ghosts : List GhostWorld} → GhostRun h methods choices told ghosts → (i : ℕ) (g : GhostWorld) → slice_get ghosts i ≡ Some g → AreNumbered h g
  run_numbered run i g at =
      (of_every_world IsFine
      (start_good h methods header, λ x node found. inl (slice_get_within (start_heap h).nodes x node found))
      (λ before choice event after fine step. (
        step_good h methods before fine.0 lawful choice event after step,
        numbered_after h before.world.heap after.heap fine.1 (step_goes h methods before fine.0 choice event after step).stays.keys
            (step_adds methods before.world choice.thread choice.act event after (acted_cases methods before.world choice.thread event after choice.act step)),
      )) run i g at).1
