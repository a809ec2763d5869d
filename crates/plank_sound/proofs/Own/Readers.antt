-- What is true of a call in the picture of a scene that names its nodes first is true of what it sees in the world.
use Rattle.std.proofs.Common.{◌≡◌, ◌⊎◌, ℕ, ◌<◌, ◌≤◌, true, false, not, length, Some, refl, sym, ◌∙◌, ap, inl, inr, arith}
use Rattle.std.specs.Prelude.{slice_get}
use Rattle.std.specs.Bool.{beq}
use Rattle.std.specs.Option.{option_flatten}
use Rattle.std.specs.FinMap.{get}
use Rattle.std.proofs.lemmas.Bool.{ne_eqb}
use Rattle.plank_base.specs.declared.keys.NodeId.{NodeId}
use Rattle.plank_prog.specs.declared.blocks.Reference.{Reference}
use Rattle.plank_prog.specs.declared.methods.Method.{Method}
use Rattle.plank_sem.specs.declared.calls.Call.{Call}
use Rattle.plank_sem.specs.Kept.{GhostWorld, IsShared, IsOwn}
use Rattle.plank_sem.specs.Facts.{IsSound}
use Rattle.plank_pic.specs.declared.literals.Literal.{Literal}
use Rattle.plank_pic.specs.declared.parts.KeyName.{KeyName}
use Rattle.plank_pic.specs.Frames.{Frame}
use Rattle.plank_pic.specs.Truths.{truth}
use Rattle.plank_fact.specs.Literals.{can_be_past}
use Rattle.plank_fact.specs.Tables.{name_count}
use Rattle.plank_fact.specs.OwnSteps.{own_call}
use Rattle.plank_fact.specs.Hindsight.{is_witnessed}
use Rattle.plank_scene.specs.Scenes.{Scene, is_node, shown}
use Rattle.plank_scene.specs.OwnScenes.{counts_as_mine}
use Rattle.plank_sound.specs.Sights.{holds, holds_shared, seen_at, value_at, values_of, seen_in, sight_of}
use Rattle.plank_sound.proofs.Sights.Sighted.{truth_seen}
use Rattle.plank_sound.proofs.Sights.PastSeen.{witnessed_seen, past_seen}
use Rattle.plank_sound.proofs.Sights.LiteralKinds.{past_asks_none}
use Rattle.plank_sound.proofs.Sights.Seen.{seen_world}
use Rattle.plank_sound.proofs.Own.Standing.{own_below, values_there}

module _ (F : Frame) (S : Scene) (g : GhostWorld) (sound : IsSound F.header g) (u : ℕ) (call : Call) (pending : get g.world.calls u ≡ Some call) (m : Method) (room : name_count m ≤ F.names)
    (heap : S.heap ≡ g.world.heap) (owners : S.owners ≡ g.kept.owners) (key : S.walked KeyName.Own ≡ call.key) (own : S.own ≡ Some u)
    (names : (i : ℕ) → i < name_count m → S.named i ≡ value_at g.world.heap call (length m.variables) i) (spent : S.spent ≡ g.kept.has_changed u)
    (mine : (i y : ℕ) → i < name_count m → S.named i ≡ Some y → S.mine y ≡ true) where
  below : (r : Reference) → (own_call m).name r < F.names
  below r = let b = own_below m r in omega (arith, b, room)

  pub reader_seen : seen_in F.header S (own_call m) u ≡ sight_of F.header g u call m
  reader_seen =
      seen_world F.header S (own_call m) u g call.key (values_of g.world.heap call m) heap owners key (λ r. names ((own_call m).name r) (own_below m r))
      (λ r y e. values_there (λ z. z < length g.world.heap.nodes) g.world.heap call m sound.closed.root (sound.variables_within u call pending) ((own_call m).name r) y e)
      sound.owned
      ∙ ap (λ b. record (sight_of F.header g u call m) { spent = b }) spent

  pub reader_truth : (L : Literal) → truth (shown F S) (own_call m) L ≡ holds F.header (sight_of F.header g u call m) L
  reader_truth L =
      truth_seen F S (own_call m) u below L (λ e. record { part = inl (refl, own); owned = λ r y at d. ap (λ b. beq b true) (mine ((own_call m).name r) y (own_below m r) at) })
      ∙ ap (λ s. holds F.header s L) reader_seen

-- the nodes that a call names do not count as another thread's
pub not_theirs : (g : GhostWorld) (u : ℕ) (call : Call) (m : Method) (actor : ℕ) → IsShared g.kept.owners g.world.heap.root.0 → ((v : ℕ) (y : NodeId) → slice_get call.variables v ≡ Some (Some y) → IsShared g.kept.owners y.0 ⊎ IsOwn g.kept.owners y.0 u)
    → (u ≡ actor → ⊥) → (i y : ℕ) → value_at g.world.heap call (length m.variables) i ≡ Some y → counts_as_mine g.kept.owners (Some actor) y ≡ true
not_theirs g u call m actor root all apart i y e = values_there (λ z. counts_as_mine g.kept.owners (Some actor) z ≡ true) g.world.heap call m (of_shared g.world.heap.root.0 root) of_variable i y e
  where
    of_shared : (x : ℕ) → IsShared g.kept.owners x → counts_as_mine g.kept.owners (Some actor) x ≡ true
    of_shared x s = ap (λ o. not (is_node (option_flatten o) (Some actor))) s

    of_variable : (v : ℕ) (y : NodeId) → slice_get call.variables v ≡ Some (Some y) → counts_as_mine g.kept.owners (Some actor) y.0 ≡ true
    of_variable v y at = elim (all v y at) [
      | inl s ↦ of_shared y.0 s
      | inr o ↦ ap (λ q. not (is_node (option_flatten q) (Some actor))) o ∙ ap not (ne_eqb u actor apart)
    ]

-- the same of what may be said of an earlier moment
pub reader_witnessed : (F : Frame) (S : Scene) (g : GhostWorld) → IsSound F.header g → (u : ℕ) (call : Call) (m : Method) → name_count m ≤ F.names → S.heap ≡ g.world.heap → S.owners ≡ g.kept.owners → S.walked KeyName.Own ≡ call.key
    → ((i : ℕ) → i < name_count m → S.named i ≡ value_at g.world.heap call (length m.variables) i) → (L : Literal) → can_be_past L ≡ true → is_witnessed (shown F S) (own_call m) L ≡ true
    → holds_shared F.header (seen_at F.header g (values_of g.world.heap call m) call.key u false) L ≡ true
reader_witnessed F S g sound u call m room heap owners key names L kind e =
    let below : (r : Reference) → (own_call m).name r < F.names = λ r. (let b = own_below m r in omega (arith, b, room)) in
    sym (past_seen F.header S (own_call m) u g call.key (values_of g.world.heap call m) heap owners key (λ r. names ((own_call m).name r) (own_below m r)) sound.owned L kind)
    ∙ sym (witnessed_seen F S (own_call m) u below L (truth_seen F S (own_call m) u below L (λ d. absurd (past_asks_none L kind d))))
    ∙ e
