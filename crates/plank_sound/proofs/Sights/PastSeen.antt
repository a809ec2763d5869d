-- What may be said of an earlier moment is seen alike in a scene and in its world, though a node may not be there yet.
use Rattle.std.proofs.Common.{◌≡◌, ℕ, ◌<◌, ℤ, Bool, true, false, not, length, Option, Some, None, refl, sym, ◌∙◌, ap, inl, inr, arith}
use Rattle.std.specs.Prelude.{◌&&◌, slice_get, unwrap_or, option_map, option_and_then}
use Rattle.std.specs.Option.{option_map_or}
use Rattle.std.proofs.lemmas.Bool.{true≢false, and_right, lt-ltb}
use Rattle.std.proofs.lemmas.Option.{slice_get_cases}
use Rattle.plank_prog.specs.declared.headers.Header.{Header}
use Rattle.plank_prog.specs.declared.blocks.Reference.{Reference}
use Rattle.plank_prog.specs.Views.{is_bit_set}
use Rattle.plank_heap.specs.declared.nodes.Node.{Node}
use Rattle.plank_heap.specs.Changes.{fresh_node}
use Rattle.plank_heap.specs.Walks.{walk_visits, contains}
use Rattle.plank_sem.specs.Kept.{GhostWorld}
use Rattle.plank_pic.specs.declared.literals.Literal.{Literal}
use Rattle.plank_pic.specs.declared.parts.Part.{Part}
use Rattle.plank_pic.specs.Frames.{Frame}
use Rattle.plank_pic.specs.Truths.{Caller, argument, truth}
use Rattle.plank_fact.specs.Literals.{past_name, can_be_past}
use Rattle.plank_fact.specs.Hindsight.{is_witnessed}
use Rattle.plank_scene.specs.Scenes.{Scene, node_at, is_shared_in, on, shown}
use Rattle.plank_scene.proofs.Scenes.Showing.{shown_says}
use Rattle.plank_scene.proofs.Scenes.Paths.{unborn_unshared}
use Rattle.plank_sound.specs.Sights.{flag_there, holds, holds_shared, bare_scene, seen_in, seen_at}
use Rattle.plank_sound.proofs.Sights.Seen.{shared_alike}

-- what is witnessed in the picture of a scene is true, of a shared node, of what is seen in it
pub witnessed_seen : (F : Frame) (S : Scene) (c : Caller) (thread : ℕ) → ((r : Reference) → c.name r < F.names) → (L : Literal) → truth (shown F S) c L ≡ holds F.header (seen_in F.header S c thread) L
    → is_witnessed (shown F S) c L ≡ holds_shared F.header (seen_in F.header S c thread) L
witnessed_seen F S c thread below L same = ap (λ b. b && option_map_or (λ q. shown F S (Part.Shared (c.name q))) (past_name L) true) same ∙ ap (λ b. holds F.header (seen_in F.header S c thread) L && b) (by_name (past_name L))
  where
    by_name : (o : Option Reference) → option_map_or (λ q. shown F S (Part.Shared (c.name q))) o true ≡ option_map_or (λ q. on (is_shared_in S) (S.named (c.name q))) o true
    by_name None = refl
    by_name (Some q) = shown_says F S (Part.Shared (c.name q)) (lt-ltb (c.name q) F.names (below q))

module _ (h : Header) (S : Scene) (c : Caller) (thread : ℕ) (g : GhostWorld) (key : ℤ) (named : Reference → Option ℕ)
    (heap : S.heap ≡ g.world.heap) (owners : S.owners ≡ g.kept.owners) (key_is : S.walked (argument c) ≡ key) (names : (r : Reference) → S.named (c.name r) ≡ named r)
    (owned : length g.kept.owners ≡ length g.world.heap.nodes) where
  abbrev bare : Scene
  bare = bare_scene g key

  -- of a node that is shared
  of_node : (q : Reference) (test there : Node → Bool) → ((x : ℕ) (node : Node) → named q ≡ Some x → test node ≡ there node)
      → (option_map_or test (option_map (node_at S) (S.named (c.name q))) false && on (is_shared_in S) (S.named (c.name q)))
      ≡ (option_map_or there (option_and_then (λ x. slice_get g.world.heap.nodes x) (named q)) false && on (is_shared_in bare) (named q))
  of_node q test there same = ap (λ o. option_map_or test (option_map (node_at S) o) false && on (is_shared_in S) o) (names q) ∙ by_name (named q) refl
    where
      by_name : (o : Option ℕ) → named q ≡ o → (option_map_or test (option_map (node_at S) o) false && on (is_shared_in S) o) ≡ (option_map_or there (option_and_then (λ x. slice_get g.world.heap.nodes x) o) false && on (is_shared_in bare) o)
      by_name None e = refl
      by_name (Some x) e = elim (slice_get_cases g.world.heap.nodes x).1 [
        | inl found ↦
            let at : node_at S x ≡ found.0 = ap (λ w. unwrap_or (slice_get w.nodes x) (fresh_node (S.unborn x))) heap ∙ ap (λ o. unwrap_or o (fresh_node (S.unborn x))) found.2 in
            ap (λ b. b && is_shared_in S x) (ap test at ∙ same x found.0 e ∙ sym (ap (λ o. option_map_or there o false) found.2))
            ∙ ap (λ b. option_map_or there (slice_get g.world.heap.nodes x) false && b) (shared_alike S bare owners x)
        | inr past ↦
            let gone : is_shared_in bare x ≡ false = unborn_unshared h bare owned x (let p = past.0 in omega arith) in
            and_right (test (node_at S x)) (is_shared_in S x) (shared_alike S bare owners x ∙ gone) ∙ sym (and_right (option_map_or there (slice_get g.world.heap.nodes x) false) (is_shared_in bare x) gone)
      ]

  set_is : contains h S.heap (S.walked (argument c)) ≡ contains h g.world.heap key
  set_is = ap (λ w. contains h w (S.walked (argument c))) heap ∙ ap (contains h g.world.heap) key_is

  visits_is : (q : Reference) → on (walk_visits h S.heap (S.walked (argument c))) (S.named (c.name q)) ≡ on (walk_visits h g.world.heap key) (named q)
  visits_is q = ap (on (walk_visits h S.heap (S.walked (argument c)))) (names q) ∙ ap (λ w. on (walk_visits h w (S.walked (argument c))) (named q)) heap ∙ ap (λ k. on (walk_visits h g.world.heap k) (named q)) key_is

  pub past_seen : (L : Literal) → can_be_past L ≡ true → holds_shared h (seen_in h S c thread) L ≡ holds_shared h (seen_at h g named key thread false) L
  past_seen (Literal.Visited q) kind = of_node q (λ x. on (walk_visits h S.heap (S.walked (argument c))) (S.named (c.name q))) (λ x. on (walk_visits h g.world.heap key) (named q)) (λ x node e. visits_is q)
  past_seen (Literal.Flag q f) kind = of_node q (λ x. flag_there h f && is_bit_set x.flags f) (λ x. flag_there h f && is_bit_set x.flags f) (λ x node e. refl)
  past_seen (Literal.NoFlag q f) kind = of_node q (λ x. not (flag_there h f && is_bit_set x.flags f)) (λ x. not (flag_there h f && is_bit_set x.flags f)) (λ x node e. refl)
  past_seen Literal.InSet kind = ap (λ b. b && true) set_is
  past_seen Literal.NotInSet kind = ap (λ b. not b && true) set_is
  past_seen (Literal.Same q r) kind = absurd (true≢false (sym kind))
  past_seen (Literal.Apart q r) kind = absurd (true≢false (sym kind))
  past_seen (Literal.Null q) kind = absurd (true≢false (sym kind))
  past_seen (Literal.NotNull q) kind = absurd (true≢false (sym kind))
  past_seen (Literal.KeyBelow q r) kind = absurd (true≢false (sym kind))
  past_seen (Literal.KeyAtMost q r) kind = absurd (true≢false (sym kind))
  past_seen (Literal.BelowArgument q) kind = absurd (true≢false (sym kind))
  past_seen (Literal.AtMostArgument q) kind = absurd (true≢false (sym kind))
  past_seen (Literal.AboveArgument q) kind = absurd (true≢false (sym kind))
  past_seen (Literal.AtLeastArgument q) kind = absurd (true≢false (sym kind))
  past_seen (Literal.KeyIsMin q) kind = absurd (true≢false (sym kind))
  past_seen (Literal.AboveMin q) kind = absurd (true≢false (sym kind))
  past_seen (Literal.BelowMax q) kind = absurd (true≢false (sym kind))
  past_seen (Literal.KeyIsMax q) kind = absurd (true≢false (sym kind))
  past_seen (Literal.Leads q f r) kind = absurd (true≢false (sym kind))
  past_seen (Literal.LeadsNowhere q f) kind = absurd (true≢false (sym kind))
  past_seen (Literal.Locked q) kind = absurd (true≢false (sym kind))
  past_seen (Literal.Owned q) kind = absurd (true≢false (sym kind))
  past_seen (Literal.Shared q) kind = absurd (true≢false (sym kind))
  past_seen (Literal.Chain q r) kind = absurd (true≢false (sym kind))
  past_seen Literal.Spent kind = absurd (true≢false (sym kind))
  past_seen Literal.Unspent kind = absurd (true≢false (sym kind))
