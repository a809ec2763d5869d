-- What is seen of the names that a literal speaks of decides it.
use Rattle.std.proofs.Common.{◌≡◌, Bool, true, false, not, Some, ◌∙◌, ap}
use Rattle.std.specs.Prelude.{◌&&◌, is_none}
use Rattle.std.specs.Option.{option_map_or}
use Rattle.std.proofs.lemmas.Bool.{true≢false, and_parts}
use Rattle.std.proofs.Math.Path.{ap₂}
use Rattle.plank_base.specs.declared.keys.Key.{Key}
use Rattle.plank_base.specs.Keys.{is_at_most}
use Rattle.plank_prog.specs.declared.headers.Header.{Header}
use Rattle.plank_prog.specs.declared.blocks.Reference.{Reference}
use Rattle.plank_prog.specs.Views.{is_bit_set}
use Rattle.plank_heap.specs.declared.nodes.Node.{Node}
use Rattle.plank_pic.specs.declared.literals.Literal.{Literal}
use Rattle.plank_fact.specs.Literals.{is_over, is_of_call}
use Rattle.plank_scene.specs.Scenes.{has_lock}
use Rattle.plank_sound.specs.Sights.{Sight, same_target, at_node, at_nodes, led, lies_below, flag_there, pointer_there, holds}

-- the same is seen of these names, and of the key and the set
pub record SeesAlike (These : Reference → Bool) (s t : Sight) : Type 0 where
  pub named : (r : Reference) → These r ≡ true → s.named r ≡ t.named r
  pub node : (r : Reference) → These r ≡ true → s.node r ≡ t.node r
  pub shared : (r : Reference) → These r ≡ true → s.shared r ≡ t.shared r
  pub visited : (r : Reference) → These r ≡ true → s.visited r ≡ t.visited r
  pub chain : (q r : Reference) → These q ≡ true → These r ≡ true → s.chain q r ≡ t.chain q r
  pub in_set : s.in_set ≡ t.in_set
  pub key : s.key ≡ t.key
  pub thread : s.thread ≡ t.thread

module _ (h : Header) (These : Reference → Bool) (s t : Sight) (alike : SeesAlike These s t) where
  one : (q : Reference) → (These q && true) ≡ true → These q ≡ true
  one q e = (and_parts (These q) true e).0

  both : (q r : Reference) → (These q && (These r && true)) ≡ true → (These q ≡ true) × (These r ≡ true)
  both q r e = let w = and_parts (These q) (These r && true) e in (w.0, one r w.1)

  node_alike : (q : Reference) (test : Node → Bool) → (These q && true) ≡ true → at_node s q test ≡ at_node t q test
  node_alike q test e = ap (λ o. option_map_or test o false) (alike.node q (one q e))

  nodes_alike : (q r : Reference) (test : Node → Node → Bool) → (These q && (These r && true)) ≡ true → at_nodes s q r test ≡ at_nodes t q r test
  nodes_alike q r test e = let w = both q r e in
      ap₂ (λ o p. option_map_or (λ x. option_map_or (λ y. test x y) p false) o false) (alike.node q w.0) (alike.node r w.1)

  value_alike : (q r : Reference) → (These q && (These r && true)) ≡ true → same_target (s.named q) (s.named r) ≡ same_target (t.named q) (t.named r)
  value_alike q r e = let w = both q r e in ap₂ same_target (alike.named q w.0) (alike.named r w.1)

  key_alike : (q : Reference) (test : Key → Node → Bool) → (These q && true) ≡ true → at_node s q (test (Key.Num s.key)) ≡ at_node t q (test (Key.Num t.key))
  key_alike q test e = node_alike q (test (Key.Num s.key)) e ∙ ap (λ j. at_node t q (test (Key.Num j))) alike.key

  pub holds_alike : (L : Literal) → is_of_call L ≡ false → is_over These L ≡ true → holds h s L ≡ holds h t L
  holds_alike (Literal.Same q r) free e = value_alike q r e
  holds_alike (Literal.Apart q r) free e = ap not (value_alike q r e)
  holds_alike (Literal.Null q) free e = ap is_none (alike.named q (one q e))
  holds_alike (Literal.NotNull q) free e = ap (λ o. not (is_none o)) (alike.named q (one q e))
  holds_alike (Literal.KeyBelow q r) free e = nodes_alike q r (λ x y. lies_below x.key y.key) e
  holds_alike (Literal.KeyAtMost q r) free e = nodes_alike q r (λ x y. is_at_most x.key y.key) e
  holds_alike (Literal.BelowArgument q) free e = key_alike q (λ k x. lies_below x.key k) e
  holds_alike (Literal.AtMostArgument q) free e = key_alike q (λ k x. is_at_most x.key k) e
  holds_alike (Literal.AboveArgument q) free e = key_alike q (λ k x. lies_below k x.key) e
  holds_alike (Literal.AtLeastArgument q) free e = key_alike q (λ k x. is_at_most k x.key) e
  holds_alike (Literal.KeyIsMin q) free e = node_alike q (λ x. is_at_most x.key Key.Min && is_at_most Key.Min x.key) e
  holds_alike (Literal.AboveMin q) free e = node_alike q (λ x. lies_below Key.Min x.key) e
  holds_alike (Literal.BelowMax q) free e = node_alike q (λ x. lies_below x.key Key.Max) e
  holds_alike (Literal.KeyIsMax q) free e = node_alike q (λ x. is_at_most x.key Key.Max && is_at_most Key.Max x.key) e
  holds_alike (Literal.Flag q f) free e = node_alike q (λ x. flag_there h f && is_bit_set x.flags f) e
  holds_alike (Literal.NoFlag q f) free e = node_alike q (λ x. not (flag_there h f && is_bit_set x.flags f)) e
  holds_alike (Literal.Leads q f r) free e = let w = both q r e in
      ap₂ (λ o p. option_map_or (λ x. pointer_there h f && same_target (led x f) p) o false) (alike.node q w.0) (alike.named r w.1)
  holds_alike (Literal.LeadsNowhere q f) free e = node_alike q (λ x. pointer_there h f && is_none (led x f)) e
  holds_alike (Literal.Locked q) free e =
      node_alike q (λ x. h.has_lock && has_lock (Some s.thread) x) e ∙ ap (λ u. at_node t q (λ x. h.has_lock && has_lock (Some u) x)) alike.thread
  holds_alike (Literal.Owned q) free e = ap₂ (λ o b. option_map_or (λ x. not b) o false) (alike.node q (one q e)) (alike.shared q (one q e))
  holds_alike (Literal.Shared q) free e = ap₂ (λ o b. option_map_or (λ x. b) o false) (alike.node q (one q e)) (alike.shared q (one q e))
  holds_alike (Literal.Visited q) free e = ap₂ (λ o b. option_map_or (λ x. b) o false) (alike.node q (one q e)) (alike.visited q (one q e))
  holds_alike Literal.InSet free e = alike.in_set
  holds_alike Literal.NotInSet free e = ap not alike.in_set
  holds_alike (Literal.Chain q r) free e = let w = both q r e in
      nodes_alike q r (λ x y. s.chain q r) e ∙ ap (λ b. at_nodes t q r (λ x y. b)) (alike.chain q r w.0 w.1)
  holds_alike Literal.Spent free e = absurd (true≢false free)
  holds_alike Literal.Unspent free e = absurd (true≢false free)
