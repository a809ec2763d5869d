-- A literal is true in the picture of a scene exactly where it is true of what the call sees in the scene.
use Rattle.std.proofs.Common.{◌≡◌, ◌⊎◌, ℕ, ◌<◌, ◌==◌, Bool, true, false, not, Option, Some, None, refl, sym, ◌∙◌, ap, inl, inr}
use Rattle.std.specs.Prelude.{◌&&◌, ◌||◌, nat_lt, length, is_some, is_none, option_map, if◌then◌else◌}
use Rattle.std.specs.Bool.{beq}
use Rattle.std.specs.Option.{option_map_or}
use Rattle.std.proofs.lemmas.Bool.{and_from, cases_Bool, eqb-true, lt-ltb, cond-true, cond-false}
use Rattle.std.proofs.Math.Path.{ap₂}
use Rattle.std.proofs.Math.Bool.{and-false}
use Rattle.plank_base.specs.declared.keys.ThreadId.{ThreadId}
use Rattle.plank_base.specs.Keys.{is_at_most}
use Rattle.plank_prog.specs.declared.headers.Header.{Header}
use Rattle.plank_prog.specs.declared.blocks.Reference.{Reference}
use Rattle.plank_prog.specs.Views.{is_bit_set}
use Rattle.plank_heap.specs.declared.nodes.Node.{Node}
use Rattle.plank_heap.specs.Walks.{walk_visits}
use Rattle.plank_pic.specs.declared.literals.Literal.{Literal}
use Rattle.plank_pic.specs.declared.parts.Term.{Term}
use Rattle.plank_pic.specs.declared.parts.Part.{Part}
use Rattle.plank_pic.specs.Frames.{Frame}
use Rattle.plank_pic.specs.Lawful.{term_fits}
use Rattle.plank_pic.specs.Pictures.{Picture, place, is_below, same_key, holds_lock}
use Rattle.plank_pic.specs.Truths.{Caller, argument, truth, same_value, has_value, is_owned, of_node, of_nodes}
use Rattle.plank_scene.specs.Scenes.{Scene, node_at, leads, leads_from, is_node, is_shared_in, is_mine_in, is_chain, on, on_both, has_lock, has_others_lock, key_in, shown}
use Rattle.plank_scene.proofs.Scenes.Showing.{on_at, shown_says, key_named}
use Rattle.plank_scene.proofs.Scenes.Pictured.{order_shown}
use Rattle.plank_sound.specs.Sights.{same_target, at_node, at_nodes, led, lies_below, flag_there, pointer_there, holds, seen_in}

-- what is said of locks and owners
abbrev pub asks_role : Literal → Bool
asks_role (Literal.Locked q) = true
asks_role (Literal.Owned q) = true
asks_role L = false

-- the call's thread has its part in the scene, and its nodes that are not shared count as its own
pub record HasRole (S : Scene) (c : Caller) (thread : ℕ) : Type 0 where
  pub part : ((c.own ≡ true) × (S.own ≡ Some thread)) ⊎ ((c.own ≡ false) × (S.other ≡ Some thread) × (is_node (Some thread) S.own ≡ false))
  pub owned : (r : Reference) (x : ℕ) → S.named (c.name r) ≡ Some x → is_shared_in S x ≡ false → beq (S.mine x) c.own ≡ true

module _ (F : Frame) (S : Scene) (c : Caller) (thread : ℕ) (below : (r : Reference) → c.name r < F.names) where
  abbrev H : Header
  H = F.header

  abbrev P : Picture
  P = shown F S

  fits : (r : Reference) → nat_lt (c.name r) F.names ≡ true
  fits r = lt-ltb (c.name r) F.names (below r)

  null_is : (r : Reference) → P (Part.Null (c.name r)) ≡ is_none (S.named (c.name r))
  null_is r = shown_says F S (Part.Null (c.name r)) (fits r)

  -- ---- of one node, and of ap₂

  of_one : (q : Reference) (said : Bool) (test : Node → Bool) → ((x : ℕ) → S.named (c.name q) ≡ Some x → said ≡ test (node_at S x))
      → of_node P (c.name q) said ≡ option_map_or test (option_map (node_at S) (S.named (c.name q))) false
  of_one q said test so = by_name (S.named (c.name q)) refl
    where
      by_name : (o : Option ℕ) → S.named (c.name q) ≡ o → of_node P (c.name q) said ≡ option_map_or test (option_map (node_at S) o) false
      by_name None e = ap (λ b. not b && said) (null_is q ∙ ap is_none e)
      by_name (Some x) e = ap (λ b. not b && said) (null_is q ∙ ap is_none e) ∙ so x e

  of_two : (q r : Reference) (said : Bool) (test : Node → Node → Bool) → ((x y : ℕ) → S.named (c.name q) ≡ Some x → S.named (c.name r) ≡ Some y → said ≡ test (node_at S x) (node_at S y))
      → of_nodes P (c.name q) (c.name r) said ≡ at_nodes (seen_in H S c thread) q r test
  of_two q r said test so = by_names (S.named (c.name q)) (S.named (c.name r)) refl refl
    where
      by_names : (o p : Option ℕ) → S.named (c.name q) ≡ o → S.named (c.name r) ≡ p
          → of_nodes P (c.name q) (c.name r) said ≡ option_map_or (λ x. option_map_or (λ y. test x y) (option_map (node_at S) p) false) (option_map (node_at S) o) false
      by_names None p e d = ap (λ b. not b && not (P (Part.Null (c.name r))) && said) (null_is q ∙ ap is_none e)
      by_names (Some x) None e d =
          ap (λ b. not b && not (P (Part.Null (c.name r))) && said) (null_is q ∙ ap is_none e) ∙ ap (λ b. not b && said) (null_is r ∙ ap is_none d)
      by_names (Some x) (Some y) e d =
          ap (λ b. not b && not (P (Part.Null (c.name r))) && said) (null_is q ∙ ap is_none e) ∙ ap (λ b. not b && said) (null_is r ∙ ap is_none d) ∙ so x y e d

  -- ---- keys

  below_is : (s t : Term) → term_fits F s ≡ true → term_fits F t ≡ true → is_below P s t ≡ lies_below (key_in F S s) (key_in F S t)
  below_is s t fs ft = ap₂ (λ a b. a && not b) (order_shown F S s t fs ft) (order_shown F S t s ft fs)

  -- to a term that is always there
  key_below_is : (q : Reference) (t : Term) → term_fits F t ≡ true → of_node P (c.name q) (is_below P (Term.Node (c.name q)) t) ≡ at_node (seen_in H S c thread) q (λ x. lies_below x.key (key_in F S t))
  key_below_is q t ft = of_one q _ _ (λ x e. below_is (Term.Node (c.name q)) t (fits q) ft ∙ ap (λ k. lies_below k (key_in F S t)) (key_named F S (c.name q) x e))

  key_above_is : (q : Reference) (t : Term) → term_fits F t ≡ true → of_node P (c.name q) (is_below P t (Term.Node (c.name q))) ≡ at_node (seen_in H S c thread) q (λ x. lies_below (key_in F S t) x.key)
  key_above_is q t ft = of_one q _ _ (λ x e. below_is t (Term.Node (c.name q)) ft (fits q) ∙ ap (lies_below (key_in F S t)) (key_named F S (c.name q) x e))

  key_most_is : (q : Reference) (t : Term) → term_fits F t ≡ true → of_node P (c.name q) (P (Part.AtMost (Term.Node (c.name q)) t)) ≡ at_node (seen_in H S c thread) q (λ x. is_at_most x.key (key_in F S t))
  key_most_is q t ft = of_one q _ _ (λ x e. order_shown F S (Term.Node (c.name q)) t (fits q) ft ∙ ap (λ k. is_at_most k (key_in F S t)) (key_named F S (c.name q) x e))

  key_least_is : (q : Reference) (t : Term) → term_fits F t ≡ true → of_node P (c.name q) (P (Part.AtMost t (Term.Node (c.name q)))) ≡ at_node (seen_in H S c thread) q (λ x. is_at_most (key_in F S t) x.key)
  key_least_is q t ft = of_one q _ _ (λ x e. order_shown F S t (Term.Node (c.name q)) ft (fits q) ∙ ap (is_at_most (key_in F S t)) (key_named F S (c.name q) x e))

  key_same_is : (q : Reference) (t : Term) → term_fits F t ≡ true → of_node P (c.name q) (same_key P (Term.Node (c.name q)) t) ≡ at_node (seen_in H S c thread) q (λ x. is_at_most x.key (key_in F S t) && is_at_most (key_in F S t) x.key)
  key_same_is q t ft = of_one q _ _ (λ x e. ap₂ (λ a b. a && b)
      (order_shown F S (Term.Node (c.name q)) t (fits q) ft ∙ ap (λ k. is_at_most k (key_in F S t)) (key_named F S (c.name q) x e))
      (order_shown F S t (Term.Node (c.name q)) ft (fits q) ∙ ap (is_at_most (key_in F S t)) (key_named F S (c.name q) x e)))

  -- ---- values

  value_is : (q r : Reference) → same_value P (c.name q) (c.name r) ≡ same_target (S.named (c.name q)) (S.named (c.name r))
  value_is q r = ap₂ (λ a b. a || b) (ap₂ (λ a b. a && b) (null_is q) (null_is r)) (shown_says F S (Part.Same (c.name q) (c.name r)) (and_from _ _ (fits q) (fits r)))

  -- ---- flags and pointers

  flag_is : (q : Reference) (f x : ℕ) → S.named (c.name q) ≡ Some x → P (Part.Flag (c.name q) f) ≡ (flag_there H f && is_bit_set (node_at S x).flags f)
  flag_is q f x e = ap₂ (λ a b. a && b) (ap (λ b. b && nat_lt f (length H.flags)) (fits q)) (on_at (λ x. is_bit_set (node_at S x).flags f) e)

  null_lead_is : (q : Reference) (f x : ℕ) → S.named (c.name q) ≡ Some x → P (Part.PointerNull (place (c.name q) f)) ≡ (pointer_there H f && is_none (led (node_at S x) f))
  null_lead_is q f x e = ap₂ (λ a b. a && b) (ap (λ b. b && nat_lt f (length H.pointers)) (fits q)) (on_at (λ x. is_none (leads S x f)) e)

  lead_is : (q r : Reference) (f x : ℕ) → S.named (c.name q) ≡ Some x → has_value P (place (c.name q) f) (c.name r) ≡ (pointer_there H f && same_target (led (node_at S x) f) (S.named (c.name r)))
  lead_is q r f x e =
      ap₂ (λ a b. a || b)
      (ap₂ (λ a b. a && b) (null_lead_is q f x e) (null_is r))
      (ap₂ (λ a b. a && b) (ap (λ b. b && nat_lt f (length H.pointers) && nat_lt (c.name r) F.names) (fits q) ∙ ap (λ b. nat_lt f (length H.pointers) && b) (fits r))
      (ap (λ o. is_node (leads_from S o f) (S.named (c.name r))) e))
      ∙ spread (pointer_there H f) (is_none (led (node_at S x) f)) (is_none (S.named (c.name r))) _
    where
      spread : (a b d e : Bool) → ((a && b && d) || ((a && true) && e)) ≡ (a && ((b && d) || e))
      spread true b d e = refl
      spread false b d e = refl

  -- ---- locks and owners

  module _ (role : HasRole S c thread) where
    lock_of : (x : Node) (o : Option ThreadId) → x.lock ≡ o → (is_some x.lock && (if c.own then has_lock S.own x else not (has_lock S.own x) && has_others_lock S x)) ≡ has_lock (Some thread) x
    lock_of x None e = ap₂ (λ a b. a && b) (ap is_some e) refl ∙ sym (ap (λ o. option_map_or (λ (t : ThreadId). is_node (Some t.0) (Some thread)) o false) e)
    lock_of x (Some t) e =
        ap (λ b. b && (if c.own then has_lock S.own x else not (has_lock S.own x) && has_others_lock S x)) (ap is_some e)
        ∙ by_part role.part
      where
        by_part : ((c.own ≡ true) × (S.own ≡ Some thread)) ⊎ ((c.own ≡ false) × (S.other ≡ Some thread) × (is_node (Some thread) S.own ≡ false))
            → (if c.own then has_lock S.own x else not (has_lock S.own x) && has_others_lock S x) ≡ has_lock (Some thread) x
        by_part (inl own) = cond-true c.own _ _ own.0 ∙ ap (λ o. has_lock o x) own.1
        by_part (inr other) =
            cond-false c.own _ _ other.0
            ∙ ap (λ o. not (has_lock S.own x) && (has_lock o x && not (has_lock S.own x))) other.1
            ∙ by_holder (cases_Bool (has_lock (Some thread) x))
          where
            apart : has_lock (Some thread) x ≡ true → has_lock S.own x ≡ false
            apart d =
                let at : (t.0 == thread) ≡ true = sym (ap (λ o. option_map_or (λ (t : ThreadId). is_node (Some t.0) (Some thread)) o false) e) ∙ d in
                ap (λ o. option_map_or (λ (t : ThreadId). is_node (Some t.0) S.own) o false) e
                ∙ ap (λ u. is_node (Some u) S.own) (eqb-true t.0 thread at) ∙ other.2

            by_holder : (has_lock (Some thread) x ≡ true) ⊎ (has_lock (Some thread) x ≡ false) → (not (has_lock S.own x) && (has_lock (Some thread) x && not (has_lock S.own x))) ≡ has_lock (Some thread) x
            by_holder (inl d) = ap (λ b. not b && (has_lock (Some thread) x && not b)) (apart d) ∙ ap (λ b. b && true) d ∙ sym d
            by_holder (inr d) = ap (λ b. not (has_lock S.own x) && (b && not (has_lock S.own x))) d ∙ and-false (not (has_lock S.own x)) ∙ sym d

    lock_is : (q : Reference) (x : ℕ) → S.named (c.name q) ≡ Some x → holds_lock P c.own (c.name q) ≡ (H.has_lock && has_lock (Some thread) (node_at S x))
    lock_is q x e =
        ap₂ (λ a b. a && b) locked (ap₂ (λ a b. if c.own then a else b) mine (ap₂ (λ a b. not a && b) mine others))
        ∙ spread H.has_lock (is_some (node_at S x).lock) (has_lock S.own (node_at S x)) (has_others_lock S (node_at S x)) c.own
        ∙ ap (λ b. H.has_lock && b) (lock_of (node_at S x) (node_at S x).lock refl)
      where
        there : (nat_lt (c.name q) F.names && H.has_lock) ≡ H.has_lock
        there = ap (λ b. b && H.has_lock) (fits q)

        locked : P (Part.Locked (c.name q)) ≡ (H.has_lock && is_some (node_at S x).lock)
        locked = ap₂ (λ a b. a && b) there (on_at (λ x. is_some (node_at S x).lock) e)

        mine : P (Part.LockMine (c.name q)) ≡ (H.has_lock && has_lock S.own (node_at S x))
        mine = ap₂ (λ a b. a && b) there (on_at (λ x. has_lock S.own (node_at S x)) e)

        others : P (Part.LockOthers (c.name q)) ≡ (H.has_lock && has_others_lock S (node_at S x))
        others = ap₂ (λ a b. a && b) there (on_at (λ x. has_others_lock S (node_at S x)) e)

        spread : (a l m o own : Bool) → ((a && l) && (if own then a && m else not (a && m) && (a && o))) ≡ (a && (l && (if own then m else not m && o)))
        spread true l m o own = refl
        spread false l m o own = refl

    owner_is : (q : Reference) (x : ℕ) → S.named (c.name q) ≡ Some x → is_owned P c.own (c.name q) ≡ not (on (is_shared_in S) (S.named (c.name q)))
    owner_is q x e =
        ap₂ (λ a b. not a && beq b c.own) (shown_says F S (Part.Shared (c.name q)) (fits q)) (shown_says F S (Part.Mine (c.name q)) (fits q) ∙ on_at (is_mine_in S) e)
        ∙ ap (λ b. not b && beq (S.mine x && not (is_shared_in S x)) c.own) (on_at (is_shared_in S) e)
        ∙ by_shared (cases_Bool (is_shared_in S x))
        ∙ ap not (sym (on_at (is_shared_in S) e))
      where
        and_true : (b : Bool) → (b && true) ≡ b
        and_true true = refl
        and_true false = refl

        by_shared : (is_shared_in S x ≡ true) ⊎ (is_shared_in S x ≡ false) → (not (is_shared_in S x) && beq (S.mine x && not (is_shared_in S x)) c.own) ≡ not (is_shared_in S x)
        by_shared (inl d) = ap (λ b. not b && beq (S.mine x && not b) c.own) d ∙ sym (ap not d)
        by_shared (inr d) = ap (λ b. not b && beq (S.mine x && not b) c.own) d ∙ ap (λ b. beq b c.own) (and_true (S.mine x)) ∙ role.owned q x e d ∙ sym (ap not d)

  -- ---- all literals

  pub truth_seen : (L : Literal) → (asks_role L ≡ true → HasRole S c thread) → truth P c L ≡ holds H (seen_in H S c thread) L
  truth_seen (Literal.Same q r) role = value_is q r
  truth_seen (Literal.Apart q r) role = ap not (value_is q r)
  truth_seen (Literal.Null q) role = null_is q
  truth_seen (Literal.NotNull q) role = ap not (null_is q)
  truth_seen (Literal.KeyBelow q r) role = of_two q r _ (λ x y. lies_below x.key y.key) (λ x y e d.
      below_is (Term.Node (c.name q)) (Term.Node (c.name r)) (fits q) (fits r) ∙ ap₂ lies_below (key_named F S (c.name q) x e) (key_named F S (c.name r) y d))
  truth_seen (Literal.KeyAtMost q r) role = of_two q r _ (λ x y. is_at_most x.key y.key) (λ x y e d.
      order_shown F S (Term.Node (c.name q)) (Term.Node (c.name r)) (fits q) (fits r) ∙ ap₂ is_at_most (key_named F S (c.name q) x e) (key_named F S (c.name r) y d))
  truth_seen (Literal.BelowArgument q) role = key_below_is q (Term.Walked (argument c)) refl
  truth_seen (Literal.AtMostArgument q) role = key_most_is q (Term.Walked (argument c)) refl
  truth_seen (Literal.AboveArgument q) role = key_above_is q (Term.Walked (argument c)) refl
  truth_seen (Literal.AtLeastArgument q) role = key_least_is q (Term.Walked (argument c)) refl
  truth_seen (Literal.KeyIsMin q) role = key_same_is q Term.Min refl
  truth_seen (Literal.AboveMin q) role = key_above_is q Term.Min refl
  truth_seen (Literal.BelowMax q) role = key_below_is q Term.Max refl
  truth_seen (Literal.KeyIsMax q) role = key_same_is q Term.Max refl
  truth_seen (Literal.Flag q f) role = of_one q _ (λ x. flag_there H f && is_bit_set x.flags f) (λ x e. flag_is q f x e)
  truth_seen (Literal.NoFlag q f) role = of_one q _ (λ x. not (flag_there H f && is_bit_set x.flags f)) (λ x e. ap not (flag_is q f x e))
  truth_seen (Literal.Leads q f r) role = of_one q _ (λ x. pointer_there H f && same_target (led x f) (S.named (c.name r))) (λ x e. lead_is q r f x e)
  truth_seen (Literal.LeadsNowhere q f) role = of_one q _ (λ x. pointer_there H f && is_none (led x f)) (λ x e. null_lead_is q f x e)
  truth_seen (Literal.Locked q) role = of_one q _ (λ x. H.has_lock && has_lock (Some thread) x) (λ x e. lock_is (role refl) q x e)
  truth_seen (Literal.Owned q) role = of_one q _ (λ x. not (on (is_shared_in S) (S.named (c.name q)))) (λ x e. owner_is (role refl) q x e)
  truth_seen (Literal.Shared q) role = of_one q _ (λ x. on (is_shared_in S) (S.named (c.name q))) (λ x e. shown_says F S (Part.Shared (c.name q)) (fits q))
  truth_seen (Literal.Visited q) role = of_one q _ (λ x. on (walk_visits H S.heap (S.walked (argument c))) (S.named (c.name q))) (λ x e. shown_says F S (Part.Visits (argument c) (c.name q)) (fits q))
  truth_seen Literal.InSet role = refl
  truth_seen Literal.NotInSet role = refl
  truth_seen (Literal.Chain q r) role = of_two q r _ (λ x y. on_both (is_chain H S) (S.named (c.name q)) (S.named (c.name r))) (λ x y e d. shown_says F S (Part.Chain (c.name q) (c.name r)) (and_from _ _ (fits q) (fits r)))
  truth_seen Literal.Spent role = refl
  truth_seen Literal.Unspent role = refl
