-- The tests of a block have the same values in a world and in the picture of its scene.
use Rattle.std.proofs.Common.{◌≡◌, ◌⊎◌, ℕ, ◌<◌, ◌==◌, Bool, true, false, not, List, [], ◌∷◌, length, Option, Some, None, refl, sym, ◌∙◌, ap, subst, inl, inr}
use Rattle.std.specs.Prelude.{◌&&◌, ◌||◌, nat_lt, slice_get, is_some, is_none, if◌then◌else◌}
use Rattle.std.specs.Bool.{beq}
use Rattle.std.specs.List.{list_any, list_all}
use Rattle.std.specs.Option.{option_map_or, option_flatten}
use Rattle.std.proofs.lemmas.Bool.{false≢true, true≢false, and_parts, and_from, and_left, and_right, and_cases, or_left, or_right, cases_Bool, eqb-true, eq-eqb, lt-ltb, not-true, false_from_ne_true}
use Rattle.std.proofs.lemmas.Option.{none-some, same_Some, option_and_then_some}
use Rattle.plank_base.specs.declared.keys.Key.{Key}
use Rattle.plank_base.specs.declared.keys.NodeId.{NodeId}
use Rattle.plank_base.specs.declared.keys.ThreadId.{ThreadId}
use Rattle.plank_base.specs.Keys.{is_at_most}
use Rattle.plank_prog.specs.declared.conditions.KeyRelation.{KeyRelation}
use Rattle.plank_prog.specs.declared.headers.Header.{Header}
use Rattle.plank_prog.specs.declared.blocks.Reference.{Reference}
use Rattle.plank_prog.specs.declared.blocks.FlagOperand.{FlagOperand}
use Rattle.plank_prog.specs.declared.blocks.KeyOperand.{KeyOperand}
use Rattle.plank_prog.specs.declared.blocks.PointerOperand.{PointerOperand}
use Rattle.plank_prog.specs.declared.blocks.Test.{Test}
use Rattle.plank_prog.specs.Conditions.{compares}
use Rattle.plank_prog.specs.Views.{is_bit_set}
use Rattle.plank_prog.specs.Blocks.{same_reference, key_reads, pointer_reads, test_reads, reference_fits, flag_fits, pointer_fits, is_field, test_fits}
use Rattle.plank_heap.specs.declared.nodes.Node.{Node}
use Rattle.plank_sem.specs.declared.calls.Call.{Call}
use Rattle.plank_sem.specs.Reads.{named, node_of, flag_of, pointer_of, key_of, target_of, both, same_target, test_value, tests_value}
use Rattle.plank_sem.specs.Reads as reads
use Rattle.plank_sem.proofs.Lists.{mapped}
use Rattle.plank_pic.specs.declared.parts.Part.{Part}
use Rattle.plank_pic.specs.Frames.{Frame}
use Rattle.plank_pic.specs.Below.{some_below}
use Rattle.plank_pic.specs.Pictures.{Picture, place, holds_lock}
use Rattle.plank_pic.specs.Lawful.{place_fits, term_fits}
use Rattle.plank_pic.specs.Blocks.{Turn, name, key_term, Pointed, pointed, one_value, test_holds, is_null, key_reads_null, pointer_reads_null, test_reads_null, all_hold, one_fails}
use Rattle.plank_pic.proofs.Below.{some_there, none_there}
use Rattle.plank_scene.specs.Scenes.{Scene, node_at, leads, is_node, key_in, on, shown}
use Rattle.plank_scene.specs.Scenes as scenes
use Rattle.plank_scene.specs.Worlds.{IsScene}
use Rattle.plank_scene.specs.Turns.{number, Knows, IsTurnOf}
use Rattle.plank_scene.proofs.Scenes.Showing.{is_node_true, is_node_at, on_at, shown_says, node_found}

pub reference_itself : (r : Reference) → same_reference r r ≡ true
reference_itself Reference.Root = refl
reference_itself (Reference.Variable v) = eq-eqb v v refl

neither : {p q : Bool} → p ≡ false → q ≡ false → (p || q) ≡ false
neither {p} {q} e d = ap (λ b. b || q) e ∙ d

-- two values that are both read
both_told : {A : Type 0} (compare : A → A → Bool) (left right : Option A) (c : Bool) → both compare left right ≡ Some c → (a b : A) × (left ≡ Some a) × (right ≡ Some b) × (compare a b ≡ c)
both_told compare None right c e = absurd (none-some c e)
both_told compare (Some a) None c e = absurd (none-some c e)
both_told compare (Some a) (Some b) c e = (a, b, refl, refl, same_Some _ c e)

same_compares : {K L : Type 0} (p : K → K → Bool) (q : L → L → Bool) (relation : KeyRelation) (a b : K) (x y : L) → p a b ≡ q x y → p b a ≡ q y x → compares p relation a b ≡ compares q relation x y
same_compares p q KeyRelation.Equal a b x y there back = ap (λ v. v && p b a) there ∙ ap (λ v. q x y && v) back
same_compares p q KeyRelation.NotEqual a b x y there back = ap not (ap (λ v. v && p b a) there ∙ ap (λ v. q x y && v) back)
same_compares p q KeyRelation.Less a b x y there back = ap not back
same_compares p q KeyRelation.AtMost a b x y there back = there

module _ (F : Frame) (S : Scene) (isS : IsScene F S) (s : Turn) (thread : ThreadId) (call : Call) (is : IsTurnOf S s thread call) where
  abbrev H : Header
  H = F.header

  abbrev B : Picture
  B = shown F S

  abbrev Known : Reference → Type 0
  Known = Knows F S s call

  -- ---- nodes

  pub name_found : (r : Reference) → Known r → (node : Node) → node_of S.heap call r ≡ Some node → (y : ℕ) × (S.named (name s r) ≡ Some y) × (node_at S y ≡ node)
  name_found r known node e =
      option_and_then_some (λ (x : NodeId). slice_get S.heap.nodes x.0) (named S.heap call r) node e
      (λ x at found. (x.0, known.1 ∙ ap number at, node_found S x.0 node found))

  pub not_null : (r : Reference) → Known r → (y : ℕ) → S.named (name s r) ≡ Some y → is_null s B r ≡ false
  not_null r known y e = shown_says F S (Part.Null (name s r)) (lt-ltb _ F.names known.0) ∙ ap is_none e

  -- ---- flags

  flag_told : (o : FlagOperand) → Known o.node → nat_lt o.flag (length H.flags) ≡ true → (b : Bool) → flag_of S.heap call o ≡ Some b → (is_null s B o.node ≡ false) × (B (Part.Flag (name s o.node) o.flag) ≡ b)
  flag_told o known few b e =
      let w = mapped (λ (x : Node). is_bit_set x.flags o.flag) (node_of S.heap call o.node) b e in
      let v = name_found o.node known w.0 w.1 in (
        not_null o.node known v.0 v.1,
        shown_says F S (Part.Flag (name s o.node) o.flag) (and_from _ _ (lt-ltb _ F.names known.0) few) ∙ on_at (λ y. is_bit_set (node_at S y).flags o.flag) v.1
            ∙ ap (λ (x : Node). is_bit_set x.flags o.flag) v.2 ∙ w.2,
      )

  -- ---- keys

  key_told : (o : KeyOperand) → ((r : Reference) → key_reads r o ≡ true → Known r) → (key : Key) → key_of S.heap call o ≡ Some key → (key_reads_null s B o ≡ false) × (term_fits F (key_term s o) ≡ true) × (key_in F S (key_term s o) ≡ key)
  key_told (KeyOperand.Node q) known key e =
      let w = mapped (λ (x : Node). x.key) (node_of S.heap call q) key e in
      let k = known q (reference_itself q) in
      let v = name_found q k w.0 w.1 in
      (not_null q k v.0 v.1, lt-ltb _ F.names k.0, ap (λ o. option_map_or (λ x. (node_at S x).key) o Key.Min) v.1 ∙ ap (λ (x : Node). x.key) v.2 ∙ w.2)
  key_told KeyOperand.Argument known key e = (refl, refl, ap Key.Num is.argument ∙ same_Some _ key e)
  key_told KeyOperand.Min known key e = (refl, refl, same_Some _ key e)
  key_told KeyOperand.Max known key e = (refl, refl, same_Some _ key e)

  order_told : (a b : KeyOperand) (x y : Key) → (term_fits F (key_term s a) ≡ true) × (key_in F S (key_term s a) ≡ x) → (term_fits F (key_term s b) ≡ true) × (key_in F S (key_term s b) ≡ y) → B (Part.AtMost (key_term s a) (key_term s b)) ≡ is_at_most x y
  order_told a b x y f g =
      shown_says F S (Part.AtMost (key_term s a) (key_term s b)) (and_from _ _ f.0 g.0) ∙ ap (λ k. is_at_most k (key_in F S (key_term s b))) f.1 ∙ ap (is_at_most x) g.1

  -- ---- pointers

  -- a value of the picture stands for a node or null
  abbrev Means : Pointed → Option ℕ → Type 0
  Means v o = (v.null ≡ is_none o) × ((j : ℕ) → j < F.names → v.is j ≡ is_node o (S.named j))

  abbrev IsNamed : Option ℕ → Type 0
  IsNamed o = (o ≡ None) ⊎ ((i : ℕ) × (i < F.names) × (S.named i ≡ o))

  target_told : (o : PointerOperand) (variables : ℕ) → ((r : Reference) → pointer_reads r o ≡ true → Known r) → pointer_fits H variables o ≡ true → (to : Option NodeId) → target_of S.heap call o ≡ Some to → (pointer_reads_null s B o ≡ false) × Means (pointed s B o) (number to)
  target_told PointerOperand.Null variables known fits to e = (refl, subst (λ t. Means (pointed s B PointerOperand.Null) (number t)) (same_Some None to e) (refl, λ j bj. refl))
  target_told (PointerOperand.Node q) variables known fits to e =
      let k = known q (reference_itself q) in
      let at : S.named (name s q) ≡ number to = k.1 ∙ ap number (same_Some _ to e) in (
        refl,
        (
          shown_says F S (Part.Null (name s q)) (lt-ltb _ F.names k.0) ∙ ap is_none at,
          λ j bj. shown_says F S (Part.Same (name s q) j) (and_from _ _ (lt-ltb _ F.names k.0) (lt-ltb j F.names bj)) ∙ ap (λ o. is_node o (S.named j)) at,
        ),
      )
  target_told (PointerOperand.Field q f) variables known fits to e =
      let k = known q (reference_itself q) in
      option_and_then_some (λ (x : Node). slice_get x.pointers f) (node_of S.heap call q) to e (λ node found at.
      let v = name_found q k node found in
      let lead : leads S v.0 f ≡ number to = ap (λ (z : Node). number (option_flatten (slice_get z.pointers f))) v.2 ∙ ap (λ o. number (option_flatten o)) at in
      let there : place_fits F (place (name s q) f) ≡ true = and_from _ _ (lt-ltb _ F.names k.0) (and_parts (reference_fits variables q) (nat_lt f (length H.pointers)) fits).1 in (
        not_null q k v.0 v.1,
        (
          shown_says F S (Part.PointerNull (place (name s q) f)) there ∙ on_at (λ y. is_none (leads S y f)) v.1 ∙ ap is_none lead,
          λ j bj. shown_says F S (Part.Leads (place (name s q) f) j) (and_from _ _ there (lt-ltb j F.names bj)) ∙ ap (λ o. is_node (scenes.leads_from S o f) (S.named j)) v.1 ∙ ap (λ o. is_node o (S.named j)) lead,
        ),
      ))

  named_told : (o : PointerOperand) → is_field o ≡ false → ((r : Reference) → pointer_reads r o ≡ true → Known r) → (to : Option NodeId) → target_of S.heap call o ≡ Some to → IsNamed (number to)
  named_told PointerOperand.Null field known to e = inl (ap number (sym (same_Some None to e)))
  named_told (PointerOperand.Node q) field known to e = let k = known q (reference_itself q) in inr (name s q, k.0, k.1 ∙ ap number (same_Some _ to e))
  named_told (PointerOperand.Field q f) field known to e = absurd (true≢false field)

  one_told : (v w : Pointed) (a b : Option NodeId) → Means v (number a) → Means w (number b) → IsNamed (number a) ⊎ IsNamed (number b) → one_value F v w ≡ same_target a b
  one_told v w None None mv mw which = or_left _ _ (and_from _ _ mv.0 mw.0)
  one_told v w None (Some y) mv mw which =
      neither (and_right v.null w.null mw.0) (none_there (λ j. v.is j && w.is j) F.names (λ j bj. and_left _ _ (mv.1 j bj)))
  one_told v w (Some x) None mv mw which =
      neither (and_left v.null w.null mv.0) (none_there (λ j. v.is j && w.is j) F.names (λ j bj. and_right _ _ (mw.1 j bj)))
  one_told v w (Some x) (Some y) mv mw which =
      ap (λ b. b || some_below (λ j. v.is j && w.is j) F.names) (and_left v.null w.null mv.0)
      ∙ elim (cases_Bool (x.0 == y.0)) [
        | inl same ↦ by_name same which ∙ sym same
        | inr other ↦ none_there (λ j. v.is j && w.is j) F.names (λ j bj. false_from_ne_true _ (λ e.
            let both = and_parts (v.is j) (w.is j) e in
            let a = is_node_true (Some x.0) (S.named j) (sym (mv.1 j bj) ∙ both.0) in
            let b = is_node_true (Some y.0) (S.named j) (sym (mw.1 j bj) ∙ both.1) in
            true≢false (sym (eq-eqb x.0 y.0 (same_Some _ _ (a.1 ∙ sym a.2 ∙ b.2 ∙ sym b.1))) ∙ other))) ∙ sym other
      ]
    where
      by_node : (i : ℕ) → i < F.names → S.named i ≡ Some x.0 → S.named i ≡ Some y.0 → some_below (λ j. v.is j && w.is j) F.names ≡ true
      by_node i bi ex ey = some_there (λ j. v.is j && w.is j) F.names i bi (and_from _ _ (mv.1 i bi ∙ is_node_at refl ex) (mw.1 i bi ∙ is_node_at refl ey))

      by_name : (x.0 == y.0) ≡ true → IsNamed (Some x.0) ⊎ IsNamed (Some y.0) → some_below (λ j. v.is j && w.is j) F.names ≡ true
      by_name same (inl (inl null)) = absurd (none-some x.0 (sym null))
      by_name same (inl (inr i)) = by_node i.0 i.1 i.2 (i.2 ∙ ap Some (eqb-true x.0 y.0 same))
      by_name same (inr (inl null)) = absurd (none-some y.0 (sym null))
      by_name same (inr (inr i)) = by_node i.0 i.1 (i.2 ∙ ap Some (sym (eqb-true x.0 y.0 same))) i.2

  -- ---- locks

  lock_told : (i : ℕ) (y : ℕ) (node : Node) → H.has_lock ≡ true → i < F.names → S.named i ≡ Some y → node_at S y ≡ node → holds_lock B s.mine i ≡ reads.has_lock thread node
  lock_told i y node locks bi named found =
      ap (λ b. b && (if s.mine then B (Part.LockMine i) else not (B (Part.LockMine i)) && B (Part.LockOthers i))) (shown_says F S (Part.Locked i) fits ∙ on_at (λ x. is_some (node_at S x).lock) named ∙ ap (λ (z : Node). is_some z.lock) found)
      ∙ ap (λ b. is_some node.lock && (if s.mine then b else not b && B (Part.LockOthers i))) (shown_says F S (Part.LockMine i) fits ∙ on_at (λ x. scenes.has_lock S.own (node_at S x)) named ∙ ap (scenes.has_lock S.own) found)
      ∙ ap (λ b. is_some node.lock && (if s.mine then scenes.has_lock S.own node else not (scenes.has_lock S.own node) && b)) (shown_says F S (Part.LockOthers i) fits ∙ on_at (λ x. scenes.has_others_lock S (node_at S x)) named ∙ ap (scenes.has_others_lock S) found)
      ∙ by_lock node.lock
    where
      fits : (nat_lt i F.names && H.has_lock) ≡ true
      fits = and_from _ _ (lt-ltb i F.names bi) locks

      -- the holder is a role's exactly where it is the role's thread
      own_when : (h : ℕ) → (h == thread.0) ≡ true → is_node (Some h) S.own ≡ s.mine
      own_when h e = ap (λ t. is_node (Some t) S.own) (eqb-true h thread.0 e) ∙ is.own

      other_when : (h : ℕ) → (h == thread.0) ≡ true → is_node (Some h) S.other ≡ not s.mine
      other_when h e = ap (λ t. is_node (Some t) S.other) (eqb-true h thread.0 e) ∙ is.other

      -- a role that is the thread's is no other's
      only : (h : ℕ) (who : Option ℕ) → is_node (Some thread.0) who ≡ true → (h == thread.0) ≡ false → is_node (Some h) who ≡ false
      only h who mine apart = false_from_ne_true _ (λ e.
          let a = is_node_true (Some h) who e in
          let b = is_node_true (Some thread.0) who mine in
          true≢false (sym (eq-eqb h thread.0 (same_Some _ _ (a.1 ∙ sym a.2 ∙ b.2 ∙ sym b.1))) ∙ apart))

      by_role : (h : ℕ) (m : Bool) → s.mine ≡ m → (if m then is_node (Some h) S.own else not (is_node (Some h) S.own) && (is_node (Some h) S.other && not (is_node (Some h) S.own))) ≡ (h == thread.0)
      by_role h true e = elim (cases_Bool (h == thread.0)) [
        | inl same ↦ own_when h same ∙ e ∙ sym same
        | inr apart ↦ only h S.own (is.own ∙ e) apart ∙ sym apart
      ]
      by_role h false e = elim (cases_Bool (h == thread.0)) [
        | inl same ↦ and_from _ _ (ap not (own_when h same ∙ e)) (and_from _ _ (other_when h same ∙ ap not e) (ap not (own_when h same ∙ e))) ∙ sym same
        | inr apart ↦ and_right _ _ (and_left _ _ (only h S.other (is.other ∙ ap not e) apart)) ∙ sym apart
      ]

      by_lock : (o : Option ThreadId) → (is_some o && (if s.mine then option_map_or (λ holder. is_node (Some holder.0) S.own) o false else not (option_map_or (λ holder. is_node (Some holder.0) S.own) o false) && (option_map_or (λ holder. is_node (Some holder.0) S.other) o false && not (option_map_or (λ holder. is_node (Some holder.0) S.own) o false)))) ≡ option_map_or (λ holder. holder.0 == thread.0) o false
      by_lock None = refl
      by_lock (Some h) = by_role h.0 s.mine refl

  -- ---- tests

  not_some : (o : Option ThreadId) → not (is_some o) ≡ is_none o
  not_some None = refl
  not_some (Some t) = refl

  pub test_told : (t : Test) (variables : ℕ) → ((r : Reference) → test_reads r t ≡ true → Known r) → test_fits H variables t ≡ true → (b : Bool) → test_value S.heap thread call t ≡ Some b → (test_reads_null s B t ≡ false) × (test_holds F s B t ≡ b)
  test_told (Test.Flag flag set) variables known fits b e =
      let w = mapped (λ has. beq has set) (flag_of S.heap call flag) b e in
      let v = flag_told flag (known flag.node (reference_itself flag.node)) (and_parts (reference_fits variables flag.node) _ fits).1 w.0 w.1 in
      (v.0, ap (λ c. beq c set) v.1 ∙ w.2)
  test_told (Test.Flags left right equal) variables known fits b e =
      let w = both_told (λ a b. beq (beq a b) equal) (flag_of S.heap call left) (flag_of S.heap call right) b e in
      let f = and_parts (flag_fits H variables left) (flag_fits H variables right) fits in
      let l = flag_told left (known left.node (or_left _ _ (reference_itself left.node))) (and_parts (reference_fits variables left.node) _ f.0).1 w.0 w.2 in
      let r = flag_told right (known right.node (or_right _ _ (reference_itself right.node))) (and_parts (reference_fits variables right.node) _ f.1).1 w.1 w.3 in
      (neither l.0 r.0, ap (λ c. beq (beq c (B (Part.Flag (name s right.node) right.flag))) equal) l.1 ∙ ap (λ c. beq (beq w.0 c) equal) r.1 ∙ w.4)
  test_told (Test.Keys left relation right) variables known fits b e =
      let w = both_told (compares is_at_most relation) (key_of S.heap call left) (key_of S.heap call right) b e in
      let l = key_told left (λ r h. known r (or_left _ _ h)) w.0 w.2 in
      let r = key_told right (λ q h. known q (or_right _ _ h)) w.1 w.3 in
      (neither l.0 r.0, same_compares (λ a b. B (Part.AtMost a b)) is_at_most relation (key_term s left) (key_term s right) w.0 w.1 (order_told left right w.0 w.1 (l.1, l.2) (r.1, r.2)) (order_told right left w.1 w.0 (r.1, r.2) (l.1, l.2)) ∙ w.4)
  test_told (Test.Pointers left right equal) variables known fits b e =
      let w = both_told (λ a b. beq (same_target a b) equal) (target_of S.heap call left) (target_of S.heap call right) b e in
      let f = and_parts (pointer_fits H variables left && pointer_fits H variables right) (not (is_field left && is_field right)) fits in
      let g = and_parts (pointer_fits H variables left) (pointer_fits H variables right) f.0 in
      let l = target_told left variables (λ r h. known r (or_left _ _ h)) g.0 w.0 w.2 in
      let r = target_told right variables (λ q h. known q (or_right _ _ h)) g.1 w.1 w.3 in (
        neither l.0 r.0,
        ap (λ c. beq c equal) (one_told (pointed s B left) (pointed s B right) w.0 w.1 l.1 r.1
            (elim (and_cases (is_field left) (is_field right) (not-true _ f.1)) [
              | inl a ↦ inl (named_told left a (λ r h. known r (or_left _ _ h)) w.0 w.2)
              | inr a ↦ inr (named_told right a (λ q h. known q (or_right _ _ h)) w.1 w.3)
            ])) ∙ w.4,
      )
  test_told (Test.LockFree q) variables known fits b e =
      let w = mapped (λ (x : Node). is_none x.lock) (node_of S.heap call q) b e in
      let k = known q (reference_itself q) in
      let v = name_found q k w.0 w.1 in
      (not_null q k v.0 v.1, ap not (shown_says F S (Part.Locked (name s q)) (and_from _ _ (lt-ltb _ F.names k.0) (and_parts H.has_lock (reference_fits variables q) fits).0) ∙ on_at (λ y. is_some (node_at S y).lock) v.1 ∙ ap (λ (x : Node). is_some x.lock) v.2) ∙ not_some w.0.lock ∙ w.2)
  test_told (Test.LockOwn q) variables known fits b e =
      let w = mapped (reads.has_lock thread) (node_of S.heap call q) b e in
      let k = known q (reference_itself q) in
      let v = name_found q k w.0 w.1 in
      (not_null q k v.0 v.1, lock_told (name s q) v.0 w.0 (and_parts H.has_lock (reference_fits variables q) fits).0 k.0 v.1 v.2 ∙ w.2)

  -- ---- lists of tests

  module _ (variables : ℕ) where
    abbrev AllKnown : List Test → Type 0
    AllKnown ts = (r : Reference) → list_any (λ t. test_reads r t) ts ≡ true → Known r

    pub all_told : (ts : List Test) → AllKnown ts → list_all (test_fits H variables) ts ≡ true → tests_value S.heap thread call ts ≡ Some true → all_hold F s B ts ≡ true
    all_told [] known fits e = refl
    all_told (t ∷ ts) known fits e =
        let f = and_parts (test_fits H variables t) (list_all (test_fits H variables) ts) fits in
        option_and_then_some (λ (passed : Bool). if passed then tests_value S.heap thread call ts else Some false) (test_value S.heap thread call t) true e
        (λ passed is rest. by_passed f.0 passed is rest (λ d. all_told ts (λ r h. known r (or_right (test_reads r t) _ h)) f.1 d))
      where
        by_passed : test_fits H variables t ≡ true → (passed : Bool) → test_value S.heap thread call t ≡ Some passed → (if passed then tests_value S.heap thread call ts else Some false) ≡ Some true → (tests_value S.heap thread call ts ≡ Some true → all_hold F s B ts ≡ true) → (not (test_reads_null s B t) && (test_holds F s B t && all_hold F s B ts)) ≡ true
        by_passed fits true is rest later =
            let w = test_told t variables (λ r h. known r (or_left (test_reads r t) _ h)) fits true is in
            and_from _ _ (ap not w.0) (and_from _ _ w.1 (later rest))
        by_passed fits false is rest later = absurd (false≢true (same_Some false true rest))

    pub one_told_false : (ts : List Test) → AllKnown ts → list_all (test_fits H variables) ts ≡ true → tests_value S.heap thread call ts ≡ Some false → one_fails F s B ts ≡ true
    one_told_false [] known fits e = absurd (true≢false (same_Some true false e))
    one_told_false (t ∷ ts) known fits e =
        let f = and_parts (test_fits H variables t) (list_all (test_fits H variables) ts) fits in
        option_and_then_some (λ (passed : Bool). if passed then tests_value S.heap thread call ts else Some false) (test_value S.heap thread call t) false e
        (λ passed is rest. by_passed f.0 passed is rest (λ d. one_told_false ts (λ r h. known r (or_right (test_reads r t) _ h)) f.1 d))
      where
        by_passed : test_fits H variables t ≡ true → (passed : Bool) → test_value S.heap thread call t ≡ Some passed → (if passed then tests_value S.heap thread call ts else Some false) ≡ Some false → (tests_value S.heap thread call ts ≡ Some false → one_fails F s B ts ≡ true) → (not (test_reads_null s B t) && (not (test_holds F s B t) || one_fails F s B ts)) ≡ true
        by_passed fits true is rest later =
            let w = test_told t variables (λ r h. known r (or_left (test_reads r t) _ h)) fits true is in
            and_from _ _ (ap not w.0) (or_right (not (test_holds F s B t)) _ (later rest))
        by_passed fits false is rest later =
            let w = test_told t variables (λ r h. known r (or_left (test_reads r t) _ h)) fits false is in
            and_from _ _ (ap not w.0) (or_left _ _ (ap not w.1))
