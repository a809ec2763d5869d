-- Where a block of a world comes to a read or a write of a field of null, it does so in the picture of its scene.
use Rattle.std.proofs.Common.{◌≡◌, ◌⊎◌, ℕ, ◌<◌, Bool, true, false, not, List, [], ◌∷◌, length, Option, Some, None, refl, sym, ◌∙◌, ap, inl, inr, arith}
use Rattle.std.specs.Prelude.{◌&&◌, ◌||◌, nat_lt, slice_get, slice_set, is_none, option_map, option_and_then, if◌then◌else◌}
use Rattle.std.specs.List.{list_any, list_all}
use Rattle.std.proofs.lemmas.Bool.{true≢false, and_parts, and_left, and_right, or_left, or_right, lt-ltb, ltb-true}
use Rattle.std.proofs.lemmas.Option.{none-some, same_Some, slice_get_cases}
use Rattle.plank_base.specs.declared.keys.NodeId.{NodeId}
use Rattle.plank_base.specs.declared.keys.ThreadId.{ThreadId}
use Rattle.plank_base.specs.declared.limits.TheConstants.{POINTERS_LIMIT}
use Rattle.plank_prog.specs.declared.blocks.Reference.{Reference}
use Rattle.plank_prog.specs.declared.blocks.KeyOperand.{KeyOperand}
use Rattle.plank_prog.specs.declared.blocks.PointerOperand.{PointerOperand}
use Rattle.plank_prog.specs.declared.blocks.Test.{Test}
use Rattle.plank_prog.specs.declared.blocks.Bind.{Bind}
use Rattle.plank_prog.specs.declared.blocks.Write.{Write}
use Rattle.plank_prog.specs.declared.blocks.Block.{Block}
use Rattle.plank_prog.specs.Blocks.{same_reference, written_node, key_reads, pointer_reads, test_reads, write_reads, block_reads, pointer_fits, test_fits, bind_fits, block_parts_fit}
use Rattle.plank_prog.proofs.HeaderFacts.{few_pointers}
use Rattle.plank_heap.specs.declared.nodes.Node.{Node}
use Rattle.plank_heap.specs.Changes.{with_node}
use Rattle.plank_sem.specs.declared.calls.Call.{Call}
use Rattle.plank_sem.specs.Fits.{AllNamed}
use Rattle.plank_sem.specs.Reads.{named, node_of, flag_of, pointer_of, key_of, target_of, both, test_value, tests_value}
use Rattle.plank_sem.specs.Actions.{After, gone_to, bound, written, changed_by, taken_yes, taken_no, block_run}
use Rattle.plank_sem.proofs.NamedNodes.{named_in}
use Rattle.plank_pic.specs.declared.parts.Part.{Part}
use Rattle.plank_pic.specs.Frames.{Frame}
use Rattle.plank_pic.specs.Pictures.{Picture}
use Rattle.plank_pic.specs.Blocks.{Turn, name, is_null, key_reads_null, pointer_reads_null, test_reads_null, test_holds, all_hold, one_fails, reads_no_null, comes_to_null}
use Rattle.plank_scene.specs.Scenes.{Scene, shown}
use Rattle.plank_scene.specs.Worlds.{IsScene}
use Rattle.plank_scene.specs.Turns.{number, Knows, IsTurnOf}
use Rattle.plank_scene.proofs.Scenes.Showing.{shown_says}
use Rattle.plank_scene.proofs.Turns.Testing.{reference_itself, test_told}
use Rattle.plank_scene.proofs.Turns.Putting.{head_reads}

map_none : {A B : Type 0} (f : A → B) (o : Option A) → option_map f o ≡ None → o ≡ None
map_none f None e = refl
map_none f (Some x) e = absurd (none-some (f x) (sym e))

both_none : {A : Type 0} (compare : A → A → Bool) (o p : Option A) → both compare o p ≡ None → (o ≡ None) ⊎ (p ≡ None)
both_none compare None p e = inl refl
both_none compare (Some a) None e = inr refl
both_none compare (Some a) (Some b) e = absurd (none-some (compare a b) (sym e))

module _ (F : Frame) (S : Scene) (isS : IsScene F S) (s : Turn) (thread : ThreadId) (call : Call) (is : IsTurnOf S s thread call)
    (within : AllNamed (λ x. x < length S.heap.nodes) call.variables) (wide : (x : ℕ) (node : Node) → slice_get S.heap.nodes x ≡ Some node → length node.pointers ≡ POINTERS_LIMIT) where
  abbrev B : Picture
  B = shown F S

  abbrev Known : Reference → Type 0
  Known = Knows F S s call

  -- ---- names and fields

  null_name : (r : Reference) → Known r → named S.heap call r ≡ None → is_null s B r ≡ true
  null_name r known e = shown_says F S (Part.Null (name s r)) (lt-ltb _ F.names known.0) ∙ ap is_none (known.1 ∙ ap number e)

  no_node : (r : Reference) (x : NodeId) → named S.heap call r ≡ Some x → slice_get S.heap.nodes x.0 ≡ None → ⊥
  no_node r x at none = elim (slice_get_cases S.heap.nodes x.0).1 [
    | inl found ↦ none-some found.0 (sym none ∙ found.2)
    | inr past ↦ absurd (let le = past.0 in let lt = named_in (λ y. y < length S.heap.nodes) S.heap call isS.closed.root within r x at in omega (arith, le, lt))
  ]

  null_node : (r : Reference) → Known r → node_of S.heap call r ≡ None → is_null s B r ≡ true
  null_node r known e = by_name (named S.heap call r) refl e
    where
      by_name : (o : Option NodeId) → named S.heap call r ≡ o → option_and_then (λ x. slice_get S.heap.nodes x.0) o ≡ None → is_null s B r ≡ true
      by_name None at e = null_name r known at
      by_name (Some x) at e = absurd (no_node r x at e)

  null_pointer : (r : Reference) (f : ℕ) → Known r → nat_lt f (length F.header.pointers) ≡ true → pointer_of S.heap call r f ≡ None → is_null s B r ≡ true
  null_pointer r f known few e = by_name (named S.heap call r) refl (e)
    where
      not_past : (ps : List (Option NodeId)) → length ps ≡ POINTERS_LIMIT → slice_get ps f ≡ None → ⊥
      not_past ps size none = elim (slice_get_cases ps f).1 [
        | inl found ↦ none-some found.0 (sym none ∙ found.2)
        | inr past ↦ absurd (let le = past.0 in let lt = ltb-true f (length F.header.pointers) few in let most = few_pointers F.header isS.lawful in omega (arith, le, lt, most, size))
      ]

      by_node : (x : NodeId) → named S.heap call r ≡ Some x → (o : Option Node) → slice_get S.heap.nodes x.0 ≡ o → option_and_then (λ (z : Node). slice_get z.pointers f) o ≡ None → is_null s B r ≡ true
      by_node x at None found e = absurd (no_node r x at found)
      by_node x at (Some node) found e = absurd (not_past node.pointers (wide x.0 node found) e)

      by_name : (o : Option NodeId) → named S.heap call r ≡ o → option_and_then (λ (z : Node). slice_get z.pointers f) (option_and_then (λ x. slice_get S.heap.nodes x.0) o) ≡ None → is_null s B r ≡ true
      by_name None at e = null_name r known at
      by_name (Some x) at e = by_node x at (slice_get S.heap.nodes x.0) refl e

  -- ---- tests

  null_key : (o : KeyOperand) → ((r : Reference) → key_reads r o ≡ true → Known r) → key_of S.heap call o ≡ None → key_reads_null s B o ≡ true
  null_key (KeyOperand.Node q) known e = null_node q (known q (reference_itself q)) (map_none (λ (x : Node). x.key) (node_of S.heap call q) e)
  null_key KeyOperand.Argument known e = absurd (none-some _ (sym e))
  null_key KeyOperand.Min known e = absurd (none-some _ (sym e))
  null_key KeyOperand.Max known e = absurd (none-some _ (sym e))

  null_target : (o : PointerOperand) (variables : ℕ) → ((r : Reference) → pointer_reads r o ≡ true → Known r) → pointer_fits F.header variables o ≡ true → target_of S.heap call o ≡ None → pointer_reads_null s B o ≡ true
  null_target PointerOperand.Null variables known fits e = absurd (none-some _ (sym e))
  null_target (PointerOperand.Node q) variables known fits e = absurd (none-some _ (sym e))
  null_target (PointerOperand.Field q f) variables known fits e = null_pointer q f (known q (reference_itself q)) (and_parts _ (nat_lt f (length F.header.pointers)) fits).1 e

  null_test : (t : Test) (variables : ℕ) → ((r : Reference) → test_reads r t ≡ true → Known r) → test_fits F.header variables t ≡ true → test_value S.heap thread call t ≡ None → test_reads_null s B t ≡ true
  null_test (Test.Flag flag set) variables known fits e = null_node flag.node (known flag.node (reference_itself flag.node)) (map_none _ (node_of S.heap call flag.node) (map_none _ (flag_of S.heap call flag) e))
  null_test (Test.Flags left right equal) variables known fits e = elim (both_none _ (flag_of S.heap call left) (flag_of S.heap call right) e) [
    | inl none ↦ or_left _ _ (null_node left.node (known left.node (or_left _ _ (reference_itself left.node))) (map_none _ (node_of S.heap call left.node) none))
    | inr none ↦ or_right (is_null s B left.node) _ (null_node right.node (known right.node (or_right (same_reference right.node left.node) _ (reference_itself right.node))) (map_none _ (node_of S.heap call right.node) none))
  ]
  null_test (Test.Keys left relation right) variables known fits e = elim (both_none _ (key_of S.heap call left) (key_of S.heap call right) e) [
    | inl none ↦ or_left _ _ (null_key left (λ r h. known r (or_left _ _ h)) none)
    | inr none ↦ or_right (key_reads_null s B left) _ (null_key right (λ r h. known r (or_right (key_reads r left) _ h)) none)
  ]
  null_test (Test.Pointers left right equal) variables known fits e =
      let w = and_parts (pointer_fits F.header variables left) (pointer_fits F.header variables right) (and_parts (pointer_fits F.header variables left && pointer_fits F.header variables right) _ fits).0 in
      elim (both_none _ (target_of S.heap call left) (target_of S.heap call right) e) [
        | inl none ↦ or_left _ _ (null_target left variables (λ r h. known r (or_left _ _ h)) w.0 none)
        | inr none ↦ or_right (pointer_reads_null s B left) _ (null_target right variables (λ r h. known r (or_right (pointer_reads r left) _ h)) w.1 none)
      ]
  null_test (Test.LockFree q) variables known fits e = null_node q (known q (reference_itself q)) (map_none _ (node_of S.heap call q) e)
  null_test (Test.LockOwn q) variables known fits e = null_node q (known q (reference_itself q)) (map_none _ (node_of S.heap call q) e)

  module _ (variables : ℕ) where
    abbrev AllKnown : List Test → Type 0
    AllKnown ts = (r : Reference) → list_any (λ t. test_reads r t) ts ≡ true → Known r

    -- tests that come to null: none is false, and not all hold
    null_tests : (ts : List Test) → AllKnown ts → list_all (test_fits F.header variables) ts ≡ true → tests_value S.heap thread call ts ≡ None → (one_fails F s B ts ≡ false) × (all_hold F s B ts ≡ false)
    null_tests [] known fits e = absurd (none-some true (sym e))
    null_tests (t ∷ ts) known fits e =
        let f = and_parts (test_fits F.header variables t) (list_all (test_fits F.header variables) ts) fits in
        by_value (test_value S.heap thread call t) refl f.0 e (λ d. null_tests ts (λ r h. known r (or_right (test_reads r t) _ h)) f.1 d)
      where
        by_value : (o : Option Bool) → test_value S.heap thread call t ≡ o → test_fits F.header variables t ≡ true → option_and_then (λ passed. if passed then tests_value S.heap thread call ts else Some false) o ≡ None
            → (tests_value S.heap thread call ts ≡ None → (one_fails F s B ts ≡ false) × (all_hold F s B ts ≡ false))
            → ((not (test_reads_null s B t) && (not (test_holds F s B t) || one_fails F s B ts)) ≡ false) × ((not (test_reads_null s B t) && (test_holds F s B t && all_hold F s B ts)) ≡ false)
        by_value None at fits e rest =
            let null = null_test t variables (λ r h. known r (or_left _ _ h)) fits at in
            (ap (λ b. not b && (not (test_holds F s B t) || one_fails F s B ts)) null, ap (λ b. not b && (test_holds F s B t && all_hold F s B ts)) null)
        by_value (Some true) at fits e rest =
            let w = test_told F S isS s thread call is t variables (λ r h. known r (or_left _ _ h)) fits true at in
            let r = rest e in
            (and_right (not (test_reads_null s B t)) _ (ap (λ b. not b || one_fails F s B ts) w.1 ∙ r.0), and_right (not (test_reads_null s B t)) _ (and_right (test_holds F s B t) _ r.1))
        by_value (Some false) at fits e rest = absurd (none-some false (sym e))

    -- tests that all hold: none is false
    passed_tests : (ts : List Test) → AllKnown ts → list_all (test_fits F.header variables) ts ≡ true → tests_value S.heap thread call ts ≡ Some true → one_fails F s B ts ≡ false
    passed_tests [] known fits e = refl
    passed_tests (t ∷ ts) known fits e =
        let f = and_parts (test_fits F.header variables t) (list_all (test_fits F.header variables) ts) fits in
        by_value (test_value S.heap thread call t) refl f.0 e (λ d. passed_tests ts (λ r h. known r (or_right (test_reads r t) _ h)) f.1 d)
      where
        by_value : (o : Option Bool) → test_value S.heap thread call t ≡ o → test_fits F.header variables t ≡ true → option_and_then (λ passed. if passed then tests_value S.heap thread call ts else Some false) o ≡ Some true
            → (tests_value S.heap thread call ts ≡ Some true → one_fails F s B ts ≡ false) → (not (test_reads_null s B t) && (not (test_holds F s B t) || one_fails F s B ts)) ≡ false
        by_value None at fits e rest = absurd (none-some true e)
        by_value (Some true) at fits e rest =
            let w = test_told F S isS s thread call is t variables (λ r h. known r (or_left _ _ h)) fits true at in
            and_right (not (test_reads_null s B t)) _ (ap (λ b. not b || one_fails F s B ts) w.1 ∙ rest e)
        by_value (Some false) at fits e rest = absurd (true≢false (sym (same_Some false true e)))

    -- ---- binds and writes

    null_binds : (ds : List Bind) (vars : List (Option NodeId)) → ((r : Reference) → list_any (λ (d : Bind). same_reference r d.from) ds ≡ true → Known r) → list_all (bind_fits F.header variables) ds ≡ true → bound S.heap call ds vars ≡ None → list_all (λ (d : Bind). not (is_null s B d.from)) ds ≡ false
    null_binds [] vars known fits e = absurd (none-some vars (sym e))
    null_binds (d ∷ ds) vars known fits e =
        let f = and_parts (bind_fits F.header variables d) (list_all (bind_fits F.header variables) ds) fits in
        by_read (pointer_of S.heap call d.from d.pointer) refl (and_parts _ (nat_lt d.pointer (length F.header.pointers)) f.0).1 e
        (λ to rest. null_binds ds (slice_set vars d.to to) (λ r h. known r (or_right (same_reference r d.from) _ h)) f.1 rest)
      where
        by_read : (o : Option (Option NodeId)) → pointer_of S.heap call d.from d.pointer ≡ o → nat_lt d.pointer (length F.header.pointers) ≡ true → option_and_then (λ to. bound S.heap call ds (slice_set vars d.to to)) o ≡ None
            → ((to : Option NodeId) → bound S.heap call ds (slice_set vars d.to to) ≡ None → list_all (λ (d : Bind). not (is_null s B d.from)) ds ≡ false) → (not (is_null s B d.from) && list_all (λ (d : Bind). not (is_null s B d.from)) ds) ≡ false
        by_read None at few e rest = ap (λ b. not b && list_all (λ (d : Bind). not (is_null s B d.from)) ds) (null_pointer d.from d.pointer (known d.from (or_left _ _ (reference_itself d.from))) few at)
        by_read (Some to) at few e rest = and_right (not (is_null s B d.from)) _ (rest to e)

    null_writes : (ws : List Write) → ((r : Reference) → list_any (λ w. write_reads r w) ws ≡ true → Known r) → written S.heap thread call ws ≡ None → list_all (λ w. not (is_null s B (written_node w))) ws ≡ false
    null_writes [] known e = absurd (none-some S.heap (sym e))
    null_writes (w ∷ ws) known e = by_name (named S.heap call (written_node w)) refl e
      where
        by_name : (o : Option NodeId) → named S.heap call (written_node w) ≡ o → option_and_then (λ (x : NodeId). option_map (λ node. with_node S.heap x.0 (changed_by S.heap thread call (w ∷ ws) node)) (slice_get S.heap.nodes x.0)) o ≡ None
            → (not (is_null s B (written_node w)) && list_all (λ w. not (is_null s B (written_node w))) ws) ≡ false
        by_name None at e = ap (λ b. not b && list_all (λ w. not (is_null s B (written_node w))) ws) (null_name (written_node w) (known (written_node w) (or_left _ _ (head_reads w))) at)
        by_name (Some x) at e = absurd (no_node (written_node w) x at (map_none _ (slice_get S.heap.nodes x.0) e))

    -- ---- the block

    pub null_block : (b : Block) → ((r : Reference) → block_reads b r ≡ true → Known r) → block_parts_fit F.header variables b ≡ true → block_run S.heap thread call b ≡ None → comes_to_null F s B b ≡ true
    null_block b known fits e = by_tests (tests_value S.heap thread call b.tests) refl e
      where
        fits_tests : list_all (test_fits F.header variables) b.tests ≡ true
        fits_tests = (and_parts _ (list_all (test_fits F.header variables) b.tests) (and_parts _ (list_all (bind_fits F.header variables) b.binds) (and_parts _ _ fits).0).0).1

        fits_binds : list_all (bind_fits F.header variables) b.binds ≡ true
        fits_binds = (and_parts _ (list_all (bind_fits F.header variables) b.binds) (and_parts _ _ fits).0).1

        in_tests : AllKnown b.tests
        in_tests r h = known r (or_left _ _ (or_left _ _ (or_right (list_any (λ q. same_reference r q) b.with) _ h)))

        in_binds : (r : Reference) → list_any (λ (d : Bind). same_reference r d.from) b.binds ≡ true → Known r
        in_binds r h = known r (or_left _ _ (or_right (list_any (λ q. same_reference r q) b.with || list_any (λ t. test_reads r t) b.tests) _ h))

        in_writes : (r : Reference) → list_any (λ w. write_reads r w) b.writes ≡ true → Known r
        in_writes r h = known r (or_right (list_any (λ q. same_reference r q) b.with || list_any (λ t. test_reads r t) b.tests || list_any (λ (d : Bind). same_reference r d.from) b.binds) _ h)

        none_read : reads_no_null s B b ≡ false → tests_value S.heap thread call b.tests ≡ Some true → comes_to_null F s B b ≡ true
        none_read none passed =
            ap (λ c. not c && not (all_hold F s B b.tests && reads_no_null s B b)) (passed_tests b.tests in_tests fits_tests passed)
            ∙ ap not (and_right (all_hold F s B b.tests) _ none)

        by_bound : (o : Option (List (Option NodeId))) → bound S.heap call b.binds call.variables ≡ o → option_and_then {U = After} (λ variables. option_map (λ after. record { heap = after; call = gone_to call b.yes variables }) (written S.heap thread call b.writes)) o ≡ None → reads_no_null s B b ≡ false
        by_bound None at e = and_left _ _ (null_binds b.binds call.variables in_binds fits_binds at)
        by_bound (Some vars) at e = and_right (list_all (λ (d : Bind). not (is_null s B d.from)) b.binds) _ (null_writes b.writes in_writes (map_none _ (written S.heap thread call b.writes) e))

        by_tests : (o : Option Bool) → tests_value S.heap thread call b.tests ≡ o → option_and_then (λ passed. if passed then taken_yes S.heap thread call b else Some (taken_no S.heap call b)) o ≡ None → comes_to_null F s B b ≡ true
        by_tests None at e =
            let w = null_tests b.tests in_tests fits_tests at in
            ap (λ c. not c && not (all_hold F s B b.tests && reads_no_null s B b)) w.0 ∙ ap (λ c. not (c && reads_no_null s B b)) w.1
        by_tests (Some true) at e = none_read (by_bound (bound S.heap call b.binds call.variables) refl e) at
        by_tests (Some false) at e = absurd (none-some _ (sym e))
