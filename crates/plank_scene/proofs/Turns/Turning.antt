-- A step of a call, seen by pictures, is a step of its turn.
use Rattle.std.proofs.Common.{◌≡◌, ℕ, suc, ◌<◌, ◌==◌, Bool, true, false, not, List, [], ◌∷◌, length, length-set, Option, Some, None, refl, sym, ◌∙◌, ap, subst, inl, inr, arith}
use Rattle.std.specs.Prelude.{◌&&◌, ◌||◌, nat_lt, slice_get, slice_set, is_none, option_map, if◌then◌else◌}
use Rattle.std.specs.Bool.{beq}
use Rattle.std.specs.List.{list_any, list_all}
use Rattle.std.specs.Option.{option_map_or, option_flatten}
use Rattle.std.proofs.lemmas.Bool.{false≢true, true≢false, and_parts, and_from, and_right, or_left, or_right, cases_Bool, cases_eq, eqb-true, eq-eqb, lt-ltb, not-true, cond-true, cond-false, false_from_ne_true}
use Rattle.std.proofs.lemmas.Option.{none-some, same_Some, option_and_then_some}
use Rattle.std.proofs.Math.Bool.{or-false}
use Rattle.plank_base.specs.declared.keys.NodeId.{NodeId}
use Rattle.plank_base.specs.declared.keys.ThreadId.{ThreadId}
use Rattle.plank_base.specs.declared.limits.TheConstants.{POINTERS_LIMIT}
use Rattle.plank_prog.specs.declared.headers.Header.{Header}
use Rattle.plank_prog.specs.declared.blocks.Reference.{Reference}
use Rattle.plank_prog.specs.declared.blocks.Value.{Value}
use Rattle.plank_prog.specs.declared.blocks.Bind.{Bind}
use Rattle.plank_prog.specs.declared.blocks.Write.{Write}
use Rattle.plank_prog.specs.declared.blocks.Block.{Block}
use Rattle.plank_prog.specs.declared.methods.Action.{Action}
use Rattle.plank_prog.specs.Names.{all_pairs}
use Rattle.plank_prog.specs.Blocks.{written_node, value_reads, write_reads, test_reads, same_reference, test_fits, bind_fits, write_fits, writes_agree, block_reads, block_parts_fit, binds_stand_alone, is_lawful_block}
use Rattle.plank_heap.specs.declared.nodes.Node.{Node}
use Rattle.plank_heap.specs.declared.heaps.Heap.{Heap}
use Rattle.plank_heap.specs.Changes.{with_node}
use Rattle.plank_heap.specs.Walks.{contains}
use Rattle.plank_sem.specs.declared.calls.Call.{Call}
use Rattle.plank_sem.specs.Reads.{named, value_of, node_of, pointer_of, tests_value}
use Rattle.plank_sem.specs.Actions.{bound, written, written_in, changed_by}
use Rattle.plank_sem.specs.Kept.{shared_by_all, owners_written}
use Rattle.plank_sem.proofs.Lists.{set_elsewhere}
use Rattle.plank_pic.specs.declared.parts.KeyName.{KeyName}
use Rattle.plank_pic.specs.declared.parts.Part.{Part}
use Rattle.plank_pic.specs.Frames.{Frame}
use Rattle.plank_pic.specs.Below.{some_below}
use Rattle.plank_pic.specs.Pictures.{Picture, place}
use Rattle.plank_pic.specs.Lawful.{place_fits, IsPossible}
use Rattle.plank_pic.specs.Steps.{Change, spent_after, IsWrite, WritesOrNot, nothing, write, Source, Of, Null, Fresh}
use Rattle.plank_pic.specs.Blocks.{value_source, Turn, name, all_hold, is_null, names_pointer, bind_is_read, put_pointer, value_name, change, change_by, has_name, bind_source, IsTurnStep, IsWriteStep}
use Rattle.plank_pic.proofs.Below.{some_below_alike}
use Rattle.plank_scene.specs.Scenes.{Scene, leads, leads_from, is_node, is_shared_in, shown}
use Rattle.plank_scene.specs.Worlds.{IsScene, renamed_scene, source_node, IsSourced}
use Rattle.plank_scene.specs.Turns.{number, Knows, IsTurnOf, VariablesSet, KnowsBinds}
use Rattle.plank_scene.specs.Writes.{with_heap, new_lead, IsWritten, value_node, WroteNode}
use Rattle.plank_scene.proofs.Scenes.Showing.{is_node_at, on_at, shown_says}
use Rattle.plank_scene.proofs.Writes.Written.{write_shown}
use Rattle.plank_scene.proofs.Turns.Renamed.{renaming_shown}
use Rattle.plank_scene.proofs.Turns.Testing.{reference_itself, name_found, not_null, all_told, one_told_false}
use Rattle.plank_scene.proofs.Turns.Putting.{set_at, put_node, value_named, at_known, is_written}
use Rattle.plank_scene.proofs.Turns.Publishing.{by_writes, puts_some}

pub same_reference_true : (q r : Reference) → same_reference q r ≡ true → q ≡ r
same_reference_true Reference.Root Reference.Root e = refl
same_reference_true Reference.Root (Reference.Variable w) e = absurd (false≢true e)
same_reference_true (Reference.Variable v) Reference.Root e = absurd (false≢true e)
same_reference_true (Reference.Variable v) (Reference.Variable w) e = ap Reference.Variable (eqb-true v w e)

-- names that stay
kept_names : (F : Frame) (S : Scene) → IsSourced F S (λ i. Of i) S.named 0
kept_names F S = record {
  sources = λ i bi. refl;
  within = λ i n bi e. let same : i ≡ n = (let c : Of i ≡ Of n = e in cc) in subst (λ m. m < F.names) same bi;
  allocated = λ i bi e. absurd (let c : Of i ≡ Fresh = e in cc);
}

-- the name of a variable
pub named_so : (t : Turn) (v i : ℕ) → has_name t v i ≡ true → t.name_of (Reference.Variable v) ≡ Some i
named_so t v i e = by_option (t.name_of (Reference.Variable v)) e
  where
    by_option : (o : Option ℕ) → option_map_or (λ n. n == i) o false ≡ true → o ≡ Some i
    by_option None e = absurd (false≢true e)
    by_option (Some n) e = ap Some (eqb-true n i e)

pub so_named : (t : Turn) (v i : ℕ) → t.name_of (Reference.Variable v) ≡ Some i → has_name t v i ≡ true
so_named t v i e = ap (λ o. option_map_or (λ n. n == i) o false) e ∙ eq-eqb i i refl

-- a block takes its yes exit
abbrev pub yes_turn : Turn → Block → Turn
yes_turn t b = record t { action = Action.Block b; yes = true }

abbrev pub no_turn : Turn → Block → Turn
no_turn t b = record t { action = Action.Block b; yes = false }

-- what is the same is not turned
pub unturned : (c : Bool) → not (beq c c) ≡ false
unturned true = refl
unturned false = refl

module _ (F : Frame) (S : Scene) (isS : IsScene F S) (t : Turn) (thread : ThreadId) (call : Call) (b : Block) (variables locations : ℕ) (lawful : is_lawful_block F.header variables locations b ≡ true)
    (is : IsTurnOf S (yes_turn t b) thread call) (known : (r : Reference) → block_reads b r ≡ true → Knows F S (yes_turn t b) call r) where
  abbrev H : Header
  H = F.header

  abbrev B : Picture
  B = shown F S

  abbrev s : Turn
  s = yes_turn t b

  -- ---- what a lawful block keeps

  parts : ((block_parts_fit H variables b && nat_lt b.yes locations && nat_lt b.no locations && all_pairs (λ q r. not (same_reference q r)) b.with && binds_stand_alone b) ≡ true) × (all_pairs writes_agree b.writes ≡ true)
  parts = and_parts _ (all_pairs writes_agree b.writes) (and_parts _ _ lawful).0

  fits : block_parts_fit H variables b ≡ true
  fits = (and_parts _ _ (and_parts _ _ (and_parts _ _ (and_parts _ (binds_stand_alone b) parts.0).0).0).0).0

  apart_binds : all_pairs (λ (d : Bind) e. not (d.to == e.to)) b.binds ≡ true
  apart_binds = (and_parts (all_pairs (λ (d : Bind) e. not (d.to == e.to)) b.binds) _ (and_parts _ (binds_stand_alone b) parts.0).1).0

  fits_writes : list_all (write_fits H variables) b.writes ≡ true
  fits_writes = (and_parts _ (list_all (write_fits H variables) b.writes) fits).1

  fits_binds : list_all (bind_fits H variables) b.binds ≡ true
  fits_binds = (and_parts _ (list_all (bind_fits H variables) b.binds) (and_parts _ (list_all (write_fits H variables) b.writes) fits).0).1

  fits_tests : list_all (test_fits H variables) b.tests ≡ true
  fits_tests = (and_parts _ (list_all (test_fits H variables) b.tests) (and_parts _ (list_all (bind_fits H variables) b.binds) (and_parts _ (list_all (write_fits H variables) b.writes) fits).0).0).1

  in_tests : (r : Reference) → list_any (λ t. test_reads r t) b.tests ≡ true → Knows F S s call r
  in_tests r e = known r (or_left _ _ (or_left _ _ (or_right (list_any (λ q. same_reference r q) b.with) _ e)))

  in_binds : (r : Reference) → list_any (λ (d : Bind). same_reference r d.from) b.binds ≡ true → Knows F S s call r
  in_binds r e = known r (or_left _ _ (or_right (list_any (λ q. same_reference r q) b.with || list_any (λ t. test_reads r t) b.tests) _ e))

  in_writes : (r : Reference) → list_any (λ w. write_reads r w) b.writes ≡ true → Knows F S s call r
  in_writes r e = known r (or_right (list_any (λ q. same_reference r q) b.with || list_any (λ t. test_reads r t) b.tests || list_any (λ (d : Bind). same_reference r d.from) b.binds) _ e)

  -- ---- what is read

  -- a bind that is read
  one_read : (d : Bind) → Knows F S s call d.from → bind_fits H variables d ≡ true → (to : Option NodeId) → pointer_of S.heap call d.from d.pointer ≡ Some to
      → ((i : ℕ) → t.name_of (Reference.Variable d.to) ≡ Some i → (t.read_by d.to < F.names) × (S.named (t.read_by d.to) ≡ number to)) → bind_is_read s B d ≡ true
  one_read d k fit to e reads =
      option_and_then_some (λ (x : Node). slice_get x.pointers d.pointer) (node_of S.heap call d.from) to e (λ node found at.
      let v = name_found F S isS s thread call is d.from k node found in
      let lead : leads S v.0 d.pointer ≡ number to = ap (λ (z : Node). number (option_flatten (slice_get z.pointers d.pointer))) v.2 ∙ ap (λ o. number (option_flatten o)) at in
      let there : place_fits F (place (name s d.from) d.pointer) ≡ true = and_from _ _ (lt-ltb _ F.names k.0) (and_parts _ (nat_lt d.pointer (length H.pointers)) fit).1 in
      and_from _ _ (ap not (not_null F S isS s thread call is d.from k v.0 v.1)) (by_name v.0 v.1 lead there (t.name_of (Reference.Variable d.to)) refl))
    where
      named_pointer : (y : ℕ) → S.named (name s d.from) ≡ Some y → place_fits F (place (name s d.from) d.pointer) ≡ true → (o : Option ℕ) → leads S y d.pointer ≡ o → (e : ℕ) → e < F.names → S.named e ≡ o → names_pointer B (place (name s d.from) d.pointer) e ≡ true
      named_pointer y at there None lead e below same =
          cond-true (B (Part.PointerNull (place (name s d.from) d.pointer))) (B (Part.Null e)) _ (shown_says F S (Part.PointerNull (place (name s d.from) d.pointer)) there ∙ on_at (λ y. is_none (leads S y d.pointer)) at ∙ ap is_none lead)
          ∙ shown_says F S (Part.Null e) (lt-ltb e F.names below) ∙ ap is_none same
      named_pointer y at there (Some z) lead e below same =
          cond-false (B (Part.PointerNull (place (name s d.from) d.pointer))) (B (Part.Null e)) _ (shown_says F S (Part.PointerNull (place (name s d.from) d.pointer)) there ∙ on_at (λ y. is_none (leads S y d.pointer)) at ∙ ap is_none lead)
          ∙ shown_says F S (Part.Leads (place (name s d.from) d.pointer) e) (and_from _ _ there (lt-ltb e F.names below)) ∙ ap (λ o. is_node (leads_from S o d.pointer) (S.named e)) at ∙ is_node_at lead same

      by_name : (y : ℕ) → S.named (name s d.from) ≡ Some y → leads S y d.pointer ≡ number to → place_fits F (place (name s d.from) d.pointer) ≡ true → (o : Option ℕ) → t.name_of (Reference.Variable d.to) ≡ o
          → option_map_or (λ i. names_pointer B (place (name s d.from) d.pointer) (s.read_by d.to)) o true ≡ true
      by_name y at lead there None e = refl
      by_name y at lead there (Some i) e = let r = reads i e in named_pointer y at there (number to) lead (t.read_by d.to) r.0 r.1

  all_read : (binds : List Bind) → list_all (bind_fits H variables) binds ≡ true → ((r : Reference) → list_any (λ (d : Bind). same_reference r d.from) binds ≡ true → Knows F S s call r) → KnowsBinds F S s call binds
      → (before after : List (Option NodeId)) → bound S.heap call binds before ≡ Some after → list_all (bind_is_read s B) binds ≡ true
  all_read [] fit kn reads before after e = refl
  all_read (d ∷ ds) fit kn reads before after e =
      let f = and_parts (bind_fits H variables d) (list_all (bind_fits H variables) ds) fit in
      option_and_then_some (λ (to : Option NodeId). bound S.heap call ds (slice_set before d.to to)) (pointer_of S.heap call d.from d.pointer) after e (λ to at rest.
      and_from _ _ (one_read d (kn d.from (or_left _ _ (reference_itself d.from))) f.0 to at (λ i n. reads 0 i d to refl n at))
      (all_read ds f.1 (λ r h. kn r (or_right (same_reference r d.from) _ h)) (λ k i d' to' g n p. reads (suc k) i d' to' g n p) (slice_set before d.to to) after rest))

  -- all writes are of one node, which is there
  all_there : (q : Reference) → is_null s B q ≡ false → (ws : List Write) → ((w : Write) → list_all (λ v. same_reference q (written_node v)) (w ∷ []) ≡ true → is_null s B (written_node w) ≡ false) → list_all (λ v. same_reference q (written_node v)) ws ≡ true → list_all (λ w. not (is_null s B (written_node w))) ws ≡ true
  all_there q there [] one all = refl
  all_there q there (w ∷ ws) one all =
      let a = and_parts (same_reference q (written_node w)) (list_all (λ v. same_reference q (written_node v)) ws) all in
      and_from _ _ (ap not (one w (and_from _ _ a.0 refl))) (all_there q there ws one a.1)

  same_nodes : (w : Write) (ws : List Write) → list_all (writes_agree w) ws ≡ true → list_all (λ v. same_reference (written_node w) (written_node v)) ws ≡ true
  same_nodes w [] all = refl
  same_nodes w (v ∷ vs) all =
      let a = and_parts (writes_agree w v) (list_all (writes_agree w) vs) all in
      and_from _ _ (and_parts (same_reference (written_node w) (written_node v)) _ a.0).0 (same_nodes w vs a.1)

  module _ (wide : (x : ℕ) (node : Node) → slice_get S.heap.nodes x ≡ Some node → length node.pointers ≡ POINTERS_LIMIT)
      (within : (to : Value) (z : NodeId) → value_of S.heap call to ≡ Some z → z.0 < length S.owners)
      (heap : Heap) (spent : Bool) (before : S.heap ≡ S.before) (after_it : heap ≡ S.after) (passed : tests_value S.heap thread call b.tests ≡ Some true) (wrote : written S.heap thread call b.writes ≡ Some heap)
      (isT : IsScene F (with_heap S heap (owners_written S.heap call b.writes (Some true) S.owners) spent))
      (spends : spent ≡ spent_after (shown F S) (shown F (with_heap S heap (owners_written S.heap call b.writes (Some true) S.owners) spent)) t.mine) where
    abbrev T : Scene
    T = with_heap S heap (owners_written S.heap call b.writes (Some true) S.owners) spent

    abbrev W : Picture
    W = shown F T

    -- ---- the write

    lead_value : (o : Option (Option ℕ)) → value_node S o ≡ new_lead S o None
    lead_value None = refl
    lead_value (Some None) = refl
    lead_value (Some (Some v)) = refl

    module _ (w : Write) (ws : List Write) (some : b.writes ≡ w ∷ ws) (x : NodeId) (at : named S.heap call (written_node w) ≡ Some x) (node : Node) (found : slice_get S.heap.nodes x.0 ≡ Some node)
        (made : with_node S.heap x.0 (changed_by S.heap thread call (w ∷ ws) node) ≡ heap) where
      fits_all : list_all (write_fits H variables) (w ∷ ws) ≡ true
      fits_all = subst (λ vs. list_all (write_fits H variables) vs ≡ true) some fits_writes

      apart_all : all_pairs writes_agree (w ∷ ws) ≡ true
      apart_all = subst (λ vs. all_pairs writes_agree vs ≡ true) some parts.1

      known_all : (r : Reference) → list_any (λ v. write_reads r v) (w ∷ ws) ≡ true → Knows F S s call r
      known_all r e = in_writes r (ap (list_any (λ v. write_reads r v)) some ∙ e)

      owners_are : owners_written S.heap call b.writes (Some true) S.owners ≡ shared_by_all S.heap call x.0 (w ∷ ws) S.owners
      owners_are = ap (λ vs. owners_written S.heap call vs (Some true) S.owners) some ∙ ap (λ o. option_map_or (λ (z : NodeId). shared_by_all S.heap call z.0 (w ∷ ws) S.owners) o S.owners) at

      shares : (y : ℕ) → is_shared_in T y ≡ (is_shared_in S y || (not (y == x.0) && some_below (λ f. is_node (value_node S ((change s w ws).pointer f)) (Some y)) (length H.pointers)))
      shares y =
          ap (λ (os : List (Option ℕ)). option_map_or (λ o. is_none o) (slice_get os y) false) owners_are
          ∙ by_writes S.heap call x.0 y (w ∷ ws) S.owners within
          ∙ ap (λ c. is_shared_in S y || (not (y == x.0) && c)) (puts_some H variables S.heap call y (w ∷ ws) fits_all apart_all
          ∙ some_below_alike (λ f. is_node (put_node S.heap call (put_pointer f (w ∷ ws)) None) (Some y)) (λ f. is_node (value_node S ((change s w ws).pointer f)) (Some y)) (length H.pointers)
          (λ f few. ap (λ o. is_node o (Some y)) (sym (lead_value (option_map (value_name s) (put_pointer f (w ∷ ws)))
          ∙ value_named F S isS s thread call is variables w ws known_all fits_all apart_all f (put_pointer f (w ∷ ws)) refl None))))

      pub wrote_so : IsWrite F (change s w ws) B W
      wrote_so =
          write_shown F S heap (owners_written S.heap call b.writes (Some true) S.owners) spent (change s w ws) x.0 isS isT
          (subst (λ (G : Heap). IsWritten F S G (owners_written S.heap call b.writes (Some true) S.owners) spent (change s w ws) x.0) made
          (is_written F S isS s thread call is variables w ws known_all fits_all apart_all x node at found (wide x.0 node found) (owners_written S.heap call b.writes (Some true) S.owners) spent))
          (λ y other. ap (λ (G : Heap). slice_get G.nodes y) (sym made) ∙ set_elsewhere S.heap.nodes x.0 (changed_by S.heap thread call (w ∷ ws) node) y other)
          (ap (λ (G : Heap). G.root.0) (sym made)) before after_it shares spends

      pub wrote_node : WroteNode F S heap (owners_written S.heap call b.writes (Some true) S.owners) spent (change s w ws)
      wrote_node = record {
        x = x.0;
        is = subst (λ (G : Heap). IsWritten F S G (owners_written S.heap call b.writes (Some true) S.owners) spent (change s w ws) x.0) made
            (is_written F S isS s thread call is variables w ws known_all fits_all apart_all x node at found (wide x.0 node found) (owners_written S.heap call b.writes (Some true) S.owners) spent);
        nodes = λ y other. ap (λ (G : Heap). slice_get G.nodes y) (sym made) ∙ set_elsewhere S.heap.nodes x.0 (changed_by S.heap thread call (w ∷ ws) node) y other;
        root = ap (λ (G : Heap). G.root.0) (sym made);
        shares = shares;
        spends = spends;
      }

    pub wrote_by : (c : Change) → change_by s b.writes ≡ Some c → WroteNode F S heap (owners_written S.heap call b.writes (Some true) S.owners) spent c
    wrote_by c e = by_list b.writes refl e
      where
        by_list : (vs : List Write) → b.writes ≡ vs → change_by s vs ≡ Some c → WroteNode F S heap (owners_written S.heap call b.writes (Some true) S.owners) spent c
        by_list [] e d = absurd (none-some c d)
        by_list (w ∷ ws) e d = subst (λ k. WroteNode F S heap (owners_written S.heap call b.writes (Some true) S.owners) spent k) (same_Some _ c d)
            (option_and_then_some (λ (x : NodeId). option_map (λ node. with_node S.heap x.0 (changed_by S.heap thread call (w ∷ ws) node)) (slice_get S.heap.nodes x.0)) (written_in (w ∷ ws) S.heap call) heap (sym (ap (written S.heap thread call) e) ∙ wrote)
            (λ x at rest. option_and_then_some (λ (node : Node). Some (with_node S.heap x.0 (changed_by S.heap thread call (w ∷ ws) node))) (slice_get S.heap.nodes x.0) heap rest
            (λ node found same. wrote_node w ws e x at node found (same_Some _ heap same))))

    unwritten : b.writes ≡ [] → T ≡ S
    unwritten none =
        let same : heap ≡ S.heap = sym (same_Some _ _ (sym (ap (written S.heap thread call) none) ∙ wrote)) in
        let kept : owners_written S.heap call b.writes (Some true) S.owners ≡ S.owners = ap (λ vs. owners_written S.heap call vs (Some true) S.owners) none in
        let unspent : spent ≡ S.spent =
        spends ∙ ap (λ (G : Heap). S.spent || (t.mine && not (beq (contains H S.heap (S.walked KeyName.Own)) (contains H G (S.walked KeyName.Own))))) same
        ∙ ap (λ c. S.spent || c) (and_right t.mine _ (unturned (contains H S.heap (S.walked KeyName.Own)))) ∙ or-false S.spent in
        ap (λ (G : Heap). with_heap S G (owners_written S.heap call b.writes (Some true) S.owners) spent) same
        ∙ ap (λ os. with_heap S S.heap os spent) kept ∙ ap (λ c. with_heap S S.heap S.owners c) unspent

    by_writes_or_not : (vs : List Write) → b.writes ≡ vs → WritesOrNot F (change_by s vs) B W
    by_writes_or_not [] e = subst (λ (U : Scene). WritesOrNot F None B (shown F U)) (sym (unwritten e)) nothing
    by_writes_or_not (w ∷ ws) e =
        option_and_then_some (λ (x : NodeId). option_map (λ node. with_node S.heap x.0 (changed_by S.heap thread call (w ∷ ws) node)) (slice_get S.heap.nodes x.0)) (written_in (w ∷ ws) S.heap call) heap (sym (ap (written S.heap thread call) e) ∙ wrote)
        (λ x at rest. option_and_then_some (λ (node : Node). Some (with_node S.heap x.0 (changed_by S.heap thread call (w ∷ ws) node))) (slice_get S.heap.nodes x.0) heap rest
        (λ node found same. write (wrote_so w ws e x at node found (same_Some _ heap same))))

    pub writes_so : WritesOrNot F (change_by s b.writes) B W
    writes_so = by_writes_or_not b.writes refl

    -- ---- the exit is taken

    writes_there : (vs : List Write) → b.writes ≡ vs → list_all (λ w. not (is_null s B (written_node w))) vs ≡ true
    writes_there [] e = refl
    writes_there (w ∷ ws) e =
        option_and_then_some (λ (x : NodeId). option_map (λ node. with_node S.heap x.0 (changed_by S.heap thread call (w ∷ ws) node)) (slice_get S.heap.nodes x.0)) (written_in (w ∷ ws) S.heap call) heap (sym (ap (written S.heap thread call) e) ∙ wrote)
        (λ x at rest.
        let k = at_known F S isS s thread call is variables w ws (λ r h. in_writes r (ap (list_any (λ v. write_reads r v)) e ∙ h)) (subst (λ vs. list_all (write_fits H variables) vs ≡ true) e fits_writes) (subst (λ vs. all_pairs writes_agree vs ≡ true) e parts.1) in
        let there : is_null s B (written_node w) ≡ false = not_null F S isS s thread call is (written_node w) k x.0 (k.1 ∙ ap number at) in
        let apart = and_parts (list_all (writes_agree w) ws) (all_pairs writes_agree ws) (subst (λ vs. all_pairs writes_agree vs ≡ true) e parts.1) in
        and_from _ _ (ap not there) (all_there (written_node w) there ws
        (λ v a. subst (λ q. is_null s B q ≡ false) (same_reference_true (written_node w) (written_node v) (and_parts (same_reference (written_node w) (written_node v)) true a).0) there)
        (same_nodes w ws apart.0)))

    module _ (reads : KnowsBinds F S s call b.binds) (later : List (Option NodeId)) (binds : bound S.heap call b.binds call.variables ≡ Some later) where
      pub runs_so : (all_hold F s B b.tests && list_all (bind_is_read s B) b.binds && list_all (λ w. not (is_null s B (written_node w))) b.writes) ≡ true
      runs_so =
          and_from _ _ (and_from _ _ (all_told F S isS s thread call is variables b.tests in_tests fits_tests passed) (all_read b.binds fits_binds in_binds reads call.variables later binds))
          (writes_there b.writes refl)

      -- the step with the binds left out
      pub write_step : IsPossible F W → IsWriteStep F s B W
      write_step possible = record {
        runs = runs_so;
        step = record {
          between = W;
          writes = writes_so;
          names = renaming_shown F T isT (λ i. Of i) S.named 0 (kept_names F T);
          possible = possible;
        };
      }

      -- ---- what the variables take

      -- a variable that is not bound keeps its node
      unbound : (ds : List Bind) (v : ℕ) → list_all (λ (e : Bind). not (v == e.to)) ds ≡ true → (vars after : List (Option NodeId)) → bound S.heap call ds vars ≡ Some after → slice_get after v ≡ slice_get vars v
      unbound [] v all vars after e = ap (λ (xs : List (Option NodeId)). slice_get xs v) (sym (same_Some vars after e))
      unbound (d ∷ ds) v all vars after e =
          let a = and_parts (not (v == d.to)) (list_all (λ (e : Bind). not (v == e.to)) ds) all in
          option_and_then_some (λ (to : Option NodeId). bound S.heap call ds (slice_set vars d.to to)) (pointer_of S.heap call d.from d.pointer) after e (λ to at rest.
          unbound ds v a.1 (slice_set vars d.to to) after rest ∙ set_elsewhere vars d.to to v (λ same. true≢false (sym (eq-eqb v d.to same) ∙ not-true (v == d.to) a.0)))

      module _ (variable : ℕ → Option ℕ) (has : (v i : ℕ) → t.name_of (Reference.Variable v) ≡ Some i → variable i ≡ Some v) where
        -- the name of a bound variable takes what its bind reads
        taken : (ds : List Bind) → all_pairs (λ (d : Bind) e. not (d.to == e.to)) ds ≡ true → KnowsBinds F S s call ds → (v i : ℕ) → t.name_of (Reference.Variable v) ≡ Some i
            → (vars after : List (Option NodeId)) → v < length vars → bound S.heap call ds vars ≡ Some after → S.named i ≡ number (option_flatten (slice_get vars v)) → number (option_flatten (slice_get after v)) ≡ source_node S 0 (bind_source s i ds)
        taken [] apart kn v i name vars after room e was = ap (λ (xs : List (Option NodeId)). number (option_flatten (slice_get xs v))) (sym (same_Some vars after e)) ∙ sym was
        taken (d ∷ ds) apart kn v i name vars after room e was =
            let a = and_parts (list_all (λ (e : Bind). not (d.to == e.to)) ds) (all_pairs (λ (d : Bind) e. not (d.to == e.to)) ds) apart in
            option_and_then_some (λ (to : Option NodeId). bound S.heap call ds (slice_set vars d.to to)) (pointer_of S.heap call d.from d.pointer) after e (λ to at rest.
            elim (cases_Bool (has_name s d.to i)) [
              | inl it ↦
                  let its = named_so s d.to i it in
                  let same : d.to ≡ v = same_Some _ _ (sym (has d.to i its) ∙ has v i name) in
                  ap (λ u. number (option_flatten (slice_get after u))) (sym same)
                  ∙ ap (λ o. number (option_flatten o)) (unbound ds d.to a.0 (slice_set vars d.to to) after rest ∙ set_at vars d.to to (subst (λ u. u < length vars) (sym same) room))
                  ∙ sym (kn 0 i d to refl its at).1
                  ∙ ap (source_node S 0) (sym (cond-true (has_name s d.to i) (Of (t.read_by d.to)) (bind_source s i ds) it))
              | inr other ↦
                  let apart_v : v ≡ d.to → ⊥ = λ same. true≢false (sym (so_named s d.to i (ap (λ u. t.name_of (Reference.Variable u)) (sym same) ∙ name)) ∙ other) in
                  taken ds a.1 (λ k i' d' to' g n p. kn (suc k) i' d' to' g n p) v i name (slice_set vars d.to to) after (let same = length-set vars d.to to in omega (arith, room)) rest
                  (was ∙ ap (λ o. number (option_flatten o)) (sym (set_elsewhere vars d.to to v apart_v)))
                  ∙ ap (source_node S 0) (sym (cond-false (has_name s d.to i) (Of (t.read_by d.to)) (bind_source s i ds) other))
            ])

        -- each name comes from a name
        from_names : (ds : List Bind) → KnowsBinds F S s call ds → (vars after : List (Option NodeId)) → bound S.heap call ds vars ≡ Some after → (i : ℕ) → i < F.names → (n : ℕ) × (bind_source s i ds ≡ Of n) × (n < F.names)
        from_names [] kn vars after e i bi = (i, refl, bi)
        from_names (d ∷ ds) kn vars after e i bi =
            option_and_then_some (λ (to : Option NodeId). bound S.heap call ds (slice_set vars d.to to)) (pointer_of S.heap call d.from d.pointer) after e (λ to at rest.
            elim (cases_Bool (has_name s d.to i)) [
              | inl it ↦ (t.read_by d.to, cond-true (has_name s d.to i) (Of (t.read_by d.to)) (bind_source s i ds) it, (kn 0 i d to refl (named_so s d.to i it) at).0)
              | inr other ↦
                  let w = from_names ds (λ k i' d' to' g n p. kn (suc k) i' d' to' g n p) (slice_set vars d.to to) after rest i bi in
                  (w.0, cond-false (has_name s d.to i) (Of (t.read_by d.to)) (bind_source s i ds) other ∙ w.1, w.2)
            ])

        -- a name of no variable stays
        stays : (ds : List Bind) (i : ℕ) → variable i ≡ None → bind_source s i ds ≡ Of i
        stays [] i e = refl
        stays (d ∷ ds) i e = cond-false (has_name s d.to i) (Of (t.read_by d.to)) (bind_source s i ds) (false_from_ne_true _ (λ it. none-some d.to (sym e ∙ has d.to i (named_so s d.to i it)))) ∙ stays ds i e

      module _ (named_after : ℕ → Option ℕ) (set_so : VariablesSet F S s call.variables later named_after) (room : (v i : ℕ) → t.name_of (Reference.Variable v) ≡ Some i → v < length call.variables) where
        abbrev A : Scene
        A = renamed_scene T named_after

        pub sourced : IsSourced F T (λ i. bind_source s i b.binds) named_after 0
        sourced = record {
          sources = λ i bi. by_variable i bi (set_so.variable i) refl;
          within = λ i n bi e. let w = from_names set_so.variable set_so.has_variable b.binds reads call.variables later binds i bi in
              let same : w.0 ≡ n = (let c : Of w.0 ≡ Of n = sym w.1 ∙ e in cc) in subst (λ m. m < F.names) same w.2;
          allocated = λ i bi e. let w = from_names set_so.variable set_so.has_variable b.binds reads call.variables later binds i bi in absurd (let c : Of w.0 ≡ Fresh = sym w.1 ∙ e in cc);
        }
          where
            same_node : (r : Source) → (n : ℕ) → r ≡ Of n → source_node S 0 r ≡ source_node T 0 r
            same_node r n e = ap (source_node S 0) e ∙ sym (ap (source_node T 0) e)

            by_variable : (i : ℕ) → i < F.names → (o : Option ℕ) → set_so.variable i ≡ o → named_after i ≡ source_node T 0 (bind_source s i b.binds)
            by_variable i bi None e = set_so.others i bi e ∙ ap (source_node T 0) (sym (stays set_so.variable set_so.has_variable b.binds i e))
            by_variable i bi (Some v) e =
                let was = set_so.was v i bi e in
                let w = from_names set_so.variable set_so.has_variable b.binds reads call.variables later binds i bi in
                set_so.is v i bi e
                ∙ taken set_so.variable set_so.has_variable b.binds apart_binds reads v i was.0 call.variables later (room v i was.0) binds was.1
                ∙ same_node (bind_source s i b.binds) w.0 w.1

        -- the own step by the yes exit
        pub yes_step : IsPossible F (shown F A) → IsTurnStep F s B (shown F A)
        yes_step possible = record {
          runs = runs_so;
          step = record { between = W; writes = writes_so; names = renaming_shown F T isT (λ i. bind_source s i b.binds) named_after 0 sourced; possible = possible };
        }

-- by the no exit nothing changes
module _ (F : Frame) (S : Scene) (isS : IsScene F S) (t : Turn) (thread : ThreadId) (call : Call) (b : Block) (variables : ℕ)
    (is : IsTurnOf S (no_turn t b) thread call) (known : (r : Reference) → list_any (λ t. test_reads r t) b.tests ≡ true → Knows F S (no_turn t b) call r)
    (fits : list_all (test_fits F.header variables) b.tests ≡ true) (failed : tests_value S.heap thread call b.tests ≡ Some false)
    (named_after : ℕ → Option ℕ) (set_so : VariablesSet F S (no_turn t b) call.variables call.variables named_after) where
  pub same_names : (i : ℕ) → i < F.names → named_after i ≡ S.named i
  same_names i bi = by_variable (set_so.variable i) refl
    where
      by_variable : (o : Option ℕ) → set_so.variable i ≡ o → named_after i ≡ S.named i
      by_variable None e = set_so.others i bi e
      by_variable (Some v) e = set_so.is v i bi e ∙ sym (set_so.was v i bi e).1

  pub no_step : IsPossible F (shown F (renamed_scene S named_after)) → IsTurnStep F (no_turn t b) (shown F S) (shown F (renamed_scene S named_after))
  no_step possible = record {
    runs = one_told_false F S isS (no_turn t b) thread call is variables b.tests known fits failed;
    step = record {
      between = shown F S;
      writes = nothing;
      names = renaming_shown F S isS (λ i. Of i) named_after 0 (record { sources = same_names; within = (kept_names F S).within; allocated = (kept_names F S).allocated });
      possible = possible;
    };
  }

abbrev pub copy_turn : Turn → ℕ → Value → ℕ → Turn
copy_turn t to from next = record t { action = Action.Copy to from next; yes = true }

-- a copy sets one variable
module _ (F : Frame) (S : Scene) (isS : IsScene F S) (t : Turn) (call : Call) (to next : ℕ) (from : Value) where
  module _ (known : (r : Reference) → value_reads r from ≡ true → Knows F S (copy_turn t to from next) call r) (room : to < length call.variables)
      (named_after : ℕ → Option ℕ) (set_so : VariablesSet F S (copy_turn t to from next) call.variables (slice_set call.variables to (value_of S.heap call from)) named_after) where
    abbrev copied_from : ℕ → Source
    copied_from i = if has_name t to i then value_source (copy_turn t to from next) from else Of i

    value_is : (v : Value) → ((r : Reference) → value_reads r v ≡ true → Knows F S (copy_turn t to from next) call r) → source_node S 0 (value_source (copy_turn t to from next) v) ≡ number (value_of S.heap call v)
    value_is Value.Null kn = refl
    value_is (Value.Node q) kn = (kn q (reference_itself q)).1

    value_within : (v : Value) → ((r : Reference) → value_reads r v ≡ true → Knows F S (copy_turn t to from next) call r) → (n : ℕ) → value_source (copy_turn t to from next) v ≡ Of n → n < F.names
    value_within Value.Null kn n e = absurd (let c : Null ≡ Of n = e in cc)
    value_within (Value.Node q) kn n e = let same : name (copy_turn t to from next) q ≡ n = (let c : Of (name (copy_turn t to from next) q) ≡ Of n = e in cc) in subst (λ m. m < F.names) same (kn q (reference_itself q)).0

    not_fresh : (v : Value) → value_source (copy_turn t to from next) v ≡ Fresh → ⊥
    not_fresh Value.Null e = let c : Null ≡ Fresh = e in cc
    not_fresh (Value.Node q) e = let c : Of (name (copy_turn t to from next) q) ≡ Fresh = e in cc

    pub copy_sourced : IsSourced F S copied_from named_after 0
    copy_sourced = record {
      sources = λ i bi. by_variable i bi (set_so.variable i) refl;
      within = λ i n bi e. elim (cases_Bool (has_name t to i)) [
        | inl it ↦ value_within from known n (sym (cond-true (has_name t to i) (value_source (copy_turn t to from next) from) (Of i) it) ∙ e)
        | inr other ↦ (let same : i ≡ n = (let c : Of i ≡ Of n = sym (cond-false (has_name t to i) (value_source (copy_turn t to from next) from) (Of i) other) ∙ e in cc) in subst (λ m. m < F.names) same bi)
      ];
      allocated = λ i bi e. elim (cases_Bool (has_name t to i)) [
        | inl it ↦ absurd (not_fresh from (sym (cond-true (has_name t to i) (value_source (copy_turn t to from next) from) (Of i) it) ∙ e))
        | inr other ↦ absurd (let c : Of i ≡ Fresh = sym (cond-false (has_name t to i) (value_source (copy_turn t to from next) from) (Of i) other) ∙ e in cc)
      ];
    }
      where
        by_variable : (i : ℕ) → i < F.names → (o : Option ℕ) → set_so.variable i ≡ o → named_after i ≡ source_node S 0 (copied_from i)
        by_variable i bi None e =
            set_so.others i bi e ∙ ap (source_node S 0) (sym (cond-false (has_name t to i) (value_source (copy_turn t to from next) from) (Of i) (false_from_ne_true _ (λ it. none-some to (sym e ∙ set_so.has_variable to i (named_so t to i it))))))
        by_variable i bi (Some v) e =
            let was = set_so.was v i bi e in
            set_so.is v i bi e ∙ elim (cases_eq v to) [
              | inl same ↦
                  ap (λ u. number (option_flatten (slice_get (slice_set call.variables to (value_of S.heap call from)) u))) same
                  ∙ ap (λ o. number (option_flatten o)) (set_at call.variables to (value_of S.heap call from) room) ∙ sym (value_is from known)
                  ∙ ap (source_node S 0) (sym (cond-true (has_name t to i) (value_source (copy_turn t to from next) from) (Of i) (so_named t to i (ap (λ u. t.name_of (Reference.Variable u)) (sym same) ∙ was.0))))
              | inr other ↦
                  ap (λ o. number (option_flatten o)) (set_elsewhere call.variables to (value_of S.heap call from) v other) ∙ sym was.1
                  ∙ ap (source_node S 0) (sym (cond-false (has_name t to i) (value_source (copy_turn t to from next) from) (Of i) (false_from_ne_true _ (λ it. other (same_Some _ _ (sym e ∙ set_so.has_variable to i (named_so t to i it)))))))
            ]

    pub copy_step : IsPossible F (shown F (renamed_scene S named_after)) → IsTurnStep F (copy_turn t to from next) (shown F S) (shown F (renamed_scene S named_after))
    copy_step possible = record {
      runs = refl;
      step = record { between = shown F S; writes = nothing; names = renaming_shown F S isS copied_from named_after 0 copy_sourced; possible = possible };
    }
