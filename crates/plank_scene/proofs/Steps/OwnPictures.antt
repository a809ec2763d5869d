-- The pictures of one call: its names know what it reads, and follow its variables over a step.
use Rattle.std.proofs.Common.{◌≡◌, ◌⊎◌, ℕ, zero, suc, ◌+◌, ◌-◌, ◌<◌, ◌==◌, Bool, true, false, not, List, [], ◌∷◌, length, Option, Some, None, refl, sym, ◌∙◌, ap, subst, inl, inr, arith}
use Rattle.std.specs.FinMap.{get}
use Rattle.std.specs.Prelude.{◌&&◌, ◌||◌, nat_lt, slice_get, is_none, if◌then◌else◌}
use Rattle.std.specs.List.{list_any, list_all}
use Rattle.std.specs.Option.{option_map_or, option_flatten}
use Rattle.std.proofs.lemmas.Bool.{and_from, or_left, or_right, false≢true, and_parts, or_cases, cases_Bool, eq-eqb, lt-ltb, ltb-true, le-ltb, not-true, cond-true, cond-false}
use Rattle.std.proofs.lemmas.Option.{slice_get_cases, none-some, same_Some}
use Rattle.plank_base.specs.declared.keys.ThreadId.{ThreadId}
use Rattle.plank_base.specs.declared.keys.NodeId.{NodeId}
use Rattle.plank_prog.specs.declared.headers.Header.{Header}
use Rattle.plank_prog.specs.declared.blocks.Reference.{Reference}
use Rattle.plank_prog.specs.declared.blocks.Value.{Value}
use Rattle.plank_prog.specs.declared.blocks.KeyOperand.{KeyOperand}
use Rattle.plank_prog.specs.declared.blocks.PointerOperand.{PointerOperand}
use Rattle.plank_prog.specs.declared.blocks.Test.{Test}
use Rattle.plank_prog.specs.declared.blocks.Bind.{Bind}
use Rattle.plank_prog.specs.declared.blocks.Write.{Write}
use Rattle.plank_prog.specs.declared.blocks.Block.{Block}
use Rattle.plank_prog.specs.declared.methods.Action.{Action}
use Rattle.plank_prog.specs.Names.{all_pairs}
use Rattle.plank_prog.specs.Blocks.{same_reference, value_reads, key_reads, pointer_reads, test_reads, write_reads, block_reads, reference_fits, value_fits, flag_fits, key_fits, pointer_fits, test_fits, bind_fits, write_fits, block_parts_fit}
use Rattle.plank_heap.specs.declared.heaps.Heap.{Heap}
use Rattle.plank_sem.specs.Kept.{GhostWorld, IsShared, IsOwn}
use Rattle.plank_sem.specs.Facts.{IsSound}
use Rattle.plank_sem.specs.Fits.{AllNamed}
use Rattle.plank_sem.specs.declared.calls.Call.{Call}
use Rattle.plank_sem.specs.Reads.{pointer_of}
use Rattle.plank_sem.proofs.NamedNodes.{LeadsAlong, pointer_in}
use Rattle.plank_sem.proofs.Lists.{flattened}
use Rattle.plank_pic.specs.declared.parts.Part.{Part}
use Rattle.plank_pic.specs.Pictures.{Picture}
use Rattle.plank_pic.specs.Calls.{is_usable, binds_of, bind_place, own_names, own_name, own_turn}
use Rattle.plank_pic.specs.Frames.{Frame}
use Rattle.plank_pic.specs.Blocks.{Turn, name}
use Rattle.plank_scene.specs.Scenes.{is_shared_in, is_mine_in, shown, Scene}
use Rattle.plank_scene.specs.Turns.{number, Knows, VariablesSet, KnowsBinds}
use Rattle.plank_scene.specs.Writes.{with_heap}
use Rattle.plank_scene.specs.OwnScenes.{read_at, own_named}
use Rattle.plank_scene.proofs.Scenes.Showing.{on_at, shown_says}
use Rattle.plank_scene.proofs.Turns.Turning.{same_reference_true}

-- ---- what a lawful block reads is a name of its method

module _ (h : Header) (variables : ℕ) (r : Reference) where
  same_fits : (q : Reference) → same_reference r q ≡ true → reference_fits variables q ≡ true → reference_fits variables r ≡ true
  same_fits q e f = subst (λ p. reference_fits variables p ≡ true) (sym (same_reference_true r q e)) f

  pub value_so : (v : Value) → value_reads r v ≡ true → value_fits variables v ≡ true → reference_fits variables r ≡ true
  value_so Value.Null e f = absurd (false≢true e)
  value_so (Value.Node q) e f = same_fits q e f

  key_so : (o : KeyOperand) → key_reads r o ≡ true → key_fits variables o ≡ true → reference_fits variables r ≡ true
  key_so (KeyOperand.Node q) e f = same_fits q e f
  key_so KeyOperand.Argument e f = absurd (false≢true e)
  key_so KeyOperand.Min e f = absurd (false≢true e)
  key_so KeyOperand.Max e f = absurd (false≢true e)

  pointer_so : (o : PointerOperand) → pointer_reads r o ≡ true → pointer_fits h variables o ≡ true → reference_fits variables r ≡ true
  pointer_so PointerOperand.Null e f = absurd (false≢true e)
  pointer_so (PointerOperand.Node q) e f = same_fits q e f
  pointer_so (PointerOperand.Field q g) e f = same_fits q e (and_parts (reference_fits variables q) _ f).0

  test_so : (t : Test) → test_reads r t ≡ true → test_fits h variables t ≡ true → reference_fits variables r ≡ true
  test_so (Test.Flag flag set) e f = same_fits flag.node e (and_parts (reference_fits variables flag.node) _ f).0
  test_so (Test.Flags left right equal) e f =
      let w = and_parts (flag_fits h variables left) (flag_fits h variables right) f in
      elim (or_cases (same_reference r left.node) (same_reference r right.node) e) [
        | inl a ↦ same_fits left.node a (and_parts (reference_fits variables left.node) _ w.0).0
        | inr a ↦ same_fits right.node a (and_parts (reference_fits variables right.node) _ w.1).0
      ]
  test_so (Test.Keys left relation right) e f =
      let w = and_parts (key_fits variables left) (key_fits variables right) f in
      elim (or_cases (key_reads r left) (key_reads r right) e) [ inl a ↦ key_so left a w.0 | inr a ↦ key_so right a w.1 ]
  test_so (Test.Pointers left right equal) e f =
      let w = and_parts (pointer_fits h variables left) (pointer_fits h variables right) (and_parts (pointer_fits h variables left && pointer_fits h variables right) _ f).0 in
      elim (or_cases (pointer_reads r left) (pointer_reads r right) e) [ inl a ↦ pointer_so left a w.0 | inr a ↦ pointer_so right a w.1 ]
  test_so (Test.LockFree q) e f = same_fits q e (and_parts h.has_lock (reference_fits variables q) f).1
  test_so (Test.LockOwn q) e f = same_fits q e (and_parts h.has_lock (reference_fits variables q) f).1

  bind_so : (d : Bind) → same_reference r d.from ≡ true → bind_fits h variables d ≡ true → reference_fits variables r ≡ true
  bind_so d e f = same_fits d.from e (and_parts (nat_lt d.to variables) (reference_fits variables d.from) (and_parts (nat_lt d.to variables && reference_fits variables d.from) _ f).0).1

  write_so : (w : Write) → write_reads r w ≡ true → write_fits h variables w ≡ true → reference_fits variables r ≡ true
  write_so (Write.Flag q g to) e f = same_fits q e (and_parts (reference_fits variables q) _ f).0
  write_so (Write.Pointer q g to) e f =
      let w = and_parts (reference_fits variables q && nat_lt g (length h.pointers)) (value_fits variables to) f in
      elim (or_cases (same_reference r q) (value_reads r to) e) [ inl a ↦ same_fits q a (and_parts (reference_fits variables q) _ w.0).0 | inr a ↦ value_so to a w.1 ]
  write_so (Write.TakeLock q) e f = same_fits q e (and_parts h.has_lock (reference_fits variables q) f).1
  write_so (Write.FreeLock q) e f = same_fits q e (and_parts h.has_lock (reference_fits variables q) f).1

  one_so : {X : Type 0} (reads fits : X → Bool) → ((x : X) → reads x ≡ true → fits x ≡ true → reference_fits variables r ≡ true) → (xs : List X) → list_any reads xs ≡ true → list_all fits xs ≡ true → reference_fits variables r ≡ true
  one_so reads fits so [] e f = absurd (false≢true e)
  one_so reads fits so (x ∷ xs) e f =
      let w = and_parts (fits x) (list_all fits xs) f in
      elim (or_cases (reads x) (list_any reads xs) e) [ inl a ↦ so x a w.0 | inr a ↦ one_so reads fits so xs a w.1 ]

  pub block_so : (b : Block) → block_reads b r ≡ true → block_parts_fit h variables b ≡ true → reference_fits variables r ≡ true
  block_so b e f =
      let w3 = and_parts _ (list_all (write_fits h variables) b.writes) f in
      let w2 = and_parts _ (list_all (bind_fits h variables) b.binds) w3.0 in
      let w1 = and_parts (list_all (reference_fits variables) b.with) (list_all (test_fits h variables) b.tests) w2.0 in
      elim (or_cases (list_any (λ q. same_reference r q) b.with || list_any (λ t. test_reads r t) b.tests || list_any (λ (d : Bind). same_reference r d.from) b.binds) (list_any (λ v. write_reads r v) b.writes) e) [
        | inr a ↦ one_so (λ v. write_reads r v) (write_fits h variables) write_so b.writes a w3.1
        | inl a ↦ elim (or_cases (list_any (λ q. same_reference r q) b.with || list_any (λ t. test_reads r t) b.tests) (list_any (λ (d : Bind). same_reference r d.from) b.binds) a) [
          | inr c ↦ one_so (λ (d : Bind). same_reference r d.from) (bind_fits h variables) bind_so b.binds c w2.1
          | inl c ↦ elim (or_cases (list_any (λ q. same_reference r q) b.with) (list_any (λ t. test_reads r t) b.tests) c) [
            | inl g ↦ one_so (λ q. same_reference r q) (reference_fits variables) same_fits b.with g w1.0
            | inr g ↦ one_so (λ t. test_reads r t) (test_fits h variables) test_so b.tests g w1.1
          ]
        ]
      ]

-- ---- what the names name

abbrev pub own_variable : ℕ → ℕ → Option ℕ
own_variable variables zero = None
own_variable variables (suc i) = if nat_lt i variables then Some i else None

module _ (F : Frame) (S : Scene) (call : Call) (variables : ℕ) (action : Action) (exit : Bool) (names : F.names ≡ own_names variables action)
    (own : S.named ≡ own_named S.heap call (binds_of action) variables call.variables) where
  abbrev t : Turn
  t = own_turn variables action exit

  abbrev binds : List Bind
  binds = binds_of action

  -- a name of the method has a name, of the same node
  pub own_knows : (r : Reference) → reference_fits variables r ≡ true → Knows F S t call r
  own_knows Reference.Root e = (let n = names in omega (arith, n), ap (λ (f : ℕ → Option ℕ). f 0) own)
  own_knows (Reference.Variable v) e =
      let at : name t (Reference.Variable v) ≡ suc v = ap (λ o. option_map_or (λ n. n) o 0) (cond-true (nat_lt v variables) (Some (suc v)) None e) in
      let below : v < variables = ltb-true v variables e in
      (let n = names in omega (arith, at), ap S.named at ∙ ap (λ (f : ℕ → Option ℕ). f (suc v)) own ∙ cond-true (nat_lt v variables) _ _ e)

  -- what a bind reads has its name
  place_of : (ds : List Bind) → all_pairs (λ (d : Bind) e. not (d.to == e.to)) ds ≡ true → (k : ℕ) (d : Bind) → slice_get ds k ≡ Some d → (bind_place d.to ds ≡ k) × (k < length ds)
  place_of [] apart k d at = absurd (none-some d at)
  place_of (c ∷ cs) apart zero d at =
      (cond-true (c.to == d.to) 0 (suc (bind_place d.to cs)) (eq-eqb c.to d.to (ap (λ (x : Bind). x.to) (same_Some c d at))), omega arith)
  place_of (c ∷ cs) apart (suc k) d at =
      let a = and_parts (list_all (λ (e : Bind). not (c.to == e.to)) cs) (all_pairs (λ (d : Bind) e. not (d.to == e.to)) cs) apart in
      let w = place_of cs a.1 k d at in
      (cond-false (c.to == d.to) 0 (suc (bind_place d.to cs)) (other cs a.0 k at) ∙ ap suc w.0, (let lt : k < length cs = w.1 in omega arith))
    where
      other : (es : List Bind) → list_all (λ (e : Bind). not (c.to == e.to)) es ≡ true → (k : ℕ) → slice_get es k ≡ Some d → (c.to == d.to) ≡ false
      other [] all k at = absurd (none-some d at)
      other (e ∷ es) all zero at = ap (λ (x : Bind). c.to == x.to) (sym (same_Some e d at)) ∙ not-true (c.to == e.to) (and_parts (not (c.to == e.to)) _ all).0
      other (e ∷ es) all (suc k) at = other es (and_parts (not (c.to == e.to)) _ all).1 k at

  read_is : (ds : List Bind) (k : ℕ) (d : Bind) (to : Option NodeId) → slice_get ds k ≡ Some d → pointer_of S.heap call d.from d.pointer ≡ Some to → read_at S.heap call ds k ≡ number to
  read_is [] k d to at e = absurd (none-some d at)
  read_is (c ∷ cs) zero d to at e = ap (λ (x : Bind). number (option_flatten (pointer_of S.heap call x.from x.pointer))) (same_Some c d at) ∙ ap (λ o. number (option_flatten o)) e
  read_is (c ∷ cs) (suc k) d to at e = read_is cs k d to at e

  past_variables : (k : ℕ) → own_named S.heap call binds variables call.variables (suc (variables + k)) ≡ read_at S.heap call binds k
  past_variables k =
      let past : nat_lt (variables + k) variables ≡ false = le-ltb (variables + k) variables (omega arith) in
      let rest : (variables + k) - variables ≡ k = omega arith in
      cond-false (nat_lt (variables + k) variables) (number (option_flatten (slice_get call.variables (variables + k)))) (read_at S.heap call binds ((variables + k) - variables)) past
      ∙ ap (read_at S.heap call binds) rest

  pub own_reads : all_pairs (λ (d : Bind) e. not (d.to == e.to)) binds ≡ true → KnowsBinds F S t call binds
  own_reads apart k i d to at name e =
      let w = place_of binds apart k d at in (
        let n = names in let lt : k < length binds = w.1 in let p = w.0 in omega (arith, p, n),
        ap (λ m. S.named (suc (variables + m))) w.0 ∙ ap (λ (f : ℕ → Option ℕ). f (suc (variables + k))) own ∙ past_variables k ∙ read_is binds k d to at e,
      )

  -- the names of variables follow them
  pub own_set : (later : List (Option NodeId)) → VariablesSet F S t call.variables later (own_named S.heap call binds variables later)
  own_set later = record {
    variable = own_variable variables;
    has_variable = λ v i e. by_test v i (cases_Bool (nat_lt v variables)) e;
    was = λ v i bi e. let w = variable_is v i e in (
      cond-true (nat_lt v variables) (Some (suc v)) None w.1 ∙ ap Some (sym w.0),
      ap (λ (f : ℕ → Option ℕ). f i) own ∙ ap (own_named S.heap call binds variables call.variables) w.0 ∙ cond-true (nat_lt v variables) _ _ w.1,
    );
    is = λ v i bi e. let w = variable_is v i e in
        ap (own_named S.heap call binds variables later) w.0 ∙ cond-true (nat_lt v variables) _ _ w.1;
    others = λ i bi e. by_name i e ∙ sym (ap (λ (f : ℕ → Option ℕ). f i) own);
  }
    where
      by_test : (v i : ℕ) → (nat_lt v variables ≡ true) ⊎ (nat_lt v variables ≡ false) → own_name variables (Reference.Variable v) ≡ Some i → own_variable variables i ≡ Some v
      by_test v i (inl c) e =
          let same : suc v ≡ i = same_Some _ _ (sym (cond-true (nat_lt v variables) (Some (suc v)) None c) ∙ e) in
          ap (own_variable variables) (sym same) ∙ cond-true (nat_lt v variables) (Some v) None c
      by_test v i (inr c) e = absurd (none-some i (sym (cond-false (nat_lt v variables) (Some (suc v)) None c) ∙ e))

      variable_is : (v i : ℕ) → own_variable variables i ≡ Some v → (i ≡ suc v) × (nat_lt v variables ≡ true)
      variable_is v zero e = absurd (none-some v e)
      variable_is v (suc j) e = elim (cases_Bool (nat_lt j variables)) [
        | inl c ↦ (let same : j ≡ v = same_Some _ _ (sym (cond-true (nat_lt j variables) (Some j) None c) ∙ e) in (ap suc same, ap (λ m. nat_lt m variables) (sym same) ∙ c))
        | inr c ↦ absurd (none-some v (sym (cond-false (nat_lt j variables) (Some j) None c) ∙ e))
      ]

      by_name : (i : ℕ) → own_variable variables i ≡ None → own_named S.heap call binds variables later i ≡ own_named S.heap call binds variables call.variables i
      by_name zero e = refl
      by_name (suc j) e = elim (cases_Bool (nat_lt j variables)) [
        | inl c ↦ absurd (none-some j (sym e ∙ cond-true (nat_lt j variables) (Some j) None c))
        | inr c ↦ cond-false (nat_lt j variables) _ _ c ∙ sym (cond-false (nat_lt j variables) _ _ c)
      ]

-- ---- which nodes they are of

-- names are of nodes of any kind that has the root, what variables name, and where pointers of such nodes lead
module _ (These : ℕ → Type 0) (heap : Heap) (call : Call) (ds : List Bind) (variables : ℕ) (root : These heap.root.0) (all : AllNamed These call.variables) (along : LeadsAlong These heap) where
  number_these : (o : Option NodeId) → ((x : NodeId) → o ≡ Some x → These x.0) → (y : ℕ) → number o ≡ Some y → These y
  number_these None h y e = absurd (none-some y e)
  number_these (Some x) h y e = subst These (same_Some x.0 y e) (h x refl)

  read_these : (es : List Bind) (k y : ℕ) → read_at heap call es k ≡ Some y → These y
  read_these [] k y e = absurd (none-some y e)
  read_these (d ∷ es) zero y e =
      number_these (option_flatten (pointer_of heap call d.from d.pointer))
      (λ x at. pointer_in These heap call root all along d.from d.pointer x (flattened (pointer_of heap call d.from d.pointer) x at)) y e
  read_these (d ∷ es) (suc k) y e = read_these es k y e

  pub named_these : (i y : ℕ) → own_named heap call ds variables call.variables i ≡ Some y → These y
  named_these zero y e = subst These (same_Some heap.root.0 y e) root
  named_these (suc j) y e = elim (cases_Bool (nat_lt j variables)) [
    | inl c ↦ number_these (option_flatten (slice_get call.variables j)) (λ x at. all j x (flattened (slice_get call.variables j) x at)) y (sym (cond-true (nat_lt j variables) _ _ c) ∙ e)
    | inr c ↦ read_these ds (j - variables) y (sym (cond-false (nat_lt j variables) _ _ c) ∙ e)
  ]

-- ---- whose nodes they are of

module _ (F : Frame) (g : GhostWorld) (sound : IsSound F.header g) (thread : ThreadId) (call : Call) (pending : get g.world.calls thread.0 ≡ Some call) (base : Scene) (spent : Bool)
    (variables : ℕ) (ds : List Bind) (own : base.named ≡ own_named g.world.heap call ds variables call.variables) (mine : (x : ℕ) → IsOwn g.kept.owners x thread.0 → base.mine x ≡ true) where
  abbrev Mine : ℕ → Type 0
  Mine x = IsShared g.kept.owners x ⊎ IsOwn g.kept.owners x thread.0

  root_mine : Mine g.world.heap.root.0
  root_mine = inl sound.root_is_shared

  all_mine : AllNamed Mine call.variables
  all_mine v x at = elim (sound.variables thread.0 call pending v x at) [ inl s ↦ inl s | inr o ↦ inr o.0 ]

  leads_mine : LeadsAlong Mine g.world.heap
  leads_mine x node f y (inl shared) found leads = inl (sound.shared_leads x y.0 shared (node, f, y, found, leads, refl))
  leads_mine x node f y (inr owned) found leads =
      let below : y.0 < length g.world.heap.nodes = sound.closed.pointers x node found f y leads in
      elim (slice_get_cases g.kept.owners y.0).1 [
        | inl is ↦ by_owner is.0 is.2
        | inr past ↦ absurd (let le = past.0 in let same = sound.owned in omega arith)
      ]
    where
      by_owner : (o : Option ℕ) → slice_get g.kept.owners y.0 ≡ Some o → Mine y.0
      by_owner None at = inl at
      by_owner (Some t) at = subst Mine (sound.own_is_apart y.0 t x at (node, f, y, found, leads, refl)) (inr owned)

  named_mine : (i y : ℕ) → own_named g.world.heap call ds variables call.variables i ≡ Some y → Mine y
  named_mine = named_these Mine g.world.heap call ds variables root_mine all_mine leads_mine

  abbrev P : Picture
  P = shown F (with_heap base g.world.heap g.kept.owners spent)

  -- each name of an own picture is null, shared or the own thread's
  pub own_usable : (i : ℕ) → i < F.names → is_usable P i ≡ true
  own_usable i bi = by_name (base.named i) refl
    where
      fits : nat_lt i F.names ≡ true
      fits = lt-ltb i F.names bi

      by_name : (o : Option ℕ) → base.named i ≡ o → is_usable P i ≡ true
      by_name None e = or_left _ _ (or_left _ _ (shown_says F (with_heap base g.world.heap g.kept.owners spent) (Part.Null i) fits ∙ ap is_none e))
      by_name (Some y) e = elim (named_mine i y (sym (ap (λ (f : ℕ → Option ℕ). f i) own) ∙ e)) [
        | inl s ↦ or_left _ _ (or_right _ _ (shown_says F (with_heap base g.world.heap g.kept.owners spent) (Part.Shared i) fits ∙ on_at (is_shared_in (with_heap base g.world.heap g.kept.owners spent)) e ∙ ap (λ o. option_map_or (λ p. is_none p) o false) s))
        | inr o ↦ or_right _ _ (shown_says F (with_heap base g.world.heap g.kept.owners spent) (Part.Mine i) fits ∙ on_at (is_mine_in (with_heap base g.world.heap g.kept.owners spent)) e
            ∙ and_from _ _ (mine y o) (ap (λ q. not (option_map_or (λ p. is_none p) q false)) o))
      ]
