-- The writes of a block, one after another on one node, are the change that a turn makes.
use Rattle.std.proofs.Common.{◌≡◌, ℕ, zero, suc, ◌<◌, ◌==◌, Bool, true, false, not, List, [], ◌∷◌, length, set, length-set, Option, Some, None, refl, sym, ◌∙◌, ap, subst, inl, inr, arith}
use Rattle.std.specs.Prelude.{◌&&◌, slice_get, slice_set, is_some, unwrap_or, option_map}
use Rattle.std.specs.List.{list_any, list_all}
use Rattle.std.specs.Option.{option_map_or, option_flatten}
use Rattle.std.proofs.lemmas.Bool.{false≢true, and_parts, or_left, or_right, cases_Bool, cases_eq, eq-eqb, ne_eqb, ltb-true, not-true, cond-true, cond-false}
use Rattle.std.proofs.lemmas.Option.{none-some, same_Some}
use Rattle.plank_base.specs.declared.keys.NodeId.{NodeId}
use Rattle.plank_base.specs.declared.keys.ThreadId.{ThreadId}
use Rattle.plank_base.specs.declared.limits.TheConstants.{POINTERS_LIMIT, FLAGS_LIMIT}
use Rattle.plank_prog.specs.declared.headers.Header.{Header}
use Rattle.plank_prog.specs.declared.blocks.Reference.{Reference}
use Rattle.plank_prog.specs.declared.blocks.Value.{Value}
use Rattle.plank_prog.specs.declared.blocks.Write.{Write}
use Rattle.plank_prog.specs.Views.{is_bit_set}
use Rattle.plank_prog.specs.Names.{all_pairs}
use Rattle.plank_prog.specs.Headers.{is_lawful_header}
use Rattle.plank_prog.specs.Blocks.{written_node, write_reads, value_reads, same_reference, reference_fits, write_fits, writes_agree}
use Rattle.plank_prog.proofs.HeaderFacts.{few_flags, few_pointers}
use Rattle.plank_heap.specs.declared.nodes.Node.{Node}
use Rattle.plank_heap.specs.declared.heaps.Heap.{Heap}
use Rattle.plank_heap.specs.Changes.{with_node, with_bit, fresh_node}
use Rattle.plank_heap.proofs.Flags.{of_byte, written_flag, other_flag}
use Rattle.plank_sem.specs.declared.calls.Call.{Call}
use Rattle.plank_sem.specs.Reads.{named, value_of}
use Rattle.plank_sem.specs.Actions.{changed, changed_by}
use Rattle.plank_sem.proofs.Lists.{set_elsewhere, set_found}
use Rattle.plank_pic.specs.Frames.{Frame}
use Rattle.plank_pic.specs.Steps.{or_else}
use Rattle.plank_pic.specs.Blocks.{Turn, put_flag, put_pointer, put_lock, value_name, change}
use Rattle.plank_scene.specs.Scenes.{Scene, node_at, leads, is_node}
use Rattle.plank_scene.specs.Scenes as scenes
use Rattle.plank_scene.specs.Worlds.{IsScene}
use Rattle.plank_scene.specs.Turns.{number, Knows, IsTurnOf}
use Rattle.plank_scene.specs.Writes.{with_heap, new_lead, IsWritten}
use Rattle.plank_scene.proofs.Turns.Testing.{reference_itself}
use Rattle.plank_scene.proofs.Scenes.Showing.{node_found}

pub set_at : {X : Type 0} (xs : List X) (i : ℕ) (y : X) → i < length xs → slice_get (set xs i y) i ≡ Some y
set_at [] i y h = absurd (omega arith)
set_at (x ∷ xs) zero y h = refl
set_at (x ∷ xs) (suc i) y h = set_at xs i y (omega arith)

-- ---- no second write of one field

pub no_flag : (q : Reference) (f : ℕ) (to : Bool) (ws : List Write) → list_all (writes_agree (Write.Flag q f to)) ws ≡ true → put_flag f ws ≡ None
no_flag q f to [] all = refl
no_flag q f to (Write.Flag r g too ∷ ws) all =
    let w = and_parts (writes_agree (Write.Flag q f to) (Write.Flag r g too)) _ all in
    cond-false (f == g) (Some too) (put_flag f ws) (not-true (f == g) (and_parts (same_reference q r) (not (f == g)) w.0).1) ∙ no_flag q f to ws w.1
no_flag q f to (Write.Pointer r g too ∷ ws) all = no_flag q f to ws (and_parts (writes_agree (Write.Flag q f to) (Write.Pointer r g too)) _ all).1
no_flag q f to (Write.TakeLock r ∷ ws) all = no_flag q f to ws (and_parts (writes_agree (Write.Flag q f to) (Write.TakeLock r)) _ all).1
no_flag q f to (Write.FreeLock r ∷ ws) all = no_flag q f to ws (and_parts (writes_agree (Write.Flag q f to) (Write.FreeLock r)) _ all).1

pub no_pointer : (q : Reference) (f : ℕ) (to : Value) (ws : List Write) → list_all (writes_agree (Write.Pointer q f to)) ws ≡ true → put_pointer f ws ≡ None
no_pointer q f to [] all = refl
no_pointer q f to (Write.Pointer r g too ∷ ws) all =
    let w = and_parts (writes_agree (Write.Pointer q f to) (Write.Pointer r g too)) _ all in
    cond-false (f == g) (Some too) (put_pointer f ws) (not-true (f == g) (and_parts (same_reference q r) (not (f == g)) w.0).1) ∙ no_pointer q f to ws w.1
no_pointer q f to (Write.Flag r g too ∷ ws) all = no_pointer q f to ws (and_parts (writes_agree (Write.Pointer q f to) (Write.Flag r g too)) _ all).1
no_pointer q f to (Write.TakeLock r ∷ ws) all = no_pointer q f to ws (and_parts (writes_agree (Write.Pointer q f to) (Write.TakeLock r)) _ all).1
no_pointer q f to (Write.FreeLock r ∷ ws) all = no_pointer q f to ws (and_parts (writes_agree (Write.Pointer q f to) (Write.FreeLock r)) _ all).1

take_lock_once : (q : Reference) (ws : List Write) → list_all (writes_agree (Write.TakeLock q)) ws ≡ true → put_lock ws ≡ None
take_lock_once q [] all = refl
take_lock_once q (Write.Flag r g too ∷ ws) all = take_lock_once q ws (and_parts (writes_agree (Write.TakeLock q) (Write.Flag r g too)) _ all).1
take_lock_once q (Write.Pointer r g too ∷ ws) all = take_lock_once q ws (and_parts (writes_agree (Write.TakeLock q) (Write.Pointer r g too)) _ all).1
take_lock_once q (Write.TakeLock r ∷ ws) all = absurd (false≢true (and_parts (same_reference q r) false (and_parts (writes_agree (Write.TakeLock q) (Write.TakeLock r)) _ all).0).1)
take_lock_once q (Write.FreeLock r ∷ ws) all = absurd (false≢true (and_parts (same_reference q r) false (and_parts (writes_agree (Write.TakeLock q) (Write.FreeLock r)) _ all).0).1)

free_lock_once : (q : Reference) (ws : List Write) → list_all (writes_agree (Write.FreeLock q)) ws ≡ true → put_lock ws ≡ None
free_lock_once q [] all = refl
free_lock_once q (Write.Flag r g too ∷ ws) all = free_lock_once q ws (and_parts (writes_agree (Write.FreeLock q) (Write.Flag r g too)) _ all).1
free_lock_once q (Write.Pointer r g too ∷ ws) all = free_lock_once q ws (and_parts (writes_agree (Write.FreeLock q) (Write.Pointer r g too)) _ all).1
free_lock_once q (Write.TakeLock r ∷ ws) all = absurd (false≢true (and_parts (same_reference q r) false (and_parts (writes_agree (Write.FreeLock q) (Write.TakeLock r)) _ all).0).1)
free_lock_once q (Write.FreeLock r ∷ ws) all = absurd (false≢true (and_parts (same_reference q r) false (and_parts (writes_agree (Write.FreeLock q) (Write.FreeLock r)) _ all).0).1)

-- ---- the written node

abbrev pub lead_of : List (Option NodeId) → ℕ → Option ℕ
lead_of ts f = number (option_flatten (slice_get ts f))

-- where a written pointer leads, and who has a written lock
abbrev pub put_node : Heap → Call → Option Value → Option ℕ → Option ℕ
put_node heap call None old = old
put_node heap call (Some to) old = number (value_of heap call to)

abbrev pub put_holder : ThreadId → Option Bool → Option ThreadId → Option ThreadId
put_holder thread None old = old
put_holder thread (Some true) old = Some thread
put_holder thread (Some false) old = None

-- a write reads the node that it writes
pub head_reads : (v : Write) → write_reads (written_node v) v ≡ true
head_reads (Write.Flag q g to) = reference_itself q
head_reads (Write.Pointer q g to) = or_left _ _ (reference_itself q)
head_reads (Write.TakeLock q) = reference_itself q
head_reads (Write.FreeLock q) = reference_itself q

module _ (h : Header) (lawful : is_lawful_header h ≡ true) (variables : ℕ) (heap : Heap) (thread : ThreadId) (call : Call) where
  same_key : (ws : List Write) (node : Node) → (changed_by heap thread call ws node).key ≡ node.key
  same_key [] node = refl
  same_key (Write.Flag q g to ∷ ws) node = same_key ws (changed heap thread call (Write.Flag q g to) node)
  same_key (Write.Pointer q g to ∷ ws) node = same_key ws (changed heap thread call (Write.Pointer q g to) node)
  same_key (Write.TakeLock q ∷ ws) node = same_key ws (changed heap thread call (Write.TakeLock q) node)
  same_key (Write.FreeLock q ∷ ws) node = same_key ws (changed heap thread call (Write.FreeLock q) node)

  flag_within : (f : ℕ) → f < length h.flags → f < FLAGS_LIMIT
  flag_within f few = let le = few_flags h lawful in omega arith

  flag_put : (ws : List Write) → list_all (write_fits h variables) ws ≡ true → all_pairs writes_agree ws ≡ true → (node : Node) (f : ℕ) → f < length h.flags
      → is_bit_set (changed_by heap thread call ws node).flags f ≡ or_else (λ b. b) (put_flag f ws) (is_bit_set node.flags f)
  flag_put [] fits apart node f few = refl
  flag_put (Write.Flag q g to ∷ ws) fits apart node f few =
      let w = and_parts (write_fits h variables (Write.Flag q g to)) _ fits in
      let v = and_parts (list_all (writes_agree (Write.Flag q g to)) ws) (all_pairs writes_agree ws) apart in
      let g_within : g < FLAGS_LIMIT = flag_within g (ltb-true g (length h.flags) (and_parts (reference_fits variables q) _ w.0).1) in
      flag_put ws w.1 v.1 (changed heap thread call (Write.Flag q g to) node) f few
      ∙ elim (cases_eq f g) [
        | inl same ↦
            ap (λ o. or_else (λ b. b) o (is_bit_set (with_bit node.flags g to) f)) (ap (λ i. put_flag i ws) same ∙ no_flag q g to ws v.0)
            ∙ ap (is_bit_set (with_bit node.flags g to)) same ∙ written_flag node.flags g to (of_byte g g_within)
            ∙ ap (λ o. or_else (λ b. b) o (is_bit_set node.flags f)) (sym (cond-true (f == g) (Some to) (put_flag f ws) (eq-eqb f g same)))
        | inr other ↦
            ap (or_else (λ b. b) (put_flag f ws)) (other_flag node.flags g f to (of_byte g g_within) (of_byte f (flag_within f few)) other)
            ∙ ap (λ o. or_else (λ b. b) o (is_bit_set node.flags f)) (sym (cond-false (f == g) (Some to) (put_flag f ws) (ne_eqb f g other)))
      ]
  flag_put (Write.Pointer q g to ∷ ws) fits apart node f few =
      flag_put ws (and_parts (write_fits h variables (Write.Pointer q g to)) _ fits).1 (and_parts (list_all (writes_agree (Write.Pointer q g to)) ws) _ apart).1 (changed heap thread call (Write.Pointer q g to) node) f few
  flag_put (Write.TakeLock q ∷ ws) fits apart node f few =
      flag_put ws (and_parts (write_fits h variables (Write.TakeLock q)) _ fits).1 (and_parts (list_all (writes_agree (Write.TakeLock q)) ws) _ apart).1 (changed heap thread call (Write.TakeLock q) node) f few
  flag_put (Write.FreeLock q ∷ ws) fits apart node f few =
      flag_put ws (and_parts (write_fits h variables (Write.FreeLock q)) _ fits).1 (and_parts (list_all (writes_agree (Write.FreeLock q)) ws) _ apart).1 (changed heap thread call (Write.FreeLock q) node) f few

  pointer_put : (ws : List Write) → list_all (write_fits h variables) ws ≡ true → all_pairs writes_agree ws ≡ true → (node : Node) → length node.pointers ≡ POINTERS_LIMIT → (f : ℕ) → f < length h.pointers
      → lead_of (changed_by heap thread call ws node).pointers f ≡ put_node heap call (put_pointer f ws) (lead_of node.pointers f)
  pointer_put [] fits apart node wide f few = refl
  pointer_put (Write.Pointer q g to ∷ ws) fits apart node wide f few =
      let w = and_parts (write_fits h variables (Write.Pointer q g to)) _ fits in
      let v = and_parts (list_all (writes_agree (Write.Pointer q g to)) ws) (all_pairs writes_agree ws) apart in
      let within : f < length node.pointers = (let le = few_pointers h lawful in omega (arith, wide)) in
      pointer_put ws w.1 v.1 (changed heap thread call (Write.Pointer q g to) node) (length-set node.pointers g (value_of heap call to) ∙ wide) f few
      ∙ elim (cases_eq f g) [
        | inl same ↦
            ap (λ o. put_node heap call o (lead_of (slice_set node.pointers g (value_of heap call to)) f)) (ap (λ i. put_pointer i ws) same ∙ no_pointer q g to ws v.0)
            ∙ ap (λ i. lead_of (slice_set node.pointers i (value_of heap call to)) f) (sym same)
            ∙ ap (λ o. number (option_flatten o)) (set_at node.pointers f (value_of heap call to) within)
            ∙ ap (λ o. put_node heap call o (lead_of node.pointers f)) (sym (cond-true (f == g) (Some to) (put_pointer f ws) (eq-eqb f g same)))
        | inr other ↦
            ap (λ o. put_node heap call (put_pointer f ws) (number (option_flatten o))) (set_elsewhere node.pointers g (value_of heap call to) f other)
            ∙ ap (λ o. put_node heap call o (lead_of node.pointers f)) (sym (cond-false (f == g) (Some to) (put_pointer f ws) (ne_eqb f g other)))
      ]
  pointer_put (Write.Flag q g to ∷ ws) fits apart node wide f few =
      pointer_put ws (and_parts (write_fits h variables (Write.Flag q g to)) _ fits).1 (and_parts (list_all (writes_agree (Write.Flag q g to)) ws) _ apart).1 (changed heap thread call (Write.Flag q g to) node) wide f few
  pointer_put (Write.TakeLock q ∷ ws) fits apart node wide f few =
      pointer_put ws (and_parts (write_fits h variables (Write.TakeLock q)) _ fits).1 (and_parts (list_all (writes_agree (Write.TakeLock q)) ws) _ apart).1 (changed heap thread call (Write.TakeLock q) node) wide f few
  pointer_put (Write.FreeLock q ∷ ws) fits apart node wide f few =
      pointer_put ws (and_parts (write_fits h variables (Write.FreeLock q)) _ fits).1 (and_parts (list_all (writes_agree (Write.FreeLock q)) ws) _ apart).1 (changed heap thread call (Write.FreeLock q) node) wide f few

  lock_put : (ws : List Write) → all_pairs writes_agree ws ≡ true → (node : Node) → (changed_by heap thread call ws node).lock ≡ put_holder thread (put_lock ws) node.lock
  lock_put [] apart node = refl
  lock_put (Write.Flag q g to ∷ ws) apart node = lock_put ws (and_parts (list_all (writes_agree (Write.Flag q g to)) ws) _ apart).1 (changed heap thread call (Write.Flag q g to) node)
  lock_put (Write.Pointer q g to ∷ ws) apart node = lock_put ws (and_parts (list_all (writes_agree (Write.Pointer q g to)) ws) _ apart).1 (changed heap thread call (Write.Pointer q g to) node)
  lock_put (Write.TakeLock q ∷ ws) apart node =
      let v = and_parts (list_all (writes_agree (Write.TakeLock q)) ws) (all_pairs writes_agree ws) apart in
      lock_put ws v.1 (changed heap thread call (Write.TakeLock q) node) ∙ ap (λ o. put_holder thread o (Some thread)) (take_lock_once q ws v.0)
  lock_put (Write.FreeLock q ∷ ws) apart node =
      let v = and_parts (list_all (writes_agree (Write.FreeLock q)) ws) (all_pairs writes_agree ws) apart in
      lock_put ws v.1 (changed heap thread call (Write.FreeLock q) node) ∙ ap (λ o. put_holder thread o None) (free_lock_once q ws v.0)

-- a value that is put into a pointer stands in the writes
pub put_reads : (f : ℕ) (q : Reference) (ws : List Write) → put_pointer f ws ≡ Some (Value.Node q) → list_any (λ v. write_reads q v) ws ≡ true
put_reads f q [] e = absurd (none-some (Value.Node q) e)
put_reads f q (Write.Flag r g to ∷ ws) e = or_right (same_reference q r) _ (put_reads f q ws e)
put_reads f q (Write.Pointer r g to ∷ ws) e =
    elim (cases_Bool (f == g)) [
      | inl c ↦
          let same : to ≡ Value.Node q = same_Some _ _ (sym (cond-true (f == g) (Some to) (put_pointer f ws) c) ∙ e) in
          or_left _ _ (or_right (same_reference q r) _ (ap (value_reads q) same ∙ reference_itself q))
      | inr c ↦ or_right (write_reads q (Write.Pointer r g to)) _ (put_reads f q ws (sym (cond-false (f == g) (Some to) (put_pointer f ws) c) ∙ e))
    ]
put_reads f q (Write.TakeLock r ∷ ws) e = or_right (same_reference q r) _ (put_reads f q ws e)
put_reads f q (Write.FreeLock r ∷ ws) e = or_right (same_reference q r) _ (put_reads f q ws e)

-- ---- the change of a turn

module _ (F : Frame) (S : Scene) (isS : IsScene F S) (s : Turn) (thread : ThreadId) (call : Call) (is : IsTurnOf S s thread call)
    (variables : ℕ) (w : Write) (ws : List Write) (known : (r : Reference) → list_any (λ v. write_reads r v) (w ∷ ws) ≡ true → Knows F S s call r)
    (fits : list_all (write_fits F.header variables) (w ∷ ws) ≡ true) (apart : all_pairs writes_agree (w ∷ ws) ≡ true) where
  abbrev H : Header
  H = F.header

  -- the name of a value is of its node
  pub value_named : (f : ℕ) (o : Option Value) → put_pointer f (w ∷ ws) ≡ o → (old : Option ℕ) → new_lead S (option_map (value_name s) o) old ≡ put_node S.heap call o old
  value_named f None e old = refl
  value_named f (Some Value.Null) e old = refl
  value_named f (Some (Value.Node q)) e old = (known q (put_reads f q (w ∷ ws) e)).1

  value_below : (f v : ℕ) (o : Option Value) → put_pointer f (w ∷ ws) ≡ o → option_map (value_name s) o ≡ Some (Some v) → v < F.names
  value_below f v None e d = absurd (none-some (Some v) d)
  value_below f v (Some Value.Null) e d = absurd (none-some v (same_Some _ _ d))
  value_below f v (Some (Value.Node q)) e d = subst (λ n. n < F.names) (same_Some _ _ (same_Some _ _ d)) (known q (put_reads f q (w ∷ ws) e)).0

  pub at_known : Knows F S s call (written_node w)
  at_known = known (written_node w) (or_left _ _ (head_reads w))

  -- locks
  some_held : (o : Option Bool) (old : Option ThreadId) → is_some (put_holder thread o old) ≡ or_else (λ taken. taken) o (is_some old)
  some_held None old = refl
  some_held (Some true) old = refl
  some_held (Some false) old = refl

  held_by : (who : Option ℕ) (m : Bool) → is_node (Some thread.0) who ≡ m → (o : Option Bool) (old : Option ThreadId) → option_map_or (λ holder. is_node (Some holder.0) who) (put_holder thread o old) false ≡ or_else (λ taken. taken && m) o (option_map_or (λ holder. is_node (Some holder.0) who) old false)
  held_by who m e None old = refl
  held_by who m e (Some true) old = e
  held_by who m e (Some false) old = refl

  abbrev held_by_other : Option ThreadId → Bool
  held_by_other o = option_map_or (λ holder. is_node (Some holder.0) S.other) o false && not (option_map_or (λ holder. is_node (Some holder.0) S.own) o false)

  others_held : (o : Option Bool) (old : Option ThreadId) → held_by_other (put_holder thread o old) ≡ or_else (λ taken. taken && not s.mine) o (held_by_other old)
  others_held None old = refl
  others_held (Some true) old = ap (λ b. b && not (is_node (Some thread.0) S.own)) is.other ∙ ap (λ b. not s.mine && not b) is.own ∙ twice (not s.mine)
    where
      twice : (b : Bool) → (b && b) ≡ b
      twice true = refl
      twice false = refl
  others_held (Some false) old = refl

  module _ (x : NodeId) (node : Node) (at : named S.heap call (written_node w) ≡ Some x) (found : slice_get S.heap.nodes x.0 ≡ Some node) (wide : length node.pointers ≡ POINTERS_LIMIT)
      (owners : List (Option ℕ)) (spent : Bool) where
    abbrev after : Node
    after = changed_by S.heap thread call (w ∷ ws) node

    abbrev heap_after : Heap
    heap_after = with_node S.heap x.0 after

    abbrev T : Scene
    T = with_heap S heap_after owners spent

    at_x : node_at T x.0 ≡ after
    at_x = ap (λ o. unwrap_or o (fresh_node (S.unborn x.0))) (set_found S.heap.nodes x.0 after node found)

    was_x : node_at S x.0 ≡ node
    was_x = node_found S x.0 node found

    pub is_written : IsWritten F S heap_after owners spent (change s w ws) x.0
    is_written = record {
      below = at_known.0;
      named = at_known.1 ∙ ap number at;
      values = λ f v e. value_below f v (put_pointer f (w ∷ ws)) refl e;
      elsewhere = λ b other. ap (λ o. unwrap_or o (fresh_node (S.unborn b))) (set_elsewhere S.heap.nodes x.0 after b other);
      key = ap (λ (z : Node). z.key) at_x ∙ same_key H isS.lawful variables S.heap thread call (w ∷ ws) node ∙ ap (λ (z : Node). z.key) (sym was_x);
      flag = λ f few. ap (λ (z : Node). is_bit_set z.flags f) at_x ∙ flag_put H isS.lawful variables S.heap thread call (w ∷ ws) fits apart node f few
          ∙ ap (λ (z : Node). or_else (λ b. b) (put_flag f (w ∷ ws)) (is_bit_set z.flags f)) (sym was_x);
      pointer = λ f few. ap (λ (z : Node). lead_of z.pointers f) at_x ∙ pointer_put H isS.lawful variables S.heap thread call (w ∷ ws) fits apart node wide f few
          ∙ sym (value_named f (put_pointer f (w ∷ ws)) refl (lead_of node.pointers f))
          ∙ ap (λ (z : Node). new_lead S (option_map (value_name s) (put_pointer f (w ∷ ws))) (lead_of z.pointers f)) (sym was_x);
      locked = ap (λ (z : Node). is_some z.lock) at_x ∙ ap is_some (lock_put H isS.lawful variables S.heap thread call (w ∷ ws) apart node) ∙ some_held (put_lock (w ∷ ws)) node.lock
          ∙ ap (λ (z : Node). or_else (λ taken. taken) (put_lock (w ∷ ws)) (is_some z.lock)) (sym was_x);
      lock_mine = ap (λ (z : Node). scenes.has_lock S.own z) at_x ∙ ap (λ o. option_map_or (λ holder. is_node (Some holder.0) S.own) o false) (lock_put H isS.lawful variables S.heap thread call (w ∷ ws) apart node)
          ∙ held_by S.own s.mine is.own (put_lock (w ∷ ws)) node.lock ∙ ap (λ (z : Node). or_else (λ taken. taken && s.mine) (put_lock (w ∷ ws)) (scenes.has_lock S.own z)) (sym was_x);
      lock_others = ap (λ (z : Node). scenes.has_others_lock S z) at_x ∙ ap held_by_other (lock_put H isS.lawful variables S.heap thread call (w ∷ ws) apart node)
          ∙ others_held (put_lock (w ∷ ws)) node.lock ∙ ap (λ (z : Node). or_else (λ taken. taken && not s.mine) (put_lock (w ∷ ws)) (scenes.has_others_lock S z)) (sym was_x);
    }
