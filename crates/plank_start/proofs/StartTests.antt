-- What is tested of the start heap at the key 0 is so at every ordinary key.
use Rattle.std.proofs.Common.{◌≡◌, ◌↔◌, ℕ, ◌<◌, ◌≤◌, ℤ, pos, Bool, true, false, not, ◌&&◌, ◌||◌, List, [], ◌∷◌, length, map, get_or, Option, Some, None, refl, sym, ◌∙◌, ap, subst, inl, inr, arith}
use Rattle.std.specs.Prelude.{IsTrue, nat_le, slice_get, is_none, is_some}
use Rattle.std.specs.Option.{option_map_or}
use Rattle.std.specs.List.{list_all}
use Rattle.std.specs.Cmp.{first_so, second_so}
use Rattle.std.proofs.lemmas.Bool.{false≢true, leb-true, or_cases, or_left, or_right}
use Rattle.std.proofs.lemmas.List.{length-map}
use Rattle.std.proofs.lemmas.Option.{slice_get_within}
use mathlib.Core.Path.{fun_ext}
use Rattle.plank_base.specs.declared.keys.Key.{Key}
use Rattle.plank_base.specs.Paths.{meets_within}
use Rattle.plank_prog.specs.declared.conditions.Condition.{Condition}
use Rattle.plank_prog.specs.declared.headers.Header.{Header}
use Rattle.plank_prog.specs.Conditions.{value}
use Rattle.plank_base.specs.declared.limits.TheConstants.{FLAGS_LIMIT, POINTERS_LIMIT, NODES_LIMIT}
use Rattle.plank_prog.specs.Headers.{is_lawful_header, is_header_within_limits, have_distinct_names, have_lawful_nodes, have_lawful_conditions}
use Rattle.plank_prog.specs.Views.{view_of}
use Rattle.plank_base.specs.declared.keys.NodeId.{NodeId}
use Rattle.plank_heap.specs.declared.nodes.Node.{Node}
use Rattle.plank_heap.specs.declared.heaps.Heap.{Heap}
use Rattle.plank_heap.specs.Heaps.{start_node, start_heap, view_of_node}
use Rattle.plank_heap.specs.Walks.{next, walk_visits, contains}
use Rattle.plank_heap.proofs.Starts.{start_next, start_value, start_contains}
use Rattle.plank_pic.specs.Below.{some_below}
use Rattle.plank_fact.specs.Start.{leads_in_order, meets_keeps, meets_rules, breaks_rules, StartFails}
use Rattle.plank_pic.proofs.Below.{some_found, some_there}

-- what two pointers show
shows_null : (o : Option NodeId) (null : Bool) → is_some o ≡ not null → is_none o ≡ null
shows_null None true e = refl
shows_null (Some to) false e = refl
shows_null None false e = absurd (false≢true e)
shows_null (Some to) true e = absurd (false≢true (sym e))

two_shown : (ps : List (Option NodeId)) (first second : Bool) → length ps ≡ 2 → is_some (get_or ps 0 None) ≡ not first → is_some (get_or ps 1 None) ≡ not second → map (λ o. is_none o) ps ≡ first ∷ second ∷ []
two_shown [] first second n a b = absurd (omega arith)
two_shown (p ∷ []) first second n a b = absurd (omega arith)
two_shown (p ∷ q ∷ []) first second n a b =
    ap (λ t. t ∷ is_none q ∷ []) (shows_null p first a) ∙ ap (λ t. first ∷ t ∷ []) (shows_null q second b)
two_shown (p ∷ q ∷ r ∷ rs) first second n a b = absurd (omega arith)

-- the same at a node of any heap
pub keeps_shown : (h : Header) (heap : Heap) (x : ℕ) (node : Node) (visited first second : Bool) → visited ≡ walk_visits h heap (pos 0) x → length node.pointers ≡ 2 → is_some (get_or node.pointers 0 None) ≡ not first → is_some (get_or node.pointers 1 None) ≡ not second
    → list_all (λ k. value (view_of node.key node.flags (first ∷ second ∷ []) (Key.Num (pos 0)) visited) k.condition) h.keeps ≡ meets_keeps h heap (pos 0) x node
keeps_shown h heap x node visited first second v n a b =
    ap (λ (t : Bool). list_all (λ k. value (view_of node.key node.flags (first ∷ second ∷ []) (Key.Num (pos 0)) t) k.condition) h.keeps) v
    ∙ ap (λ (nulls : List Bool). list_all (λ k. value (view_of node.key node.flags nulls (Key.Num (pos 0)) (walk_visits h heap (pos 0) x)) k.condition) h.keeps)
    (sym (two_shown node.pointers first second n a b))

module _ (h : Header) (lawful : is_lawful_header h ≡ true) (j : ℤ) where
  same_visits : (x : ℕ) → walk_visits h (start_heap h) j x ≡ walk_visits h (start_heap h) (pos 0) x
  same_visits x =
      let same : next h (start_heap h) j ≡ next h (start_heap h) (pos 0) = fun_ext (start_next h lawful j (pos 0)) in
      ap (λ (f : ℕ → Option ℕ). meets_within f (length (start_heap h).nodes) h.root x) same

  same_keeps : (x : ℕ) (node : Node) → slice_get (start_heap h).nodes x ≡ Some node → meets_keeps h (start_heap h) j x node ≡ meets_keeps h (start_heap h) (pos 0) x node
  same_keeps x node read =
      let visited = walk_visits h (start_heap h) j x in
      let values : (λ (c : Condition). value (view_of_node node j visited) c) ≡ (λ (c : Condition). value (view_of_node node (pos 0) visited) c) =
      fun_ext (λ c. start_value h lawful j (pos 0) x node visited c read) in
      ap (λ (v : Condition → Bool). list_all (λ k. v k.condition) h.keeps) values
      ∙ ap (λ (b : Bool). list_all (λ k. value (view_of_node node (pos 0) b) k.condition) h.keeps) (same_visits x)

  broken : (x : ℕ) (o : Option Node) → slice_get (start_heap h).nodes x ≡ o
      → option_map_or (λ node. not (meets_rules h (start_heap h) j x node)) o false ≡ option_map_or (λ node. not (meets_rules h (start_heap h) (pos 0) x node)) o false
  broken x None read = refl
  broken x (Some node) read =
      ap (λ b. not (b && leads_in_order h (start_heap h) node 0 && leads_in_order h (start_heap h) node 1)) (same_keeps x node read)

  same_breaks : (x : ℕ) → breaks_rules h (start_heap h) j x ≡ breaks_rules h (start_heap h) (pos 0) x
  same_breaks x = broken x (slice_get (start_heap h).nodes x) refl

-- what breaks a rule is a node
is_node : (h : Header) (x : ℕ) (o : Option Node) → slice_get (start_heap h).nodes x ≡ o → option_map_or (λ node. not (meets_rules h (start_heap h) (pos 0) x node)) o false ≡ true → x < length (start_heap h).nodes
is_node h x None read e = absurd (false≢true e)
is_node h x (Some node) read e = slice_get_within (start_heap h).nodes x node read

module _ (h : Header) (lawful : is_lawful_header h ≡ true) where
  abbrev pub broken_test : Bool
  broken_test = some_below (breaks_rules h (start_heap h) (pos 0)) (length (start_heap h).nodes)

  abbrev pub set_test : Bool
  set_test = contains h (start_heap h) (pos 0)

  test_fails : (broken_test || set_test) ≡ true → StartFails h
  test_fails e =
      elim (or_cases broken_test set_test e) [
        | inl b ↦ let found = some_found (breaks_rules h (start_heap h) (pos 0)) (length (start_heap h).nodes) b in (pos 0, inl (found.0, found.2))
        | inr s ↦ (pos 0, inr s)
      ]

  fails_test : StartFails h → (broken_test || set_test) ≡ true
  fails_test fails =
      let j = fails.0 in
      elim fails.1 [
        | inl b ↦
            let x = b.0 in
            let broken_at : breaks_rules h (start_heap h) (pos 0) x ≡ true = sym (same_breaks h lawful j x) ∙ b.1 in
            let within : x < length (start_heap h).nodes = is_node h x (slice_get (start_heap h).nodes x) refl broken_at in
            or_left broken_test set_test (some_there (breaks_rules h (start_heap h) (pos 0)) (length (start_heap h).nodes) x within broken_at)
        | inr s ↦ or_right broken_test set_test (sym (start_contains h lawful j (pos 0)) ∙ s)
      ]

  pub start_decides : IsTrue (broken_test || set_test) ↔ StartFails h
  start_decides = (test_fails, fails_test)

-- the start heap has no more nodes than the limit
pub few_start_nodes : (h : Header) → is_lawful_header h ≡ true → length (start_heap h).nodes ≤ NODES_LIMIT
few_start_nodes h lawful =
    subst (λ n. n ≤ NODES_LIMIT) (sym (length-map h.nodes start_node))
    (leb-true (length h.nodes) NODES_LIMIT
    (second_so (nat_le (length h.flags) FLAGS_LIMIT && nat_le (length h.pointers) POINTERS_LIMIT) (nat_le (length h.nodes) NODES_LIMIT)
    (first_so (is_header_within_limits h) (have_distinct_names h)
    (first_so (is_header_within_limits h && have_distinct_names h) (have_lawful_nodes h)
    (first_so (is_header_within_limits h && have_distinct_names h && have_lawful_nodes h) (have_lawful_conditions h) lawful)))))
