-- What a lawful header gives: its root, its start nodes and its limits, one fact each.
use Rattle.std.proofs.Common.{◌≡◌, ℕ, zero, suc, ◌<◌, ◌≤◌, ◌^◌, ◌&&◌, Bool, true, false, not, List, [], ◌∷◌, length, Some, subst}
use Rattle.std.specs.Prelude.{slice_get, nat_lt, nat_le, ◌==◌}
use Rattle.std.specs.List.{list_all}
use Rattle.std.specs.Cmp.{first_so, second_so}
use Rattle.std.proofs.lemmas.Bool.{ltb-true, leb-true, not-true}
use Rattle.std.proofs.lemmas.Option.{none-some, same_Some}
use Rattle.plank_base.specs.Keys.{is_ordinary}
use Rattle.plank_base.specs.declared.limits.TheConstants.{FLAGS_LIMIT, POINTERS_LIMIT, NODES_LIMIT}
use Rattle.plank_prog.specs.declared.headers.StartNode.{StartNode}
use Rattle.plank_prog.specs.declared.headers.Header.{Header}
use Rattle.plank_prog.specs.Headers.{is_lawful_header, is_header_within_limits, have_distinct_names, have_lawful_nodes, have_lawful_conditions, is_lawful_start_node, leads_within, optional_fits, walk_scope, freeze_scope, keep_scope}
use Rattle.plank_prog.specs.Scopes.{condition_fits}

-- a test that each item passes, at one item
pub list_all_at : {X : Type 0} (test : X → Bool) (xs : List X) (i : ℕ) (x : X) → list_all test xs ≡ true → slice_get xs i ≡ Some x → test x ≡ true
list_all_at test [] i x all read = absurd (none-some x read)
list_all_at test (y ∷ ys) zero x all read = subst (λ z. test z ≡ true) (same_Some y x read) (first_so (test y) (list_all test ys) all)
list_all_at test (y ∷ ys) (suc i) x all read = list_all_at test ys i x (second_so (test y) (list_all test ys) all) read

module _ (h : Header) (lawful : is_lawful_header h ≡ true) where
  before_conditions : (is_header_within_limits h && have_distinct_names h && have_lawful_nodes h) ≡ true
  before_conditions =
      first_so (is_header_within_limits h && have_distinct_names h && have_lawful_nodes h) (have_lawful_conditions h) lawful

  pub lawful_nodes : have_lawful_nodes h ≡ true
  lawful_nodes = second_so (is_header_within_limits h && have_distinct_names h) (have_lawful_nodes h) before_conditions

  pub lawful_conditions : have_lawful_conditions h ≡ true
  lawful_conditions =
      second_so (is_header_within_limits h && have_distinct_names h && have_lawful_nodes h) (have_lawful_conditions h) lawful

  pub lawful_freeze : optional_fits (freeze_scope h) h.freeze ≡ true
  lawful_freeze =
      second_so
      (list_all (λ p. optional_fits (walk_scope h) p.edge) h.pointers && condition_fits (walk_scope h) h.holds && list_all (λ k. condition_fits (keep_scope h) k.condition) h.keeps)
      (optional_fits (freeze_scope h) h.freeze) lawful_conditions

  within_limits : is_header_within_limits h ≡ true
  within_limits =
      first_so (is_header_within_limits h) (have_distinct_names h)
      (first_so (is_header_within_limits h && have_distinct_names h) (have_lawful_nodes h) before_conditions)

  pub few_pointers : length h.pointers ≤ POINTERS_LIMIT
  few_pointers =
      leb-true (length h.pointers) POINTERS_LIMIT
      (second_so (nat_le (length h.flags) FLAGS_LIMIT) (nat_le (length h.pointers) POINTERS_LIMIT)
      (first_so (nat_le (length h.flags) FLAGS_LIMIT && nat_le (length h.pointers) POINTERS_LIMIT) (nat_le (length h.nodes) NODES_LIMIT) within_limits))

  pub few_flags : length h.flags ≤ FLAGS_LIMIT
  few_flags =
      leb-true (length h.flags) FLAGS_LIMIT
      (first_so (nat_le (length h.flags) FLAGS_LIMIT) (nat_le (length h.pointers) POINTERS_LIMIT)
      (first_so (nat_le (length h.flags) FLAGS_LIMIT && nat_le (length h.pointers) POINTERS_LIMIT) (nat_le (length h.nodes) NODES_LIMIT) within_limits))

  pub root_within : h.root < length h.nodes
  root_within =
      ltb-true h.root (length h.nodes)
      (first_so (nat_lt h.root (length h.nodes)) (list_all (is_lawful_start_node h) h.nodes) lawful_nodes)

  pub lawful_node : (x : ℕ) (n : StartNode) → slice_get h.nodes x ≡ Some n → is_lawful_start_node h n ≡ true
  lawful_node x n read =
      list_all_at (is_lawful_start_node h) h.nodes x n
      (second_so (nat_lt h.root (length h.nodes)) (list_all (is_lawful_start_node h) h.nodes) lawful_nodes) read

  -- the key of a start node is MIN or MAX
  pub start_key_is_end : (x : ℕ) (n : StartNode) → slice_get h.nodes x ≡ Some n → is_ordinary n.key ≡ false
  start_key_is_end x n read =
      not-true (is_ordinary n.key)
      (first_so (not (is_ordinary n.key)) (nat_lt n.flags (2 ^ length h.flags))
      (first_so (not (is_ordinary n.key) && nat_lt n.flags (2 ^ length h.flags)) (length n.pointers == length h.pointers)
      (first_so (not (is_ordinary n.key) && nat_lt n.flags (2 ^ length h.flags) && (length n.pointers == length h.pointers)) (list_all (leads_within (length h.nodes)) n.pointers)
      (lawful_node x n read))))

  -- a pointer of a start node leads to a start node
  pub start_pointer_leads_within : (x : ℕ) (n : StartNode) (f to : ℕ) → slice_get h.nodes x ≡ Some n → slice_get n.pointers f ≡ Some (Some to) → to < length h.nodes
  start_pointer_leads_within x n f to read leads =
      ltb-true to (length h.nodes)
      (list_all_at (leads_within (length h.nodes)) n.pointers f (Some to)
      (second_so (not (is_ordinary n.key) && nat_lt n.flags (2 ^ length h.flags) && (length n.pointers == length h.pointers)) (list_all (leads_within (length h.nodes)) n.pointers)
      (lawful_node x n read))
      leads)
