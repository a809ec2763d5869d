-- Where a block breaks no rule of typing, a variable that it binds occurs once.
use Rattle.std.proofs.Common.{◌≡◌, ℕ, ◌+◌, ◌≤◌, Bool, true, false, not, List, [], ◌∷◌, ◌++◌, Option, Some, None, refl, ◌∙◌, ap, subst, arith}
use Rattle.std.specs.Prelude.{◌==◌}
use Rattle.std.specs.List.{list_all, list_any, flat_map}
use Rattle.std.specs.Cmp.{first_so, second_so}
use Rattle.plank_ast.specs.declared.statements.Bind.{Bind as BindTree}
use Rattle.plank_ast.specs.declared.statements.Block.{Block as BlockTree}
use Rattle.plank_ast.specs.declared.methods.Method.{Method}
use Rattle.plank_ast.specs.declared.texts.Text.{Text}
use Rattle.plank_prog.specs.declared.blocks.Reference.{Reference}
use Rattle.plank_prog.specs.declared.blocks.Bind.{Bind}
use Rattle.plank_prog.specs.declared.blocks.Block.{Block}
use Rattle.plank_prog.specs.Names.{all_pairs, names_differ}
use Rattle.plank_prog.specs.Blocks.{block_reads, binds_stand_alone}
use Rattle.plank_rules.specs.Declarations.{same_name, is_among, number_of, variables_of}
use Rattle.plank_rules.specs.StatementRules.{name_rules, read_rules, test_line_names, write_names, with_names, bind_names, block_names, bound_by, bind_rules, block_reuses}
use Rattle.plank_rules.specs.MethodRules.{method_scope}
use Rattle.plank_rules.specs.BrokenRules.{declared_by as rules_header}
use Rattle.plank_rules.specs.declared.names.Declared.{Declared}
use Rattle.plank_type.specs.Operands.{reference_of, bind_to, bind_of, binds_of}
use Rattle.plank_type.specs.Statements.{atomic_block}
use Rattle.plank_type.proofs.Tests.{and_so, left_none, right_none}
use Rattle.plank_type.proofs.NamesOnce.{times, times_append, own_bit, bit, none_first, none_rest, bound_once, variables_bound, nodes_read, times_in_binds, variable_bound}
use Rattle.plank_type.proofs.UnreadNames.{kept_any, block_unread}
use Rattle.plank_type.proofs.KeptPairs.{kept_pairs, head_false}
use Rattle.plank_type.proofs.KnownNames.{numbers_apart, name_known}

bind_numbered : (to : Option ℕ) (from : Reference) (pointer : Option ℕ) (d : Bind) → bind_to to from pointer ≡ Some d → to ≡ Some d.to
bind_numbered None from pointer d h = absurd (cc)
bind_numbered (Some to) from None d h = absurd (cc)
bind_numbered (Some to) from (Some pointer) d h =
    let same : record { to = to; from = from; pointer = pointer } ≡ d = cc in
    ap (λ (e : Bind). Some e.to) same

module _ (m : Method) where
  abbrev vs : List (List ℕ)
  vs = variables_of m

  -- whether each bind binds a variable
  abbrev pub are_known : List BindTree → Bool
  are_known bs = list_all (λ b. is_among (method_scope m).nodes b.variable.label) bs

  none_else : (l : List ℕ) (bs : List BindTree) → times l (variables_bound bs) ≡ 0 → list_all (λ c. names_differ l c.variable.label) bs ≡ true
  none_else l [] h = refl
  none_else l (b ∷ bs) h =
      and_so (names_differ l b.variable.label) (list_all (λ c. names_differ l c.variable.label) bs)
      (ap not (none_first (same_name l b.variable.label) (times l (variables_bound bs)) h))
      (none_else l bs (none_rest (same_name l b.variable.label) (times l (variables_bound bs)) h))

  once_here : (n k : ℕ) → n ≡ 1 → (1 ≤ n + k → n + k ≤ 1) → k ≡ 0
  once_here n k e h = let most : n + k ≤ 1 = h (omega arith) in omega arith

  once_there : (n k : ℕ) → 1 ≤ k → (1 ≤ n + k → n + k ≤ 1) → k ≤ 1
  once_there n k some h = let most : n + k ≤ 1 = h (omega arith) in omega arith

  -- variables that are bound once differ
  bound_apart : (bs : List BindTree) → are_known bs ≡ true → ((a : List ℕ) → is_among (method_scope m).nodes a ≡ true → 1 ≤ times a (variables_bound bs) → times a (variables_bound bs) ≤ 1) → all_pairs (λ b c. names_differ b.variable.label c.variable.label) bs ≡ true
  bound_apart [] known once = refl
  bound_apart (b ∷ bs) known once =
      let l = b.variable.label in
      and_so (list_all (λ c. names_differ l c.variable.label) bs) (all_pairs (λ d c. names_differ d.variable.label c.variable.label) bs)
      (none_else l bs (once_here (bit (same_name l l)) (times l (variables_bound bs)) (own_bit l)
      (once l (first_so (is_among (method_scope m).nodes l) (are_known bs) known))))
      (bound_apart bs (second_so (is_among (method_scope m).nodes l) (are_known bs) known)
      (λ a here some. once_there (bit (same_name a l)) (times a (variables_bound bs)) some (once a here)))

  -- binds that break no rule bind variables
  pub binds_known : (t : Text) (bs : List BindTree) → flat_map (bind_rules (rules_header t) (method_scope m)) bs ≡ [] → are_known bs ≡ true
  binds_known t [] h = refl
  binds_known t (b ∷ bs) h =
      let rest = flat_map (bind_rules (rules_header t) (method_scope m)) bs in
      and_so (is_among (method_scope m).nodes b.variable.label) (are_known bs)
      (name_known m b.variable (left_none (name_rules (method_scope m) b.variable) (read_rules (rules_header t) (method_scope m) b.node b.field)
      (left_none (bind_rules (rules_header t) (method_scope m) b) rest h)))
      (binds_known t bs (right_none (bind_rules (rules_header t) (method_scope m) b) rest h))

  module _ (names : Declared) (tree : BlockTree) (met other : ℕ) (known : are_known tree.binds ≡ true) (reused : block_reuses (method_scope m) tree ≡ []) where
    counted : (a : List ℕ) → times a (block_names tree) ≡ times a (with_names tree.with) + times a (flat_map test_line_names tree.tests) + (times a (variables_bound tree.binds) + times a (nodes_read tree.binds)) + times a (flat_map write_names tree.writes)
    counted a =
        let ws = with_names tree.with in
        let ts = flat_map test_line_names tree.tests in
        let bs = flat_map bind_names tree.binds in
        let us = flat_map write_names tree.writes in
        times_append a (ws ++ ts ++ bs) us
        ∙ ap (λ n. n + times a us) (times_append a (ws ++ ts) bs ∙ ap (λ n. n + times a bs) (times_append a ws ts) ∙ ap (λ n. times a ws + times a ts + n) (times_in_binds a tree.binds))

    once : (a : List ℕ) → is_among (method_scope m).nodes a ≡ true → 1 ≤ times a (variables_bound tree.binds) → times a (with_names tree.with) + times a (flat_map test_line_names tree.tests) + (times a (variables_bound tree.binds) + times a (nodes_read tree.binds)) + times a (flat_map write_names tree.writes) ≤ 1
    once a here some =
        subst (λ (n : ℕ). n ≤ 1) (counted a)
        (bound_once (bound_by (method_scope m) tree.binds) [] a (block_names tree) (variable_bound m [] a tree.binds here some) reused)

    binds_apart : all_pairs (λ d e. not (d.to == e.to)) (binds_of names vs tree.binds) ≡ true
    binds_apart =
        kept_pairs (λ d e. not (d.to == e.to)) (λ b c. names_differ b.variable.label c.variable.label) (bind_of names vs)
        (λ b c d e apart f g.
        numbers_apart b.variable.label c.variable.label vs d.to e.to apart
        (bind_numbered (number_of b.variable.label vs) (reference_of vs b.node) (number_of b.field.label names.pointers) d f)
        (bind_numbered (number_of c.variable.label vs) (reference_of vs c.node) (number_of c.field.label names.pointers) e g))
        tree.binds
        (bound_apart tree.binds known (λ a here some. let most = once a here some in omega (arith, most)))

    abbrev block : Block
    block = atomic_block names vs tree met other

    free_of : (a : List ℕ) (v : ℕ) → number_of a vs ≡ Some v → is_among (method_scope m).nodes a ≡ true → 1 ≤ times a (variables_bound tree.binds) → block_reads block (Reference.Variable v) ≡ false
    free_of a v e here some =
        let most = once a here some in
        block_unread names vs a v e tree met other (omega (arith, most)) (omega (arith, most)) (omega (arith, most)) (omega (arith, most))

    none_read : (bs : List BindTree) → are_known bs ≡ true → ((a : List ℕ) → 1 ≤ times a (variables_bound bs) → 1 ≤ times a (variables_bound tree.binds)) → list_any (λ d. block_reads block (Reference.Variable d.to)) (binds_of names vs bs) ≡ false
    none_read [] here within = refl
    none_read (b ∷ bs) here within =
        let l = b.variable.label in
        let own : bit (same_name l l) ≡ 1 = own_bit l in
        kept_any (λ d. block_reads block (Reference.Variable d.to)) (bind_of names vs b) (binds_of names vs bs)
        (head_false (λ d. block_reads block (Reference.Variable d.to)) (bind_of names vs b)
        (λ d e. free_of l d.to (bind_numbered (number_of l vs) (reference_of vs b.node) (number_of b.field.label names.pointers) d e)
        (first_so (is_among (method_scope m).nodes l) (are_known bs) here)
        (within l (omega (arith, own)))))
        (none_read bs (second_so (is_among (method_scope m).nodes l) (are_known bs) here) (λ a some. within a (omega (arith, some))))

    -- a bound variable occurs once
    pub stand_alone : binds_stand_alone block ≡ true
    stand_alone =
        and_so (all_pairs (λ d e. not (d.to == e.to)) (binds_of names vs tree.binds)) (not (list_any (λ d. block_reads block (Reference.Variable d.to)) (binds_of names vs tree.binds)))
        binds_apart (ap not (none_read tree.binds known (λ a some. some)))
