-- The methods of a text that breaks no rule of typing and is within the limits are lawful.
use Rattle.std.proofs.Common.{◌≡◌, ℕ, ◌<◌, ◌≤◌, ◌+◌, Bool, true, false, ◌&&◌, ◌||◌, List, [], ◌∷◌, length, map, Option, Some, None, refl, sym, ◌∙◌, ap, subst, arith, if◌then◌else◌}
use Rattle.std.specs.Prelude.{nat_lt, nat_le, ◌==◌, sum_by, is_some}
use Rattle.std.specs.List.{list_all, flat_map}
use Rattle.std.specs.Cmp.{first_so, second_so}
use Rattle.std.proofs.lemmas.Bool.{lt-ltb, le-leb}
use Rattle.std.proofs.lemmas.List.Sums.{sum_by-cons}
use Rattle.plank_base.specs.declared.limits.Thing.{Thing}
use Rattle.plank_base.specs.declared.limits.TheConstants.{METHODS_LIMIT, VARIABLES_LIMIT, FROZEN_VARIABLES_LIMIT, LOCATIONS_LIMIT, SITES_LIMIT, EFFECT_FACTS_LIMIT}
use Rattle.plank_ast.specs.declared.methods.Method.{Method as MethodTree}
use Rattle.plank_ast.specs.declared.texts.Text.{Text}
use Rattle.plank_ast.specs.Spelling.{method_tokens, may_stand}
use Rattle.plank_prog.specs.declared.headers.Header.{Header}
use Rattle.plank_prog.specs.declared.methods.Action.{Action}
use Rattle.plank_prog.specs.declared.methods.Location.{Location}
use Rattle.plank_prog.specs.Names.{all_pairs, names_differ}
use Rattle.plank_prog.specs.Blocks.{name_count}
use Rattle.plank_prog.specs.Methods.{variables_limit as header_variables, is_lawful_action, effect_fact_count, has_few_facts, is_lawful_location, is_lawful_method, location_count, site_count, are_methods_within_limits, are_lawful_methods}
use Rattle.plank_rules.specs.Declarations.{declared_variables, variables_of, methods_of as method_trees}
use Rattle.plank_rules.specs.Occurrences.{Occurrence}
use Rattle.plank_rules.specs.MethodRules.{local_occurrences, method_rules}
use Rattle.plank_rules.specs.BrokenRules.{declared_by as rules_header, method_occurrence, broken_rules}
use Rattle.plank_type.proofs.Rules.{of_statements, of_locals, of_strays, of_stills, of_returns, of_method_names, of_methods}
use Rattle.plank_type.specs.Numbers.{names_of}
use Rattle.plank_type.specs.Headers.{pointer_of, freeze_of, header_of}
use Rattle.plank_rules.specs.declared.names.Declared.{Declared}
use Rattle.plank_ast.specs.declared.header.ConditionLine.{ConditionLine}
use Rattle.plank_type.specs.Methods.{method_size, end_exits, locations_of, method_of, methods_of}
use Rattle.plank_type.specs.Limits.{past_limit, first_given, variables_limit, variables_excess, text_excess, sites_excess, facts_excess, method_facts_excess, program_excess, first_excess}
use Rattle.plank_type.proofs.Tests.{and_so, left_none, right_none, map_map, both_all}
use Rattle.plank_type.proofs.Distinct.{distinct_labels}
use Rattle.plank_type.proofs.WithinLimits.{few_variables, neither_first, neither_second, at_most, told_at_most, length_map, first_none, variables_given, few_methods, few_locations}
use Rattle.plank_type.proofs.HeaderLaw.{differ_as}
use Rattle.plank_type.proofs.NoRoot.{no_root, methods_stand, first_stands, others_stand}
use Rattle.plank_type.proofs.KnownNames.{same_labels}
use Rattle.plank_type.proofs.BlocksLaw.{Fitting}
use Rattle.plank_type.proofs.PartsLaw.{statements_sized, statements_lawful}
use Rattle.plank_type.proofs.StepsLaw.{method_steps}

-- ---- facts

few_if : (none : Bool) (count limit : ℕ) → (if none then None else past_limit Thing.EffectFacts count limit) ≡ None → (none || nat_le count limit) ≡ true
few_if true count limit h = refl
few_if false count limit h = le-leb count limit (at_most Thing.EffectFacts count limit h)

few_facts : (h : Header) (a : Action) → facts_excess h a ≡ None → has_few_facts h a ≡ true
few_facts h (Action.Block b) n = few_if (length b.writes == 0) (effect_fact_count h (name_count b)) EFFECT_FACTS_LIMIT n
few_facts h (Action.Copy to from next) n = refl
few_facts h (Action.New to next) n = refl
few_facts h (Action.Return answer) n = refl

all_few : (h : Header) (ls : List Location) → first_given (λ l. facts_excess h l.action) ls ≡ None → list_all (λ l. has_few_facts h l.action) ls ≡ true
all_few h [] n = refl
all_few h (l ∷ ls) n =
    and_so (has_few_facts h l.action) (list_all (λ k. has_few_facts h k.action) ls)
    (few_facts h l.action (neither_first (facts_excess h l.action) (first_given (λ k. facts_excess h k.action) ls) n))
    (all_few h ls (neither_second (facts_excess h l.action) (first_given (λ k. facts_excess h k.action) ls) n))

-- ---- one method

limit_of_freeze : (names : Declared) (line : Option ConditionLine) → (if is_some (freeze_of names line) then FROZEN_VARIABLES_LIMIT else VARIABLES_LIMIT) ≡ (if is_some line then FROZEN_VARIABLES_LIMIT else VARIABLES_LIMIT)
limit_of_freeze names None = refl
limit_of_freeze names (Some line) = refl

module _ (t : Text) where
  fitting : Fitting (header_of t) (names_of t)
  fitting = record {
    flags = refl;
    pointers = length_map (pointer_of (names_of t) t.edges) t.pointers ∙ sym (length_map (λ line. line.name.label) t.pointers);
    has_lock = refl;
  }

  -- the program of a text has its limit of variables
  same_limit : header_variables (header_of t) ≡ variables_limit t
  same_limit = limit_of_freeze (names_of t) t.freeze

  module _ (m : MethodTree) (stand : list_all may_stand (method_tokens m) ≡ true) (rules : method_rules (rules_header t) m ≡ []) where
    has_step : 0 < method_size m
    has_step =
        method_steps m
        (of_returns t m rules) (of_strays t m rules) (of_stills t m rules)

    locals_differ : (list_all (names_differ m.argument.label) (variables_of m) && all_pairs names_differ (variables_of m)) ≡ true
    locals_differ =
        ap (λ ls. list_all (names_differ m.argument.label) ls && all_pairs names_differ ls) (sym (same_labels m))
        ∙ distinct_labels (local_occurrences m) (of_locals t m rules)

    sized : length (locations_of (names_of t) m) ≡ method_size m
    sized = statements_sized t m (no_root m stand) (header_of t) (names_of t) fitting m.statements (method_size m) 0 (end_exits (method_size m))

    actions_lawful : list_all (λ l. is_lawful_action (header_of t) (length (variables_of m)) (length (locations_of (names_of t) m)) l.action) (locations_of (names_of t) m) ≡ true
    actions_lawful =
        ap (λ n. list_all (λ l. is_lawful_action (header_of t) (length (variables_of m)) n l.action) (locations_of (names_of t) m)) sized
        ∙ statements_lawful t m (no_root m stand) (header_of t) (names_of t) fitting m.statements (of_statements t m rules) (method_size m) 0 (end_exits (method_size m)) (omega arith)

    method_is_lawful : variables_excess (variables_limit t) m ≡ None → method_facts_excess (header_of t) (method_of (names_of t) m) ≡ None → is_lawful_method (header_of t) (method_of (names_of t) m) ≡ true
    method_is_lawful few n =
        let vs = variables_of m in
        let ls = locations_of (names_of t) m in
        let arg = list_all (names_differ m.argument.label) vs in
        let small = nat_le (length vs) (header_variables (header_of t)) in
        let apart = all_pairs names_differ vs in
        let below : variables_limit t ≤ VARIABLES_LIMIT = few_variables t in
        let few_declared : length (declared_variables m) ≤ variables_limit t = told_at_most Thing.Variables (length (declared_variables m)) (variables_limit t) (omega arith) few in
        let few_numbered : length vs ≤ variables_limit t = subst (λ (k : ℕ). k ≤ variables_limit t) (sym (length_map (λ d. d.label) (declared_variables m))) few_declared in
        let few_here : length vs ≤ header_variables (header_of t) = subst (λ (k : ℕ). length vs ≤ k) (sym same_limit) few_numbered in
        let some = nat_lt 0 (length ls) in
        and_so (small && arg && apart && some) (list_all (is_lawful_location (header_of t) (length vs) (length ls)) ls)
        (and_so (small && arg && apart) some
        (and_so (small && arg) apart
        (and_so small arg
        (le-leb (length vs) (header_variables (header_of t)) few_here)
        (first_so arg apart locals_differ))
        (second_so arg apart locals_differ))
        (lt-ltb 0 (length ls) (subst (λ (k : ℕ). 0 < k) (sym sized) has_step)))
        (both_all (λ l. is_lawful_action (header_of t) (length vs) (length ls) l.action) (λ l. has_few_facts (header_of t) l.action) ls actions_lawful (all_few (header_of t) ls n))

  -- ---- all methods

  each_lawful : (ms : List MethodTree) → list_all may_stand (flat_map method_tokens ms) ≡ true → flat_map (method_rules (rules_header t)) ms ≡ [] → first_given (variables_excess (variables_limit t)) ms ≡ None → first_given (method_facts_excess (header_of t)) (map (method_of (names_of t)) ms) ≡ None → list_all (is_lawful_method (header_of t)) (map (method_of (names_of t)) ms) ≡ true
  each_lawful [] stand r few n = refl
  each_lawful (m ∷ ms) stand r few n =
      and_so (is_lawful_method (header_of t) (method_of (names_of t) m)) (list_all (is_lawful_method (header_of t)) (map (method_of (names_of t)) ms))
      (method_is_lawful m (first_stands m ms stand) (left_none (method_rules (rules_header t) m) (flat_map (method_rules (rules_header t)) ms) r)
      (neither_first (variables_excess (variables_limit t) m) (first_given (variables_excess (variables_limit t)) ms) few)
      (neither_first (method_facts_excess (header_of t) (method_of (names_of t) m)) (first_given (method_facts_excess (header_of t)) (map (method_of (names_of t)) ms)) n))
      (each_lawful ms (others_stand m ms stand) (right_none (method_rules (rules_header t) m) (flat_map (method_rules (rules_header t)) ms) r)
      (first_none (variables_excess (variables_limit t)) m ms few)
      (neither_second (method_facts_excess (header_of t) (method_of (names_of t) m)) (first_given (method_facts_excess (header_of t)) (map (method_of (names_of t)) ms)) n))

  same_sizes : (ms : List MethodTree) → list_all may_stand (flat_map method_tokens ms) ≡ true → sum_by location_count (map (method_of (names_of t)) ms) ≡ sum_by method_size ms
  same_sizes [] stand = refl
  same_sizes (m ∷ ms) stand =
      sum_by-cons location_count (method_of (names_of t) m) (map (method_of (names_of t)) ms)
      ∙ ap (λ k. k + sum_by location_count (map (method_of (names_of t)) ms))
      (statements_sized t m (no_root m (first_stands m ms stand)) (header_of t) (names_of t) fitting m.statements (method_size m) 0 (end_exits (method_size m)))
      ∙ ap (λ k. method_size m + k) (same_sizes ms (others_stand m ms stand))
      ∙ sym (sum_by-cons method_size m ms)

  module _ (rules : broken_rules t ≡ []) (limits : first_excess t ≡ None) where
    within : text_excess t ≡ None
    within = neither_first (text_excess t) (program_excess (header_of t) (methods_of t)) limits

    of_program : program_excess (header_of t) (methods_of t) ≡ None
    of_program = neither_second (text_excess t) (program_excess (header_of t) (methods_of t)) limits

    methods_differ : all_pairs (λ m n. names_differ m.name n.name) (methods_of t) ≡ true
    methods_differ =
        differ_as (λ m. m.name) (method_of (names_of t)) (λ m. m.name.label) (λ m. refl) (method_trees t)
        (ap (all_pairs names_differ) (sym (map_map (λ (o : Occurrence). o.label) method_occurrence (method_trees t)))
        ∙ distinct_labels (map method_occurrence (method_trees t)) (of_method_names t rules))

    some_methods : (ms : List MethodTree) → 0 < length (method_of (names_of t) t.methods.first ∷ map (method_of (names_of t)) ms)
    some_methods ms = omega arith

    methods_within : are_methods_within_limits (methods_of t) ≡ true
    methods_within =
        and_so (nat_lt 0 (length (methods_of t)) && nat_le (length (methods_of t)) METHODS_LIMIT && nat_le (sum_by location_count (methods_of t)) LOCATIONS_LIMIT) (nat_le (sum_by site_count (methods_of t)) SITES_LIMIT)
        (and_so (nat_lt 0 (length (methods_of t)) && nat_le (length (methods_of t)) METHODS_LIMIT) (nat_le (sum_by location_count (methods_of t)) LOCATIONS_LIMIT)
        (and_so (nat_lt 0 (length (methods_of t))) (nat_le (length (methods_of t)) METHODS_LIMIT)
        (lt-ltb 0 (length (methods_of t)) (some_methods t.methods.others))
        (le-leb (length (methods_of t)) METHODS_LIMIT (subst (λ (k : ℕ). k ≤ METHODS_LIMIT) (sym (length_map (method_of (names_of t)) (method_trees t))) (few_methods t within))))
        (le-leb (sum_by location_count (methods_of t)) LOCATIONS_LIMIT (subst (λ (k : ℕ). k ≤ LOCATIONS_LIMIT) (sym (same_sizes (method_trees t) (methods_stand t))) (few_locations t within))))
        (le-leb (sum_by site_count (methods_of t)) SITES_LIMIT
        (told_at_most Thing.Sites (sum_by site_count (methods_of t)) SITES_LIMIT (omega arith)
        (neither_first (sites_excess (methods_of t)) (first_given (method_facts_excess (header_of t)) (methods_of t)) of_program)))

    pub methods_are_lawful : are_lawful_methods (header_of t) (methods_of t) ≡ true
    methods_are_lawful =
        and_so (are_methods_within_limits (methods_of t) && all_pairs (λ m n. names_differ m.name n.name) (methods_of t)) (list_all (is_lawful_method (header_of t)) (methods_of t))
        (and_so (are_methods_within_limits (methods_of t)) (all_pairs (λ m n. names_differ m.name n.name) (methods_of t)) methods_within methods_differ)
        (each_lawful (method_trees t) (methods_stand t) (of_methods t rules)
        (variables_given t within)
        (neither_second (sites_excess (methods_of t)) (first_given (method_facts_excess (header_of t)) (methods_of t)) of_program))
