-- A text that has too much of nothing is within each limit.
use Rattle.std.proofs.Common.{◌≡◌, ℕ, suc, ◌≤◌, ◌<◌, Bool, true, false, List, [], ◌∷◌, length, map, Option, Some, None, refl, sym, ap, subst, arith, if◌then◌else◌}
use Rattle.std.specs.Prelude.{nat_le, sum_by, All, is_some}
use Rattle.std.specs.Option.{option_or}
use Rattle.std.proofs.lemmas.Bool.{leb-true}
use Rattle.std.proofs.lemmas.List.Sums.{sum_by-cons}
use Rattle.std.proofs.lemmas.List.Elements.{All-nil, All-cons}
use Rattle.plank_base.specs.declared.limits.Thing.{Thing}
use Rattle.plank_base.specs.declared.limits.TheConstants.{METHODS_LIMIT, VARIABLES_LIMIT, FROZEN_VARIABLES_LIMIT, FLAGS_LIMIT, POINTERS_LIMIT, NODES_LIMIT, LOCATIONS_LIMIT}
use Rattle.plank_ast.specs.declared.methods.Method.{Method as MethodTree}
use Rattle.plank_ast.specs.declared.texts.Text.{Text}
use Rattle.plank_rules.specs.Declarations.{declared_variables, methods_of as method_trees}
use Rattle.plank_type.specs.declared.limits.Excess.{Excess}
use Rattle.plank_type.specs.Numbers.{names_of, HasFewNames}
use Rattle.plank_type.specs.Methods.{method_size}
use Rattle.plank_type.specs.Limits.{told, past_limit, first_given, variables_limit, variables_excess, header_excess, methods_excess, text_size, text_excess, IsSmall}

-- ---- nothing of either

pub neither_first : (o p : Option Excess) → option_or o p ≡ None → o ≡ None
neither_first None p h = refl
neither_first (Some x) p h = absurd (cc)

pub neither_second : (o p : Option Excess) → option_or o p ≡ None → p ≡ None
neither_second None p h = h
neither_second (Some x) p h = absurd (cc)

pub both_none : (o p : Option Excess) → o ≡ None → p ≡ None → option_or o p ≡ None
both_none None p h k = k
both_none (Some x) p h k = absurd (cc)

-- ---- one limit

if_none : (test : Bool) (x : Excess) → (if test then None else Some x) ≡ None → test ≡ true
if_none true x h = refl
if_none false x h = absurd (cc)

pub at_most : (thing : Thing) (count limit : ℕ) → past_limit thing count limit ≡ None → count ≤ limit
at_most thing count limit h = leb-true count limit (if_none (nat_le count limit) (record { thing = thing; count = count; limit = limit }) h)

few : (n limit : ℕ) → limit < 4294967295 → told n ≤ limit → n ≤ limit
few n limit small h = omega arith

pub told_at_most : (thing : Thing) (n limit : ℕ) → limit < 4294967295 → past_limit thing (told n) limit ≡ None → n ≤ limit
told_at_most thing n limit small h = few n limit small (at_most thing (told n) limit h)

pub length_map : {X Y : Type 0} (f : X → Y) (xs : List X) → length (map f xs) ≡ length xs
length_map f [] = refl
length_map f (x ∷ xs) = ap suc (length_map f xs)

-- ---- methods

pub first_none : {A : Type 0} (give : A → Option Excess) (x : A) (xs : List A) → first_given give (x ∷ xs) ≡ None → first_given give xs ≡ None
first_none give x xs h = neither_second (give x) (first_given give xs) h

if_at_most : (test : Bool) → (if test then FROZEN_VARIABLES_LIMIT else VARIABLES_LIMIT) ≤ VARIABLES_LIMIT
if_at_most true = omega arith
if_at_most false = omega arith

pub few_variables : (t : Text) → variables_limit t ≤ VARIABLES_LIMIT
few_variables t = if_at_most (is_some t.freeze)

module _ (limit : ℕ) (few_enough : limit ≤ VARIABLES_LIMIT) where
  small_head : (m : MethodTree) (ms : List MethodTree) → first_given (variables_excess limit) (m ∷ ms) ≡ None → sum_by method_size (m ∷ ms) ≤ LOCATIONS_LIMIT → IsSmall m
  small_head m ms h fits =
      let within : length (declared_variables m) ≤ limit = told_at_most Thing.Variables (length (declared_variables m)) limit (omega arith)
      (neither_first (variables_excess limit m) (first_given (variables_excess limit) ms) h) in
      record {
        variables = omega arith;
        locations = omega (arith, sum_by-cons method_size m ms);
      }

  small_rest : (ms : List MethodTree) → first_given (variables_excess limit) ms ≡ None → sum_by method_size ms ≤ LOCATIONS_LIMIT → All IsSmall ms
  small_rest [] h fits = All-nil IsSmall
  small_rest (m ∷ ms) h fits =
      All-cons IsSmall m ms (small_head m ms h fits)
      (small_rest ms (first_none (variables_excess limit) m ms h) (omega (arith, sum_by-cons method_size m ms)))

-- ---- the text

module _ (t : Text) (h : text_excess t ≡ None) where
  of_methods : methods_excess t ≡ None
  of_methods = neither_first (methods_excess t) (option_or (header_excess t) (past_limit Thing.Locations (told (text_size t)) LOCATIONS_LIMIT)) h

  after_methods : option_or (header_excess t) (past_limit Thing.Locations (told (text_size t)) LOCATIONS_LIMIT) ≡ None
  after_methods = neither_second (methods_excess t) (option_or (header_excess t) (past_limit Thing.Locations (told (text_size t)) LOCATIONS_LIMIT)) h

  of_header : header_excess t ≡ None
  of_header = neither_first (header_excess t) (past_limit Thing.Locations (told (text_size t)) LOCATIONS_LIMIT) after_methods

  of_locations : past_limit Thing.Locations (told (text_size t)) LOCATIONS_LIMIT ≡ None
  of_locations = neither_second (header_excess t) (past_limit Thing.Locations (told (text_size t)) LOCATIONS_LIMIT) after_methods

  after_flags : option_or (past_limit Thing.Pointers (told (length t.pointers)) POINTERS_LIMIT) (past_limit Thing.Nodes (told (length t.starts)) NODES_LIMIT) ≡ None
  after_flags = neither_second (past_limit Thing.Flags (told (length t.flags)) FLAGS_LIMIT) (option_or (past_limit Thing.Pointers (told (length t.pointers)) POINTERS_LIMIT) (past_limit Thing.Nodes (told (length t.starts)) NODES_LIMIT)) of_header

  pub few_methods : length (method_trees t) ≤ METHODS_LIMIT
  few_methods =
      told_at_most Thing.Methods (length (method_trees t)) METHODS_LIMIT (omega arith)
      (neither_first (past_limit Thing.Methods (told (length (method_trees t))) METHODS_LIMIT) (first_given (variables_excess (variables_limit t)) (method_trees t)) of_methods)

  pub variables_given : first_given (variables_excess (variables_limit t)) (method_trees t) ≡ None
  variables_given = neither_second (past_limit Thing.Methods (told (length (method_trees t))) METHODS_LIMIT) (first_given (variables_excess (variables_limit t)) (method_trees t)) of_methods

  pub few_flags : length t.flags ≤ FLAGS_LIMIT
  few_flags =
      told_at_most Thing.Flags (length t.flags) FLAGS_LIMIT (omega arith)
      (neither_first (past_limit Thing.Flags (told (length t.flags)) FLAGS_LIMIT) (option_or (past_limit Thing.Pointers (told (length t.pointers)) POINTERS_LIMIT) (past_limit Thing.Nodes (told (length t.starts)) NODES_LIMIT)) of_header)

  pub few_pointers : length t.pointers ≤ POINTERS_LIMIT
  few_pointers =
      told_at_most Thing.Pointers (length t.pointers) POINTERS_LIMIT (omega arith)
      (neither_first (past_limit Thing.Pointers (told (length t.pointers)) POINTERS_LIMIT) (past_limit Thing.Nodes (told (length t.starts)) NODES_LIMIT) after_flags)

  pub few_nodes : length t.starts ≤ NODES_LIMIT
  few_nodes =
      told_at_most Thing.Nodes (length t.starts) NODES_LIMIT (omega arith)
      (neither_second (past_limit Thing.Pointers (told (length t.pointers)) POINTERS_LIMIT) (past_limit Thing.Nodes (told (length t.starts)) NODES_LIMIT) after_flags)

  pub few_locations : text_size t ≤ LOCATIONS_LIMIT
  few_locations = told_at_most Thing.Locations (text_size t) LOCATIONS_LIMIT (omega arith) of_locations

  pub few_names : HasFewNames (names_of t)
  few_names = record {
    flags = subst (λ (n : ℕ). n ≤ FLAGS_LIMIT) (sym (length_map (λ line. line.name.label) t.flags)) few_flags;
    pointers = subst (λ (n : ℕ). n ≤ POINTERS_LIMIT) (sym (length_map (λ line. line.name.label) t.pointers)) few_pointers;
    nodes = subst (λ (n : ℕ). n ≤ NODES_LIMIT) (sym (length_map (λ line. line.name.label) t.starts)) few_nodes;
  }

  pub first_small : IsSmall t.methods.first
  first_small = small_head (variables_limit t) (few_variables t) t.methods.first t.methods.others variables_given few_locations

  pub others_small : All IsSmall t.methods.others
  others_small = small_rest (variables_limit t) (few_variables t) (t.methods.others) (first_none (variables_excess (variables_limit t)) t.methods.first t.methods.others variables_given) (omega (arith, sum_by-cons method_size t.methods.first t.methods.others, few_locations))
