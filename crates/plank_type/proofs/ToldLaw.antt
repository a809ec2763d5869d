-- A text that breaks no rule of typing is told whole in its program.
use Rattle.std.proofs.Common.{◌≡◌, ℕ, true, List, [], ◌∷◌, Option, None, Some, refl, subst}
use Rattle.std.specs.List.{list_all, flat_map}
use Rattle.std.specs.Option.{option_map_or}
use Rattle.plank_base.specs.declared.places.Place.{Place}
use Rattle.plank_ast.specs.declared.names.Name.{Name}
use Rattle.plank_ast.specs.declared.header.RootLine.{RootLine}
use Rattle.plank_ast.specs.declared.header.ConditionLine.{ConditionLine}
use Rattle.plank_ast.specs.declared.methods.Method.{Method}
use Rattle.plank_ast.specs.declared.texts.Text.{Text}
use Rattle.plank_rules.specs.declared.scopes.Setting.{Setting}
use Rattle.plank_rules.specs.declared.names.Declared.{Declared}
use Rattle.plank_rules.specs.Declarations.{distinct, start_names, methods_of}
use Rattle.plank_rules.specs.Faults.{unknown}
use Rattle.plank_rules.specs.Occurrences.{Occurrence}
use Rattle.plank_rules.specs.Meanings.{label_meaning}
use Rattle.plank_rules.specs.Conditions.{condition_rules}
use Rattle.plank_rules.specs.Headers.{header_scope, start_occurrence, roots_rules, pointer_rules, edge_rules, keep_rules, holds_rules, optional_freeze_rules}
use Rattle.plank_rules.specs.StatementRules.{statement_rules}
use Rattle.plank_rules.specs.MethodRules.{is_kind, kind_name, kind_rules, method_scope, method_rules}
use Rattle.plank_rules.specs.BrokenRules.{declared_by, broken_rules}
use Rattle.plank_type.specs.Numbers.{names_of}
use Rattle.plank_type.specs.Methods.{kind_word}
use Rattle.plank_type.specs.Told.{locals_of, condition_is_told, statement_is_told, root_is_told, method_is_told, IsToldWhole}
use Rattle.plank_type.proofs.Tests.{and_so, right_none, map_map}
use Rattle.plank_type.proofs.Rules.{of_roots, of_edges, of_holds, of_keep_conditions, of_freeze, of_kind, of_statements, of_methods}
use Rattle.plank_type.proofs.AsWritten.{declared_as_written}
use Rattle.plank_type.proofs.HeaderLaw.{root_known}
use Rattle.plank_type.proofs.ConditionsFit.{condition_of_fits}
use Rattle.plank_type.proofs.MethodNames.{has_number}
use Rattle.plank_type.proofs.KnownMeanings.{when_not}
use Rattle.plank_type.proofs.BlocksTold.{all_told}
use Rattle.plank_type.proofs.StatementsTold.{statements_told}

root_told : (nodes : List (List ℕ)) (structure : Place) (roots : List RootLine) → roots_rules (distinct nodes) structure roots ≡ [] → root_is_told nodes roots ≡ true
root_told nodes structure [] h = absurd (cc)
root_told nodes structure (r ∷ rs) h = has_number r.name.label nodes (root_known nodes structure r rs h)

kind_told : (m : Method) (kind : Option Name) → kind_rules (kind_name m.name kind) ≡ [] → is_kind (option_map_or (λ k. k.label) kind m.name.label) ≡ true
unfolding kind_rules
kind_told m None h = when_not (is_kind m.name.label) (unknown m.name.place) h
kind_told m (Some kind) h = when_not (is_kind kind.label) (unknown kind.place) h

module _ (t : Text) (rules : broken_rules t ≡ []) where
  abbrev names : Declared
  names = names_of t

  as_written : declared_by t ≡ names
  as_written = declared_as_written t rules

  freeze_told : (line : Option ConditionLine) → optional_freeze_rules names line ≡ [] → option_map_or (λ l. condition_is_told names l.condition) line true ≡ true
  freeze_told None none = refl
  freeze_told (Some line) none = (condition_of_fits names Setting.Freeze refl line.condition).is_told none

  method_told : (m : Method) → method_rules (declared_by t) m ≡ [] → method_is_told names m ≡ true
  method_told m none =
      and_so (is_kind (kind_word m)) (list_all (statement_is_told names (locals_of m)) m.statements)
      (kind_told m m.kind (of_kind t m none))
      (statements_told m names m.statements
      (subst (λ (n : Declared). flat_map (statement_rules n (method_scope m)) m.statements ≡ []) as_written (of_statements t m none)))

  edges_told : list_all (λ line. condition_is_told names line.condition) t.edges ≡ true
  edges_told =
      all_told (edge_rules names (header_scope Setting.Edge)) (λ line. condition_is_told names line.condition)
      (λ line none. (condition_of_fits names Setting.Edge refl line.condition).is_told
      (right_none (pointer_rules (label_meaning names line.name.label) line.name.place) (condition_rules names (header_scope Setting.Edge) line.condition) none))
      t.edges (subst (λ (n : Declared). flat_map (edge_rules n (header_scope Setting.Edge)) t.edges ≡ []) as_written (of_edges t rules))

  keeps_told : list_all (λ line. condition_is_told names line.condition) t.keeps ≡ true
  keeps_told =
      all_told (keep_rules names (header_scope Setting.Keep)) (λ line. condition_is_told names line.condition)
      (λ line none. (condition_of_fits names Setting.Keep refl line.condition).is_told none)
      t.keeps (subst (λ (n : Declared). flat_map (keep_rules n (header_scope Setting.Keep)) t.keeps ≡ []) as_written (of_keep_conditions t rules))

  holds_told : condition_is_told names t.holds.condition ≡ true
  holds_told =
      (condition_of_fits names Setting.Holds refl t.holds.condition).is_told
      (subst (λ (n : Declared). holds_rules n t.holds ≡ []) as_written (of_holds t rules))

  pub told_whole : IsToldWhole t
  told_whole = record {
    root = root_told (start_names t) t.place t.roots
        (subst (λ (ns : List (List ℕ)). roots_rules (distinct ns) t.place t.roots ≡ []) (map_map (λ (o : Occurrence). o.label) start_occurrence t.starts) (of_roots t rules));
    conditions =
        and_so _ (option_map_or (λ line. condition_is_told names line.condition) t.freeze true)
        (and_so _ (list_all (λ line. condition_is_told names line.condition) t.keeps)
        (and_so (list_all (λ line. condition_is_told names line.condition) t.edges) (condition_is_told names t.holds.condition) edges_told holds_told)
        keeps_told)
        (freeze_told t.freeze (subst (λ (n : Declared). optional_freeze_rules n t.freeze ≡ []) as_written (of_freeze t rules)));
    methods = all_told (method_rules (declared_by t)) (method_is_told names) method_told (methods_of t) (of_methods t rules);
  }
