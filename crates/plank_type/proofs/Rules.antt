-- What a text that breaks no rule of typing gives, part by part.
use Rattle.std.proofs.Common.{◌≡◌, [], ◌++◌, map}
use Rattle.std.specs.List.{flat_map}
use Rattle.plank_ast.specs.declared.methods.Method.{Method}
use Rattle.plank_ast.specs.declared.texts.Text.{Text}
use Rattle.plank_rules.specs.Declarations.{methods_of}
use Rattle.plank_rules.specs.Faults.{when, no_return}
use Rattle.plank_rules.specs.Occurrences.{repeats}
use Rattle.plank_rules.specs.declared.scopes.Setting.{Setting}
use Rattle.plank_rules.specs.Headers.{header_scope, start_occurrence, named_occurrence, roots_rules, start_rules, edge_rules, edges_rules, holds_rules, keep_rules, keeps_rules, optional_freeze_rules}
use Rattle.plank_rules.specs.Flow.{list_flow, statement_flow}
use Rattle.plank_rules.specs.Loops.{stray, still}
use Rattle.plank_rules.specs.StatementRules.{statement_rules}
use Rattle.plank_rules.specs.MethodRules.{kind_name, kind_rules, local_occurrences, local_repeats, method_scope, statements_rules, loop_rules, return_rules, method_rules}
use Rattle.plank_rules.specs.BrokenRules.{declared_by, field_occurrences, field_repeats, start_nodes, start_node_rules, condition_line_rules, method_occurrence, methods_rules, broken_rules}
use Rattle.plank_type.proofs.Tests.{left_none, right_none}

module _ (t : Text) (h : broken_rules t ≡ []) where
  before_methods : field_repeats t ++ start_node_rules (declared_by t) t ++ condition_line_rules (declared_by t) t ≡ []
  unfolding broken_rules
  before_methods = left_none (field_repeats t ++ start_node_rules (declared_by t) t ++ condition_line_rules (declared_by t) t) (methods_rules (declared_by t) t) h

  of_methods_rules : methods_rules (declared_by t) t ≡ []
  unfolding broken_rules
  of_methods_rules = right_none (field_repeats t ++ start_node_rules (declared_by t) t ++ condition_line_rules (declared_by t) t) (methods_rules (declared_by t) t) h

  before_conditions : field_repeats t ++ start_node_rules (declared_by t) t ≡ []
  before_conditions = left_none (field_repeats t ++ start_node_rules (declared_by t) t) (condition_line_rules (declared_by t) t) before_methods

  of_conditions : condition_line_rules (declared_by t) t ≡ []
  of_conditions = right_none (field_repeats t ++ start_node_rules (declared_by t) t) (condition_line_rules (declared_by t) t) before_methods

  of_start_nodes : start_node_rules (declared_by t) t ≡ []
  of_start_nodes = right_none (field_repeats t) (start_node_rules (declared_by t) t) before_conditions

  pub of_fields : repeats (field_occurrences t) ≡ []
  unfolding field_repeats
  of_fields = left_none (field_repeats t) (start_node_rules (declared_by t) t) before_conditions

  pub of_roots : roots_rules (start_nodes t) t.place t.roots ≡ []
  unfolding start_node_rules declared_by
  of_roots =
      left_none (roots_rules (start_nodes t) t.place t.roots) (flat_map (start_rules (declared_by t) (start_nodes t)) t.starts)
      (left_none (roots_rules (start_nodes t) t.place t.roots ++ flat_map (start_rules (declared_by t) (start_nodes t)) t.starts) (repeats (map start_occurrence t.starts)) of_start_nodes)

  pub of_starts : repeats (map start_occurrence t.starts) ≡ []
  unfolding start_node_rules declared_by
  of_starts = right_none (roots_rules (start_nodes t) t.place t.roots ++ flat_map (start_rules (declared_by t) (start_nodes t)) t.starts) (repeats (map start_occurrence t.starts)) of_start_nodes

  pub of_edges : flat_map (edge_rules (declared_by t) (header_scope Setting.Edge)) t.edges ≡ []
  unfolding condition_line_rules
  of_edges =
      left_none (flat_map (edge_rules (declared_by t) (header_scope Setting.Edge)) t.edges) (repeats (map named_occurrence t.edges))
      (left_none (edges_rules (declared_by t) t.edges) (holds_rules (declared_by t) t.holds)
      (left_none (edges_rules (declared_by t) t.edges ++ holds_rules (declared_by t) t.holds) (keeps_rules (declared_by t) t.keeps)
      (left_none (edges_rules (declared_by t) t.edges ++ holds_rules (declared_by t) t.holds ++ keeps_rules (declared_by t) t.keeps) (optional_freeze_rules (declared_by t) t.freeze) of_conditions)))

  pub of_holds : holds_rules (declared_by t) t.holds ≡ []
  unfolding condition_line_rules
  of_holds =
      right_none (edges_rules (declared_by t) t.edges) (holds_rules (declared_by t) t.holds)
      (left_none (edges_rules (declared_by t) t.edges ++ holds_rules (declared_by t) t.holds) (keeps_rules (declared_by t) t.keeps)
      (left_none (edges_rules (declared_by t) t.edges ++ holds_rules (declared_by t) t.holds ++ keeps_rules (declared_by t) t.keeps) (optional_freeze_rules (declared_by t) t.freeze) of_conditions))

  pub of_freeze : optional_freeze_rules (declared_by t) t.freeze ≡ []
  unfolding condition_line_rules
  of_freeze = right_none (edges_rules (declared_by t) t.edges ++ holds_rules (declared_by t) t.holds ++ keeps_rules (declared_by t) t.keeps) (optional_freeze_rules (declared_by t) t.freeze) of_conditions

  keep_lines : keeps_rules (declared_by t) t.keeps ≡ []
  unfolding condition_line_rules
  keep_lines =
      right_none (edges_rules (declared_by t) t.edges ++ holds_rules (declared_by t) t.holds) (keeps_rules (declared_by t) t.keeps)
      (left_none (edges_rules (declared_by t) t.edges ++ holds_rules (declared_by t) t.holds ++ keeps_rules (declared_by t) t.keeps) (optional_freeze_rules (declared_by t) t.freeze) of_conditions)

  pub of_keep_conditions : flat_map (keep_rules (declared_by t) (header_scope Setting.Keep)) t.keeps ≡ []
  of_keep_conditions = left_none (flat_map (keep_rules (declared_by t) (header_scope Setting.Keep)) t.keeps) (repeats (map named_occurrence t.keeps)) keep_lines

  pub of_keeps : repeats (map named_occurrence t.keeps) ≡ []
  of_keeps = right_none _ (repeats (map named_occurrence t.keeps)) keep_lines

  pub of_method_names : repeats (map method_occurrence (methods_of t)) ≡ []
  unfolding methods_rules
  of_method_names = left_none (repeats (map method_occurrence (methods_of t))) (flat_map (method_rules (declared_by t)) (methods_of t)) of_methods_rules

  pub of_methods : flat_map (method_rules (declared_by t)) (methods_of t) ≡ []
  unfolding methods_rules
  of_methods = right_none (repeats (map method_occurrence (methods_of t))) (flat_map (method_rules (declared_by t)) (methods_of t)) of_methods_rules

module _ (t : Text) (m : Method) (h : method_rules (declared_by t) m ≡ []) where
  before_returns : kind_rules (kind_name m.name m.kind) ++ local_repeats m ++ statements_rules (declared_by t) m ++ loop_rules m ≡ []
  unfolding method_rules
  before_returns = left_none (kind_rules (kind_name m.name m.kind) ++ local_repeats m ++ statements_rules (declared_by t) m ++ loop_rules m) (return_rules m) h

  of_loops : loop_rules m ≡ []
  of_loops = right_none (kind_rules (kind_name m.name m.kind) ++ local_repeats m ++ statements_rules (declared_by t) m) (loop_rules m) before_returns

  before_statements : kind_rules (kind_name m.name m.kind) ++ local_repeats m ≡ []
  before_statements =
      left_none (kind_rules (kind_name m.name m.kind) ++ local_repeats m) (statements_rules (declared_by t) m)
      (left_none (kind_rules (kind_name m.name m.kind) ++ local_repeats m ++ statements_rules (declared_by t) m) (loop_rules m) before_returns)

  pub of_kind : kind_rules (kind_name m.name m.kind) ≡ []
  of_kind = left_none (kind_rules (kind_name m.name m.kind)) (local_repeats m) before_statements

  pub of_statements : flat_map (statement_rules (declared_by t) (method_scope m)) m.statements ≡ []
  unfolding statements_rules
  of_statements =
      right_none (kind_rules (kind_name m.name m.kind) ++ local_repeats m) (statements_rules (declared_by t) m)
      (left_none (kind_rules (kind_name m.name m.kind) ++ local_repeats m ++ statements_rules (declared_by t) m) (loop_rules m) before_returns)

  pub of_locals : repeats (local_occurrences m) ≡ []
  unfolding local_repeats
  of_locals = right_none (kind_rules (kind_name m.name m.kind)) (local_repeats m) before_statements

  pub of_strays : flat_map stray m.statements ≡ []
  unfolding loop_rules
  of_strays = left_none (flat_map stray m.statements) (flat_map (λ s. (still s).loops) m.statements) of_loops

  pub of_stills : flat_map (λ s. (still s).loops) m.statements ≡ []
  unfolding loop_rules
  of_stills = right_none (flat_map stray m.statements) (flat_map (λ s. (still s).loops) m.statements) of_loops

  pub of_returns : when (list_flow (map statement_flow m.statements)).completes (no_return m.end) ≡ []
  unfolding method_rules return_rules
  of_returns = right_none (kind_rules (kind_name m.name m.kind) ++ local_repeats m ++ statements_rules (declared_by t) m ++ loop_rules m) (return_rules m) h
