-- Every rule of typing that a text breaks.
use Rattle.std.specs.Prelude.{ℕ, List, ◌++◌, map, is_some}
use Rattle.std.specs.List.{flat_map}
use Rattle.plank_ast.specs.declared.methods.Method.{Method}
use Rattle.plank_ast.specs.declared.texts.Text.{Text}
use Rattle.plank_rules.specs.declared.broken.Broken.{Broken}
use Rattle.plank_rules.specs.declared.names.Declared.{Declared}
use Rattle.plank_rules.specs.Declarations.{distinct, methods_of}
use Rattle.plank_rules.specs.Occurrences.{Occurrence, occurrence, labels_of, repeats}
use Rattle.plank_rules.specs.Headers.{flag_occurrence, pointer_occurrence, start_occurrence, roots_rules, start_rules, edges_rules, holds_rules, keeps_rules, optional_freeze_rules}
use Rattle.plank_rules.specs.MethodRules.{method_rules}

abbrev pub start_nodes : Text → List (List ℕ)
start_nodes t = distinct (labels_of (map start_occurrence t.starts))

-- the names that a header declares, each once
unfoldable pub declared_by : Text → Declared
declared_by t = record {
  flags = distinct (labels_of (map flag_occurrence t.flags));
  pointers = distinct (labels_of (map pointer_occurrence t.pointers));
  nodes = start_nodes t;
  has_lock = is_some t.lock;
}

-- flags and pointers share one space
abbrev pub field_occurrences : Text → List Occurrence
field_occurrences t = map flag_occurrence t.flags ++ map pointer_occurrence t.pointers

-- a field that is declared twice
unfoldable pub field_repeats : Text → List Broken
field_repeats t = repeats (field_occurrences t)

unfoldable pub start_node_rules : Declared → Text → List Broken
start_node_rules header t =
    roots_rules header.nodes t.place t.roots ++ flat_map (start_rules header header.nodes) t.starts
    ++ repeats (map start_occurrence t.starts)

unfoldable pub condition_line_rules : Declared → Text → List Broken
condition_line_rules header t =
    edges_rules header t.edges ++ holds_rules header t.holds ++ keeps_rules header t.keeps ++ optional_freeze_rules header t.freeze

abbrev pub method_occurrence : Method → Occurrence
method_occurrence m = occurrence m.name

unfoldable pub methods_rules : Declared → Text → List Broken
methods_rules header t = repeats (map method_occurrence (methods_of t)) ++ flat_map (method_rules header) (methods_of t)

-- every broken rule of a text
unfoldable pub broken_rules : Text → List Broken
broken_rules t =
    field_repeats t ++ start_node_rules (declared_by t) t ++ condition_line_rules (declared_by t) t ++ methods_rules (declared_by t) t
