-- The methods of a text, with numbers in the place of names.
use Rattle.std.specs.Prelude.{ℕ, List, map, codes, if◌then◌else◌}
use Rattle.std.specs.Option.{option_map_or}
use Rattle.plank_base.specs.declared.operations.Op.{Op}
use Rattle.plank_ast.specs.declared.methods.Method.{Method as MethodTree}
use Rattle.plank_ast.specs.declared.texts.Text.{Text}
use Rattle.plank_prog.specs.declared.methods.Location.{Location}
use Rattle.plank_prog.specs.declared.methods.MethodKind.{MethodKind}
use Rattle.plank_prog.specs.declared.methods.Method.{Method}
use Rattle.plank_rules.specs.declared.names.Declared.{Declared}
use Rattle.plank_type.specs.declared.exits.Exits.{Exits}
use Rattle.plank_rules.specs.Declarations.{same_name, variables_of, methods_of as method_trees}
use Rattle.plank_type.specs.Numbers.{names_of}
use Rattle.plank_type.specs.Statements.{statements_size, statements_locations}

-- the word that says what a method does: that after `as`, or the method's own name
abbrev pub kind_word : MethodTree → List ℕ
kind_word m = option_map_or (λ kind. kind.label) m.kind m.name.label

-- what the word says; a text that breaks no rule of typing has no other word
abbrev pub kind_of : List ℕ → MethodKind
kind_of word =
    if same_name word (codes "contains") then MethodKind.Set Op.Contains
    else (if same_name word (codes "insert") then MethodKind.Set Op.Insert
    else (if same_name word (codes "delete") then MethodKind.Set Op.Delete else MethodKind.Upkeep))

abbrev pub method_size : MethodTree → ℕ
method_size m = statements_size m.statements

-- past the end there is no location
abbrev pub end_exits : ℕ → Exits
end_exits count = record { next = count; of_break = count; of_continue = count }

abbrev pub locations_of : Declared → MethodTree → List Location
locations_of names m = statements_locations m.statements names (variables_of m) (method_size m) 0 (end_exits (method_size m))

abbrev pub method_of : Declared → MethodTree → Method
method_of names m = record {
  name = m.name.label;
  kind = kind_of (kind_word m);
  arg = m.argument.label;
  variables = variables_of m;
  locations = locations_of names m;
}

-- the methods of a text
abbrev pub methods_of : Text → List Method
methods_of t = map (method_of (names_of t)) (method_trees t)
