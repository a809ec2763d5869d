-- The rules on a method.
use Rattle.std.specs.Prelude.{ℕ, Bool, not, ◌||◌, List, [], ◌∷◌, ◌++◌, Option, None, Some, map}
use Rattle.std.specs.List.{flat_map}
use Rattle.std.specs.Option.{option_map_or}
use lib.Chars.{codes}
use Rattle.plank_ast.specs.declared.names.Name.{Name}
use Rattle.plank_ast.specs.declared.methods.Variables.{Variables}
use Rattle.plank_ast.specs.declared.methods.Method.{Method}
use Rattle.plank_rules.specs.declared.broken.Broken.{Broken}
use Rattle.plank_rules.specs.declared.scopes.Setting.{Setting}
use Rattle.plank_rules.specs.declared.names.Declared.{Declared}
use Rattle.plank_rules.specs.declared.scopes.Scope.{Scope}
use Rattle.plank_rules.specs.Declarations.{same_name, distinct, variable_line}
use Rattle.plank_rules.specs.Faults.{when, unknown, no_return}
use Rattle.plank_rules.specs.Occurrences.{Occurrence, occurrence, labels_of, repeats}
use Rattle.plank_rules.specs.StatementRules.{statement_rules}
use Rattle.plank_rules.specs.Loops.{stray, still}
use Rattle.plank_rules.specs.Flow.{list_flow, statement_flow}

-- the words that say what a method is for
abbrev pub is_kind : List ℕ → Bool
is_kind label =
    same_name label (codes "contains") || same_name label (codes "insert") || same_name label (codes "delete")
    || same_name label (codes "upkeep")

-- the word after `as`, or the method's own name where there is no `as`
abbrev pub kind_name : Name → Option Name → Name
kind_name name None = name
kind_name name (Some kind) = kind

-- a kind that is none of the four
unfoldable pub kind_rules : Name → List Broken
kind_rules kind = when (not (is_kind kind.label)) (unknown kind.place)

-- the variables of a line, where it declares them
abbrev pub line_occurrences : Option Variables → List Occurrence
line_occurrences line = option_map_or (λ v. map occurrence (variable_line v)) line []

abbrev pub variable_occurrences : Method → List Occurrence
variable_occurrences m = line_occurrences m.variables

-- the argument of a method, and its variables
abbrev pub local_occurrences : Method → List Occurrence
local_occurrences m = occurrence m.argument ∷ variable_occurrences m

-- a name that is declared twice in a method
unfoldable pub local_repeats : Method → List Broken
local_repeats m = repeats (local_occurrences m)

-- what names mean in a method
unfoldable pub method_scope : Method → Scope
method_scope m = record {
  setting = Setting.Method;
  nodes = distinct (labels_of (variable_occurrences m));
  keys = m.argument.label ∷ [];
}

unfoldable pub statements_rules : Declared → Method → List Broken
statements_rules header m = flat_map (statement_rules header (method_scope m)) m.statements

-- what leads out of no loop, and loops that stand still
unfoldable pub loop_rules : Method → List Broken
loop_rules m = flat_map stray m.statements ++ flat_map (λ s. (still s).loops) m.statements

-- a body that can be completed
unfoldable pub return_rules : Method → List Broken
return_rules m = when (list_flow (map statement_flow m.statements)).completes (no_return m.end)

unfoldable pub method_rules : Declared → Method → List Broken
method_rules header m =
    kind_rules (kind_name m.name m.kind) ++ local_repeats m
    ++ statements_rules header m ++ loop_rules m ++ return_rules m
