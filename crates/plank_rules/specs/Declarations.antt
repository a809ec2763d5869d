-- What a text declares: its names in the order of the text, and where a name stands among names.
use Rattle.std.specs.Prelude.{ℕ, nat_eq, Bool, if◌then◌else◌, List, [], ◌∷◌, ◌++◌, Option, map, fold, position}
use Rattle.std.specs.List.{list_any}
use Rattle.std.specs.Option.{option_map_or}
use lib.Pointwise.{pointwise}
use Rattle.plank_ast.specs.declared.names.Name.{Name}
use Rattle.plank_ast.specs.declared.methods.Variables.{Variables}
use Rattle.plank_ast.specs.declared.methods.Method.{Method}
use Rattle.plank_ast.specs.declared.texts.Text.{Text}

-- ---- names

-- whether two names have the same bytes
abbrev pub same_name : List ℕ → List ℕ → Bool
same_name = pointwise nat_eq

-- whether a name is among names
abbrev pub is_among : List (List ℕ) → List ℕ → Bool
is_among names name = list_any (same_name name) names

-- the first place of a name among names
abbrev pub number_of : List ℕ → List (List ℕ) → Option ℕ
number_of name names = position (same_name name) names

-- the names, and one more at the end unless it is among them
abbrev pub with_name : List (List ℕ) → List ℕ → List (List ℕ)
with_name names name = if is_among names name then names else names ++ name ∷ []

-- the names without repetitions, each at its first place
abbrev pub distinct : List (List ℕ) → List (List ℕ)
distinct names = fold with_name [] names

abbrev pub labels : List Name → List (List ℕ)
labels names = map (λ n. n.label) names

-- ---- what the header declares

abbrev pub flag_names : Text → List (List ℕ)
flag_names t = map (λ line. line.name.label) t.flags

abbrev pub pointer_names : Text → List (List ℕ)
pointer_names t = map (λ line. line.name.label) t.pointers

abbrev pub start_names : Text → List (List ℕ)
start_names t = map (λ line. line.name.label) t.starts

abbrev pub keep_names : Text → List (List ℕ)
keep_names t = map (λ line. line.name.label) t.keeps

-- ---- what the methods declare

abbrev pub methods_of : Text → List Method
methods_of t = t.methods.first ∷ t.methods.others

abbrev pub method_names : Text → List (List ℕ)
method_names t = map (λ m. m.name.label) (methods_of t)

-- the names of a line of variables
abbrev pub variable_line : Variables → List Name
variable_line v = v.first ∷ v.others

-- the variables of a method, as it declares them
abbrev pub declared_variables : Method → List Name
declared_variables m = option_map_or variable_line m.variables []

abbrev pub variables_of : Method → List (List ℕ)
variables_of m = labels (declared_variables m)
