-- The names that the rules look up are those that the text declares.
use Rattle.std.specs.Prelude.{◌≡◌, ℕ, List}
use Rattle.plank_ast.specs.declared.methods.Method.{Method}
use Rattle.plank_ast.specs.declared.texts.Text.{Text}
use Rattle.plank_rules.specs.Declarations.{is_among, flag_names, pointer_names, start_names, variables_of}
use Rattle.plank_rules.specs.MethodRules.{method_scope}
use Rattle.plank_rules.specs.BrokenRules.{declared_by, start_nodes}

-- the same names are among both
pub record SameNames (xs ys : List (List ℕ)) : Type 0 where
  pub same : (name : List ℕ) → is_among xs name ≡ is_among ys name

-- flags, pointers, start nodes and variables are looked up among those of the text
pub record LooksUpWhatIsDeclared (t : Text) : Type 0 where
  pub flags : SameNames (declared_by t).flags (flag_names t)
  pub pointers : SameNames (declared_by t).pointers (pointer_names t)
  pub starts : SameNames (start_nodes t) (start_names t)
  pub variables : (m : Method) → SameNames (method_scope m).nodes (variables_of m)
