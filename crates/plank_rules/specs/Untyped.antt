-- Why a text is not known to be well typed.
use Rattle.std.specs.Prelude.{◌≡◌, Some, ⊤}
use Rattle.plank_ast.specs.declared.texts.Text.{Text}
use Rattle.plank_rules.specs.declared.typed.Untyped.{Untyped}
use Rattle.plank_rules.specs.BrokenRules.{broken_rules}
use Rattle.plank_rules.specs.FirstOf.{first_of}

-- the first rule that it breaks; of memory nothing is told
abbrev pub IsUntyped : Text → Untyped → Type 0
IsUntyped t (Untyped.Broken broken) = first_of (broken_rules t) ≡ Some broken
IsUntyped t Untyped.OutOfMemory = ⊤
