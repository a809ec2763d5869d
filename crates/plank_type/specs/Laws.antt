-- Laws of the definitions of a text's program.
use Rattle.std.specs.Prelude.{◌≡◌, ◌≤◌, All, true, [], length, None}
use Rattle.plank_base.specs.declared.limits.TheConstants.{METHODS_LIMIT}
use Rattle.plank_ast.specs.declared.texts.Text.{Text}
use Rattle.plank_rules.specs.Declarations.{methods_of as method_trees}
use Rattle.plank_prog.specs.Headers.{is_lawful_header}
use Rattle.plank_prog.specs.Methods.{are_lawful_methods}
use Rattle.plank_rules.specs.BrokenRules.{broken_rules}
use Rattle.plank_type.specs.Numbers.{names_of, HasFewNames}
use Rattle.plank_type.specs.Headers.{header_of}
use Rattle.plank_type.specs.Limits.{text_excess, first_excess, IsSmall}
use Rattle.plank_type.specs.Methods.{methods_of}
use Rattle.plank_type.specs.Told.{IsToldWhole}

-- a text within the limits that its tree shows
pub record IsWithin (t : Text) : Type 0 where
  pub methods : length (method_trees t) ≤ METHODS_LIMIT
  pub names : HasFewNames (names_of t)
  pub first : IsSmall t.methods.first
  pub others : All IsSmall t.methods.others

-- where a text has too much of nothing, it is within each limit
abbrev pub LimitsHold : Type 0
LimitsHold = (t : Text) → text_excess t ≡ None → IsWithin t

-- the header of a text that breaks no rule of typing and is within the limits is lawful
abbrev pub HeadersAreLawful : Type 0
HeadersAreLawful = (t : Text) → broken_rules t ≡ [] → text_excess t ≡ None → is_lawful_header (header_of t) ≡ true

-- the methods of such a text are lawful
abbrev pub MethodsAreLawful : Type 0
MethodsAreLawful = (t : Text) → broken_rules t ≡ [] → first_excess t ≡ None → are_lawful_methods (header_of t) (methods_of t) ≡ true

-- a text that breaks no rule of typing is told whole in its program
abbrev pub TextsAreToldWhole : Type 0
TextsAreToldWhole = (t : Text) → broken_rules t ≡ [] → IsToldWhole t
