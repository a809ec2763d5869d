-- What the check of a text answers: its program, or the first rule that it breaks, or the first thing of which it has
-- too much.
use Rattle.std.specs.Prelude.{◌≡◌, ℕ, None, Some, ⊤}
use Rattle.plank_base.specs.declared.limits.Thing.{Thing}
use Rattle.plank_ast.specs.declared.texts.Text.{Text}
use Rattle.plank_prog.specs.declared.programs.Program.{Program}
use Rattle.plank_rules.specs.BrokenRules.{broken_rules}
use Rattle.plank_rules.specs.FirstOf.{first_of}
use Rattle.plank_type.specs.declared.faults.TypeFault.{TypeFault}
use Rattle.plank_type.specs.Headers.{header_of}
use Rattle.plank_type.specs.Limits.{first_excess}
use Rattle.plank_type.specs.Methods.{methods_of}

-- the program of a text that breaks no rule and has too much of nothing
pub record IsProgramOf (t : Text) (p : Program) : Type 0 where
  pub rules : first_of (broken_rules t) ≡ None
  pub limits : first_excess t ≡ None
  pub name : p.name ≡ t.structure.label
  pub header : p.header ≡ header_of t
  pub methods : p.methods ≡ methods_of t

-- too much of a thing, where no rule is broken
pub record HasTooMuch (t : Text) (thing : Thing) (count limit : ℕ) : Type 0 where
  pub rules : first_of (broken_rules t) ≡ None
  pub limits : first_excess t ≡ Some (record { thing = thing; count = count; limit = limit })

-- a fault, with its cause; of memory nothing is told
abbrev pub IsFaultOf : Text → TypeFault → Type 0
IsFaultOf t (TypeFault.Broken kind place) = first_of (broken_rules t) ≡ Some (record { kind = kind; place = place })
IsFaultOf t (TypeFault.TooMany thing count limit) = HasTooMuch t thing count limit
IsFaultOf t TypeFault.OutOfMemory = ⊤
