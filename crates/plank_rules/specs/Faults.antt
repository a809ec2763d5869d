-- The rules that a text may break, each at a token.
use Rattle.std.specs.Prelude.{◌≡◌, Bool, if◌then◌else◌, List, [], ◌∷◌, Option, fold}
use Rattle.plank_base.specs.declared.places.Place.{Place}
use Rattle.plank_base.specs.declared.typing.TypeKind.{TypeKind}
use Rattle.plank_rules.specs.declared.broken.Broken.{Broken}
use Rattle.plank_rules.specs.declared.findings.Findings.{Findings}
use Rattle.plank_rules.specs.FirstOf.{earlier}

abbrev pub unknown : Place → Broken
unknown place = record { kind = TypeKind.Unknown; place = place }

abbrev pub twice : Place → Broken
twice place = record { kind = TypeKind.Twice; place = place }

abbrev pub wrong_kind : Place → Broken
wrong_kind place = record { kind = TypeKind.WrongKind; place = place }

abbrev pub bind_reused : Place → Broken
bind_reused place = record { kind = TypeKind.BindReused; place = place }

abbrev pub no_return : Place → Broken
no_return place = record { kind = TypeKind.NoReturn; place = place }

abbrev pub not_one_root : Place → Broken
not_one_root place = record { kind = TypeKind.NotOneRoot; place = place }

-- a broken rule, where a test holds
abbrev pub when : Bool → Broken → List Broken
when test broken = if test then broken ∷ [] else []

-- the first of what was found before and of these broken rules
abbrev pub after : Option Broken → List Broken → Option Broken
after first broken = fold earlier first broken

-- these broken rules were found besides
abbrev pub Adds : Findings → Findings → List Broken → Type 0
Adds old new more = new.first ≡ after old.first more
