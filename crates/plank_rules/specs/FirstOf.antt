-- The first of broken rules: the least place, and at one place the first kind.
use Rattle.std.specs.Prelude.{◌≡◌, ℕ, Bool, false, nat_lt, nat_eq, ◌&&◌, ◌||◌, if◌then◌else◌, List, [], Option, None, Some, All, fold}
use Rattle.std.specs.List.{Contains}
use Rattle.std.specs.Option.{MatchOption}
use Rattle.plank_base.specs.declared.typing.TypeKind.{TypeKind}
use Rattle.plank_rules.specs.declared.broken.Broken.{Broken}

abbrev pub kind_rank : TypeKind → ℕ
kind_rank TypeKind.Unknown = 0
kind_rank TypeKind.Twice = 1
kind_rank TypeKind.WrongKind = 2
kind_rank TypeKind.BindReused = 3
kind_rank TypeKind.NoReturn = 4
kind_rank TypeKind.NotOneRoot = 5

-- less, or equal and the rest decides
abbrev pub less_or : ℕ → ℕ → Bool → Bool
less_or a b rest = nat_lt a b || nat_eq a b && rest

-- by line, column, byte and kind
abbrev pub stands_before : Broken → Broken → Bool
stands_before a b =
    less_or a.place.line b.place.line (less_or a.place.column b.place.column
    (less_or a.place.byte b.place.byte (nat_lt (kind_rank a.kind) (kind_rank b.kind))))

-- the earlier of the first so far and one more
abbrev pub earlier : Option Broken → Broken → Option Broken
earlier None b = Some b
earlier (Some a) b = if stands_before b a then Some b else Some a

abbrev pub first_of : List Broken → Option Broken
first_of broken = fold earlier None broken

-- one of them, and none of them stands before it
pub record IsFirst (broken : List Broken) (first : Broken) : Type 0 where
  pub member : Contains broken first
  pub least : All (λ other. stands_before other first ≡ false) broken

-- where there is no first there is none at all
abbrev pub FirstIsLeast : Type 0
FirstIsLeast = (broken : List Broken) → MatchOption (first_of broken) (broken ≡ []) (IsFirst broken)
