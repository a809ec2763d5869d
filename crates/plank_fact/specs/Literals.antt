-- What literals speak of: their names, fields of one node, what never changes, what may be past and of which node.
-- Tables, effects and hindsight use it.
use Rattle.std.specs.Prelude.{Bool, true, false, List, [], ◌∷◌, Option, Some, None}
use Rattle.std.specs.List.{list_all}
use Rattle.plank_prog.specs.declared.blocks.Reference.{Reference}
use Rattle.plank_prog.specs.Blocks.{same_reference}
use Rattle.plank_pic.specs.declared.literals.Literal.{Literal}

abbrev pub names_of : Literal → List Reference
names_of (Literal.Same q r) = q ∷ r ∷ []
names_of (Literal.Apart q r) = q ∷ r ∷ []
names_of (Literal.Null q) = q ∷ []
names_of (Literal.NotNull q) = q ∷ []
names_of (Literal.KeyBelow q r) = q ∷ r ∷ []
names_of (Literal.KeyAtMost q r) = q ∷ r ∷ []
names_of (Literal.BelowArgument q) = q ∷ []
names_of (Literal.AtMostArgument q) = q ∷ []
names_of (Literal.AboveArgument q) = q ∷ []
names_of (Literal.AtLeastArgument q) = q ∷ []
names_of (Literal.KeyIsMin q) = q ∷ []
names_of (Literal.AboveMin q) = q ∷ []
names_of (Literal.BelowMax q) = q ∷ []
names_of (Literal.KeyIsMax q) = q ∷ []
names_of (Literal.Flag q f) = q ∷ []
names_of (Literal.NoFlag q f) = q ∷ []
names_of (Literal.Leads q f r) = q ∷ r ∷ []
names_of (Literal.LeadsNowhere q f) = q ∷ []
names_of (Literal.Locked q) = q ∷ []
names_of (Literal.Owned q) = q ∷ []
names_of (Literal.Shared q) = q ∷ []
names_of (Literal.Visited q) = q ∷ []
names_of Literal.InSet = []
names_of Literal.NotInSet = []
names_of (Literal.Chain q r) = q ∷ r ∷ []
names_of Literal.Spent = []
names_of Literal.Unspent = []

-- whether each name of a literal passes
abbrev pub is_over : (Reference → Bool) → Literal → Bool
is_over test L = list_all test (names_of L)

-- what the call itself has done, which other calls do not know
abbrev pub is_of_call : Literal → Bool
is_of_call Literal.Spent = true
is_of_call Literal.Unspent = true
is_of_call L = false

-- what is said of names and keys alone: while the names stay, it never changes
abbrev pub is_lasting : Literal → Bool
is_lasting (Literal.Same q r) = true
is_lasting (Literal.Apart q r) = true
is_lasting (Literal.Null q) = true
is_lasting (Literal.NotNull q) = true
is_lasting (Literal.KeyBelow q r) = true
is_lasting (Literal.KeyAtMost q r) = true
is_lasting (Literal.BelowArgument q) = true
is_lasting (Literal.AtMostArgument q) = true
is_lasting (Literal.AboveArgument q) = true
is_lasting (Literal.AtLeastArgument q) = true
is_lasting (Literal.KeyIsMin q) = true
is_lasting (Literal.AboveMin q) = true
is_lasting (Literal.BelowMax q) = true
is_lasting (Literal.KeyIsMax q) = true
is_lasting L = false

-- what is said of a flag or a pointer of the node that q names
abbrev pub is_field_of : Reference → Literal → Bool
is_field_of q (Literal.Flag r f) = same_reference q r
is_field_of q (Literal.NoFlag r f) = same_reference q r
is_field_of q (Literal.Leads r f s) = same_reference q r
is_field_of q (Literal.LeadsNowhere r f) = same_reference q r
is_field_of q L = false

-- ---- past facts: of the walk of the key, of flags, and of the set

-- whether a literal may be past
abbrev pub can_be_past : Literal → Bool
can_be_past (Literal.Visited q) = true
can_be_past (Literal.Flag q f) = true
can_be_past (Literal.NoFlag q f) = true
can_be_past Literal.InSet = true
can_be_past Literal.NotInSet = true
can_be_past L = false

-- the name of the node that a past fact is of; None where it is of the set
abbrev pub past_name : Literal → Option Reference
past_name (Literal.Visited q) = Some q
past_name (Literal.Flag q f) = Some q
past_name (Literal.NoFlag q f) = Some q
past_name L = None

-- the same, said of the node that another name names
abbrev pub said_of : Reference → Literal → Literal
said_of q (Literal.Visited r) = Literal.Visited q
said_of q (Literal.Flag r f) = Literal.Flag q f
said_of q (Literal.NoFlag r f) = Literal.NoFlag q f
said_of q L = L
