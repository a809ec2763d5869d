-- How the table of facts is counted out: the facts of a kind by a first name, a field and a second name. The calls `fact`
-- and `number` count so; that the table does is proved in proofs/Counted.
use Rattle.std.specs.Prelude.{◌≡◌, ℕ, zero, suc, ◌+◌, ◌*◌, ◌-◌, ◌<◌, nat_lt, length, take, sum_by, Option, Some, None, if◌then◌else◌}
use Rattle.plank_prog.specs.declared.headers.Header.{Header}
use Rattle.plank_prog.specs.declared.blocks.Reference.{Reference}
use Rattle.plank_pic.specs.declared.literals.Literal.{Literal}
use Rattle.plank_fact.specs.declared.facts.Fact.{Fact}
use Rattle.plank_fact.specs.declared.kinds.FactKind.{FactKind}
use Rattle.plank_fact.specs.declared.kinds.TheConstants.{FACT_KINDS}
use Rattle.plank_fact.specs.declared.layouts.Parts.{Parts}
use Rattle.plank_fact.specs.declared.layouts.Sizes.{Sizes}
use Rattle.plank_fact.specs.declared.layouts.Seconds.{Seconds}
use Rattle.plank_fact.specs.declared.layouts.Layout.{Layout}
use Rattle.plank_fact.specs.Tables.{name_at, has_chains}

-- ---- a fact, by its kind and its parts

abbrev pub number_of : Reference → ℕ
number_of Reference.Root = 0
number_of (Reference.Variable v) = suc v

abbrev pub at : ℕ → ℕ → ℕ → Parts
at i f j = record { first = i; field = f; second = j }

abbrev pub fact_of : FactKind → Parts → Fact
fact_of FactKind.Same p = Fact.Now (Literal.Same (name_at p.first) (name_at p.second))
fact_of FactKind.Apart p = Fact.Now (Literal.Apart (name_at p.first) (name_at p.second))
fact_of FactKind.Null p = Fact.Now (Literal.Null (name_at p.first))
fact_of FactKind.NotNull p = Fact.Now (Literal.NotNull (name_at p.first))
fact_of FactKind.KeyBelow p = Fact.Now (Literal.KeyBelow (name_at p.first) (name_at p.second))
fact_of FactKind.KeyAtMost p = Fact.Now (Literal.KeyAtMost (name_at p.first) (name_at p.second))
fact_of FactKind.BelowArgument p = Fact.Now (Literal.BelowArgument (name_at p.first))
fact_of FactKind.AtMostArgument p = Fact.Now (Literal.AtMostArgument (name_at p.first))
fact_of FactKind.AboveArgument p = Fact.Now (Literal.AboveArgument (name_at p.first))
fact_of FactKind.AtLeastArgument p = Fact.Now (Literal.AtLeastArgument (name_at p.first))
fact_of FactKind.KeyIsMin p = Fact.Now (Literal.KeyIsMin (name_at p.first))
fact_of FactKind.AboveMin p = Fact.Now (Literal.AboveMin (name_at p.first))
fact_of FactKind.BelowMax p = Fact.Now (Literal.BelowMax (name_at p.first))
fact_of FactKind.KeyIsMax p = Fact.Now (Literal.KeyIsMax (name_at p.first))
fact_of FactKind.Flag p = Fact.Now (Literal.Flag (name_at p.first) p.field)
fact_of FactKind.NoFlag p = Fact.Now (Literal.NoFlag (name_at p.first) p.field)
fact_of FactKind.Leads p = Fact.Now (Literal.Leads (name_at p.first) p.field (name_at p.second))
fact_of FactKind.LeadsNowhere p = Fact.Now (Literal.LeadsNowhere (name_at p.first) p.field)
fact_of FactKind.Locked p = Fact.Now (Literal.Locked (name_at p.first))
fact_of FactKind.Owned p = Fact.Now (Literal.Owned (name_at p.first))
fact_of FactKind.Shared p = Fact.Now (Literal.Shared (name_at p.first))
fact_of FactKind.Visited p = Fact.Now (Literal.Visited (name_at p.first))
fact_of FactKind.InSet p = Fact.Now Literal.InSet
fact_of FactKind.NotInSet p = Fact.Now Literal.NotInSet
fact_of FactKind.Chain p = Fact.Now (Literal.Chain (name_at p.first) (name_at p.second))
fact_of FactKind.PastVisited p = Fact.Past (Literal.Visited (name_at p.first))
fact_of FactKind.PastFlag p = Fact.Past (Literal.Flag (name_at p.first) p.field)
fact_of FactKind.PastNoFlag p = Fact.Past (Literal.NoFlag (name_at p.first) p.field)
fact_of FactKind.PastInSet p = Fact.Past Literal.InSet
fact_of FactKind.PastNotInSet p = Fact.Past Literal.NotInSet
fact_of FactKind.Spent p = Fact.Now Literal.Spent
fact_of FactKind.Unspent p = Fact.Now Literal.Unspent

abbrev pub kind_now : Literal → FactKind
kind_now (Literal.Same q r) = FactKind.Same
kind_now (Literal.Apart q r) = FactKind.Apart
kind_now (Literal.Null q) = FactKind.Null
kind_now (Literal.NotNull q) = FactKind.NotNull
kind_now (Literal.KeyBelow q r) = FactKind.KeyBelow
kind_now (Literal.KeyAtMost q r) = FactKind.KeyAtMost
kind_now (Literal.BelowArgument q) = FactKind.BelowArgument
kind_now (Literal.AtMostArgument q) = FactKind.AtMostArgument
kind_now (Literal.AboveArgument q) = FactKind.AboveArgument
kind_now (Literal.AtLeastArgument q) = FactKind.AtLeastArgument
kind_now (Literal.KeyIsMin q) = FactKind.KeyIsMin
kind_now (Literal.AboveMin q) = FactKind.AboveMin
kind_now (Literal.BelowMax q) = FactKind.BelowMax
kind_now (Literal.KeyIsMax q) = FactKind.KeyIsMax
kind_now (Literal.Flag q f) = FactKind.Flag
kind_now (Literal.NoFlag q f) = FactKind.NoFlag
kind_now (Literal.Leads q f r) = FactKind.Leads
kind_now (Literal.LeadsNowhere q f) = FactKind.LeadsNowhere
kind_now (Literal.Locked q) = FactKind.Locked
kind_now (Literal.Owned q) = FactKind.Owned
kind_now (Literal.Shared q) = FactKind.Shared
kind_now (Literal.Visited q) = FactKind.Visited
kind_now Literal.InSet = FactKind.InSet
kind_now Literal.NotInSet = FactKind.NotInSet
kind_now (Literal.Chain q r) = FactKind.Chain
kind_now Literal.Spent = FactKind.Spent
kind_now Literal.Unspent = FactKind.Unspent

abbrev pub kind_past : Literal → Option FactKind
kind_past (Literal.Visited q) = Some FactKind.PastVisited
kind_past (Literal.Flag q f) = Some FactKind.PastFlag
kind_past (Literal.NoFlag q f) = Some FactKind.PastNoFlag
kind_past Literal.InSet = Some FactKind.PastInSet
kind_past Literal.NotInSet = Some FactKind.PastNotInSet
kind_past L = None

-- the kind of a fact that some table has
abbrev pub kind_of : Fact → Option FactKind
kind_of (Fact.Now L) = Some (kind_now L)
kind_of (Fact.Past L) = kind_past L

abbrev pub parts_of_literal : Literal → Parts
parts_of_literal (Literal.Same q r) = at (number_of q) 0 (number_of r)
parts_of_literal (Literal.Apart q r) = at (number_of q) 0 (number_of r)
parts_of_literal (Literal.Null q) = at (number_of q) 0 0
parts_of_literal (Literal.NotNull q) = at (number_of q) 0 0
parts_of_literal (Literal.KeyBelow q r) = at (number_of q) 0 (number_of r)
parts_of_literal (Literal.KeyAtMost q r) = at (number_of q) 0 (number_of r)
parts_of_literal (Literal.BelowArgument q) = at (number_of q) 0 0
parts_of_literal (Literal.AtMostArgument q) = at (number_of q) 0 0
parts_of_literal (Literal.AboveArgument q) = at (number_of q) 0 0
parts_of_literal (Literal.AtLeastArgument q) = at (number_of q) 0 0
parts_of_literal (Literal.KeyIsMin q) = at (number_of q) 0 0
parts_of_literal (Literal.AboveMin q) = at (number_of q) 0 0
parts_of_literal (Literal.BelowMax q) = at (number_of q) 0 0
parts_of_literal (Literal.KeyIsMax q) = at (number_of q) 0 0
parts_of_literal (Literal.Flag q f) = at (number_of q) f 0
parts_of_literal (Literal.NoFlag q f) = at (number_of q) f 0
parts_of_literal (Literal.Leads q f r) = at (number_of q) f (number_of r)
parts_of_literal (Literal.LeadsNowhere q f) = at (number_of q) f 0
parts_of_literal (Literal.Locked q) = at (number_of q) 0 0
parts_of_literal (Literal.Owned q) = at (number_of q) 0 0
parts_of_literal (Literal.Shared q) = at (number_of q) 0 0
parts_of_literal (Literal.Visited q) = at (number_of q) 0 0
parts_of_literal Literal.InSet = at 0 0 0
parts_of_literal Literal.NotInSet = at 0 0 0
parts_of_literal (Literal.Chain q r) = at (number_of q) 0 (number_of r)
parts_of_literal Literal.Spent = at 0 0 0
parts_of_literal Literal.Unspent = at 0 0 0

abbrev pub parts_of : Fact → Parts
parts_of (Fact.Now L) = parts_of_literal L
parts_of (Fact.Past L) = parts_of_literal L

-- the place of a kind in their order
abbrev pub kind_number : FactKind → ℕ
kind_number FactKind.Same = 0
kind_number FactKind.Apart = 1
kind_number FactKind.Null = 2
kind_number FactKind.NotNull = 3
kind_number FactKind.KeyBelow = 4
kind_number FactKind.KeyAtMost = 5
kind_number FactKind.BelowArgument = 6
kind_number FactKind.AtMostArgument = 7
kind_number FactKind.AboveArgument = 8
kind_number FactKind.AtLeastArgument = 9
kind_number FactKind.KeyIsMin = 10
kind_number FactKind.AboveMin = 11
kind_number FactKind.BelowMax = 12
kind_number FactKind.KeyIsMax = 13
kind_number FactKind.Flag = 14
kind_number FactKind.NoFlag = 15
kind_number FactKind.Leads = 16
kind_number FactKind.LeadsNowhere = 17
kind_number FactKind.Locked = 18
kind_number FactKind.Owned = 19
kind_number FactKind.Shared = 20
kind_number FactKind.Visited = 21
kind_number FactKind.InSet = 22
kind_number FactKind.NotInSet = 23
kind_number FactKind.Chain = 24
kind_number FactKind.PastVisited = 25
kind_number FactKind.PastFlag = 26
kind_number FactKind.PastNoFlag = 27
kind_number FactKind.PastInSet = 28
kind_number FactKind.PastNotInSet = 29
kind_number FactKind.Spent = 30
kind_number FactKind.Unspent = 31

-- ---- what the facts of a kind range over

-- for a method with n names
abbrev pub sizes_of : Header → ℕ → Sizes
sizes_of h n = record {
  names = n;
  flags = length h.flags;
  pointers = length h.pointers;
  lockable = if h.has_lock then n else 0;
  chained = if has_chains h then n else 0;
}

abbrev pub over : ℕ → ℕ → Seconds → Layout
over firsts fields seconds = record { firsts = firsts; fields = fields; seconds = seconds }

abbrev pub layout_of : Sizes → FactKind → Layout
layout_of s FactKind.Same = over s.names 1 Seconds.Later
layout_of s FactKind.Apart = over s.names 1 Seconds.Later
layout_of s FactKind.Null = over s.names 1 Seconds.Absent
layout_of s FactKind.NotNull = over s.names 1 Seconds.Absent
layout_of s FactKind.KeyBelow = over s.names 1 Seconds.Others
layout_of s FactKind.KeyAtMost = over s.names 1 Seconds.Others
layout_of s FactKind.BelowArgument = over s.names 1 Seconds.Absent
layout_of s FactKind.AtMostArgument = over s.names 1 Seconds.Absent
layout_of s FactKind.AboveArgument = over s.names 1 Seconds.Absent
layout_of s FactKind.AtLeastArgument = over s.names 1 Seconds.Absent
layout_of s FactKind.KeyIsMin = over s.names 1 Seconds.Absent
layout_of s FactKind.AboveMin = over s.names 1 Seconds.Absent
layout_of s FactKind.BelowMax = over s.names 1 Seconds.Absent
layout_of s FactKind.KeyIsMax = over s.names 1 Seconds.Absent
layout_of s FactKind.Flag = over s.names s.flags Seconds.Absent
layout_of s FactKind.NoFlag = over s.names s.flags Seconds.Absent
layout_of s FactKind.Leads = over s.names s.pointers Seconds.Every
layout_of s FactKind.LeadsNowhere = over s.names s.pointers Seconds.Absent
layout_of s FactKind.Locked = over s.lockable 1 Seconds.Absent
layout_of s FactKind.Owned = over s.names 1 Seconds.Absent
layout_of s FactKind.Shared = over s.names 1 Seconds.Absent
layout_of s FactKind.Visited = over s.names 1 Seconds.Absent
layout_of s FactKind.InSet = over 1 1 Seconds.Absent
layout_of s FactKind.NotInSet = over 1 1 Seconds.Absent
layout_of s FactKind.Chain = over s.chained 1 Seconds.Others
layout_of s FactKind.PastVisited = over s.names 1 Seconds.Absent
layout_of s FactKind.PastFlag = over s.names s.flags Seconds.Absent
layout_of s FactKind.PastNoFlag = over s.names s.flags Seconds.Absent
layout_of s FactKind.PastInSet = over 1 1 Seconds.Absent
layout_of s FactKind.PastNotInSet = over 1 1 Seconds.Absent
layout_of s FactKind.Spent = over 1 1 Seconds.Absent
layout_of s FactKind.Unspent = over 1 1 Seconds.Absent

-- ---- places

-- of n names, how many may be second beside the i-th
abbrev pub count_of : Seconds → ℕ → ℕ → ℕ
count_of Seconds.Absent n i = 1
count_of Seconds.Every n i = n
count_of Seconds.Others n i = n - 1
count_of Seconds.Later n i = n - suc i

-- the r-th of them
abbrev pub second_of : Seconds → ℕ → ℕ → ℕ
second_of Seconds.Absent i r = 0
second_of Seconds.Every i r = r
second_of Seconds.Others i r = if nat_lt r i then r else suc r
second_of Seconds.Later i r = suc (i + r)

abbrev pub second_count : Layout → ℕ → ℕ
second_count L i = count_of L.seconds L.firsts i

-- how many facts have the i-th first name
abbrev pub width : Layout → ℕ → ℕ
width L i = L.fields * second_count L i

-- how many facts have a first name before the i-th
unfoldable pub start : Layout → ℕ → ℕ
start L zero = 0
start L (suc i) = start L i + width L i

-- how many facts there are
abbrev pub size_of : Layout → ℕ
size_of L = start L L.firsts

-- how many facts have one of the first so many kinds
abbrev pub facts_within : Sizes → ℕ → ℕ
facts_within s i = sum_by (λ k. size_of (layout_of s k)) (take i FACT_KINDS)

abbrev pub AreSmall : Parts → Type 0
AreSmall p = (p.first < 256) × (p.field < 256) × (p.second < 256)

-- the fact with these parts stands at this place among the facts of its kind
pub record IsPlace (L : Layout) (p : Parts) (place : ℕ) : Type 0 where
  pub first : p.first < L.firsts
  pub field : p.field < L.fields
  pub rank : ℕ
  pub listed : rank < second_count L p.first
  pub second : p.second ≡ second_of L.seconds p.first rank
  pub is : place ≡ start L p.first + (p.field * second_count L p.first + rank)
