-- Proof outlines: a program and its marks, which say what is not claimed where. All that follows is said of an outline.
use Rattle.std.specs.Prelude.{◌≡◌, ℕ, ◌+◌, ◌*◌, Bool, true, false, List, take, sum_by, slice_get, Some}
use Rattle.plank_base.specs.declared.limits.TheConstants.{MARK_WORDS_PER_LOCATION}
use Rattle.plank_prog.specs.declared.headers.Header.{Header}
use Rattle.plank_prog.specs.declared.methods.Location.{Location}
use Rattle.plank_prog.specs.declared.methods.Method.{Method}
use Rattle.plank_prog.specs.Methods.{location_count}
use Rattle.plank_fact.specs.declared.facts.Fact.{Fact}
use Rattle.plank_fact.specs.Tables.{IsNumbered}

pub record Outline : Type 0 where
  pub header : Header
  pub methods : List Method
  -- which marks are set
  pub marks : ℕ → Bool

-- a location of a method of a program
pub record Point (methods : List Method) : Type 0 where
  pub m : ℕ
  pub l : ℕ
  pub method : Method
  pub location : Location
  pub called : slice_get methods m ≡ Some method
  pub there : slice_get method.locations l ≡ Some location

-- ---- marks: the locations of the program have so many words each, in their order, and a fact has its bit

-- how many locations the methods before the m-th have
abbrev pub locations_before : List Method → ℕ → ℕ
locations_before methods m = sum_by location_count (take m methods)

-- the number of a location among all of the program
abbrev pub location_number : List Method → ℕ → ℕ → ℕ
location_number methods m l = locations_before methods m + l

-- the mark of the fact of number n at a location
abbrev pub mark_number : List Method → ℕ → ℕ → ℕ → ℕ
mark_number methods m l n = location_number methods m l * (64 * MARK_WORDS_PER_LOCATION) + n

-- k is the mark of a fact at a location
pub record IsMarkOf (h : Header) {methods : List Method} (x : Point methods) (f : Fact) (k : ℕ) : Type 0 where
  pub number : ℕ
  pub fact : IsNumbered h x.method number f
  pub is : k ≡ mark_number methods x.m x.l number

-- ---- what is claimed

pub record HasMark (O : Outline) (x : Point O.methods) (f : Fact) (set : Bool) : Type 0 where
  pub mark : ℕ
  pub of_fact : IsMarkOf O.header x f mark
  pub is : O.marks mark ≡ set

-- a fact of the method is claimed at the location: its mark is not set
abbrev pub IsClaimed : (O : Outline) → Point O.methods → Fact → Type 0
IsClaimed O x f = HasMark O x f false

-- it is not claimed
abbrev pub IsMarked : (O : Outline) → Point O.methods → Fact → Type 0
IsMarked O x f = HasMark O x f true
