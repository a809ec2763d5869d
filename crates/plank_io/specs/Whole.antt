-- Reading a whole source up to a limit, and writing a whole output: what was consumed and appended.
use Rattle.std.specs.Prelude.{◌≡◌, ℕ, ◌+◌, ◌<◌, ◌≤◌, List, length, take, Option, IfSome}
use Rattle.std.specs.Io.KnownBytes.{Appends, Consumes, IsAtEnd}
use Rattle.plank_io.specs.declared.whole.Reading.{Reading}
use Rattle.plank_io.specs.declared.whole.Reading.TheVariants as reading
use Rattle.plank_io.specs.declared.whole.Written.{Written}
use Rattle.plank_io.specs.declared.whole.Written.TheVariants as written

-- these bytes are all that was left, no more than `most`, and now nothing is left
pub record GivesAll (old new : Option (List ℕ)) (most : ℕ) (bytes : List ℕ) : Type 0 where
  pub within : length bytes ≤ most
  pub all : IfSome old (λ left. left ≡ bytes)
  pub consumed : Consumes old new bytes
  pub end : IsAtEnd new

-- these bytes, one more than `most`, were the next of those left
pub record GivesOver (old new : Option (List ℕ)) (most : ℕ) (bytes : List ℕ) : Type 0 where
  pub over : length bytes ≡ most + 1
  pub consumed : Consumes old new bytes

-- some bytes, no more than `most`, were consumed
abbrev pub ConsumesUpTo : Option (List ℕ) → Option (List ℕ) → ℕ → Type 0
ConsumesUpTo old new most = (bytes : List ℕ) × Consumes old new bytes × (length bytes ≤ most)

-- what a reading of at most `most` bytes did to the bytes left, by its outcome
abbrev pub ReadsUpTo : Option (List ℕ) → Option (List ℕ) → ℕ → Reading → Type 0
ReadsUpTo old new most (reading.Whole bytes) = GivesAll old new most bytes.items
ReadsUpTo old new most (reading.Over bytes) = GivesOver old new most bytes.items
ReadsUpTo old new most reading.Failed = ConsumesUpTo old new most

-- what a writing of this output did to the bytes taken, by its outcome
abbrev pub WritesAll : Option (List ℕ) → Option (List ℕ) → List ℕ → Written → Type 0
-- all was appended
WritesAll old new output written.Whole = Appends old new output
-- the first n bytes were appended, fewer than all
WritesAll old new output (written.Failed n) = (n < length output) × Appends old new (take n output)

-- the writing failed
abbrev pub IsFailed : Written → Type 0
IsFailed written.Whole = ⊥
IsFailed (written.Failed n) = Unit {0}
