-- What a read does to the bytes that a source has left, by its answer.
use Rattle.std.specs.Prelude.{ℕ, ◌≤◌, List, length, take, Option}
use Rattle.std.specs.Io.KnownBytes.{Consumes, Keeps, IsAtEnd}
use Rattle.plank_io.specs.declared.sources.Got.{Got}
use Rattle.plank_io.specs.declared.sources.Got.TheVariants.{Bytes, End, Failed}

-- of the bytes left before and after, where the source tells them, and of the slice afterwards
abbrev pub Reads : Option (List ℕ) → Option (List ℕ) → Got → List ℕ → Type 0
-- the first n bytes of the slice, at least one, were the next n bytes, and are left no more
Reads old new (Bytes n) slice = (1 ≤ n) × (n ≤ length slice) × Consumes old new (take n slice)
-- nothing was left, and nothing is
Reads old new End slice = IsAtEnd old × IsAtEnd new × Keeps old new
-- nothing was consumed
Reads old new Failed slice = Keeps old new
