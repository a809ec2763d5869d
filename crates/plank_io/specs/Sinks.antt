-- What a write does to the bytes that a sink has taken, by its answer.
use Rattle.std.specs.Prelude.{ℕ, ◌≤◌, List, length, take, Option}
use Rattle.std.specs.Io.KnownBytes.{Appends, Keeps}
use Rattle.plank_io.specs.declared.sinks.Took.{Took}
use Rattle.plank_io.specs.declared.sinks.Took.TheVariants.{Bytes, Failed}

-- of the bytes taken before and after, where the sink tells them, and of the piece
abbrev pub Writes : Option (List ℕ) → Option (List ℕ) → Took → List ℕ → Type 0
-- the first n bytes of the piece, at least one, were appended, and nothing else
Writes old new (Bytes n) piece = (1 ≤ n) × (n ≤ length piece) × Appends old new (take n piece)
-- nothing was appended
Writes old new Failed piece = Keeps old new
