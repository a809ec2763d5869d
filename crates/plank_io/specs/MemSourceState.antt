-- A source in memory as its callers see it: what a read answers, and what the source is afterwards.
use Rattle.std.specs.Prelude.{ℕ, min, List, length, drop, ◌==◌, if◌then◌else◌}
use Rattle.plank_io.specs.Faults.{next_count, is_listed}
use Rattle.plank_io.specs.declared.sources.Got.{Got}
use Rattle.plank_io.specs.declared.sources.Got.TheVariants.{Bytes, End, Failed}

-- the bytes left, the calls made, the most bytes that a call hands out, the numbers of the calls
-- that fail, and the faults so far
pub record MemSourceState : Type 0 where
  pub left : List ℕ
  pub calls : ℕ
  pub most : ℕ
  pub fails : List ℕ
  pub faults : ℕ

-- a source that no call was made to
abbrev pub fresh_source : List ℕ → ℕ → List ℕ → MemSourceState
fresh_source bytes most fails = record { left = bytes; calls = 0; most = most; fails = fails; faults = 0 }

-- what the next read answers, into a slice of this length
abbrev pub read_answer : MemSourceState → ℕ → Got
read_answer s room =
    if is_listed s.fails (next_count s.calls) then Failed
    else (if length s.left == 0 then End else Bytes (min (min room s.most) (length s.left)))

-- the source after a read that answered so
abbrev pub after_read : MemSourceState → Got → MemSourceState
after_read s (Bytes n) = record s { left = drop n s.left; calls = next_count s.calls }
after_read s End = record s { calls = next_count s.calls }
after_read s Failed = record s { calls = next_count s.calls; faults = next_count s.faults }
