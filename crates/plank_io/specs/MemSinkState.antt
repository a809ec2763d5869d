-- A sink in memory as its callers see it: what a write answers, and what the sink is afterwards.
use Rattle.std.specs.Prelude.{ℕ, ◌-◌, min, List, [], ◌++◌, length, take, ◌==◌, ◌||◌, if◌then◌else◌}
use Rattle.plank_io.specs.Faults.{next_count, is_listed}
use Rattle.plank_io.specs.declared.sinks.Took.{Took}
use Rattle.plank_io.specs.declared.sinks.Took.TheVariants.{Bytes, Failed}

-- the bytes taken, the calls made, how many bytes there is room for in all, the most that a call
-- takes, the numbers of the calls that fail, and the faults so far
pub record MemSinkState : Type 0 where
  pub taken : List ℕ
  pub calls : ℕ
  pub room : ℕ
  pub most : ℕ
  pub fails : List ℕ
  pub faults : ℕ

-- a sink that no call was made to
abbrev pub fresh_sink : ℕ → ℕ → List ℕ → MemSinkState
fresh_sink room most fails =
    record { taken = []; calls = 0; room = room; most = most; fails = fails; faults = 0 }

-- what the next write answers, of a piece of this length
abbrev pub write_answer : MemSinkState → ℕ → Took
write_answer s len =
    if is_listed s.fails (next_count s.calls) || length s.taken == s.room then Failed
    else Bytes (min (min len s.most) (s.room - length s.taken))

-- the sink after a write of this piece that answered so
abbrev pub after_write : MemSinkState → List ℕ → Took → MemSinkState
after_write s piece (Bytes n) = record s { taken = s.taken ++ take n piece; calls = next_count s.calls }
after_write s piece Failed = record s { calls = next_count s.calls; faults = next_count s.faults }
