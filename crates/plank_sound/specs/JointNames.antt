-- The names of a picture of two calls: those of the one, and then the variables that the block of the other reads.
use Rattle.std.specs.Prelude.{ℕ, zero, suc, ◌-◌, ◌==◌, ◌&&◌, nat_lt, slice_get, Option, Some, None, option_and_then, if◌then◌else◌}
use Rattle.std.specs.Option.{option_flatten}
use Rattle.plank_prog.specs.declared.blocks.Reference.{Reference}
use Rattle.plank_prog.specs.declared.blocks.Block.{Block}
use Rattle.plank_prog.specs.Blocks.{block_reads}
use Rattle.plank_sem.specs.declared.calls.Call.{Call}
use Rattle.plank_fact.specs.Effects.{read_below}
use Rattle.plank_scene.specs.Turns.{number}

-- which variable below w is the k-th that a block reads
abbrev pub reader : Block → ℕ → ℕ → Option ℕ
reader b zero k = None
reader b (suc w) k = if block_reads b (Reference.Variable w) && (read_below b w == k) then Some w else reader b w k

-- what the k-th variable that the block reads names
abbrev pub read_value : Block → ℕ → Call → ℕ → Option ℕ
read_value b variables acting k = option_and_then (λ w. number (option_flatten (slice_get acting.variables w))) (reader b variables k)

-- n names of the one call, and what the block reads of the other
abbrev pub joint_named : ℕ → (ℕ → Option ℕ) → Block → ℕ → Call → ℕ → Option ℕ
joint_named n named b variables acting i = if nat_lt i n then named i else read_value b variables acting (i - n)
